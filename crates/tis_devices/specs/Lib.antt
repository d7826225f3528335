pub mod Picture
pub mod Stack
pub mod PlaceView
