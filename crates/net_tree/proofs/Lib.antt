mod Views
mod Writing
