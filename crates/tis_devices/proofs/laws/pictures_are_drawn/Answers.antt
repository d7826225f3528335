use Rattle.tis_devices.proofs.Pictures.{drawings_paint, pictures_grow, pictures_are_whole}
use Rattle.tis_devices.proofs.laws.pictures_are_drawn.Goals as goal

pub returns : goal.returns
returns c = record { drawings = drawings_paint; grow = pictures_grow; whole = pictures_are_whole }
