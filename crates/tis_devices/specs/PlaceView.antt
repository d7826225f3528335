-- What contracts see of the place that the console holds.
use Rattle.std.specs.Prelude.{◌≤◌}
use Rattle.tis_devices.specs.declared.console.Place as held
use Rattle.tis_devices.specs.declared.console.Place.TheVariants as held_as
use Rattle.tis_devices.specs.Picture.{LAST_COLUMN, Place, BeforeX, BeforeY, Before}

abbrev pub place_view : held.Place → Place
place_view held_as.BeforeX = BeforeX
place_view (held_as.BeforeY x) = BeforeY x
place_view (held_as.Before x y) = Before x y

-- the column of a drawing is at most the one at which it stays
abbrev pub HasColumn : held.Place → Type 0
HasColumn held_as.BeforeX = Unit {0}
HasColumn (held_as.BeforeY x) = x ≤ LAST_COLUMN
HasColumn (held_as.Before x y) = x ≤ LAST_COLUMN
