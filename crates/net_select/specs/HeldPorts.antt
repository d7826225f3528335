-- The directions in which the links of a process lie, as they are held.
use Rattle.std.specs.Prelude.{ℕ, List, [], ◌∷◌, Option, Some, None, unwrap_or, ◌==◌, if◌then◌else◌}
use Rattle.tis_base.specs.declared.tiles.Dir.{Dir}
use Rattle.tis_base.specs.declared.tiles.Dir.TheVariants.{Up}
use Rattle.net_select.specs.declared.ports.PortAt.{PortAt}
use Rattle.net_select.specs.Selection.{Ports}

-- the direction of a number, where it has one
abbrev pub port_of : List PortAt → ℕ → Option Dir
port_of [] number = None
port_of (port ∷ others) number = if port.number == number then Some port.dir else port_of others number

-- the direction of each number; one that has none is looked at as if it lay above
abbrev pub ports_of : List PortAt → Ports
ports_of ports number = unwrap_or (port_of ports number) Up

-- how many numbers more there are, by what a number had before
abbrev pub one_if_new : Option Dir → ℕ
one_if_new None = 1
one_if_new (Some dir) = 0
