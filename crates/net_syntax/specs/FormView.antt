-- What contracts see of what a line says.
use Rattle.net_syntax.specs.declared.form.LineForm as held
use Rattle.net_syntax.specs.declared.form.LineForm.TheVariants as held_as
use Rattle.std.specs.Prelude.{List, [], ◌∷◌}
use Rattle.tis_base.specs.declared.tiles.TileKind.{TileKind}
use Rattle.net_syntax.specs.declared.rows.Row.{Row}
use Rattle.net_syntax.specs.Forms.{LineForm, Version, TilesLine, Input, Output, Channel, Process, Simple, OpensIf, OpensWhile, OpensCount, Else, End, Malformed}
use Rattle.net_tree.specs.View.{statement_view}

-- what a line says as it is held
abbrev pub form_view : held.LineForm → LineForm
form_view held_as.Version = Version
form_view (held_as.TilesLine tiles) = TilesLine tiles
form_view (held_as.Input name position via) = Input name position via
form_view (held_as.Output name position via) = Output name position via
form_view (held_as.Channel name via) = Channel name via
form_view (held_as.Process name at) = Process name at
form_view (held_as.Simple statement) = Simple (statement_view statement)
form_view (held_as.OpensIf var test) = OpensIf var test
form_view (held_as.OpensWhile var test) = OpensWhile var test
form_view (held_as.OpensCount var) = OpensCount var
form_view held_as.Else = Else
form_view held_as.End = End
form_view held_as.Malformed = Malformed

-- a row of tiles as it is held
abbrev pub row_view : Row → List TileKind
row_view row = row.first ∷ row.second ∷ row.third ∷ row.fourth ∷ []
