use Rattle.std.proofs.Common.{List, ◌∙◌, ap, sym, map}
use Rattle.lua_plain.specs.declared.plain.Plain.{Plain}
use Rattle.lua_plain.specs.Plain.{plain_view}
use Rattle.lua_plain.proofs.Views.{values_seen}
use Rattle.lua_plain.proofs.plain.Plains.as_slice.Goals as goal

pub returns : goal.returns
returns c = ap (λ (values : List Plain). map plain_view values) c.as_slice.ensures ∙ sym (values_seen c.args.self.now)
