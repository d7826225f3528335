use Rattle.std.proofs.Common.{◌<◌, length, arith, ap, sym, ◌∙◌, Some}
use Rattle.lua_plain.specs.Plain.{plain_view}
use Rattle.lua_plain.specs.declared.plain.Plain.{Plain}
use Rattle.lua_plain.proofs.Views.{list_at, list_within}
use Rattle.lua_plain.proofs.plain.Plains.at.Goals as goal

pub offset_bounds-as_slice-index : goal.offset_bounds-as_slice-index
offset_bounds-as_slice-index c =
    let within : c.args.index < length c.as_slice.result.now = list_within c.args.self.now c.as_slice.result.now c.args.index c.as_slice.ensures c.requires in
    let small = c.as_slice.type_inv.1 in
    omega (arith, within, small)

pub bounds-as_slice-index : goal.bounds-as_slice-index
bounds-as_slice-index c = list_within c.args.self.now c.as_slice.result.now c.args.index c.as_slice.ensures c.requires

pub returns : goal.returns
returns c =
    list_at c.args.self.now c.as_slice.result.now c.args.index c.index-as_slice-index.result c.as_slice.ensures (list_within c.args.self.now c.as_slice.result.now c.args.index c.as_slice.ensures c.requires)
    ∙ ap (λ (v : Plain). Some (plain_view v)) (sym c.index-as_slice-index.is)
