use Rattle.std.proofs.Common.{◌<◌, ℕ, ap, length, arith, Option}
use Rattle.std.specs.Prelude.{option_map}
use Rattle.net_tree.specs.Tree.{Statement}
use Rattle.net_numbered.proofs.Views.{block_at, block_within}
use Rattle.net_numbered.proofs.tree.NumberedBlock.line.Goals as goal

pub offset_bounds-as_slice-index : goal.offset_bounds-as_slice-index
offset_bounds-as_slice-index c =
    let within : c.args.index < length c.as_slice.result.now = block_within c.args.self.now c.as_slice.result.now c.args.index c.as_slice.ensures c.requires in
    let small = c.as_slice.type_inv.1 in
    omega (arith, within, small)

pub bounds-as_slice-index : goal.bounds-as_slice-index
bounds-as_slice-index c = block_within c.args.self.now c.as_slice.result.now c.args.index c.as_slice.ensures c.requires

pub returns : goal.returns
returns c =
    ap (λ (s : Option (ℕ × Statement ℕ)). option_map {T = ℕ × Statement ℕ} {U = ℕ} (λ s. s.0) s)
    (block_at c.args.self.now c.as_slice.result.now c.args.index c.index-as_slice-index.result c.as_slice.ensures (block_within c.args.self.now c.as_slice.result.now c.args.index c.as_slice.ensures c.requires))

pub bounds-as_slice-index-2 : goal.bounds-as_slice-index-2
bounds-as_slice-index-2 c = block_within c.args.self.now c.as_slice.result.now c.args.index c.as_slice.ensures c.requires
