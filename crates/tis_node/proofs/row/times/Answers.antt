-- No bit is lost, and so many times a value stays small.
use Rattle.std.proofs.Common.{◌≡◌, ℤ, pos, negsuc, sym, subst, to_z, of_z, w64}
use Rattle.std.specs.Prelude.{◌*ℤ◌, ◌≤ℤ◌}
use Rattle.tis_node.proofs.Products.{abs_of_count, times_within, product_held}
use Rattle.tis_node.proofs.row.times.Goals as goal

held : (c : goal.After-get) → to_z w64 (of_z w64 (to_z w64 (of_z w64 c.from.result) *ℤ to_z w64 (of_z w64 c.get.result))) ≡ c.args.count *ℤ c.args.value
held c = product_held c.args.count c.args.value c.from.result c.get.result c.ranges.count (record { sfits = c.from.type_inv }) (record { sfits = c.get.type_inv }) c.get.ensures.held c.from.ensures c.get.ensures.number

within : (c : goal.After-get) → (negsuc 32735231 ≤ℤ (c.args.count *ℤ c.args.value)) × ((c.args.count *ℤ c.args.value) ≤ℤ pos 32735232)
within c = times_within c.args.count c.args.value (abs_of_count c.args.count c.ranges.count) c.get.ensures.held

pub returns-clause-least : goal.returns-clause-least
returns-clause-least c = subst (λ (z : ℤ). negsuc 32735231 ≤ℤ z) (sym (held c)) (within c).0

pub returns-clause-most : goal.returns-clause-most
returns-clause-most c = subst (λ (z : ℤ). z ≤ℤ pos 32735232) (sym (held c)) (within c).1
