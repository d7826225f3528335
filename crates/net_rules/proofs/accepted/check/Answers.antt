use Rattle.std.proofs.Common.{map, refl, ap, subst, ◌∙◌}
use Rattle.std.specs.Prelude.{All}
use Rattle.net_tree.specs.Tree.{ProcessText}
use Rattle.net_tree.specs.View.{net_view, process_view}
use Rattle.net_rules.specs.Numbers.{block_with}
use Rattle.net_rules.specs.Sure.{HasValues}
use Rattle.net_rules.specs.Known.{number_by}
use Rattle.net_rules.proofs.CheckedNets.{same_numbers, same_bodies}
use Rattle.net_rules.proofs.accepted.check.Goals as goal

pub returns : goal.returns
returns c =
    let net = net_view c.args.net.now in
    let table = c.numbers_of-numbers.result.table.now in
    let other = c.numbers_of-numbers.result.other in
    let f = number_by table other in
    let slice = c.as_slice.ensures.value in
    let same = same_numbers net table other c.numbers_of-numbers.ensures.names c.numbers_of-numbers.ensures.other in (
      record {
        accepted = c.in_ok-check_rules.ensures;
        values = subst (λ l. All (λ (p : ProcessText). HasValues p.body) (map process_view l)) slice c.in_ok-processes.ensures.values;
        small = c.requires;
        names = c.in_ok-table.ensures;
        bodies = c.in_ok-processes.ensures.seen ∙ ap (λ l. map (λ process. block_with f process.body) (map process_view l)) slice ∙ same_bodies net table other same;
      },
      refl,
    )
