use Rattle.std.proofs.Common.{ap, arith, ◌∙◌}
use Rattle.lua_machine.specs.Answer.{each, plain_of}
use Rattle.lua_machine.specs.Tables.{plain_list, row}
use Rattle.lua_store.specs.declared.value.SmallValue.{SmallValue}
use Rattle.lua_store.specs.Rows.{tables_of}
use Rattle.lua_store.specs.Values.{meant}
use Rattle.lua_plain.specs.Plain.{plain_view, plains_view}
use Rattle.lua_results.proofs.Gathering.{list_made, list_lacks, list_seen, more_made, all_made}
use Rattle.lua_results.proofs.making.+making.Goals as goal

pub make-returns-in-Ok : goal.make-returns-in-Ok
make-returns-in-Ok t c =
    let texts = c.args.texts.now in
    let made =
    list_made c.args.levels (tables_of texts c.args.tables.now) c.in-Table.at (meant texts c.args.value) (ap (λ (v : SmallValue). meant texts v) c.in-Table.is) (omega arith)
    (plains_view c.in-Ok.list) c.args.units.now c.pay.new.units c.make_all.new.units c.in_ok-pay.ensures c.in-Ok.ensures in
    (list_seen c.in-Ok.list ∙ made.0, made.1)

pub make-returns-in-Err : goal.make-returns-in-Err
make-returns-in-Err t c =
    let texts = c.args.texts.now in
    list_lacks c.args.levels (tables_of texts c.args.tables.now) c.in-Table.at (meant texts c.args.value) (ap (λ (v : SmallValue). meant texts v) c.in-Table.is) (omega arith)
    c.in-Err.why c.args.units.now c.pay.new.units c.in_ok-pay.ensures c.in-Err.ensures

pub make_all-loop-before-preserved : goal.make_all-loop-before-preserved
make_all-loop-before-preserved t c =
    let texts = c.args.texts.now in
    let tables = tables_of texts c.args.tables.now in
    let value = c.value_behind-value.result in
    let more =
    more_made (plain_of c.args.levels tables) c.border_at-border.result (row tables c.args.at) c.loop-before.before (omega arith)
    (plains_view c.loop-before.list) (plains_view c.push.new.self) (plain_view c.in_ok-make.field-0) (meant texts value) c.args.units.now c.loop-before.units c.make.new.units
    (each (plain_of c.args.levels tables) (plain_list (row tables c.args.at)))
    (c.value_behind-value.ensures.value texts c.requires.apart) c.in_ok-make.ensures.0 c.in_ok-make.ensures.1 c.in_ok-push.ensures.ok c.loop-before.invariant.values c.loop-before.invariant.paid in
    record { values = more.0; paid = more.1 }

pub make_all-returns : goal.make_all-returns
make_all-returns t c =
    let texts = c.args.texts.now in
    let tables = tables_of texts c.args.tables.now in
    all_made (plain_of c.args.levels tables) c.border_at-border.result (row tables c.args.at) c.loop-before.before (omega arith)
    (plains_view c.loop-before.list) c.args.units.now c.loop-before.units (each (plain_of c.args.levels tables) (plain_list (row tables c.args.at)))
    c.loop-before.invariant.values c.loop-before.invariant.paid
