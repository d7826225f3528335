use Rattle.std.proofs.Common.{◌≡◌, ℕ, List, map, length, true, sym, ap, subst, ◌∙◌}
use Rattle.tis_asm.specs.Programs.{Programs, ArePrograms, IsSound, program_at}
use Rattle.net_tree.specs.declared.tree.PortLine as held_port
use Rattle.net_tree.specs.Tree.{Net}
use Rattle.net_tree.specs.View.{port_view, net_view}
use Rattle.net_rules.specs.CheckedNet.{net_of}
use Rattle.net_rules.specs.Numbers.{numbered}
use Rattle.net_column.specs.Column.{are_ends, IsColumn}
use Rattle.net_column.specs.Carries.{Carries}
use Rattle.net_column.proofs.Columns.{are_sound, carries}
use Rattle.net_column.proofs.Emitted.{put_is, links_on_grid}
use Rattle.net_column.proofs.emitting.emit.Goals as goal

pub place_links-requires-clause-on_grid : goal.place_links-requires-clause-on_grid
place_links-requires-clause-on_grid c =
    let column : IsColumn (net_view c.net-tree.result.now) = subst IsColumn (sym c.net-tree.ensures) c.requires.column in
    let tree : Net = net_view c.net-tree.result.now in
    links_on_grid (length tree.processes) tree.inputs c.deref.result.now (subst (λ (l : List held_port.PortLine). are_ends (length tree.processes) tree.inputs (map port_view l) ≡ true) (sym c.deref.ensures.value) column.ends)

pub returns-clause-programs : goal.returns-clause-programs
returns-clause-programs c =
    put_is (net_of c.args.net.now) c.requires.column c.net-tree.result.now.tiles (map port_view c.deref.result.now) _ _ _ (ap (λ (n : Net). n.tiles) c.net-tree.ensures) (ap (map port_view) c.deref.ensures.value ∙ ap (λ (n : Net). n.outputs) c.net-tree.ensures)
    c.in_ok-programs.ensures c.place_processes.ensures c.place_links.ensures

pub returns-clause-sound : goal.returns-clause-sound
returns-clause-sound c = subst (λ (p : Programs). (tile : ℕ) → IsSound (program_at p.programs tile)) (sym (returns-clause-programs c)) (are_sound (net_of c.args.net.now) c.requires.column c.code_is_sound.ensures)

pub returns-clause-carries : goal.returns-clause-carries
returns-clause-carries c =
    subst (λ (p : Programs). Carries p (numbered (net_of c.args.net.now))) (sym (returns-clause-programs c))
    (carries (net_of c.args.net.now) c.requires.column c.code_behaves.ensures c.code_is_sound.ensures c.requires.checked.accepted c.requires.checked.values (subst ArePrograms (returns-clause-programs c) c.tiles.ensures.programs))
