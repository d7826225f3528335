-- One MOV between ports passes values on, and an empty program does nothing.
use Rattle.std.proofs.Common.{◌≡◌, ◌≢◌, ℤ, Bool, true, false, List, [], ◌∷◌, ◌++◌, Option, Some, None, refl, sym, ap, ◌∙◌, append-nil, arith}
use Rattle.std.specs.Prelude.{IsTrue, if◌then◌else◌}
use Rattle.tis_base.specs.declared.tiles.Dir.{Dir}
use Rattle.tis_base.specs.declared.tiles.Dir.TheVariants.{Left, Right, Up, Down}
use Rattle.tis_asm.specs.Node.{Node, Mode, Ready, Writing, One, Any, is_same_dir}
use Rattle.tis_asm.specs.PortRuns.{Step, Local, Took, Gave, after_steps, IsPortRun, taken_from, given_to, local_count}
use Rattle.tis_asm.specs.Passing.{mov_program, in_hand, WaitsAt, MovesPassValues, EmptyProgramsRest}

-- a test that holds only of the same direction
pub is_same_dir-true : (a b : Dir) → is_same_dir a b ≡ true → a ≡ b
is_same_dir-true Left Left e = refl
is_same_dir-true Right Right e = refl
is_same_dir-true Up Up e = refl
is_same_dir-true Down Down e = refl
is_same_dir-true _ _ e = absurd cc

-- and that holds of it
pub is_same_dir-self : (a : Dir) → is_same_dir a a ≡ true
is_same_dir-self Left = refl
is_same_dir-self Right = refl
is_same_dir-self Up = refl
is_same_dir-self Down = refl

-- the test of directions that differ
pub is_same_dir-other : (a b : Dir) → a ≢ b → is_same_dir a b ≡ false
is_same_dir-other a b apart = decided (is_same_dir a b) refl
  where
    decided : (t : Bool) → is_same_dir a b ≡ t → is_same_dir a b ≡ false
    decided true e = absurd (apart (is_same_dir-true a b e))
    decided false e = e

-- a choice between a value and none that gave a value
pub chosen : (t : Bool) (v w : ℤ) → (if t then Some v else None) ≡ Some w → (t ≡ true) × (v ≡ w)
chosen true v w e = (refl, cc)
chosen false v w e = absurd cc

-- what holds of steps that begin at any node that waits: what was in hand comes first
record PassesFrom (source dest : Dir) (mode : Mode) (steps : List Step) (node : Node) : Type 0 where
  takes_only : (dir : Dir) → dir ≢ source → taken_from dir steps ≡ []
  gives_only : (dir : Dir) → dir ≢ dest → given_to dir steps ≡ []
  never_local : local_count steps ≡ 0
  at_first : node.pc ≡ 0
  waits : WaitsAt node.mode dest
  in_order : given_to dest steps ++ in_hand node.mode ≡ in_hand mode ++ taken_from source steps

-- a step that took a value from the source
then_took : (source dest port : Dir) (value : ℤ) (steps : List Step) (node : Node) → IsTrue (is_same_dir source port) → PassesFrom source dest (Writing value (One dest)) steps node → PassesFrom source dest Ready (Took port value ∷ steps) node
then_took source dest port value steps node same later =
    let port_is : port ≡ source = sym (is_same_dir-true source port same) in
    let here : is_same_dir port source ≡ true = rw port_is (is_same_dir-self source) in
    record {
      takes_only = λ dir apart. let elsewhere : is_same_dir port dir ≡ false = is_same_dir-other port dir (λ e. apart (sym e ∙ port_is)) in rw elsewhere (later.takes_only dir apart);
      gives_only = later.gives_only;
      never_local = omega arith;
      at_first = later.at_first;
      waits = later.waits;
      in_order = rw here later.in_order;
    }

-- a step that gave the value in hand to the destination
then_gave : (source dest at port : Dir) (held value : ℤ) (steps : List Step) (node : Node) → at ≡ dest → is_same_dir at port ≡ true → held ≡ value → PassesFrom source dest Ready steps node → PassesFrom source dest (Writing held (One at)) (Gave port value ∷ steps) node
then_gave source dest at port held value steps node to_dest same is_held later =
    let port_is : port ≡ dest = sym (is_same_dir-true at port same) ∙ to_dest in
    let here : is_same_dir port dest ≡ true = rw port_is (is_same_dir-self dest) in
    record {
      takes_only = later.takes_only;
      gives_only = λ dir apart. let elsewhere : is_same_dir port dir ≡ false = is_same_dir-other port dir (λ e. apart (sym e ∙ port_is)) in rw elsewhere (later.gives_only dir apart);
      never_local = omega arith;
      at_first = later.at_first;
      waits = later.waits;
      in_order = rw (here, is_held) (ap (λ (values : List ℤ). value ∷ values) later.in_order);
    }

-- steps that begin at any node that waits
passes_from : (source dest : Dir) (mark : Bool) (acc bak : ℤ) (last : Option Dir) (mode : Mode) (steps : List Step) → WaitsAt mode dest →
    IsPortRun (mov_program source dest mark) (record { pc = 0; acc = acc; bak = bak; last = last; mode = mode }) steps →
    PassesFrom source dest mode steps (after_steps (mov_program source dest mark) (record { pc = 0; acc = acc; bak = bak; last = last; mode = mode }) steps)
passes_from source dest mark acc bak last mode [] waits run =
    record { takes_only = λ dir apart. refl; gives_only = λ dir apart. refl; never_local = refl; at_first = refl; waits = waits; in_order = sym (append-nil (in_hand mode)) }
passes_from source dest mark acc bak last Ready (Local ∷ steps) waits run = absurd (cc run.0)
passes_from source dest mark acc bak last Ready (Took port value ∷ steps) waits run =
    then_took source dest port value steps _ run.0.0 (passes_from source dest mark acc bak last (Writing value (One dest)) steps refl run.1)
passes_from source dest mark acc bak last Ready (Gave port value ∷ steps) waits run = absurd (cc run.0)
passes_from source dest mark acc bak last (Writing held (One at)) (Local ∷ steps) waits run = absurd (cc run.0)
passes_from source dest mark acc bak last (Writing held (One at)) (Took port value ∷ steps) waits run = absurd (cc run.0.0)
passes_from source dest mark acc bak last (Writing held (One at)) (Gave port value ∷ steps) waits run =
    let given = chosen (is_same_dir at port) held value run.0 in
    then_gave source dest at port held value steps _ waits given.0 given.1 (passes_from source dest mark acc bak last Ready steps tt run.1)
passes_from source dest mark acc bak last (Writing held Any) (step ∷ steps) waits run = absurd waits

-- one MOV between ports passes each value on
pub moves_pass_values : MovesPassValues
moves_pass_values source dest mark steps run =
    let p = passes_from source dest mark _ _ _ Ready steps tt run in
    record { takes_only = p.takes_only; gives_only = p.gives_only; never_local = p.never_local; at_first = p.at_first; waits = p.waits; in_order = p.in_order }

-- a node without instructions makes no step
pub empty_programs_rest : EmptyProgramsRest
empty_programs_rest [] run = refl
empty_programs_rest (Local ∷ steps) run = absurd (cc run.0)
empty_programs_rest (Took port value ∷ steps) run = absurd (cc run.0.0)
empty_programs_rest (Gave port value ∷ steps) run = absurd (cc run.0)
