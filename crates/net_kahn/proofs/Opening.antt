-- Links before any process runs.
use Rattle.std.proofs.Common.{◌≡◌, ℕ, zero, suc, ◌+◌, ◌<◌, ◌≤◌, cond, ℤ, List, [], ◌∷◌, ◌++◌, map, length, get_or, take, drop, replicate, refl, sym, ap, subst, ◌∙◌, arith, eq-eqb, ne_eqb}
use Rattle.std.specs.Prelude.{Some, slice_index_or}
use Rattle.tis_grid.specs.declared.puzzle.InputAt.{InputAt}
use Rattle.tis_grid.specs.Puzzle.{Input, input_of, values_at}
use Rattle.std.proofs.Math.Path.{fun_ext}
use Rattle.std.proofs.lemmas.List.{map-append, append_assoc, take_all, length-map, length-append, length-replicate}
use Rattle.std.proofs.lemmas.Option.{same_Some}
use Rattle.net_tree.specs.declared.tree.PortLine.{PortLine}
use Rattle.net_tree.specs.declared.tree.Net as held_net
use Rattle.net_tree.specs.Tree as seen
use Rattle.net_tree.specs.View.{port_view, channel_view, net_view}
use Rattle.net_rules.specs.Numbers.{numbered}
use Rattle.net_kahn.specs.Found.{OpensLinks, AreOpened}
use Rattle.net_rules.specs.Kahn.{Inputs, input_streams_from}
use Rattle.net_kahn.specs.declared.link.Link.{Link}
use Rattle.net_kahn.specs.Links.{given_of, list_of, IsLink}
use Rattle.net_kahn.specs.Machines.{by_number, AreLinks}

-- ---- links one after the other

pub by_list : (values : Link → List ℤ) (links : List Link) (name : ℕ) → by_number values links name ≡ get_or (map values links) name []
by_list values [] zero = refl
by_list values [] (suc name) = refl
by_list values (link ∷ links) zero = refl
by_list values (link ∷ links) (suc name) = by_list values links name

-- one link more
pub one_more : (process : ℕ) (links : List Link) (link : Link) → AreLinks process links → IsLink process link → AreLinks process (links ++ link ∷ [])
one_more process [] link are is zero found here = subst (IsLink process) (same_Some link found here) is
one_more process [] link are is (suc zero) found here = absurd cc
one_more process [] link are is (suc (suc number)) found here = absurd cc
one_more process (first ∷ links) link are is zero found here = are zero found here
one_more process (first ∷ links) link are is (suc number) found here = one_more process links link (λ n. are (suc n)) is number found here

pub no_links : (process : ℕ) → AreLinks process []
no_links process zero link here = absurd cc
no_links process (suc number) link here = absurd cc

-- ---- what comes in

abbrev empty : List ℤ
empty = []

-- so many lists without a value
abbrev pub empties : ℕ → List (List ℤ)
empties count = replicate count empty

none_given : (count name : ℕ) → get_or (replicate count empty) name empty ≡ empty
none_given zero zero = refl
none_given zero (suc name) = refl
none_given (suc count) zero = refl
none_given (suc count) (suc name) = none_given count name

input_seen : (count start : ℕ) (positions : List ℕ) (inputs : Inputs) (name : ℕ) → get_or (map inputs positions ++ replicate count empty) name empty ≡ input_streams_from start positions inputs (start + name)
input_seen count start [] inputs name = none_given count name
input_seen count start (position ∷ positions) inputs zero =
    let same : start + 0 ≡ start = omega arith in
    sym (ap (λ b. cond b (inputs position) (input_streams_from (start + 1) positions inputs (start + 0))) (eq-eqb (start + 0) start same))
input_seen count start (position ∷ positions) inputs (suc name) =
    let next : (start + 1) + name ≡ start + suc name = omega arith in
    let other : (start + suc name) ≡ start → ⊥ = λ e. omega (arith, e) in
    input_seen count (start + 1) positions inputs name ∙ ap (input_streams_from (start + 1) positions inputs) next
    ∙ sym (ap (λ b. cond b (inputs position) (input_streams_from (start + 1) positions inputs (start + suc name))) (ne_eqb (start + suc name) start other))

-- links for inputs, and then others on which nothing comes in
pub opened : (values : Link → List ℤ) (links : List Link) (count : ℕ) (positions : List ℕ) (inputs : Inputs) → map values links ≡ map inputs positions ++ replicate count empty → by_number values links ≡ input_streams_from 0 positions inputs
opened values links count positions inputs is =
    fun_ext (λ name.
    let zero_more : 0 + name ≡ name = omega arith in
    by_list values links name ∙ ap (λ l. get_or l name empty) is ∙ input_seen count 0 positions inputs name ∙ ap (input_streams_from 0 positions inputs) zero_more)

-- nothing comes in on what is no input
pub not_given : (start : ℕ) (positions : List ℕ) (inputs : Inputs) (name : ℕ) → start + length positions ≤ name → input_streams_from start positions inputs name ≡ []
not_given start [] inputs name past = refl
not_given start (position ∷ positions) inputs name past =
    let other : name ≡ start → ⊥ = λ e. omega (arith, e, past) in
    ap (λ b. cond b (inputs position) (input_streams_from (start + 1) positions inputs name)) (ne_eqb name start other) ∙ not_given (start + 1) positions inputs name (omega (arith, past))

-- the input at a position
pub given_here : (inputs : List InputAt) (index : ℕ) (input : InputAt) (position : ℕ) → index < length inputs → input ≡ slice_index_or inputs index input → input.position ≡ position → values_at (map input_of (drop index inputs)) position ≡ values_at (map input_of inputs) position → input.values.items ≡ values_at (map input_of inputs) position
given_here inputs index input position within is here same = found inputs index within is ∙ same
  where
    found : (all : List InputAt) (at : ℕ) → at < length all → input ≡ slice_index_or all at input → input.values.items ≡ values_at (map input_of (drop at all)) position
    found [] at below item = absurd (omega (arith, below))
    found (first ∷ all) zero below item =
        ap (λ (i : InputAt). i.values.items) item ∙ sym (ap (λ b. cond b first.values.items (values_at (map input_of all) position)) (eq-eqb first.position position (ap (λ (i : InputAt). i.position) (sym item) ∙ here)))
    found (first ∷ all) (suc at) below item = found all at (omega (arith, below)) item

-- ---- one link after the other

pub opens_more : (all : List Link) (values : List (List ℤ)) (link : Link) (value : List ℤ) → AreOpened all values → IsLink 0 link → list_of link ≡ value → given_of link ≡ value → AreOpened (all ++ link ∷ []) (values ++ value ∷ [])
opens_more all values link value are is list given =
    record {
      links = one_more 0 all link are.links is;
      lists = map-append list_of all (link ∷ []) ∙ ap (λ l. l ++ list_of link ∷ []) are.lists ∙ ap (λ l. values ++ l ∷ []) list;
      given = map-append given_of all (link ∷ []) ∙ ap (λ l. l ++ given_of link ∷ []) are.given ∙ ap (λ l. values ++ l ∷ []) given;
    }

more_empties : (count : ℕ) → empties count ++ empty ∷ [] ≡ empties (count + 1)
more_empties zero = refl
more_empties (suc count) = ap (λ l. empty ∷ l) (more_empties count) ∙ ap empties (next count)
  where
    next : (n : ℕ) → suc (n + 1) ≡ suc n + 1
    next n = omega arith

pub opens_empty : (all : List Link) (values : List (List ℤ)) (link : Link) (count : ℕ) → AreOpened all (values ++ empties count) → IsLink 0 link → list_of link ≡ [] → given_of link ≡ [] → AreOpened (all ++ link ∷ []) (values ++ empties (count + 1))
opens_empty all values link count are is list given =
    subst (λ l. AreOpened (all ++ link ∷ []) l) (append_assoc values (empties count) (empty ∷ []) ∙ ap (λ l. values ++ l) (more_empties count)) (opens_more all (values ++ empties count) link empty are is list given)

pub opens_input : (ports : List PortLine) (index : ℕ) (port : PortLine) (inputs : List Input) (all : List Link) (link : Link) → index < length ports → port ≡ slice_index_or ports index port → AreOpened all (map (λ p. values_at inputs p.position) (take index ports)) → IsLink 0 link → list_of link ≡ values_at inputs port.position → given_of link ≡ values_at inputs port.position →
    AreOpened (all ++ link ∷ []) (map (λ p. values_at inputs p.position) (take (index + 1) ports))
opens_input ports index port inputs all link within is are fresh list given =
    subst (λ l. AreOpened (all ++ link ∷ []) l) (more ports index within is) (opens_more all (map (λ p. values_at inputs p.position) (take index ports)) link (values_at inputs port.position) are fresh list given)
  where
    more : (list : List PortLine) (at : ℕ) → at < length list → port ≡ slice_index_or list at port → map (λ p. values_at inputs p.position) (take at list) ++ values_at inputs port.position ∷ [] ≡ map (λ p. values_at inputs p.position) (take (at + 1) list)
    more [] at below item = absurd (omega (arith, below))
    more (first ∷ list) zero below item = ap (λ (p : PortLine). values_at inputs p.position ∷ []) item
    more (first ∷ list) (suc at) below item = ap (λ l. values_at inputs first.position ∷ l) (more list at (omega (arith, below)) item) ∙ ap (λ n. map (λ p. values_at inputs p.position) (take n (first ∷ list))) (next at)
      where
        next : (n : ℕ) → suc (n + 1) ≡ suc n + 1
        next n = omega arith

-- all ports
pub all_ports : (ports : List PortLine) (index : ℕ) (inputs : List Input) (all : List Link) → length ports ≤ index → AreOpened all (map (λ p. values_at inputs p.position) (take index ports)) → AreOpened all (map (λ p. values_at inputs p.position) ports)
all_ports ports index inputs all past are = subst (λ l. AreOpened all (map (λ p. values_at inputs p.position) l)) (take_all index ports past) are

positions : (ports : List PortLine) (inputs : Inputs) → map (λ p. inputs p.position) ports ≡ map inputs (map (λ p. p.position) (map port_view ports))
positions [] inputs = refl
positions (port ∷ ports) inputs = ap (λ l. inputs port.position ∷ l) (positions ports inputs)

-- the links of a network
pub net_opened : (net : held_net.Net) (inputs : List Input) (all : List Link) (count : ℕ) → count ≡ length net.channels.items + length net.outputs.items + 1 → AreOpened all (map (λ p. values_at inputs p.position) net.inputs.items ++ empties count) → OpensLinks (numbered (net_view net)) inputs all
net_opened net inputs all count counted are =
    let same : map (λ p. values_at inputs p.position) net.inputs.items ≡ map (values_at inputs) (numbered (net_view net)).inputs = positions net.inputs.items (values_at inputs) in
    let lengths = ap length are.lists in
    record {
      links = are.links;
      count = omega (
        arith,
        lengths,
        counted,
        length-map all list_of,
        length-append (map (λ (p : PortLine). values_at inputs p.position) net.inputs.items) (empties count),
        length-map net.inputs.items (λ (p : PortLine). values_at inputs p.position),
        length-replicate count empty,
        length-map net.inputs.items port_view,
        length-map net.channels.items channel_view,
        length-map net.outputs.items port_view,
        length-map (map port_view net.inputs.items) (λ (p : seen.PortLine). p.position),
        length-map (map port_view net.outputs.items) (λ (p : seen.PortLine). p.position),
      );
      lists = opened list_of all count (numbered (net_view net)).inputs (values_at inputs) (are.lists ∙ ap (λ l. l ++ empties count) same);
      given = opened given_of all count (numbered (net_view net)).inputs (values_at inputs) (are.given ∙ ap (λ l. l ++ empties count) same);
    }
