-- What was found: the streams of a network, and those that come out.
use Rattle.std.proofs.Common.{◌≡◌, ℕ, zero, suc, ◌+◌, ◌<◌, ◌≤◌, cond, ℤ, List, [], ◌∷◌, ◌++◌, map, length, drop, sym, ap, subst, ◌∙◌, arith, eq-eqb, ne_eqb}
use Rattle.std.specs.Prelude.{Option, Some, slice_index_or}
use Rattle.std.proofs.lemmas.List.{length-map}
use Rattle.tis_grid.specs.Puzzle.{Input, values_at}
use Rattle.net_tree.specs.declared.tree.PortLine.{PortLine}
use Rattle.net_tree.specs.Tree as seen
use Rattle.net_tree.specs.View.{port_view, channel_view}
use Rattle.net_rules.specs.Numbers.{numbered, readable_count}
use Rattle.net_rules.specs.Process.{Streams}
use Rattle.net_rules.specs.Kahn.{streams_from}
use Rattle.net_kahn.specs.declared.link.Link.{Link}
use Rattle.net_kahn.specs.declared.finding.KahnStreams as held
use Rattle.net_kahn.specs.Links.{given_of, list_of}
use Rattle.net_kahn.specs.Machines.{by_number}
use Rattle.net_kahn.specs.Found.{name_count, OpensLinks, HaveRun, net_in, streams_of, IsFound, Finds, out_from, out_at}
use Rattle.net_kahn.proofs.Opening.{not_given}

-- all processes have run over the links of a network
pub all_found : (net : seen.Net) (inputs : List Input) (found : held.KahnStreams) (start : List Link) → net_in found ≡ net → OpensLinks (numbered net) inputs start → HaveRun (numbered net) start found.links.items → Finds found net inputs
all_found net inputs found start same opens ran =
    record {
      links = record {
        count = ran.count ∙ opens.count ∙ ap (λ (n : seen.Net). name_count (numbered n) + 1) (sym same);
        given = λ name past.
            let within : length (numbered net).inputs ≤ name = subst (λ (n : seen.Net). length (numbered n).inputs ≤ name) same past in
            ap (λ (f : Streams). f name) (ran.given ∙ opens.given) ∙ not_given 0 (numbered net).inputs (values_at inputs) name (omega (arith, within));
      };
      same_net = same;
      streams = ran.lists ∙ ap (streams_from (numbered net) (numbered net).processes) opens.lists;
    }

-- ---- the outputs

abbrev places : List PortLine → List ℕ
places ports = map (λ (p : seen.PortLine). p.position) (map port_view ports)

port_here : (ports : List PortLine) (index first : ℕ) (port : PortLine) (position : ℕ) (streams : Streams) → index < length ports → port ≡ slice_index_or ports index port → port.position ≡ position → out_from first (drop index (places ports)) streams position ≡ Some (streams first)
port_here [] index first port position streams within is here = absurd (omega (arith, within))
port_here (one ∷ ports) zero first port position streams within is here =
    ap (λ b. cond b (Some (streams first)) (out_from (first + 1) (places ports) streams position)) (eq-eqb one.position position (ap (λ (p : PortLine). p.position) (sym is) ∙ here))
port_here (one ∷ ports) (suc index) first port position streams within is here = port_here ports index first port position streams (omega (arith, within)) is here

port_passed : (ports : List PortLine) (index first : ℕ) (port : PortLine) (position : ℕ) (streams : Streams) → index < length ports → port ≡ slice_index_or ports index port → (port.position ≡ position → ⊥) → out_from first (drop index (places ports)) streams position ≡ out_from (first + 1) (drop (index + 1) (places ports)) streams position
port_passed [] index first port position streams within is other = absurd (omega (arith, within))
port_passed (one ∷ ports) zero first port position streams within is other =
    ap (λ b. cond b (Some (streams first)) (out_from (first + 1) (places ports) streams position)) (ne_eqb one.position position (λ e. other (ap (λ (p : PortLine). p.position) is ∙ e)))
port_passed (one ∷ ports) (suc index) first port position streams within is other =
    port_passed ports index first port position streams (omega (arith, within)) is other ∙ ap (λ n. out_from (first + 1) (drop n (places (one ∷ ports))) streams position) (next index)
  where
    next : (n : ℕ) → suc (n + 1) ≡ suc n + 1
    next n = omega arith

list_at : (links : List Link) (number : ℕ) (link : Link) (values : Link → List ℤ) → number < length links → link ≡ slice_index_or links number link → by_number values links number ≡ values link
list_at [] number link values within is = absurd (omega (arith, within))
list_at (first ∷ links) zero link values within is = ap values (sym is)
list_at (first ∷ links) (suc number) link values within is = list_at links number link values (omega (arith, within)) is

module _ (found : held.KahnStreams) (position : ℕ) (index : ℕ) (port : PortLine) (within : index < length found.net.now.outputs.items) (is : port ≡ slice_index_or found.net.now.outputs.items index port) where
  abbrev first : ℕ
  first = readable_count (numbered (net_in found))

  abbrev Whole : Option (List ℤ)
  Whole = out_from first (places found.net.now.outputs.items) (streams_of found) position

  -- the output at the position is found
  pub out_here : (number : ℕ) (link : Link) → IsFound found → number ≡ length found.net.now.inputs.items + length found.net.now.channels.items + index → link ≡ slice_index_or found.links.items number link → port.position ≡ position →
      out_from (first + index) (drop index (places found.net.now.outputs.items)) (streams_of found) position ≡ Whole → Some link.sent.items ≡ out_at (numbered (net_in found)) (streams_of found) position
  out_here number link links number_is link_is here same =
      let inputs = length-map found.net.now.inputs.items port_view in
      let channels = length-map found.net.now.channels.items channel_view in
      let outputs = length-map found.net.now.outputs.items port_view in
      let ins = length-map (map port_view found.net.now.inputs.items) (λ (p : seen.PortLine). p.position) in
      let outs = length-map (map port_view found.net.now.outputs.items) (λ (p : seen.PortLine). p.position) in
      let below : number < length found.links.items = omega (arith, links.count, number_is, within, inputs, channels, outputs, ins, outs) in
      let name : first + index ≡ number = omega (arith, number_is, inputs, channels, ins) in
      let none : given_of link ≡ [] = sym (list_at found.links.items number link given_of below link_is) ∙ links.given number (omega (arith, number_is, inputs, ins)) in
      let list : streams_of found number ≡ link.sent.items = list_at found.links.items number link list_of below link_is ∙ ap (λ l. l ++ link.sent.items) none in
      ap (λ (l : List ℤ). Some l) (sym list ∙ ap (streams_of found) (sym name))
      ∙ sym (port_here found.net.now.outputs.items index (first + index) port position (streams_of found) within is here) ∙ same

  -- an output at another position is passed
  pub out_passed : (port.position ≡ position → ⊥) → out_from (first + index) (drop index (places found.net.now.outputs.items)) (streams_of found) position ≡ Whole → out_from (first + (index + 1)) (drop (index + 1) (places found.net.now.outputs.items)) (streams_of found) position ≡ Whole
  out_passed other same =
      let next : first + (index + 1) ≡ first + index + 1 = omega arith in
      ap (λ n. out_from n (drop (index + 1) (places found.net.now.outputs.items)) (streams_of found) position) next
      ∙ sym (port_passed found.net.now.outputs.items index (first + index) port position (streams_of found) within is other) ∙ same
