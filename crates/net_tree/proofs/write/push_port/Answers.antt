use Rattle.std.proofs.Common.{List, ℕ, [], ◌∷◌, ◌++◌, decimal, ap, ◌∙◌}
use Rattle.net_tree.specs.NetText.{via_words}
use Rattle.net_tree.proofs.Writing.{port_is}
use Rattle.net_tree.proofs.write.push_port.Goals as goal

pub returns : goal.returns
returns c =
    port_is c.args.out.now.items c.push_word.new.out.items c.push_word-2.new.out.items c.extend_from_slice.new.self.items c.push_blank_and_number.new.out.items c.push_via.new.out.items c.push.new.self.items
    c.args.side.now c.args.port.now.name (decimal c.args.port.now.position) (via_words c.args.port.now.via)
    c.in_ok-push_word.ensures (c.in_ok-push_word-2.ensures ∙ ap (λ (n : List ℕ). c.push_word.new.out.items ++ (n ++ 32 ∷ [])) c.bytes.ensures.bytes) c.in_ok-extend_from_slice.ensures.items c.in_ok-push_blank_and_number.ensures c.in_ok-push_via.ensures c.in_ok-push.ensures.items
