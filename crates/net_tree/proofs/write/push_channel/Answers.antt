use Rattle.std.proofs.Common.{List, ℕ, ◌++◌, ap, ◌∙◌}
use Rattle.std.specs.Prelude.{codes}
use Rattle.net_tree.specs.NetText.{via_words}
use Rattle.net_tree.proofs.Writing.{name_is}
use Rattle.net_tree.proofs.write.push_channel.Goals as goal

pub returns : goal.returns
returns c =
    name_is c.args.out.now.items c.push_word.new.out.items c.extend_from_slice.new.self.items c.push_via.new.out.items c.push.new.self.items (codes "channel") c.args.channel.now.name (via_words c.args.channel.now.via)
    c.in_ok-push_word.ensures (c.in_ok-extend_from_slice.ensures.items ∙ ap (λ (n : List ℕ). c.push_word.new.out.items ++ n) c.bytes.ensures.bytes) c.in_ok-push_via.ensures c.in_ok-push.ensures.items
