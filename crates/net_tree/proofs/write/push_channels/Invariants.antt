use Rattle.std.proofs.Common.{◌≡◌, ◌++◌, map, take}
use Rattle.net_tree.specs.NetText.{lines_text, channel_line}
use Rattle.net_tree.specs.View.{channel_view}
use Rattle.net_tree.proofs.write.push_channels.Given as goal

abbrev pub invariant-channels : goal.invariant-channels
invariant-channels l = l.out.items ≡ l.fn.out.items ++ lines_text (map channel_line (map channel_view (take l.channel-index l.channels)))
