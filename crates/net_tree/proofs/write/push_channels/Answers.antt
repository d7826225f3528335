use Rattle.net_tree.specs.NetText.{channel_line}
use Rattle.net_tree.specs.View.{channel_view}
use Rattle.net_tree.proofs.Writing.{line_written}
use Rattle.net_tree.proofs.write.push_channels.Goals as goal

pub channels-preserved : goal.channels-preserved
channels-preserved c = line_written channel_view channel_line c.args.channels.now c.channels.channel-index c.channel-item.result c.args.out.now.items c.channels.out.items c.push_channel.new.out.items c.channels-test.true c.channel-item.is c.channels.invariant c.in_ok-push_channel.ensures
