use Rattle.std.proofs.Common.{List, ℕ, arith}
use Rattle.net_tree.specs.Tree.{ChannelLine}
use Rattle.net_tree.specs.View.{channel_view}
use Rattle.net_rules.proofs.NumberingNames.{numbered_more, numbered_all}
use Rattle.net_rules.proofs.numbers.number_channels.Goals as goal

pub channels-preserved : goal.channels-preserved
channels-preserved c =
    record {
      counts = omega (arith, c.channels.invariant.counts);
      same = λ (name : List ℕ). numbered_more channel_view (λ (p : ChannelLine). p.name) c.args.channels.now c.channels.channel-index c.channel-item.result _ _ name _ c.channels.number (c.channels.invariant.same name) (omega arith) c.channel-item.is (c.in_ok-number_name.ensures name);
    }

pub returns : goal.returns
returns c = λ (name : List ℕ). numbered_all channel_view (λ (p : ChannelLine). p.name) c.args.channels.now c.channels.channel-index _ name _ c.channels.number (c.channels.invariant.same name) (omega arith)
