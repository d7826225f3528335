-- Those so far stand behind what was declared before.
use Rattle.std.proofs.Common.{◌≡◌, ◌++◌, drop, map}
use Rattle.net_tree.specs.View.{channel_view}
use Rattle.net_rules.specs.Rules.{channel_declared}
use Rattle.net_rules.specs.Known.{declaration_view}
use Rattle.net_rules.proofs.declarations.add_channels.Given as goal

abbrev pub invariant-channels : goal.invariant-channels
invariant-channels l = map declaration_view l.initial.declared.items ++ map channel_declared (map channel_view l.channels) ≡ map declaration_view l.declared.items ++ map channel_declared (map channel_view (drop l.channel-index l.channels))
