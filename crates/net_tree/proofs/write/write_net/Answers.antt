use Rattle.std.proofs.Common.{List, map, ◌++◌, ap, ◌∙◌}
use Rattle.std.specs.Prelude.{codes, flat_map}
use Rattle.net_tree.specs.declared.tree.PortLine as held_port
use Rattle.net_tree.specs.declared.tree.ChannelLine as held_channel
use Rattle.net_tree.specs.declared.tree.ProcessText as held_process
use Rattle.net_tree.specs.NetText.{lines_text, version_line, tiles_line, port_line, channel_line, process_lines}
use Rattle.net_tree.specs.View.{port_view, channel_view, process_view}
use Rattle.net_tree.proofs.Writing.{net_is_written}
use Rattle.net_tree.proofs.write.write_net.Goals as goal

pub returns : goal.returns
returns c =
    let net = c.args.net.now in
    net_is_written (version_line net.version) (tiles_line net.tiles)
    (map (port_line (codes "input")) (map port_view net.inputs.items)) (map (port_line (codes "output")) (map port_view net.outputs.items)) (map channel_line (map channel_view net.channels.items)) (flat_map process_lines (map process_view net.processes.items))
    c.new-out.result.items c.push_head.new.out.items c.push_ports.new.out.items c.push_ports-2.new.out.items c.push_channels.new.out.items c.push_processes.new.out.items
    c.new-out.ensures.items c.in_ok-push_head.ensures
    (c.in_ok-push_ports.ensures ∙ ap (λ (l : List held_port.PortLine). c.push_head.new.out.items ++ lines_text (map (port_line (codes "input")) (map port_view l))) c.deref.ensures.value)
    (c.in_ok-push_ports-2.ensures ∙ ap (λ (l : List held_port.PortLine). c.push_ports.new.out.items ++ lines_text (map (port_line (codes "output")) (map port_view l))) c.deref-2.ensures.value)
    (c.in_ok-push_channels.ensures ∙ ap (λ (l : List held_channel.ChannelLine). c.push_ports-2.new.out.items ++ lines_text (map channel_line (map channel_view l))) c.deref-3.ensures.value)
    (c.in_ok-push_processes.ensures ∙ ap (λ (l : List held_process.ProcessText). c.push_channels.new.out.items ++ lines_text (flat_map process_lines (map process_view l))) c.deref-4.ensures.value)
