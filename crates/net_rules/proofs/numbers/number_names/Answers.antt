use Rattle.std.proofs.Common.{List, [], ℕ, map, ◌+◌, ap, ◌∙◌, arith}
use Rattle.std.specs.List.{position_from}
use Rattle.std.specs.Option.{option_or}
use Rattle.std.specs.Str.{bytes_eq}
use Rattle.std.proofs.lemmas.List.{length-map}
use Rattle.net_tree.specs.Tree.{PortLine, ChannelLine}
use Rattle.net_tree.specs.View.{port_view, channel_view}
use Rattle.net_rules.specs.Tables.{value_of}
use Rattle.net_rules.proofs.NumberingNames.{in_three}
use Rattle.net_rules.proofs.numbers.number_names.Goals as goal

pub returns : goal.returns
returns c = λ (name : List ℕ).
    let net = c.args.net.now in
    in_three name (map (λ (p : PortLine). p.name) (map port_view net.inputs.items)) (map (λ (p : ChannelLine). p.name) (map channel_view net.channels.items)) (map (λ (p : PortLine). p.name) (map port_view net.outputs.items)) _ _ _ c.len-channels.result (c.len-channels.result + c.len.result)
    (omega (arith, length-map (map port_view net.inputs.items) (λ (p : PortLine). p.name), length-map net.inputs.items port_view, c.len-channels.ensures))
    (omega (arith, length-map (map channel_view net.channels.items) (λ (p : ChannelLine). p.name), length-map net.channels.items channel_view, c.len.ensures))
    (c.in_ok-number_ports.ensures name ∙ ap (λ t. option_or (value_of t name) (position_from (bytes_eq name) 0 (map (λ (p : PortLine). p.name) (map port_view c.as_slice.result.now)))) c.new-numbers.ensures ∙ ap (λ l. option_or (value_of [] name) (position_from (bytes_eq name) 0 (map (λ (p : PortLine). p.name) (map port_view l)))) c.as_slice.ensures.value)
    (c.in_ok-number_channels.ensures name ∙ ap (λ l. option_or (value_of c.number_ports.new.numbers name) (position_from (bytes_eq name) c.len-channels.result (map (λ (p : ChannelLine). p.name) (map channel_view l)))) c.as_slice-2.ensures.value)
    (c.in_ok-number_ports-2.ensures name ∙ ap (λ l. option_or (value_of c.number_channels.new.numbers name) (position_from (bytes_eq name) (c.len-channels.result + c.len.result) (map (λ (p : PortLine). p.name) (map port_view l)))) c.as_slice-3.ensures.value)
