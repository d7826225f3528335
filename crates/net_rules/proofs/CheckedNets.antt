-- All rules, one after the other, and the numbers of a network.
use Rattle.std.proofs.Common.{◌≡◌, ℕ, ◌+◌, ◌++◌, map, length, Option, None, sym, ap, ◌∙◌, arith}
use Rattle.std.specs.Prelude.{unwrap_or, Result}
use Rattle.std.specs.Option.{option_or}
use Rattle.std.proofs.Math.Path.{fun_ext}
use Rattle.std.proofs.lemmas.List.{length-map, length-append}
use Rattle.net_tree.specs.Tree.{Name, PortLine, ChannelLine, Net}
use Rattle.net_rules.specs.declared.error.RuleError.{RuleError}
use Rattle.net_rules.specs.Broken.{Keeps}
use Rattle.net_rules.specs.Rules.{BrokenRule}
use Rattle.net_rules.specs.Numbers.{all_names, number_of, number_in, numbered, block_with}
use Rattle.net_rules.specs.Tables.{Table, value_of}
use Rattle.net_rules.specs.Known.{number_by}
use Rattle.net_rules.proofs.SureBodies.{neither}
use Rattle.net_rules.proofs.Keeping.{keeps_behind}

-- the last rule, behind five that are kept
pub last_kept : (result : Result (Unit {0}) RuleError) (first second third fourth fifth last : Option BrokenRule) → option_or first (option_or second (option_or third fourth)) ≡ None → fifth ≡ None → Keeps result last → Keeps result (option_or first (option_or second (option_or third (option_or fourth (option_or fifth last)))))
last_kept result first second third fourth fifth last none sure keeps =
    let one = neither first (option_or second (option_or third fourth)) none in
    let two = neither second (option_or third fourth) one.1 in
    let three = neither third fourth two.1 in
    keeps_behind result first _ one.0 (keeps_behind result second _ two.0 (keeps_behind result third _ three.0 (keeps_behind result fourth _ three.1 (keeps_behind result fifth _ sure keeps))))

-- how many names there are
pub names_counted : (net : Net) → length (all_names net) ≡ length net.inputs + length net.channels + length net.outputs
names_counted net =
    omega (
      arith,
      length-append (map (λ (input : PortLine). input.name) net.inputs ++ map (λ (channel : ChannelLine). channel.name) net.channels) (map (λ (output : PortLine). output.name) net.outputs),
      length-append (map (λ (input : PortLine). input.name) net.inputs) (map (λ (channel : ChannelLine). channel.name) net.channels),
      length-map net.inputs (λ (input : PortLine). input.name),
      length-map net.channels (λ (channel : ChannelLine). channel.name),
      length-map net.outputs (λ (output : PortLine). output.name),
    )

module _ (net : Net) (table : Table) (other : ℕ) where
  pub same_numbers : ((name : Name) → value_of table name ≡ number_of net name) → other ≡ length net.inputs + length net.channels + length net.outputs → (name : Name) → number_by table other name ≡ number_in net name
  same_numbers names counted name = ap (λ o. unwrap_or o other) (names name) ∙ ap (unwrap_or (number_of net name)) (counted ∙ sym (names_counted net))

  pub same_bodies : ((name : Name) → number_by table other name ≡ number_in net name) → map (λ process. block_with (number_by table other) process.body) net.processes ≡ (numbered net).processes
  same_bodies same = ap (λ (f : Name → ℕ). map (λ process. block_with f process.body) net.processes) (fun_ext same)
