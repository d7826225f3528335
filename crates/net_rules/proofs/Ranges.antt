-- The numbers of inputs, of channels and of outputs are three ranges, so that a number tells which a name is.
use Rattle.std.proofs.Common.{◌≡◌, ◌≤◌, ◌<◌, ℕ, ◌+◌, Bool, true, false, cond, List, [], ◌∷◌, ◌++◌, map, length, Option, Some, None, refl, sym, ap, ◌∙◌, arith}
use Rattle.std.specs.Prelude.{◌||◌}
use Rattle.std.specs.List.{list_any, position_from}
use Rattle.std.specs.Option.{option_or}
use Rattle.std.specs.Str.{bytes_eq}
use Rattle.std.proofs.lemmas.Bool.Decides.{nat_tests}
use Rattle.std.proofs.lemmas.List.{length-map, length-append}
use Rattle.std.proofs.lemmas.Iterator.Adapters.{position_from-zero}
use Rattle.net_tree.specs.Tree.{Name, PortLine, ChannelLine, Net}
use Rattle.net_rules.specs.declared.numbers.Numbers as held
use Rattle.net_rules.specs.Numbers.{readable, writable, number_of}
use Rattle.net_rules.specs.Rules.{is_among, first_fault, declarations, declaration_fault}
use Rattle.net_rules.specs.Known.{is_within, can_read, can_write, names_channel, IsNumbered}
use Rattle.net_rules.proofs.NumberingNames.{from_both}
use Rattle.net_rules.proofs.Apart.{inputs_apart}

-- ---- a number in a range

inside : (first past number : ℕ) → first ≤ number → number < past → is_within first past (Some number) ≡ true
inside first past number low high = grind (arith, nat_tests)

below : (first past number : ℕ) → number < first → is_within first past (Some number) ≡ false
below first past number low = grind (arith, nat_tests)

above : (first past number : ℕ) → past ≤ number → is_within first past (Some number) ≡ false
above first past number high = grind (arith, nat_tests)

-- the place of an element in a list whose numbers are from this one on and below that, where it is there
data At (start past : ℕ) : Bool → Option ℕ → Type 0 where
  nowhere : At start past false None
  at : (number : ℕ) → start ≤ number → number < past → At start past true (Some number)

later : (start past : ℕ) (any : Bool) (found : Option ℕ) → At (start + 1) past any found → At start past any found
later start past _ _ nowhere = nowhere
later start past _ _ (at number low high) = at number (omega (arith, low)) high

found_at : (test : Name → Bool) (start past : ℕ) (xs : List Name) → start + length xs ≡ past → At start past (list_any test xs) (position_from test start xs)
found_at test start past [] is = nowhere
found_at test start past (x ∷ xs) is = by (test x) (later start past (list_any test xs) (position_from test (start + 1) xs) (found_at test (start + 1) past xs (omega (arith, is))))
  where
    by : (b : Bool) → At start past (list_any test xs) (position_from test (start + 1) xs) → At start past (b || list_any test xs) (cond b (Some start) (position_from test (start + 1) xs))
    by true more = at start (omega arith) (omega (arith, is))
    by false more = more

-- ---- one of three ranges

module _ (channels outputs past : ℕ) (up : channels ≤ outputs) (more : outputs ≤ past) where
  reads_three : (a b c : Bool) (p q r : Option ℕ) → At 0 channels a p → At channels outputs b q → At outputs past c r → is_within 0 outputs (option_or (option_or p q) r) ≡ (a || b)
  reads_three _ b c _ q r (at n low high) second third = inside 0 outputs n (omega arith) (omega (arith, high, up))
  reads_three _ _ c _ _ r nowhere (at n low high) third = inside 0 outputs n (omega arith) high
  reads_three _ _ _ _ _ _ nowhere nowhere (at n low high) = above 0 outputs n low
  reads_three _ _ _ _ _ _ nowhere nowhere nowhere = refl

  writes_three : (a b c : Bool) (p q r : Option ℕ) → (a ≡ true → (b || c) ≡ false) → At 0 channels a p → At channels outputs b q → At outputs past c r → is_within channels past (option_or (option_or p q) r) ≡ (b || c)
  writes_three _ b c _ q r apart (at n low high) second third = below channels past n high ∙ sym (apart refl)
  writes_three _ _ c _ _ r apart nowhere (at n low high) third = inside channels past n low (omega (arith, high, more))
  writes_three _ _ _ _ _ _ apart nowhere nowhere (at n low high) = inside channels past n (omega (arith, low, up)) high
  writes_three _ _ _ _ _ _ apart nowhere nowhere nowhere = refl

  first_of : (b c : Bool) → (b || c) ≡ false → false ≡ b
  first_of false c is = refl
  first_of true c is = absurd cc

  channels_three : (a b c : Bool) (p q r : Option ℕ) → (a ≡ true → (b || c) ≡ false) → At 0 channels a p → At channels outputs b q → At outputs past c r → is_within channels outputs (option_or (option_or p q) r) ≡ b
  channels_three _ b c _ q r apart (at n low high) second third = below channels outputs n high ∙ first_of b c (apart refl)
  channels_three _ _ c _ _ r apart nowhere (at n low high) third = inside channels outputs n low high
  channels_three _ _ _ _ _ _ apart nowhere nowhere (at n low high) = above channels outputs n low
  channels_three _ _ _ _ _ _ apart nowhere nowhere nowhere = refl

-- ---- the names of a network

any_both : (test : Name → Bool) (one other : List Name) → (list_any test one || list_any test other) ≡ list_any test (one ++ other)
any_both test [] other = refl
any_both test (x ∷ one) other = by (test x) (any_both test one other)
  where
    by : (b : Bool) → (list_any test one || list_any test other) ≡ list_any test (one ++ other) → ((b || list_any test one) || list_any test other) ≡ (b || list_any test (one ++ other))
    by true so = refl
    by false so = so

module _ (numbers : held.Numbers) (net : Net) (is : IsNumbered numbers net) (name : Name) where
  abbrev test : Name → Bool
  test = bytes_eq name

  abbrev ins : List Name
  ins = map (λ (port : PortLine). port.name) net.inputs

  abbrev middle : List Name
  middle = map (λ (channel : ChannelLine). channel.name) net.channels

  abbrev outs : List Name
  outs = map (λ (port : PortLine). port.name) net.outputs

  up : numbers.channels ≤ numbers.outputs
  up = omega (arith, is.channels, is.outputs)

  more : numbers.outputs ≤ numbers.other
  more = omega (arith, is.outputs, is.other)

  first : At 0 numbers.channels (list_any test ins) (position_from test 0 ins)
  first = found_at test 0 numbers.channels ins (omega (arith, is.channels, length-map net.inputs (λ (port : PortLine). port.name)))

  second : At numbers.channels numbers.outputs (list_any test middle) (position_from test numbers.channels middle)
  second = found_at test numbers.channels numbers.outputs middle (omega (arith, is.channels, is.outputs, length-map net.channels (λ (channel : ChannelLine). channel.name)))

  third : At numbers.outputs numbers.other (list_any test outs) (position_from test numbers.outputs outs)
  third = found_at test numbers.outputs numbers.other outs (omega (arith, is.outputs, is.other, length-map net.outputs (λ (port : PortLine). port.name)))

  -- the number is found in one of the three
  parts : option_or (option_or (position_from test 0 ins) (position_from test numbers.channels middle)) (position_from test numbers.outputs outs) ≡ number_of net name
  parts =
      let zero_start : 0 + numbers.channels ≡ numbers.channels = omega arith in
      let zero_behind : 0 + numbers.outputs ≡ numbers.outputs = omega arith in
      ap (λ n. option_or (option_or (position_from test 0 ins) (position_from test n middle)) (position_from test numbers.outputs outs)) (sym zero_start)
      ∙ ap (λ o. option_or o (position_from test numbers.outputs outs)) (from_both test 0 numbers.channels ins middle (omega (arith, is.channels, length-map net.inputs (λ (port : PortLine). port.name))))
      ∙ ap (λ n. option_or (position_from test 0 (ins ++ middle)) (position_from test n outs)) (sym zero_behind)
      ∙ from_both test 0 numbers.outputs (ins ++ middle) outs (omega (arith, length-append ins middle, is.outputs, length-map net.inputs (λ (port : PortLine). port.name), length-map net.channels (λ (channel : ChannelLine). channel.name)))
      ∙ sym (position_from-zero test ((ins ++ middle) ++ outs))

  at_name : (first_number past : ℕ) → is_within first_number past (option_or (option_or (position_from test 0 ins) (position_from test numbers.channels middle)) (position_from test numbers.outputs outs)) ≡ is_within first_number past (number_of net name)
  at_name first_number past = ap (is_within first_number past) parts

  pub reads_by_number : can_read numbers name ≡ is_among (readable net) name
  reads_by_number =
      ap (is_within 0 numbers.outputs) (is.names name) ∙ sym (at_name 0 numbers.outputs)
      ∙ reads_three numbers.channels numbers.outputs numbers.other up more _ _ _ _ _ _ first second third
      ∙ any_both test ins middle

  module _ (kept : first_fault declaration_fault (declarations net) ≡ None) where
    apart : list_any test ins ≡ true → (list_any test middle || list_any test outs) ≡ false
    apart here = any_both test middle outs ∙ inputs_apart net kept name here

    pub writes_by_number : can_write numbers name ≡ is_among (writable net) name
    writes_by_number =
        ap (is_within numbers.channels numbers.other) (is.names name) ∙ sym (at_name numbers.channels numbers.other)
        ∙ writes_three numbers.channels numbers.outputs numbers.other up more _ _ _ _ _ _ apart first second third
        ∙ any_both test middle outs

    pub channel_by_number : names_channel numbers name ≡ is_among middle name
    channel_by_number =
        ap (is_within numbers.channels numbers.outputs) (is.names name) ∙ sym (at_name numbers.channels numbers.outputs)
        ∙ channels_three numbers.channels numbers.outputs numbers.other up more _ _ _ _ _ _ apart first second third
