-- A store in memory, as contracts see it.
use Rattle.std.specs.Prelude.{ℕ, ℤ, List, map, refl}
use Rattle.std.specs.Coded.{Coded, code_by, coded×, coded_ℕ, coded_ℤ, coded_list}
use Rattle.std.specs.FinMap as finite
use Rattle.std.specs.String.{string_bytes}
use Rattle.std.specs.declared.string.String.{String}
use Rattle.std.specs.declared.vec.Vec.{Vec}
use Rattle.tis_base.specs.Outside.{Texts}

-- its texts, the numbers of the calls that it fails, and how many calls, faults and misses there were
pub record Contents : Type 0 where
  pub texts : Texts
  pub failing : List ℤ
  pub calls : ℕ
  pub faults : ℕ
  pub misses : ℕ

-- contents are stored as the tuple of their fields
abbrev pub contents_code : Coded Contents
contents_code =
    code_by (Texts × (List ℤ × (ℕ × (ℕ × ℕ)))) (coded× (finite.code (coded_list coded_ℕ) (coded_list coded_ℕ)) (coded× (coded_list coded_ℤ) (coded× coded_ℕ (coded× coded_ℕ coded_ℕ))))
    (λ c. (c.texts, (c.failing, (c.calls, (c.faults, c.misses)))))
    (λ p. record { texts = p.0; failing = p.1.0; calls = p.1.1.0; faults = p.1.1.1.0; misses = p.1.1.1.1 })
    (λ _. refl)

module _ {Y Z : Type 0} where
  -- an entry's name and bytes
  abbrev pub entry_text : String Y × Vec ℕ Z → List ℕ × List ℕ
  entry_text entry = (string_bytes entry.0, entry.1.items)

  -- the texts that these entries are
  abbrev pub texts_of : List (String Y × Vec ℕ Z) → Texts
  texts_of entries = finite.from_entries (map entry_text entries)
