-- The next line that isn't blank.
use Rattle.std.specs.Prelude.{◌≡◌, ℕ, zero, suc, List, ◌∷◌}
use Rattle.tis_words.specs.Words.{Words}
use Rattle.tis_words.specs.Lines.{NonBlank}
use Rattle.net_syntax.specs.declared.form.LineForm as held
use Rattle.net_syntax.specs.Forms.{LineForm, Malformed, form_of}
use Rattle.net_syntax.specs.FormView.{form_view}

-- the first of these lines says this and has this number, and these are the others
abbrev pub IsNext : List NonBlank → held.LineForm → ℕ → List NonBlank → Type 0
IsNext lines form number behind = (words : Words) × (form_view form ≡ form_of words) × (lines ≡ record { number = number; words = words } ∷ behind)

-- what a line says where so many lines may still say something
abbrev pub form_within : ℕ → LineForm → LineForm
form_within zero form = Malformed
form_within (suc most) form = form
