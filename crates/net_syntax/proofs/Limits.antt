-- The lines that may say something, one after the other.
use Rattle.std.proofs.Common.{◌≡◌, ℕ, zero, suc, ◌-◌, List, [], ◌∷◌, refl, sym, ap, subst, ◌∙◌, arith}
use Rattle.std.specs.Prelude.{Result, Ok, Err}
use Rattle.net_syntax.specs.declared.form.LineForm as held
use Rattle.tis_words.specs.Words.{Words}
use Rattle.tis_words.specs.Lines.{NonBlank}
use Rattle.net_syntax.specs.Forms.{LineForm, Line, form_of, lines_up_to}
use Rattle.net_syntax.specs.FormView.{form_view}
use Rattle.net_syntax.specs.declared.error.NetError.{NetError}
use Rattle.net_syntax.specs.declared.error.NetError.TheVariants as errors
use Rattle.net_syntax.specs.Refusals.{NetRefusal, BadLine, TooDeep, StrayEnd, Unclosed}
use Rattle.net_syntax.specs.Reading.{Configuration, after_line, after_lines, and_then, after_version, after_all, tiles_of_line, head_of_line, net_with}
use Rattle.net_syntax.specs.ReaderView.{IsError}
use Rattle.net_syntax.specs.UnreadView.{IsNext, form_within}

step : (most number : ℕ) (words : Words) (others : List NonBlank) → lines_up_to most (record { number = number; words = words } ∷ others) ≡ record { number = number; form = form_within most (form_of words) } ∷ lines_up_to (most - 1) others
unfolding lines_up_to
step zero number words others = refl
step (suc most) number words others = ap (λ (n : ℕ). record { number = number; form = form_of words } ∷ lines_up_to n others) (sym (less most))
  where
    less : (most : ℕ) → suc most - 1 ≡ most
    less most = omega arith

-- the next line, and the lines behind it
pub lines_cut : (most number : ℕ) (lines behind : List NonBlank) (form : held.LineForm) → IsNext lines form number behind → lines_up_to most lines ≡ record { number = number; form = form_within most (form_view form) } ∷ lines_up_to (most - 1) behind
lines_cut most number lines behind form next =
    ap (lines_up_to most) next.2 ∙ step most number next.0 behind
    ∙ ap (λ (f : LineForm). record { number = number; form = form_within most f } ∷ lines_up_to (most - 1) behind) (sym next.1)

nothing : (most : ℕ) → lines_up_to most [] ≡ []
unfolding lines_up_to
nothing zero = refl
nothing (suc most) = refl

-- no line is left
pub no_line : (most : ℕ) (lines : List NonBlank) → lines ≡ [] → lines_up_to most lines ≡ []
no_line most lines none = ap (lines_up_to most) none ∙ nothing most

-- ---- one line more

pub goes_on : (sofar more : Configuration) (number : ℕ) (form : LineForm) (lines : List Line) → after_line sofar.net sofar.open_process number form ≡ Ok more → after_lines sofar (record { number = number; form = form } ∷ lines) ≡ after_lines more lines
unfolding after_lines and_then
goes_on sofar more number form lines is = ap (λ (r : Result Configuration NetRefusal). and_then r (λ c. after_lines c lines)) is

pub stops_here : (sofar : Configuration) (refusal : NetRefusal) (number : ℕ) (form : LineForm) (lines : List Line) → after_line sofar.net sofar.open_process number form ≡ Err refusal → after_lines sofar (record { number = number; form = form } ∷ lines) ≡ Err refusal
unfolding after_lines and_then
stops_here sofar refusal number form lines is = ap (λ (r : Result Configuration NetRefusal). and_then r (λ c. after_lines c lines)) is

-- the error of one line is that of all of them
pub error_stays : (error : NetError) (sofar : Configuration) (number : ℕ) (form : LineForm) (lines : List Line) → IsError error (after_line sofar.net sofar.open_process number form) → IsError error (after_lines sofar (record { number = number; form = form } ∷ lines))
error_stays (errors.BadLine line) sofar number form lines is = stops_here sofar (BadLine line) number form lines is
error_stays (errors.TooDeep line) sofar number form lines is = stops_here sofar (TooDeep line) number form lines is
error_stays (errors.StrayEnd line) sofar number form lines is = stops_here sofar (StrayEnd line) number form lines is
error_stays (errors.Unclosed line) sofar number form lines is = stops_here sofar (Unclosed line) number form lines is
error_stays errors.NoMemory sofar number form lines is = tt

-- ---- as the code meets them

pub line_passed : (seen more : Configuration) (most number left : ℕ) (lines behind : List NonBlank) (form : held.LineForm) (within : LineForm) → IsNext lines form number behind → within ≡ form_within most (form_view form) → left ≡ most - 1 → after_line seen.net seen.open_process number within ≡ Ok more → after_lines seen (lines_up_to most lines) ≡ after_lines more (lines_up_to left behind)
line_passed seen more most number left lines behind form within next within_is left_is is =
    ap (after_lines seen) (lines_cut most number lines behind form next)
    ∙ goes_on seen more number (form_within most (form_view form)) (lines_up_to (most - 1) behind) (ap (after_line seen.net seen.open_process number) (sym within_is) ∙ is)
    ∙ ap (λ (n : ℕ). after_lines more (lines_up_to n behind)) (sym left_is)

pub line_refused : (error : NetError) (seen : Configuration) (most number : ℕ) (lines behind : List NonBlank) (form : held.LineForm) (within : LineForm) → IsNext lines form number behind → within ≡ form_within most (form_view form) → IsError error (after_line seen.net seen.open_process number within) → IsError error (after_lines seen (lines_up_to most lines))
line_refused error seen most number lines behind form within next within_is is =
    subst (λ (l : List Line). IsError error (after_lines seen l)) (sym (lines_cut most number lines behind form next))
    (error_stays error seen number (form_within most (form_view form)) (lines_up_to (most - 1) behind) (subst (λ (f : LineForm). IsError error (after_line seen.net seen.open_process number f)) within_is is))

pub version_missing : (next most : ℕ) (lines : List NonBlank) → lines ≡ [] → after_version next (lines_up_to most lines) ≡ Err (BadLine next)
version_missing next most lines none = ap (after_version next) (no_line most lines none)

pub version_cut : (next most number left : ℕ) (lines behind : List NonBlank) (form : held.LineForm) (within : LineForm) → IsNext lines form number behind → within ≡ form_within most (form_view form) → left ≡ most - 1 → after_version next (lines_up_to most lines) ≡ and_then (tiles_of_line number within) (net_with (lines_up_to left behind))
version_cut next most number left lines behind form within following within_is left_is =
    ap (after_version next) (lines_cut most number lines behind form following)
    ∙ ap (λ (f : LineForm). and_then (tiles_of_line number f) (net_with (lines_up_to (most - 1) behind))) (sym within_is)
    ∙ ap (λ (n : ℕ). and_then (tiles_of_line number within) (net_with (lines_up_to n behind))) (sym left_is)

pub all_missing : (next most : ℕ) (lines : List NonBlank) → lines ≡ [] → after_all next (lines_up_to most lines) ≡ Err (BadLine next)
all_missing next most lines none = ap (after_all next) (no_line most lines none)

pub all_cut : (next most number left : ℕ) (lines behind : List NonBlank) (form : held.LineForm) (within : LineForm) → IsNext lines form number behind → within ≡ form_within most (form_view form) → left ≡ most - 1 → after_all next (lines_up_to most lines) ≡ head_of_line number within (after_version next (lines_up_to left behind))
all_cut next most number left lines behind form within following within_is left_is =
    ap (after_all next) (lines_cut most number lines behind form following)
    ∙ ap (λ (f : LineForm). head_of_line number f (after_version next (lines_up_to (most - 1) behind))) (sym within_is)
    ∙ ap (λ (n : ℕ). head_of_line number within (after_version next (lines_up_to n behind))) (sym left_is)

pub nothing_more : (seen : Configuration) → after_lines seen [] ≡ Ok seen
unfolding after_lines
nothing_more seen = refl

pub all_passed : (seen : Configuration) (most : ℕ) (lines : List NonBlank) → lines ≡ [] → after_lines seen (lines_up_to most lines) ≡ Ok seen
all_passed seen most lines none = ap (after_lines seen) (no_line most lines none) ∙ nothing_more seen
