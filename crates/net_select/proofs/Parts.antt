-- The code of loops and branches, put behind a program part by part.
use Rattle.std.proofs.Common.{◌≡◌, ◌≢◌, ℕ, ◌+◌, Bool, true, false, cond, pos, [], ◌∷◌, ◌++◌, length, refl, sym, ap, ◌∙◌, arith, true≢false, eqb-true, eq-eqb}
use Rattle.std.specs.Prelude.{◌==◌}
use Rattle.tis_asm.specs.declared.instr.Jump.{Jump as JumpKind}
use Rattle.tis_asm.specs.declared.instr.Jump.TheVariants.{Always, IfPositive}
use Rattle.tis_asm.specs.declared.instr.Source.TheVariants as from
use Rattle.tis_asm.specs.declared.instr.Instr.{Instr}
use Rattle.tis_asm.specs.declared.instr.Instr.TheVariants as instr
use Rattle.tis_asm.specs.declared.instr.Instr.TheVariants.{Swp}
use Rattle.net_tree.specs.declared.tree.Var.{Var}
use Rattle.net_tree.specs.declared.tree.Var.TheVariants.{X, Y}
use Rattle.net_select.specs.Selection.{Code, Placed, on, as_program, with_code, jump_to, if_code, leaving_code, entering_code, entering_frame, count_frame, with_one_less, count_code}
use Rattle.net_select.specs.Emission.{entering_head}
use Rattle.net_select.proofs.Lengths.{HasLines}
use Rattle.net_select.proofs.Composing.{Program, longer, two}

-- how long the head of a loop is whose jump enters it, and what a `count` has besides its block
pub head_length : (total : ℕ) (var : Var) (jump : JumpKind) (lines at : ℕ) → length (entering_head total var jump lines at) + 1 ≡ entering_frame var
head_length total X jump lines at = refl
head_length total Y jump lines at = refl

pub count_is : (var : Var) → count_frame var ≡ entering_frame var + length (on var (instr.Nop ∷ []))
count_is X = refl
count_is Y = refl

-- a head, a body where it ends, and a tail
pub around : (p0 p1 p2 p3 : Program) (head : Code) (body : Placed) (tail : Code) → p1 ≡ p0 ++ as_program head → p2 ≡ with_code p1 body → p3 ≡ p2 ++ as_program tail → p3 ≡ p0 ++ as_program (head ++ (body (length p0 + length head) ++ tail))
around p0 p1 p2 p3 head body tail first second third =
    let long : length p1 ≡ length p0 + length head = longer p0 p1 head first in
    two p0 p1 p3 head (body (length p0 + length head) ++ tail) first
    (two p1 p2 p3 (body (length p0 + length head)) tail (second ∙ ap (λ (n : ℕ). p1 ++ as_program (body n)) long) third)

-- a head, a body, what stands between, and a second body
pub branches : (p0 p1 p2 p3 p4 : Program) (head between : Code) (f g : Placed) (f_lines at : ℕ) → HasLines f f_lines → at ≡ length p0 + length head + f_lines + length between →
    p1 ≡ p0 ++ as_program head → p2 ≡ with_code p1 f → p3 ≡ p2 ++ as_program between → p4 ≡ with_code p3 g → p4 ≡ p0 ++ as_program (head ++ (f (length p0 + length head) ++ (between ++ g at)))
branches p0 p1 p2 p3 p4 head between f g f_lines at has at_is first second third fourth =
    let one = longer p0 p1 head first in
    let other = longer p1 p2 (f (length p1)) second in
    let more = longer p2 p3 between third in
    let lines = has (length p1) in
    let there : length p3 ≡ at = omega (arith, at_is, one, other, more, lines) in
    around p0 p1 p2 p4 head f (between ++ g at) first second
    (two p2 p3 p4 between (g at) third (fourth ∙ ap (λ (n : ℕ). p3 ++ as_program (g n)) there))

module _ (total : ℕ) (jump : JumpKind) (p0 : Program) where
  -- a loop whose jump leaves it
  pub leaves_x : (p1 p2 p3 : Program) (body : Placed) (lines : ℕ) (leave back : Instr) → leave ≡ jump_to total jump (length p0 + 2 + lines) → back ≡ jump_to total Always (length p0) →
      p1 ≡ p0 ++ as_program (leave ∷ []) → p2 ≡ with_code p1 body → p3 ≡ p2 ++ as_program (back ∷ []) → p3 ≡ with_code p0 (leaving_code total X jump lines body)
  leaves_x p1 p2 p3 body lines leave back leave_is back_is first second third =
      around p0 p1 p2 p3 (leave ∷ []) body (back ∷ []) first second third
      ∙ ap (λ (l : Instr). p0 ++ as_program (l ∷ (body (length p0 + 1) ++ back ∷ []))) leave_is
      ∙ ap (λ (b : Instr). p0 ++ as_program (jump_to total jump (length p0 + 2 + lines) ∷ (body (length p0 + 1) ++ b ∷ []))) back_is

  pub leaves_y : (p1 p2 p3 : Program) (body : Placed) (lines : ℕ) (leave back : Instr) → leave ≡ jump_to total jump (length p0 + 4 + lines) → back ≡ jump_to total Always (length p0) →
      p1 ≡ p0 ++ as_program (Swp ∷ leave ∷ Swp ∷ []) → p2 ≡ with_code p1 body → p3 ≡ p2 ++ as_program (back ∷ Swp ∷ []) → p3 ≡ with_code p0 (leaving_code total Y jump lines body)
  leaves_y p1 p2 p3 body lines leave back leave_is back_is first second third =
      around p0 p1 p2 p3 (Swp ∷ leave ∷ Swp ∷ []) body (back ∷ Swp ∷ []) first second third
      ∙ ap (λ (l : Instr). p0 ++ as_program (Swp ∷ l ∷ Swp ∷ (body (length p0 + 3) ++ back ∷ Swp ∷ []))) leave_is
      ∙ ap (λ (b : Instr). p0 ++ as_program (Swp ∷ jump_to total jump (length p0 + 4 + lines) ∷ Swp ∷ (body (length p0 + 3) ++ b ∷ Swp ∷ []))) back_is

  -- a loop whose jump enters it
  pub enters : (var : Var) (p1 p2 p3 : Program) (body : Placed) (lines : ℕ) (back : Instr) → back ≡ jump_to total Always (length p0) →
      p1 ≡ p0 ++ as_program (entering_head total var jump lines (length p0)) → p2 ≡ with_code p1 body → p3 ≡ p2 ++ as_program (back ∷ []) → p3 ≡ with_code p0 (entering_code total var jump lines body)
  enters X p1 p2 p3 body lines back back_is first second third =
      around p0 p1 p2 p3 (entering_head total X jump lines (length p0)) body (back ∷ []) first second third
      ∙ ap (λ (b : Instr). p0 ++ as_program (entering_head total X jump lines (length p0) ++ (body (length p0 + 2) ++ b ∷ []))) back_is
  enters Y p1 p2 p3 body lines back back_is first second third =
      around p0 p1 p2 p3 (entering_head total Y jump lines (length p0)) body (back ∷ []) first second third
      ∙ ap (λ (b : Instr). p0 ++ as_program (entering_head total Y jump lines (length p0) ++ (body (length p0 + 5) ++ b ∷ []))) back_is

  -- an `if` on x, by whether the block that is jumped to has code
  pub skips : (p1 p2 : Program) (f g : Placed) (f_lines g_lines : ℕ) (over : Instr) → g_lines ≡ 0 → over ≡ jump_to total jump (length p0 + 1 + f_lines) →
      p1 ≡ p0 ++ as_program (over ∷ []) → p2 ≡ with_code p1 f → p2 ≡ with_code p0 (if_code total X jump f_lines g_lines f g)
  skips p1 p2 f g f_lines g_lines over none over_is first second =
      let long : length p1 ≡ length p0 + 1 = longer p0 p1 (over ∷ []) first in
      two p0 p1 p2 (over ∷ []) (f (length p0 + 1)) first (second ∙ ap (λ (n : ℕ). p1 ++ as_program (f n)) long)
      ∙ ap (λ (o : Instr). p0 ++ as_program (o ∷ f (length p0 + 1))) over_is
      ∙ by (g_lines == 0) (eq-eqb g_lines 0 none)
    where
      by : (b : Bool) → b ≡ true → p0 ++ as_program (jump_to total jump (length p0 + 1 + f_lines) ∷ f (length p0 + 1)) ≡
          p0 ++ as_program (cond b (jump_to total jump (length p0 + 1 + f_lines) ∷ f (length p0 + 1)) (jump_to total jump (length p0 + 2 + f_lines) ∷ (f (length p0 + 1) ++ jump_to total Always (length p0 + 2 + f_lines + g_lines) ∷ g (length p0 + 2 + f_lines))))
      by true is = refl
      by false is = absurd (true≢false (sym is))

  pub chooses_x : (p1 p2 p3 p4 : Program) (f g : Placed) (f_lines g_lines : ℕ) (over behind : Instr) → g_lines ≢ 0 → HasLines f f_lines → over ≡ jump_to total jump (length p0 + 2 + f_lines) → behind ≡ jump_to total Always (length p0 + 2 + f_lines + g_lines) →
      p1 ≡ p0 ++ as_program (over ∷ []) → p2 ≡ with_code p1 f → p3 ≡ p2 ++ as_program (behind ∷ []) → p4 ≡ with_code p3 g → p4 ≡ with_code p0 (if_code total X jump f_lines g_lines f g)
  chooses_x p1 p2 p3 p4 f g f_lines g_lines over behind some has over_is behind_is first second third fourth =
      branches p0 p1 p2 p3 p4 (over ∷ []) (behind ∷ []) f g f_lines (length p0 + 2 + f_lines) has (omega arith) first second third fourth
      ∙ ap (λ (o : Instr). p0 ++ as_program (o ∷ (f (length p0 + 1) ++ behind ∷ g (length p0 + 2 + f_lines)))) over_is
      ∙ ap (λ (b : Instr). p0 ++ as_program (jump_to total jump (length p0 + 2 + f_lines) ∷ (f (length p0 + 1) ++ b ∷ g (length p0 + 2 + f_lines)))) behind_is
      ∙ by (g_lines == 0) refl
    where
      by : (b : Bool) → (g_lines == 0) ≡ b → p0 ++ as_program (jump_to total jump (length p0 + 2 + f_lines) ∷ (f (length p0 + 1) ++ jump_to total Always (length p0 + 2 + f_lines + g_lines) ∷ g (length p0 + 2 + f_lines))) ≡
          p0 ++ as_program (cond b (jump_to total jump (length p0 + 1 + f_lines) ∷ f (length p0 + 1)) (jump_to total jump (length p0 + 2 + f_lines) ∷ (f (length p0 + 1) ++ jump_to total Always (length p0 + 2 + f_lines + g_lines) ∷ g (length p0 + 2 + f_lines))))
      by true is = absurd (some (eqb-true g_lines 0 is))
      by false is = refl

  pub chooses_y : (p1 p2 p3 p4 : Program) (f g : Placed) (f_lines g_lines : ℕ) (over behind : Instr) → HasLines f f_lines → over ≡ jump_to total jump (length p0 + 4 + f_lines) → behind ≡ jump_to total Always (length p0 + 5 + f_lines + g_lines) →
      p1 ≡ p0 ++ as_program (Swp ∷ over ∷ Swp ∷ []) → p2 ≡ with_code p1 f → p3 ≡ p2 ++ as_program (behind ∷ Swp ∷ []) → p4 ≡ with_code p3 g → p4 ≡ with_code p0 (if_code total Y jump f_lines g_lines f g)
  chooses_y p1 p2 p3 p4 f g f_lines g_lines over behind has over_is behind_is first second third fourth =
      branches p0 p1 p2 p3 p4 (Swp ∷ over ∷ Swp ∷ []) (behind ∷ Swp ∷ []) f g f_lines (length p0 + 5 + f_lines) has (omega arith) first second third fourth
      ∙ ap (λ (o : Instr). p0 ++ as_program (Swp ∷ o ∷ Swp ∷ (f (length p0 + 3) ++ behind ∷ Swp ∷ g (length p0 + 5 + f_lines)))) over_is
      ∙ ap (λ (b : Instr). p0 ++ as_program (Swp ∷ jump_to total jump (length p0 + 4 + f_lines) ∷ Swp ∷ (f (length p0 + 3) ++ b ∷ Swp ∷ g (length p0 + 5 + f_lines)))) behind_is

-- a loop that counts a variable down
pub counts : (total : ℕ) (var : Var) (p0 p1 p2 p3 p4 : Program) (body : Placed) (lines : ℕ) (back : Instr) → back ≡ jump_to total Always (length p0) →
    p1 ≡ p0 ++ as_program (entering_head total var IfPositive (lines + length (on var (instr.Nop ∷ []))) (length p0)) → p2 ≡ with_code p1 body → p3 ≡ p2 ++ as_program (on var (instr.Sub (from.Number (pos 1)) ∷ [])) → p4 ≡ p3 ++ as_program (back ∷ []) →
    p4 ≡ with_code p0 (count_code total var lines body)
counts total var p0 p1 p2 p3 p4 body lines back back_is first second third fourth =
    enters total IfPositive p0 var p1 p3 p4 (with_one_less var body) (lines + length (on var (instr.Nop ∷ []))) back back_is first
    (two p1 p2 p3 (body (length p1)) (on var (instr.Sub (from.Number (pos 1)) ∷ [])) second third) fourth
