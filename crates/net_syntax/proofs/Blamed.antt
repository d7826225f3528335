-- What a refusal blames: the first wrong line, or what is missing.
use Rattle.std.specs.Prelude.{◌≡◌, ℕ, ◌≤◌, ◌⊎◌, List, length}
use Rattle.net_syntax.specs.Refusals.{NetRefusal, BadLine, TooDeep, StrayEnd, Unclosed}
use Rattle.net_syntax.specs.Forms as forms
use Rattle.net_syntax.specs.Forms.{LineForm, Line}
use Rattle.net_syntax.specs.Grammar.{GoesOn, GoesOnDeeper, IsFirstWrong, IsCloser, IsUnclosed}

-- it opens a block
abbrev pub IsBlockLine : LineForm → Type 0
IsBlockLine (forms.OpensIf var test) = Unit {0}
IsBlockLine (forms.OpensWhile var test) = Unit {0}
IsBlockLine (forms.OpensCount var) = Unit {0}
IsBlockLine form = ⊥

-- the refusal has the number of this line, which stands behind these, and fits what it says: `end` and `else` are stray, a block is too deep where it is right if blocks may be nested deeper, and another line is wrong however deep they may be nested
abbrev pub IsBlamedOn : NetRefusal → List Line → Line → Type 0
IsBlamedOn (StrayEnd number) before wrong = (number ≡ wrong.number) × IsCloser wrong.form
IsBlamedOn (TooDeep number) before wrong = (number ≡ wrong.number) × IsBlockLine wrong.form × GoesOnDeeper before wrong
IsBlamedOn (BadLine number) before wrong = (number ≡ wrong.number) × (¬ IsCloser wrong.form) × (¬ GoesOnDeeper before wrong)
IsBlamedOn (Unclosed number) before wrong = ⊥

-- what is missing is blamed: the first or the second line, by the number of the next one, or the end of what is open innermost, by the line that opens it
abbrev pub IsMissing : ℕ → List Line → NetRefusal → Type 0
IsMissing next lines (BadLine number) = (length lines ≤ 1) × (number ≡ next)
IsMissing next lines (Unclosed number) = IsUnclosed lines number
IsMissing next lines refusal = ⊥

-- the first line with which no network goes on is blamed, or, where some network goes on with all lines, what is missing
abbrev pub IsBlamed : ℕ → List Line → NetRefusal → Type 0
IsBlamed next lines refusal = ((wrong : Line) × (first : IsFirstWrong lines wrong) × IsBlamedOn refusal first.before wrong) ⊎ (GoesOn lines × IsMissing next lines refusal)
