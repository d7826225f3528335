-- Arithmetic of costs: a bound for each time that something waits, and one to begin with.
use Rattle.std.proofs.Common.{◌≡◌, ℕ, suc, ◌+◌, ◌*◌, ◌≤◌, ap, arith, add-mul, mul-add, mul-one, one-mul, suc-mul, two-mul, mul-le-mul_left, mul-le-mul_right}

-- the bound of something that costs so much for each time that it waits, where so many values were read
abbrev pub within_cost : ℕ → ℕ → ℕ
within_cost each read = each + read * each

pub costs_add : (one other read more : ℕ) → within_cost one read + within_cost other more ≤ within_cost (one + other) (read + more)
costs_add one other read more =
    omega (arith, add-mul read more (one + other), mul-add read one other, mul-add more one other)

pub cost_before : (one other read : ℕ) → within_cost one read ≤ within_cost (one + other) read
cost_before one other read = omega (arith, mul-add read one other)

pub cost_behind : (one other read : ℕ) → within_cost other read ≤ within_cost (one + other) read
cost_behind one other read = omega (arith, mul-add read one other)

-- one step more
pub one_step : (each read : ℕ) → 1 + within_cost each read ≤ within_cost (1 + each) read
one_step each read = omega (arith, mul-add read 1 each)

-- a loop each turn of which reads, before the first test, and behind it
abbrev pub turns_cost : ℕ → ℕ → ℕ
turns_cost body read = body + read * (1 + (body + body))

pub turn_fits : (body read more : ℕ) → 1 ≤ read → within_cost body read + (1 + turns_cost body more) ≤ turns_cost body (read + more)
turn_fits body read more some =
    omega (arith, add-mul read more (1 + (body + body)), mul-add read 1 (body + body), mul-add read body body, mul-le-mul_right {m = 1} {n = read} body some, one-mul body, mul-one read)

pub turn_waits : (body read : ℕ) → within_cost body read ≤ turns_cost body read
turn_waits body read = omega (arith, mul-add read 1 (body + body), mul-add read body body)

pub while_fits : (body read : ℕ) → 1 + turns_cost body read ≤ within_cost (2 + 2 * body) read
while_fits body read = omega (arith, mul-add read 1 (body + body), mul-add read 2 (2 * body), mul-add read body body, ap (λ n. read * n) (twice body), two-mul read)
  where
    twice : (n : ℕ) → 2 * n ≡ n + n
    twice n = omega arith

-- a loop of at most so many turns
abbrev pub count_cost : ℕ → ℕ → ℕ → ℕ
count_cost body turns read = turns + (turns * body + read * body)

pub count_fits : (body turns read more : ℕ) → within_cost body read + (1 + count_cost body turns more) ≤ count_cost body (suc turns) (read + more)
count_fits body turns read more = omega (arith, add-mul read more body, suc-mul turns body)

pub count_waits : (body turns read : ℕ) → within_cost body read ≤ count_cost body (suc turns) read
count_waits body turns read = omega (arith, suc-mul turns body)

pub whole_count_fits : (body read : ℕ) → 1 + count_cost body 999 read ≤ within_cost (1 + 999 * (1 + body)) read
whole_count_fits body read =
    omega (arith, mul-add read 1 (999 * (1 + body)), mul-le-mul_left {m = body} {n = 999 * (1 + body)} read (omega arith), mul-add 999 1 body)
