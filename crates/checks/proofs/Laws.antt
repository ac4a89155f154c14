-- Laws of the checks of line, question and memory.
use Rattle.std.proofs.Common.{Err, Ok}
use Prim.Native.Nat.{ℕ, zero, suc, ◌+◌, ◌-◌, ◌≤◌, ◌<◌}
use mathlib.Core.Path.{◌≡◌, refl, ap, ◌∙◌}
use mathlib.Core.Logic.{◌↔◌}
use mathlib.Core.Bool.{Bool, true, false, cond}
use mathlib.Core.List.{List, []}
use native.Mathlib.Nat.{mul-le-mul, lt_of_not-le}
use native.Mathlib.Decide.{dec_le, dec_lt}
use native.Mathlib.Omega.{arith}
use lib.ListN.{length, get_or}
use lib.Dec.{ltb, leb}
use borrow.Author.Count.{below_more}
use borrow.Author.Tests.{lt-ltb, le-ltb, ltb-true, ltb-false, leb-false}
use Rattle.refusals.specs.declared.Refusal.{Refusal}
use Rattle.refusals.specs.declared.Refusal.TheVariants.{LineTooLong, TokenNoClass, CategoryOutside, StartOutside, EndOutside, ChartTooSmall, DepthsTooSmall}
use Rattle.refusals.specs.Check.{Check, nothing_wrong}
use Rattle.refusals.specs.Order.{and_then, Checks, early, late, reported}
use Rattle.refusals.specs.Told.{Told, answered, refused, check_told}
use Rattle.checks.specs.Line.{IsLine, FirstNoClass, LineOutcome, too_long, bad_token, is_line, tokens_from, line_check}
use Rattle.checks.specs.Question.{refuse_if, start_check, span_check}
use Rattle.checks.specs.Memory.{chart_size, depths_size, chart_check, depths_check, work_check}

-- the sizes of the work memory are small
pub chart_small : (categories n : ℕ) → categories ≤ 32 → n ≤ 63 → chart_size categories n ≤ 2048
chart_small categories n c l = mul-le-mul {n₂ = 32} {m₂ = 64} c (omega arith)

pub depths_small : (categories n : ℕ) → categories ≤ 32 → n ≤ 63 → depths_size categories n ≤ 131072
depths_small categories n c l = mul-le-mul {n₂ = 2048} {m₂ = 64} (chart_small categories n c l) (omega arith)

-- a lent row is refused where it is shorter than its size, and else passes
module _ (size lent : ℕ) (refusal : Refusal) where
  pub too_small : lent < size → refuse_if (ltb lent size) refusal ≡ Err refusal
  too_small h = rw (lt-ltb lent size h)

  pub large_enough : size ≤ lent → refuse_if (ltb lent size) refusal ≡ nothing_wrong
  large_enough h = rw (le-ltb lent size h)

-- two checks pass where each does
pub both_passed : (a b : Check) → and_then a b ≡ nothing_wrong → (a ≡ nothing_wrong) × (b ≡ nothing_wrong)
both_passed (Ok u) b e = (refl, e)
both_passed (Err refusal) b e = cc

pub reported_passed : (c : Checks) → reported c ≡ nothing_wrong → (early c ≡ nothing_wrong) × (late c ≡ nothing_wrong)
reported_passed c e = both_passed (early c) (late c) e

-- a check finds one thing
pub one_refusal : {c : Check} {r s : Refusal} → c ≡ Err r → c ≡ Err s → r ≡ s
one_refusal p q = cc

pub not_both : {c : Check} {r : Refusal} → c ≡ Err r → c ≡ nothing_wrong → ⊥
not_both p q = cc

-- a check that tells no refusal passes
told_passed : (c : Check) → check_told c ≡ answered [] → c ≡ nothing_wrong
told_passed (Ok u) e = refl
told_passed (Err refusal) e = cc

-- a check that passes has no fault
pub no_fault : (fault : Bool) (refusal : Refusal) → refuse_if fault refusal ≡ nothing_wrong → fault ≡ false
no_fault false refusal e = refl
no_fault true refusal e = cc

-- a category and a start that pass are of the grammar and of the line
pub start_passed : (categories n A i : ℕ) → start_check categories n A i ≡ nothing_wrong → (A < categories) × (i ≤ n)
unfolding start_check
start_passed categories n A i e =
    let p = both_passed (refuse_if (leb categories A) CategoryOutside) (refuse_if (ltb n i) StartOutside) e in
    (leb-false _ _ (no_fault (leb categories A) CategoryOutside p.0), ltb-false _ _ (no_fault (ltb n i) StartOutside p.1))

-- and so are a category and a span
pub span_passed : (categories n A i j : ℕ) → span_check categories n A i j ≡ nothing_wrong → (A < categories) × (i ≤ n) × (j ≤ n)
unfolding span_check
span_passed categories n A i j e =
    let p = both_passed (start_check categories n A i) _ e in
    let q = both_passed (refuse_if (ltb n j) EndOutside) (refuse_if (ltb j i) EndOutside) p.1 in
    let s = start_passed categories n A i p.0 in
    (s.0, s.1, ltb-false n j (no_fault (ltb n j) EndOutside q.0))

-- memory that passes is large enough
pub work_passed : (categories n words numbers : ℕ) → work_check categories n words numbers ≡ nothing_wrong → (chart_size categories n ≤ words) × (depths_size categories n ≤ numbers)
work_passed categories n words numbers e =
    let p = both_passed (chart_check categories n words) (depths_check categories n numbers) e in
    (ltb-false _ _ (no_fault _ ChartTooSmall p.0), ltb-false _ _ (no_fault _ DepthsTooSmall p.1))

module _ (classes : ℕ) (line : List ℕ) where
  tokens_step : (t : ℕ) → t < length line → tokens_from classes line (length line - t) t ≡ cond (ltb (get_or line t 0) classes) (tokens_from classes line (length line - (t + 1)) (t + 1)) (Err (TokenNoClass t))
  unfolding tokens_from
  tokens_step t h = let z : length line - t ≡ suc (length line - (t + 1)) = omega arith in ap (λ (k : ℕ). tokens_from classes line k t) z

  -- a turn of the check: no token is left, this one is no class, or it is one
  pub tokens_none : (t : ℕ) → length line ≤ t → tokens_from classes line (length line - t) t ≡ nothing_wrong
  unfolding tokens_from
  tokens_none t h = let z : length line - t ≡ 0 = omega arith in rw z

  pub tokens_bad : (t : ℕ) → t < length line → classes ≤ get_or line t 0 → tokens_from classes line (length line - t) t ≡ Err (TokenNoClass t)
  tokens_bad t h l = tokens_step t h ∙ rw (le-ltb (get_or line t 0) classes l)

  pub tokens_more : (t : ℕ) → t < length line → get_or line t 0 < classes → tokens_from classes line (length line - t) t ≡ tokens_from classes line (length line - (t + 1)) (t + 1)
  tokens_more t h l = tokens_step t h ∙ rw (lt-ltb (get_or line t 0) classes l)

  -- the whole check
  pub line_long : 63 < length line → line_check classes line ≡ Err LineTooLong
  unfolding line_check
  line_long h = rw (lt-ltb 63 (length line) h)

  pub line_short : length line ≤ 63 → line_check classes line ≡ tokens_from classes line (length line - 0) 0
  unfolding line_check
  line_short h = let z : length line - 0 ≡ length line = omega arith in rw (le-ltb 63 (length line) h, z)

  first_one : (t u : ℕ) → FirstNoClass classes line t → FirstNoClass classes line u → t ≡ u
  first_one t u x y = go (dec_lt t u) (dec_lt u t)
    where
      go : Dec (t < u) → Dec (u < t) → t ≡ u
      go (yes l) d = absurd (omega (arith, x.no_class, y.first t l))
      go (no l) (yes m) = absurd (omega (arith, y.no_class, x.first u m))
      go (no l) (no m) = omega (arith, lt_of_not-le l, lt_of_not-le m)

  -- the check tells what `LineOutcome` says
  tokens_outcome :
      (left t : ℕ) → t + left ≡ length line → length line ≤ 63 → ((k : ℕ) → k < t → get_or line k 0 < classes) → LineOutcome classes line (check_told (tokens_from classes line left t))
  unfolding tokens_from
  tokens_outcome zero t e short good = is_line (record { short = short; tokens = λ k h. good k (omega arith) })
  tokens_outcome (suc left) t e short good = go (ltb (get_or line t 0) classes) refl (λ more. tokens_outcome left (t + 1) (omega arith) short more)
    where
      Next : Type 0
      Next = ((k : ℕ) → k < t + 1 → get_or line k 0 < classes) → LineOutcome classes line (check_told (tokens_from classes line left (t + 1)))

      go : (ok : Bool) → ltb (get_or line t 0) classes ≡ ok → Next → LineOutcome classes line (check_told (cond (ltb (get_or line t 0) classes) (tokens_from classes line left (t + 1)) (Err (TokenNoClass t))))
      go true q next = rw q (next (below_more (λ k. get_or line k 0 < classes) t good (ltb-true (get_or line t 0) classes q)))
      go false q next = rw q (bad_token {t = t} short (record { inside = omega arith; no_class = ltb-false (get_or line t 0) classes q; first = good }))

  pub line_outcome : LineOutcome classes line (check_told (line_check classes line))
  line_outcome = go (dec_le (length line) 63)
    where
      go : Dec (length line ≤ 63) → LineOutcome classes line (check_told (line_check classes line))
      go (yes h) = rw (line_short h) (tokens_outcome (length line - 0) 0 (omega arith) h (λ k l. absurd (omega arith)))
      go (no h) = let l = lt_of_not-le h in rw (line_long l) (too_long l)

  -- and nothing else
  pub outcome_unique : {a b : Told} → LineOutcome classes line a → LineOutcome classes line b → a ≡ b
  outcome_unique (too_long h) (too_long k) = refl
  outcome_unique (too_long h) (bad_token k y) = absurd (omega arith)
  outcome_unique (too_long h) (is_line y) = absurd (omega (arith, y.short))
  outcome_unique (bad_token h x) (too_long k) = absurd (omega arith)
  outcome_unique (bad_token {t = t} h x) (bad_token {t = u} k y) = ap (λ (t : ℕ). refused (record { number = 7; place = t })) (first_one t u x y)
  outcome_unique (bad_token h x) (is_line y) = absurd (omega (arith, x.no_class, y.tokens _ x.inside))
  outcome_unique (is_line x) (too_long k) = absurd (omega (arith, x.short))
  outcome_unique (is_line x) (bad_token k y) = absurd (omega (arith, y.no_class, x.tokens _ y.inside))
  outcome_unique (is_line x) (is_line y) = refl

  pub line_passed : (line_check classes line ≡ nothing_wrong) ↔ IsLine classes line
  line_passed = (λ e. passed (rw e at line_outcome), λ l. told_passed (line_check classes line) (outcome_unique line_outcome (is_line l)))
    where
      passed : LineOutcome classes line (answered []) → IsLine classes line
      passed (is_line l) = l

-- the turns of the check of a line
pub ruleset line_laws = (line_long, line_short, tokens_none, tokens_bad, tokens_more)
