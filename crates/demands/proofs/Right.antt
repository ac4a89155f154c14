-- What a question's first checks find, in the words of the document's table.
use Rattle.std.proofs.Common.{Err, Ok}
use Prim.Native.Nat.{ℕ, ◌≤◌, ◌<◌}
use mathlib.Core.Path.{◌≡◌, refl, ap, ◌∙◌}
use mathlib.Core.List.{List}
use native.Mathlib.Nat.{lt_of_not-le}
use native.Mathlib.Decide.{dec_le, dec_lt}
use native.Mathlib.Omega.{arith}
use lib.ListN.{length}
use lib.Dec.{ltb}
use borrow.Author.Tests.{lt-ltb, le-ltb, le-leb, lt-leb}
use Rattle.refusals.specs.declared.Refusal.{Refusal}
use Rattle.refusals.specs.declared.Refusal.TheVariants.{CategoryOutside, StartOutside, EndOutside}
use Rattle.refusals.specs.Check.{Check, nothing_wrong}
use Rattle.refusals.specs.Row.{row_of}
use Rattle.checks.specs.declared.Asked.{Asked}
use Rattle.checks.specs.declared.Asked.TheVariants.{Nothing, Start, Span}
use Rattle.refusals.specs.Order.{and_then}
use Rattle.checks.specs.Question.{refuse_if, start_check, span_check, asked_check}
use Rattle.demands.specs.Question.{Query, chart, ends, marks, tree, forest, numbers}
use Rattle.demands.specs.TurnedDown.{RightNumber, FirstWrong, by}

-- what a question asks with
abbrev pub asked_of : Query → Asked
asked_of chart = Nothing
asked_of (ends A i) = Start A i
asked_of (marks row) = Nothing
asked_of (tree A i j row) = Span A i j
asked_of (forest rows) = Nothing

module _ (categories n : ℕ) where
  -- every number that a question asks with is right
  abbrev pub AllNumbers : Query → Type 0
  AllNumbers q = (k : ℕ) → k < length (numbers q) → RightNumber categories n (numbers q) k

  -- the check of a question's numbers finds the lowest place that is wrong, or nothing
  data NumbersOutcome (q : Query) : Check → Type 0 where
    wrong : {place : ℕ} {refusal : Refusal} → FirstWrong categories n (numbers q) place → row_of refusal ≡ by 8 place → NumbersOutcome q (Err refusal)
    right : AllNumbers q → NumbersOutcome q nothing_wrong

  ends_outcome : (A i : ℕ) → NumbersOutcome (ends A i) (start_check categories n A i)
  unfolding start_check
  ends_outcome A i = go (dec_lt A categories) (dec_le i n)
    where
      go : Dec (A < categories) → Dec (i ≤ n) → NumbersOutcome (ends A i) (start_check categories n A i)
      go (no a) d =
          rw (le-leb categories A (omega arith))
          (wrong {place = 0} {refusal = CategoryOutside} (record { inside = omega arith; wrong = λ r. a (r.category refl); lowest = λ k l. absurd (omega arith) }) refl)
      go (yes a) (no l) =
          rw (lt-leb categories A a, lt-ltb n i (lt_of_not-le l))
          (wrong {place = 1} {refusal = StartOutside}
          (record {
            inside = omega arith;
            wrong = λ r. l (r.start refl);
            lowest = λ k h. record { category = λ e. a; start = λ e. absurd (omega arith); end = λ e. absurd (omega arith) };
          })
          refl)
      go (yes a) (yes l) =
          rw (lt-leb categories A a, le-ltb n i l)
          (right (λ k h. record { category = λ e. a; start = λ e. l; end = λ e. absurd (omega arith) }))

  tree_outcome : (A i j : ℕ) (row : List ℕ) → NumbersOutcome (ends A i) (start_check categories n A i) → NumbersOutcome (tree A i j row) (span_check categories n A i j)
  unfolding span_check
  tree_outcome A i j row o = first (start_check categories n A i) o
    where
      -- the numbers up to a place that was found right are right for the tree too
      earlier : (k : ℕ) → k < 2 → RightNumber categories n (numbers (ends A i)) k → RightNumber categories n (numbers (tree A i j row)) k
      earlier k l r = record { category = r.category; start = r.start; end = λ e. absurd (omega arith) }

      second : AllNumbers (ends A i) → Dec (j ≤ n) → Dec (i ≤ j) → NumbersOutcome (tree A i j row) (and_then (refuse_if (ltb n j) EndOutside) (refuse_if (ltb j i) EndOutside))
      second all (no l) d =
          rw (lt-ltb n j (lt_of_not-le l))
          (wrong {place = 2} {refusal = EndOutside} (record { inside = omega arith; wrong = λ r. l (r.end refl).1; lowest = λ k h. earlier k h (all k h) }) refl)
      second all (yes l) (no u) =
          rw (le-ltb n j l, lt-ltb j i (lt_of_not-le u))
          (wrong {place = 2} {refusal = EndOutside} (record { inside = omega arith; wrong = λ r. u (r.end refl).0; lowest = λ k h. earlier k h (all k h) }) refl)
      second all (yes l) (yes u) =
          rw (le-ltb n j l, le-ltb j i u)
          (right (λ k h. record { category = λ e. (all 0 (omega arith)).category refl; start = λ e. (all 1 (omega arith)).start refl; end = λ e. (u, l) }))

      first : (c : Check) → NumbersOutcome (ends A i) c → NumbersOutcome (tree A i j row) (and_then c (and_then (refuse_if (ltb n j) EndOutside) (refuse_if (ltb j i) EndOutside)))
      first (Err refusal) (wrong {place = place} f e) =
          wrong {place = place}
          (record { inside = omega (arith, f.inside); wrong = λ r. f.wrong (record { category = r.category; start = r.start; end = λ e. absurd (omega (arith, f.inside)) }); lowest = λ k h. earlier k (omega (arith, f.inside)) (f.lowest k h) })
          e
      first (Ok u) (right all) = second all (dec_le j n) (dec_le i j)

  numbers_outcome : (q : Query) → NumbersOutcome q (asked_check categories n (asked_of q))
  numbers_outcome chart = right (λ k l. absurd (omega arith))
  numbers_outcome (ends A i) = ends_outcome A i
  numbers_outcome (marks row) = right (λ k l. absurd (omega arith))
  numbers_outcome (tree A i j row) = tree_outcome A i j row (ends_outcome A i)
  numbers_outcome (forest rows) = right (λ k l. absurd (omega arith))

  -- one place is the lowest that is wrong
  first_one : (asked : List ℕ) {k l : ℕ} → FirstWrong categories n asked k → FirstWrong categories n asked l → k ≡ l
  first_one asked {k} {l} f h = go (dec_lt k l) (dec_lt l k)
    where
      go : Dec (k < l) → Dec (l < k) → k ≡ l
      go (yes a) d = absurd (f.wrong (h.lowest k a))
      go (no a) (yes b) = absurd (h.wrong (f.lowest l b))
      go (no a) (no b) = omega arith

  pub numbers_wrong : (q : Query) {place : ℕ} → FirstWrong categories n (numbers q) place → (refusal : Refusal) × (asked_check categories n (asked_of q) ≡ Err refusal) × (row_of refusal ≡ by 8 place)
  numbers_wrong q {place} f = go (asked_check categories n (asked_of q)) (numbers_outcome q)
    where
      go : (c : Check) → NumbersOutcome q c → (refusal : Refusal) × (c ≡ Err refusal) × (row_of refusal ≡ by 8 place)
      go (Err refusal) (wrong h e) = (refusal, refl, e ∙ ap (by 8) (first_one (numbers q) h f))
      go (Ok u) (right all) = absurd (f.wrong (all place f.inside))

  pub numbers_right : (q : Query) → AllNumbers q → asked_check categories n (asked_of q) ≡ nothing_wrong
  numbers_right q all = go (asked_check categories n (asked_of q)) (numbers_outcome q)
    where
      go : (c : Check) → NumbersOutcome q c → c ≡ nothing_wrong
      go (Err refusal) (wrong f e) = absurd (f.wrong (all _ f.inside))
      go (Ok u) (right h) = refl

  pub right_numbers : (q : Query) → asked_check categories n (asked_of q) ≡ nothing_wrong → AllNumbers q
  right_numbers q e = go (rw e at (numbers_outcome q))
    where
      go : NumbersOutcome q nothing_wrong → AllNumbers q
      go (right all) = all

  pub wrong_numbers : (q : Query) (refusal : Refusal) → asked_check categories n (asked_of q) ≡ Err refusal → (place : ℕ) × FirstWrong categories n (numbers q) place × (row_of refusal ≡ by 8 place)
  wrong_numbers q refusal e = go (rw e at (numbers_outcome q))
    where
      go : NumbersOutcome q (Err refusal) → (place : ℕ) × FirstWrong categories n (numbers q) place × (row_of refusal ≡ by 8 place)
      go (wrong {place = place} f h) = (place, f, h)
