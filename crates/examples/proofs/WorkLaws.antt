-- Work memory that passes the test is filled.
use Prim.Native.Nat.{ℕ, suc, ◌+◌, ◌-◌, ◌*◌, ◌^◌, ◌≤◌, ◌<◌, suc-le-suc}
use mathlib.Core.Path.{◌≡◌, refl, sym, ◌∙◌}
use mathlib.Core.Logic.{◌↔◌}
use mathlib.Core.Bool.{Bool, true, false, cond, true≢false}
use mathlib.Core.List.{List}
use native.Mathlib.Decide.{dec_lt}
use native.Mathlib.Omega.{arith}
use lib.ListN.{length, get_or, drop, get_or-append}
use lib.Seq.{length_front, length-take-le, get_or-append-add, get_or-drop}
use lib.Dec.{eqb, ltb}
use borrow.Author.Tests.{eqb-true, ltb-true}
use Rattle.positions.specs.Member.{digit, Member}
use Rattle.positions.proofs.Digits.{digit_above}
use Rattle.derivation.specs.Bound.{rounds_bound}
use Rattle.derivation.specs.Grammar.{Grammar, Proper}
use Rattle.derivation.specs.Fact.{Fact}
use Rattle.derivation.specs.computed.Listing.{listed}
use Rattle.derivation.specs.computed.Table.{Table, entry, is_found, depths, depth_of}
use Rattle.derivation.proofs.Tests.{and_parts}
use Rattle.derivation.proofs.Within.{tree_inside}
use Rattle.derivation.proofs.Table.{at_listed, depth_of_is}
use Rattle.derivation.proofs.Secret.{found_fact, fact_found}
use Rattle.checks.specs.Memory.{chart_size, depths_size}
use Rattle.grammar.specs.Given.{grammar_given}
use Rattle.filling.specs.Filled.{WorkFilled}
use Rattle.filling.proofs.RowLaws.{row_inside}
use Rattle.marks.proofs.Unique.{length_listed}
use Rattle.examples.specs.Entry.{Graded, holding}
use Rattle.examples.specs.Memory.{word_at, number_at, overwritten, Lent, words_after, depths_after}
use Rattle.examples.proofs.Test.{every, place_test, row_test, work_test}
use Rattle.examples.proofs.TestLaws.{every_each}

-- a row that begins with what is written: as long as it was, and past what is written as it was
module _ (new row : List ℕ) where
  pub written_long : length new ≤ length row → length (overwritten new row) ≡ length row
  written_long room = length_front row new (length new) (sym (length-take-le (length new) row room))

  pub written_at : (q : ℕ) → q < length new → get_or (overwritten new row) q 0 ≡ get_or new q 0
  written_at q l = get_or-append new (drop (length new) row) 0 q l

  pub written_past : (q : ℕ) → length new ≤ q → get_or (overwritten new row) q 0 ≡ get_or row q 0
  written_past q l =
      let z : q ≡ length new + (q - length new) = omega arith in
      rw z (get_or-append-add new (drop (length new) row) (q - length new) 0 ∙ get_or-drop (length new) row (q - length new) 0)

-- a row that begins with the values of f
module _ (f : ℕ → ℕ) (n : ℕ) (row : List ℕ) where
  pub listed_long : n ≤ length row → length (overwritten (listed f 0 n) row) ≡ length row
  listed_long room = written_long (listed f 0 n) row (rw (length_listed f 0 n) room)

  pub listed_at : (q : ℕ) → q < n → get_or (overwritten (listed f 0 n) row) q 0 ≡ f q
  listed_at q l = written_at (listed f 0 n) row q (rw (length_listed f 0 n) l) ∙ at_listed f 0 n q l

  pub listed_past : (q : ℕ) → n ≤ q → get_or (overwritten (listed f 0 n) row) q 0 ≡ get_or row q 0
  listed_past q l = written_past (listed f 0 n) row q (rw (length_listed f 0 n) l)

-- a digit that tells the truth of a test
member_test : (x j : ℕ) (b : Bool) → digit x j ≡ cond b 1 0 → Member x j ↔ (b ≡ true)
member_test x j true e = (λ m. refl, λ t. e)
member_test x j false e = (λ m. absurd (omega arith), λ t. absurd (true≢false (sym t)))

module _ (g line : List ℕ) (proper : Proper (grammar_given g)) (facts : List Graded) (ok : work_test g line facts ≡ true) where
  abbrev G : Grammar
  G = grammar_given g

  abbrev width : ℕ
  width = length line + 1

  -- the word of (A, i)
  abbrev word : ℕ → ℕ → ℕ
  word A i = word_at facts width (A * width + i)

  abbrev computed : Table
  computed = depths G line (rounds_bound G line)

  module _ (A i : ℕ) (a : A < length G.categories) (l : i ≤ length line) where
    row_passes : (word A i < 2 ^ suc (length line)) × (every (place_test g line facts computed A i) (suc (length line)) ≡ true)
    unfolding work_test row_test
    row_passes =
        let rows = every_each _ _ A ok a in
        let p = and_parts (ltb (word A i) (2 ^ suc (length line))) (every (place_test g line facts computed A i) (suc (length line))) (every_each _ _ i rows (suc-le-suc l)) in
        (ltb-true (word A i) (2 ^ suc (length line)) p.0, p.1)

    place_passes : (j : ℕ) → j ≤ length line →
        (digit (word A i) j ≡ cond (is_found (depth_of G line A i j)) 1 0) × (number_at facts width ((A * width + i) * width + j) ≡ depth_of G line A i j)
    unfolding place_test depth_of
    place_passes j k =
        let p = and_parts (eqb (digit (word A i) j) (cond (is_found (entry computed A i j)) 1 0)) (eqb (number_at facts width ((A * width + i) * width + j)) (entry computed A i j)) (every_each _ _ j row_passes.1 (suc-le-suc k)) in
        (eqb-true _ _ p.0, eqb-true _ _ p.1)

    -- its bits are set exactly for the facts
    pub word_shows : (j : ℕ) → Member (word A i) j ↔ Fact G line A i j
    word_shows j = go (dec_lt (length line) j)
      where
        go : Dec (length line < j) → Member (word A i) j ↔ Fact G line A i j
        go (yes k) =
            (λ m. absurd (omega (arith, digit_above (word A i) (suc (length line)) j row_passes.0 k)), λ t. absurd (omega (arith, (tree_inside t).ends)))
        go (no k) =
            let is = depth_of_is G line proper A i j in
            let m = member_test (word A i) j (is_found (depth_of G line A i j)) (place_passes j (omega arith)).0 in
            (λ x. found_fact is (m.0 x), λ t. m.1 (fact_found is t))

  -- the memory that these facts mean, over any old contents
  pub work_filled : (words depths : List ℕ) → Lent g line words depths →
      WorkFilled G line words depths (words_after g line (holding facts) words) (depths_after g line (holding facts) depths)
  work_filled words depths lent =
      let size = chart_size (length G.categories) (length line) in
      let size' = depths_size (length G.categories) (length line) in
      record {
        words_long = listed_long (word_at facts width) size words lent.words_enough;
        word = λ A i a l j. rw (listed_at (word_at facts width) size words (A * width + i) (row_inside A (length G.categories) width i a (omega arith))) (word_shows A i a l j);
        words_past = listed_past (word_at facts width) size words;
        depths_long = listed_long (number_at facts width) size' depths lent.depths_enough;
        depth = λ A i j a l k.
            let row = row_inside A (length G.categories) width i a (omega arith) in
            rw (listed_at (number_at facts width) size' depths ((A * width + i) * width + j) (row_inside (A * width + i) size width j row (omega arith)), (place_passes A i a l j k).1) (depth_of_is G line proper A i j);
        depths_past = listed_past (number_at facts width) size' depths;
      }
