-- Work memory that is large enough can be filled: words and depths that hold the chart of a line exist.
use Prim.Native.Nat.{ℕ, zero, suc, ◌+◌, ◌*◌, ◌/◌, ◌%◌, ◌^◌, ◌≤◌, ◌<◌}
use mathlib.Core.Path.{◌≡◌, refl, sym, ◌∙◌}
use mathlib.Core.Logic.{◌↔◌, ◌⊎◌, inl, inr}
use mathlib.Core.Bool.{Bool, true, false, cond, true≢false}
use mathlib.Core.List.{List}
use native.Mathlib.Nat.{div-add-mod', mod-lt}
use native.Mathlib.Decide.{dec_lt}
use native.Mathlib.Omega.{arith}
use lib.ListN.{length}
use lib.Bits.{bit_or}
use Rattle.positions.specs.Member.{Member}
use Rattle.positions.proofs.Members.{none_member, one_member, or_member}
use Rattle.derivation.specs.Grammar.{Grammar, Proper}
use Rattle.derivation.specs.Fact.{Fact}
use Rattle.derivation.specs.computed.Listing.{listed}
use Rattle.derivation.specs.computed.Table.{depth_of}
use Rattle.derivation.specs.computed.Facts.{facts}
use Rattle.derivation.proofs.Facts.{facts_exact}
use Rattle.derivation.proofs.Table.{depth_of_is}
use Rattle.derivation.proofs.Within.{tree_inside}
use Rattle.checks.specs.Memory.{chart_size, depths_size}
use Rattle.filling.specs.Filled.{WorkFilled}
use Rattle.filling.proofs.RowLaws.{row_inside, row_one}
use Rattle.examples.specs.Memory.{overwritten}
use Rattle.examples.proofs.WorkLaws.{listed_long, listed_at, listed_past}

-- the word whose bits below n are those that pass a test
module _ (test : ℕ → Bool) where
  unfoldable packed : ℕ → ℕ
  packed zero = 0
  packed (suc n) = bit_or (packed n) (cond (test n) (2 ^ n) 0)

  bit_member : (n : ℕ) (b : Bool) → test n ≡ b → (j : ℕ) → Member (cond b (2 ^ n) 0) j ↔ ((j ≡ n) × (test n ≡ true))
  bit_member n true e j = (λ m. ((one_member n j).0 m, e), λ h. (one_member n j).1 h.0)
  bit_member n false e j = (λ m. absurd (none_member j m), λ h. absurd (true≢false (sym h.1 ∙ e)))

  packed_member : (n j : ℕ) → Member (packed n) j ↔ ((j < n) × (test j ≡ true))
  unfolding packed
  packed_member zero j = (λ m. absurd (none_member j m), λ h. absurd (omega arith))
  packed_member (suc n) j =
      let ih = packed_member n j in
      let top = bit_member n (test n) refl j in
      (λ m. both ih top ((or_member (packed n) (cond (test n) (2 ^ n) 0) j).0 m), λ h. (or_member (packed n) (cond (test n) (2 ^ n) 0) j).1 (one ih top (dec_lt j n) h))
    where
      both : Member (packed n) j ↔ ((j < n) × (test j ≡ true)) → Member (cond (test n) (2 ^ n) 0) j ↔ ((j ≡ n) × (test n ≡ true)) →
          Member (packed n) j ⊎ Member (cond (test n) (2 ^ n) 0) j → (j < suc n) × (test j ≡ true)
      both ih top (inl m) = let h = ih.0 m in (omega arith, h.1)
      both ih top (inr m) = let h = top.0 m in (omega arith, rw h.0 h.1)

      one : Member (packed n) j ↔ ((j < n) × (test j ≡ true)) → Member (cond (test n) (2 ^ n) 0) j ↔ ((j ≡ n) × (test n ≡ true)) →
          Dec (j < n) → (j < suc n) × (test j ≡ true) → Member (packed n) j ⊎ Member (cond (test n) (2 ^ n) 0) j
      one ih top (yes l) h = inl (ih.1 (l, h.1))
      one ih top (no l) h = let e : j ≡ n = omega arith in inr (top.1 (e, rw e at h.1))

-- a place among rows is found again by division
module _ (a width i : ℕ) (l : i < width) where
  found_again : ((a * width + i) / width ≡ a) × ((a * width + i) % width ≡ i)
  found_again = row_one ((a * width + i) / width) a width ((a * width + i) % width) i (mod-lt (a * width + i) (omega arith)) l (div-add-mod' (a * width + i) width)

module _ (G : Grammar) (line words depths : List ℕ) (proper : Proper G) where
  abbrev width : ℕ
  width = length line + 1

  -- the word of (A, i), at the place A×(n+1)+i
  abbrev word_for : ℕ → ℕ
  word_for q = packed (facts G line (q / width) (q % width)) width

  -- the depth of (A, i, j), at the place (A×(n+1)+i)×(n+1)+j
  abbrev depth_for : ℕ → ℕ
  depth_for q = depth_of G line (q / width / width) (q / width % width) (q % width)

  word_for_lem : (A i : ℕ) → i ≤ length line → (j : ℕ) → Member (word_for (A * width + i)) j ↔ Fact G line A i j
  word_for_lem A i l j =
      let p = found_again A width i (omega arith) in
      let is = packed_member (facts G line A i) width j in
      let e = facts_exact G line proper A i j in
      rw (p.0, p.1) (λ m. e.0 (is.0 m).1, λ t. is.1 (omega (arith, (tree_inside t).ends), e.1 t))

  pub filled_exists : chart_size (length G.categories) (length line) ≤ length words → depths_size (length G.categories) (length line) ≤ length depths →
      (words' : List ℕ) × (depths' : List ℕ) × WorkFilled G line words depths words' depths'
  filled_exists w d =
      let size = chart_size (length G.categories) (length line) in
      let size' = depths_size (length G.categories) (length line) in (
        overwritten (listed word_for 0 size) words,
        overwritten (listed depth_for 0 size') depths,
        record {
          words_long = listed_long word_for size words w;
          word = λ A i a l j. rw (listed_at word_for size words (A * width + i) (row_inside A (length G.categories) width i a (omega arith))) (word_for_lem A i l j);
          words_past = listed_past word_for size words;
          depths_long = listed_long depth_for size' depths d;
          depth = λ A i j a l k.
              let row = row_inside A (length G.categories) width i a (omega arith) in
              let p = found_again (A * width + i) width j (omega arith) in
              let r = found_again A width i (omega arith) in
              rw (listed_at depth_for size' depths ((A * width + i) * width + j) (row_inside (A * width + i) size width j row (omega arith)), p.0, p.1, r.0, r.1) (depth_of_is G line proper A i j);
          depths_past = listed_past depth_for size' depths;
        },
      )
