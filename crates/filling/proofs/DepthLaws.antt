-- The depths of a set's members, written one member at a time, and what they are among all depths, where they are those of a row.
use mathlib.Core.Path.{◌≡◌, refl, sym, ap, ◌∙◌}
use mathlib.Core.List.{List, ◌++◌, append-nil}
use Prim.Native.Nat.{ℕ, ◌+◌, ◌-◌, ◌≤◌, ◌<◌}
use native.Mathlib.Decide.{ℕ_discrete, dec_lt}
use native.Mathlib.Omega.{arith}
use lib.Bits.{bit_and}
use lib.ListN.{length, get_or, set, take, drop, get_or-append, length-append, length-drop, length-set}
use lib.Seq.{drop_at, get_or-drop, get_or-set_same, get_or-set_other, get_or-take, length-take-le, take_all}
use borrow.Rule.Slice.PartMut.{put_mid, mid_of}
use Rattle.std.proofs.lemmas.List.{drop_all}
use Rattle.positions.specs.Member.{Member}
use Rattle.positions.proofs.Members.{none_member}
use Rattle.positions.proofs.Taking.{Taken}
use Rattle.filling.specs.inner.Commit.{Deepened}

module _ (depth : ℕ) where
  -- of no member
  pub deepened_none : (table : List ℕ) → Deepened 0 depth table table
  deepened_none table = record { long = refl; hit = λ j m. absurd (none_member j m); miss = λ q n. refl }

  -- the entry of the first member j, and then those of the set without it
  pub deepened_less : (j members : ℕ) → Taken members j → (old new : List ℕ) → j < length old →
      Deepened (bit_and members (members - 1)) depth (set old j depth) new → Deepened members depth old new
  deepened_less j members t old new h d = record {
    long = d.long ∙ length-set old j depth;
    hit = λ i k. at i k (ℕ_discrete i j);
    miss = λ q n. d.miss q (λ k. n ((t.rest q).0 k).0) ∙ get_or-set_other old j q depth 0 (λ e. n (rw e t.here));
  }
    where
      own : get_or new j 0 ≡ depth
      own = d.miss j (λ k. ((t.rest j).0 k).1 refl) ∙ get_or-set_same old j depth 0 h

      at : (i : ℕ) → Member members i → Dec (i ≡ j) → get_or new i 0 ≡ depth
      at i k (yes e) = rw e own
      at i k (no n) = d.hit i ((t.rest i).1 (k, n))

module _ (row : ℕ) (old : List ℕ) where
  -- the depths from the row on
  lent_is : mid_of row (length old - row) old ≡ drop row old
  lent_is = take_all (length old - row) (drop row old) (omega (arith, length-drop row old))

  pub lent_long : length (mid_of row (length old - row) old) ≡ length old - row
  lent_long = ap (λ (s : List ℕ). length s) lent_is ∙ length-drop row old

  -- all depths, where those from the row on are `part`
  abbrev pub with_row : List ℕ → List ℕ
  with_row part = put_mid row (length old - row) old part

  module _ (fits : row ≤ length old) (set depth : ℕ) (part : List ℕ) (d : Deepened set depth (mid_of row (length old - row) old) part) where
    -- those before the row, and then the part
    is : with_row part ≡ take row old ++ part
    is = ap (λ (s : List ℕ). take row old ++ s) (ap (λ (s : List ℕ). part ++ s) (drop_all (length old - row) (drop row old) (omega (arith, length-drop row old))) ∙ append-nil part)

    from_row : (j : ℕ) → get_or (with_row part) (row + j) 0 ≡ get_or part j 0
    from_row j = sym (get_or-drop row (with_row part) j 0) ∙ ap (λ (s : List ℕ). get_or s j 0) (ap (drop row) is ∙ drop_at (take row old) part row (length-take-le row old fits))

    pub row_long : length (with_row part) ≡ length old
    row_long = omega (arith, ap (λ (s : List ℕ). length s) is, length-append (take row old) part, length-take-le row old fits, d.long, lent_long)

    -- the row's entries of the set's members are the depth
    pub row_hit : (j : ℕ) → Member set j → get_or (with_row part) (row + j) 0 ≡ depth
    row_hit j m = from_row j ∙ d.hit j m

    -- all else is as it was
    pub row_miss : (e : ℕ) → ((j : ℕ) → Member set j → e ≡ row + j → ⊥) → get_or (with_row part) e 0 ≡ get_or old e 0
    row_miss e n = at (dec_lt e row)
      where
        at : Dec (e < row) → get_or (with_row part) e 0 ≡ get_or old e 0
        at (yes l) = ap (λ (s : List ℕ). get_or s e 0) is ∙ get_or-append (take row old) part 0 e (omega (arith, length-take-le row old fits)) ∙ get_or-take row old e 0 l
        at (no l) =
            let k = e - row in
            let at_k : e ≡ row + k = omega arith in
            rw at_k (from_row k ∙ d.miss k (λ m. n k m at_k) ∙ ap (λ (s : List ℕ). get_or s k 0) lent_is ∙ get_or-drop row old k 0)
