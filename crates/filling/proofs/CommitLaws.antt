-- The end of a round, one range of rows after the other.
use mathlib.Core.Path.{◌≡◌, refl, sym, ap, subst, ◌∙◌}
use mathlib.Core.Logic.{◌⊎◌, inl, inr, ⊎_elim, ◌↔◌}
use mathlib.Core.Bool.{Bool, true, false, false≢true}
use mathlib.Core.List.{List}
use Prim.Native.Nat.{ℕ, ◌+◌, ◌-◌, ◌*◌, ◌≤◌, ◌<◌, zero-le, max}
use native.Mathlib.Nat.{mul-le-mul_right, zero-mul, suc-mul}
use native.Mathlib.Numerals.{add-one}
use native.Mathlib.Decide.{dec_lt}
use native.Mathlib.Omega.{arith}
use lib.Bits.{bit_xor}
use lib.ListN.{length, get_or, set, length-set}
use lib.Seq.{get_or-set_same, get_or-set_other}
use borrow.Rule.Slice.PartMut.{mid_of}
use Rattle.positions.specs.Member.{Member}
use Rattle.positions.proofs.Members.{none_member, xor_member, xor_some}
use Rattle.filling.specs.inner.Commit.{New, Deepened, Committed, SomeNew, Ready}
use Rattle.filling.specs.inner.Gained.{RowsCommitted, AllCommitted}
use Rattle.filling.proofs.DepthLaws.{with_row, row_long, row_hit, row_miss}
use Rattle.filling.proofs.RowLaws.{row_one}

-- a row whose words are equal has the same new ends
new_same : {words words' next : List ℕ} (q j : ℕ) → get_or words' q 0 ≡ get_or words q 0 → New words next q j → New words' next q j
new_same q j e n = record { found = n.found; fresh = λ m. n.fresh (rw e at m) }

-- what is ready is so for fewer rows
pub ready_fewer : (to less width : ℕ) → less ≤ to → (words next depths : List ℕ) → Ready to width words next depths → Ready less width words next depths
ready_fewer to less width l words next depths r = record {
  words_room = omega (arith, r.words_room);
  next_room = omega (arith, r.next_room);
  depths_room = omega (arith, r.depths_room, mul-le-mul_right width l);
  narrow = λ q j h. r.narrow q j (omega arith);
  grows = λ q j h. r.grows q j (omega arith);
}

-- a row begins within the depths
pub row_room : {to width : ℕ} {words next depths : List ℕ} → Ready to width words next depths → {q : ℕ} → q < to → q * width ≤ length depths
row_room {to} {width} r {q} h = let fewer : q ≤ to = omega arith in omega (arith, mul-le-mul_right width fewer, r.depths_room)

module _ (width depth : ℕ) (next : List ℕ) where
  -- rows that are those of `next` already have nothing new
  pub rows_same : (from to : ℕ) (words depths : List ℕ) → ((q : ℕ) → from ≤ q → q < to → get_or next q 0 ≡ get_or words q 0) →
      RowsCommitted from to width depth words next depths words depths false
  rows_same from to words depths e = record {
    committed = record {
      words_long = refl;
      word = λ q l h. sym (e q l h);
      word_else = λ q h. refl;
      depths_long = refl;
      deep = λ q j l h n. absurd (none q j l h n);
      deep_else = λ x n. refl;
    };
    gains = (λ t. absurd (false≢true t), λ s. absurd (none s.0 s.3 s.1 s.2 s.4));
  }
    where
      none : (q j : ℕ) → from ≤ q → q < to → New words next q j → ⊥
      none q j l h n = n.fresh (rw (e q l h) at n.found)

  -- what is ready stays ready
  pub ready_kept : (from mid to : ℕ) (words depths words₁ depths₁ : List ℕ) →
      Committed from mid width depth words next depths words₁ depths₁ → Ready to width words next depths → Ready to width words₁ next depths₁
  ready_kept from mid to words depths words₁ depths₁ c r = record {
    words_room = omega (arith, c.words_long);
    next_room = r.next_room;
    depths_room = omega (arith, r.depths_room, c.depths_long);
    narrow = r.narrow;
    grows = λ q j k m. go q j k m (dec_lt q from) (dec_lt q mid);
  }
    where
      go : (q j : ℕ) → q < to → Member (get_or words₁ q 0) j → Dec (q < from) → Dec (q < mid) → Member (get_or next q 0) j
      go q j k m (yes a) b = r.grows q j k (rw (c.word_else q (inl a)) at m)
      go q j k m (no a) (yes b) = rw (c.word q (omega arith) b) at m
      go q j k m (no a) (no b) = r.grows q j k (rw (c.word_else q (inr (omega arith))) at m)

  -- a range of rows and the next one
  module _ (from mid to : ℕ) (l : from ≤ mid) (h : mid ≤ max from to) (words depths words₁ depths₁ : List ℕ) (first : Committed from mid width depth words next depths words₁ depths₁) where
    -- a later row has the same new ends before and after
    later : (q j : ℕ) → mid ≤ q → New words₁ next q j ↔ New words next q j
    later q j k = (new_same q j (sym (first.word_else q (inr k))), new_same q j (first.word_else q (inr k)))

    some_later : SomeNew mid to words₁ next ↔ SomeNew mid to words next
    some_later = (
      λ s. (s.0, s.1, s.2, s.3, (later s.0 s.3 s.1).0 s.4),
      λ s. (s.0, s.1, s.2, s.3, (later s.0 s.3 s.1).1 s.4),
    )

    some_join : SomeNew from to words next ↔ (SomeNew from mid words next ⊎ SomeNew mid to words₁ next)
    some_join = (
      λ s. elim (dec_lt s.0 mid) [
        | yes k ↦ inl (s.0, s.1, k, s.3, s.4)
        | no k ↦ inr (some_later.1 (s.0, omega arith, s.2, s.3, s.4))
      ],
      ⊎_elim (λ s. (s.0, s.1, omega (arith, s.2), s.3, s.4))
          (λ s. let t = some_later.0 s in (t.0, omega (arith, t.1), t.2, t.3, t.4)),
    )

    committed_join : ((q j : ℕ) → q < to → Member (get_or next q 0) j → j < width) → (words₂ depths₂ : List ℕ) →
        Committed mid to width depth words₁ next depths₁ words₂ depths₂ → Committed from to width depth words next depths words₂ depths₂
    committed_join narrow words₂ depths₂ second = record {
      words_long = second.words_long ∙ first.words_long;
      word = λ q a b. word_at q a b (dec_lt q mid);
      word_else = λ q e. second.word_else q (⊎_elim (λ k. inl (omega arith)) inr e) ∙ first.word_else q (outside q e (dec_lt q from));
      depths_long = second.depths_long ∙ first.depths_long;
      deep = λ q j a b n. deep_at q j a b n (dec_lt q mid);
      deep_else = λ x n.
          second.deep_else x (λ q j a b k. n q j (omega arith) b ((later q j a).0 k)) ∙ first.deep_else x (λ q j a b k. n q j a (omega arith) k);
    }
      where
        outside : (q : ℕ) → (q < from) ⊎ (to ≤ q) → Dec (q < from) → (q < from) ⊎ (mid ≤ q)
        outside q e (yes k) = inl k
        outside q (inl k) (no n) = inl k
        outside q (inr k) (no n) = inr (omega arith)

        word_at : (q : ℕ) → from ≤ q → q < to → Dec (q < mid) → get_or words₂ q 0 ≡ get_or next q 0
        word_at q a b (yes k) = second.word_else q (inl k) ∙ first.word q a k
        word_at q a b (no k) = second.word q (omega arith) b

        deep_at : (q j : ℕ) → from ≤ q → q < to → New words next q j → Dec (q < mid) → get_or depths₂ (q * width + j) 0 ≡ depth
        deep_at q j a b n (yes k) =
            second.deep_else (q * width + j) (λ p i c d m e.
            let s : q ≡ p = (row_one q p width j i (narrow q j b n.found) (narrow p i d m.found) e).0 in omega arith)
            ∙ first.deep q j a k n
        deep_at q j a b n (no k) = let c : mid ≤ q = omega arith in second.deep q j c b ((later q j c).1 n)

    -- `gained` where one of the two ranges has something new
    pub rows_join : ((q j : ℕ) → q < to → Member (get_or next q 0) j → j < width) → (words₂ depths₂ : List ℕ) (g₁ g₂ g : Bool) →
        (g₁ ≡ true) ↔ SomeNew from mid words next → RowsCommitted mid to width depth words₁ next depths₁ words₂ depths₂ g₂ →
        (g ≡ true) ↔ ((g₁ ≡ true) ⊎ (g₂ ≡ true)) → RowsCommitted from to width depth words next depths words₂ depths₂ g
    rows_join narrow words₂ depths₂ g₁ g₂ g s r e = record {
      committed = committed_join narrow words₂ depths₂ r.committed;
      gains = (
        λ t. some_join.1 (⊎_elim (λ x. inl (s.0 x)) (λ x. inr (r.gains.0 x)) (e.0 t)),
        λ t. e.1 (⊎_elim (λ x. inl (s.1 x)) (λ x. inr (r.gains.1 x)) (some_join.0 t)),
      );
    }

  -- a row that differs from that of `next` has something new
  module _
      (q : ℕ)
      (words depths : List ℕ)
      (short : q < length words)
      (grows : (j : ℕ) → Member (get_or words q 0) j → Member (get_or next q 0) j)
      (fits : q * width ≤ length depths)
      (part : List ℕ)
      (d : Deepened (bit_xor (get_or next q 0) (get_or words q 0)) depth (mid_of (q * width) (length depths - q * width) depths) part) where
    fresh : (j : ℕ) → Member (bit_xor (get_or next q 0) (get_or words q 0)) j ↔ New words next q j
    fresh j = let x = xor_member (get_or next q 0) (get_or words q 0) j (grows j) in
        (λ m. record { found = (x.0 m).0; fresh = (x.0 m).1 }, λ n. x.1 (n.found, n.fresh))

    row_committed : Committed q (q + 1) width depth words next depths (set words q (get_or next q 0)) (with_row (q * width) depths part)
    row_committed = record {
      words_long = length-set words q (get_or next q 0);
      word = λ p l h. let s : p ≡ q = omega arith in rw s (get_or-set_same words q (get_or next q 0) 0 short);
      word_else = λ p h. get_or-set_other words q p (get_or next q 0) 0 (λ e. ⊎_elim (λ k. omega arith) (λ k. omega arith) h);
      depths_long = row_long (q * width) depths fits _ _ part d;
      deep = λ p j l h n. let s : p ≡ q = omega arith in rw s (row_hit (q * width) depths fits _ _ part d j ((fresh j).1 (rw s at n)));
      deep_else = λ x n. row_miss (q * width) depths fits _ _ part d x (λ j m. n q j (omega arith) (omega arith) ((fresh j).0 m));
    }

    pub row_new : (get_or next q 0 ≡ get_or words q 0 → ⊥) → RowsCommitted q (q + 1) width depth words next depths (set words q (get_or next q 0)) (with_row (q * width) depths part) true
    row_new n = let x = xor_some (get_or next q 0) (get_or words q 0) n in record {
      committed = row_committed;
      gains = (λ t. (q, omega arith, omega arith, x.0, (fresh x.0).0 x.1), λ s. refl);
    }

  -- the rows of one category after the other
  pub all_none : (words depths : List ℕ) → AllCommitted 0 width depth words next depths words depths 0
  all_none words depths = record {
    committed = (rows_same 0 (0 * width) words depths (λ q l h. absurd (omega (arith, zero-mul width)))).committed;
    gains = λ A. (λ m. absurd (none_member A m), λ s. absurd (omega (arith, s.0)));
  }

  pub all_more : (a : ℕ) (words depths words₁ depths₁ words₂ depths₂ : List ℕ) (changed changed' : ℕ) (g : Bool) →
      ((q j : ℕ) → q < a * width + width → Member (get_or next q 0) j → j < width) →
      AllCommitted a width depth words next depths words₁ depths₁ changed →
      RowsCommitted (a * width) (a * width + width) width depth words₁ next depths₁ words₂ depths₂ g →
      ((A : ℕ) → Member changed' A ↔ (Member changed A ⊎ ((A ≡ a) × (g ≡ true)))) →
      AllCommitted (a + 1) width depth words next depths words₂ depths₂ changed'
  all_more a words depths words₁ depths₁ words₂ depths₂ changed changed' g narrow f r w = record {
    committed =
        subst (λ (to : ℕ). Committed 0 to width depth words next depths words₂ depths₂) (sym (ap (λ (x : ℕ). x * width) (add-one a) ∙ suc-mul a width))
        (committed_join 0 (a * width) (a * width + width) zero-le (omega arith) words depths words₁ depths₁ f.committed narrow words₂ depths₂ r.committed);
    gains = λ A. (λ m. ⊎_elim (old A) (new A) ((w A).0 m), λ s. (w A).1 (back A s (dec_lt A a)));
  }
    where
      Gains : ℕ → Type 0
      Gains A = SomeNew (A * width) (A * width + width) words next

      own : (g ≡ true) ↔ Gains a
      own =
          let k = some_later 0 (a * width) (a * width + width) zero-le (omega arith) words depths words₁ depths₁ f.committed in
          (λ t. k.0 (r.gains.0 t), λ s. r.gains.1 (k.1 s))

      old : (A : ℕ) → Member changed A → (A < a + 1) × Gains A
      old A m = let s = (f.gains A).0 m in (omega (arith, s.0), s.1)

      new : (A : ℕ) → (A ≡ a) × (g ≡ true) → (A < a + 1) × Gains A
      new A p = (omega (arith, p.0), rw p.0 (own.0 p.1))

      back : (A : ℕ) → (A < a + 1) × Gains A → Dec (A < a) → Member changed A ⊎ ((A ≡ a) × (g ≡ true))
      back A s (yes l) = inl ((f.gains A).1 (l, s.1))
      back A s (no n) = let e : A ≡ a = omega (arith, s.0) in inr (e, own.1 (rw e at s.1))
