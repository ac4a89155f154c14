-- Ascending lists: two with the same members are equal, and what is gathered in order ascends.
use Prim.Native.Nat.{ℕ, zero, suc, ◌+◌, ◌≤◌, ◌<◌}
use mathlib.Core.Path.{◌≡◌, refl, sym, ◌∙◌, ap, ap₂, subst}
use mathlib.Core.Logic.{◌↔◌, ◌⊎◌, inl, inr}
use mathlib.Core.Bool.{Bool, true, false, cond}
use mathlib.Core.List.Memᴰ
use mathlib.Core.List.IsChain
use mathlib.Core.List.Lexᴰ
use mathlib.Core.List.{List, [], ◌∷◌, ◌++◌, flatten, append_assoc, append-nil, Memᴰ, Lexᴰ, IsChain-of_IsChain-cons}
use native.Mathlib.Nat.{le_refl, lt_irrefl, lt_trans, not-suc-le-zero, le_of_suc-le-suc, add-zero, add-suc, suc-add, zero-add}
use native.Mathlib.Omega.{arith}
use Rattle.derivation.specs.Ascending.{Before, Ascending}
use Rattle.derivation.specs.computed.Listing.{listed, gathered, kept}

lex_trans : {s t u : List ℕ} → Lexᴰ ◌<◌ s t → Lexᴰ ◌<◌ t u → Lexᴰ ◌<◌ s u
lex_trans Lexᴰ.nil (Lexᴰ.rel q) = Lexᴰ.nil
lex_trans Lexᴰ.nil (Lexᴰ.cons e q) = Lexᴰ.nil
lex_trans (Lexᴰ.rel p) (Lexᴰ.rel q) = Lexᴰ.rel (lt_trans p q)
lex_trans (Lexᴰ.rel p) (Lexᴰ.cons e q) = Lexᴰ.rel (rw e at p)
lex_trans (Lexᴰ.cons e p) (Lexᴰ.rel q) = Lexᴰ.rel (rw (← e) at q)
lex_trans (Lexᴰ.cons e p) (Lexᴰ.cons f q) = Lexᴰ.cons (e ∙ f) (lex_trans p q)

never_before : (s : List ℕ) → Lexᴰ ◌<◌ s s → ⊥
never_before = Lexᴰ.irrefl lt_irrefl

-- the next number decides
next_decides : (s : List ℕ) {x y : ℕ} (t u : List ℕ) → x < y → Lexᴰ ◌<◌ (s ++ (x ∷ []) ++ t) (s ++ (y ∷ []) ++ u)
next_decides [] t u l = Lexᴰ.rel l
next_decides (z ∷ s) t u l = Lexᴰ.cons refl (next_decides s t u l)

module _ {X : Type 0} {numbers : X → List ℕ} where
  -- the first comes before all others
  before_all : {a b : X} {l : List X} → Ascending numbers (a ∷ l) → Memᴰ b l → Before numbers a b
  before_all {a} (IsChain.cons-cons r c) (Memᴰ.head e) = subst (Before numbers a) (sym e) r
  before_all (IsChain.cons-cons r c) (Memᴰ.tail m) = lex_trans r (before_all c m)
  before_all {b = b} (IsChain.singleton a) m = elim m [ ]

  module _ {x y : X} {l l' : List X} where
    -- equal first members may be left out
    rest : x ≡ y → Ascending numbers (x ∷ l) → ((b : X) → Memᴰ b (x ∷ l) → Memᴰ b (y ∷ l')) → (b : X) → Memᴰ b l → Memᴰ b l'
    rest e c h b m = go (Memᴰ.cases_cons (h b (Memᴰ.tail m)))
      where
        go : (b ≡ y) ⊎ Memᴰ b l' → Memᴰ b l'
        go (inl f) = absurd (never_before (numbers x) (subst (Before numbers x) (f ∙ sym e) (before_all c m)))
        go (inr k) = k

    -- the first members are equal where each is in the other list
    firsts : Ascending numbers (x ∷ l) → Ascending numbers (y ∷ l') → Memᴰ x (y ∷ l') → Memᴰ y (x ∷ l) → x ≡ y
    firsts c d (Memᴰ.head e) k = e
    firsts c d (Memᴰ.tail m) (Memᴰ.head e) = sym e
    firsts c d (Memᴰ.tail m) (Memᴰ.tail k) = absurd (never_before (numbers x) (lex_trans (before_all c k) (before_all d m)))

  -- two ascending lists with the same members are equal
  pub ascending_unique : (l l' : List X) → Ascending numbers l → Ascending numbers l' → ((b : X) → Memᴰ b l ↔ Memᴰ b l') → l ≡ l'
  ascending_unique [] [] c d h = refl
  ascending_unique [] (y ∷ l') c d h = absurd (Memᴰ.not-nil ((h y).1 (Memᴰ.head refl)))
  ascending_unique (x ∷ l) [] c d h = absurd (Memᴰ.not-nil ((h x).0 (Memᴰ.head refl)))
  ascending_unique (x ∷ l) (y ∷ l') c d h =
      let e = firsts c d ((h x).0 (Memᴰ.head refl)) ((h y).1 (Memᴰ.head refl)) in
      ap₂ ◌∷◌ e
      (ascending_unique l l' (IsChain-of_IsChain-cons c) (IsChain-of_IsChain-cons d)
      (λ b. (rest e c (λ b. (h b).0) b, rest (sym e) d (λ b. (h b).1) b)))

  -- two ascending lists, the second all after the first
  ascending_append : {s t : List X} → Ascending numbers s → Ascending numbers t → ((a b : X) → Memᴰ a s → Memᴰ b t → Before numbers a b) → Ascending numbers (s ++ t)
  ascending_append IsChain.nil d h = d
  ascending_append (IsChain.singleton a) IsChain.nil h = IsChain.singleton a
  ascending_append (IsChain.singleton a) (IsChain.singleton b) h = IsChain.cons-cons (h a b (Memᴰ.head refl) (Memᴰ.head refl)) (IsChain.singleton b)
  ascending_append (IsChain.singleton a) (IsChain.cons-cons {a = b} r d) h = IsChain.cons-cons (h a b (Memᴰ.head refl) (Memᴰ.head refl)) (IsChain.cons-cons r d)
  ascending_append (IsChain.cons-cons r c) d h = IsChain.cons-cons r (ascending_append c d (λ a b m k. h a b (Memᴰ.tail m) k))

-- what is gathered: each member is of one of the lists, and each member of those lists is in it
module _ {X : Type 0} (f : ℕ → List X) {b : X} where
  from_member : (i n : ℕ) → Memᴰ b (flatten (listed f i n)) → (k : ℕ) × (i ≤ k) × Memᴰ b (f k)
  unfolding listed flatten
  from_member i zero m = absurd (Memᴰ.not-nil m)
  from_member i (suc n) m = go (Memᴰ.append_cases (f i) m) (from_member (suc i) n)
    where
      go : Memᴰ b (f i) ⊎ Memᴰ b (flatten (listed f (suc i) n)) → (Memᴰ b (flatten (listed f (suc i) n)) → (k : ℕ) × (suc i ≤ k) × Memᴰ b (f k)) → (k : ℕ) × (i ≤ k) × Memᴰ b (f k)
      go (inl m) ih = (i, le_refl i, m)
      go (inr m) ih = let r = ih m in (r.0, omega (arith, r.1), r.2)

  pub gathered_member : (n : ℕ) → Memᴰ b (gathered n f) → (k : ℕ) × Memᴰ b (f k)
  unfolding gathered
  gathered_member n m = let r = from_member 0 n m in (r.0, r.2)

  member_from : (i n k : ℕ) → k < n → Memᴰ b (f (i + k)) → Memᴰ b (flatten (listed f i n))
  unfolding listed flatten
  member_from i zero k l m = absurd (not-suc-le-zero l)
  member_from i (suc n) zero l m = Memᴰ.append_left (flatten (listed f (suc i) n)) (rw add-zero at m)
  member_from i (suc n) (suc k) l m = Memᴰ.append_right (f i) (member_from (suc i) n k (le_of_suc-le-suc l) (rw (suc-add, ← add-suc) m))

  pub member_gathered : (n k : ℕ) → k < n → Memᴰ b (f k) → Memᴰ b (gathered n f)
  unfolding gathered
  member_gathered n k l m = member_from 0 n k l (rw zero-add m)

-- what is kept of a is a, and a passes
pub kept_member : {X : Type 0} (test : X → Bool) (a : X) {b : X} → Memᴰ b (kept test a) → (b ≡ a) × (test a ≡ true)
unfolding kept
kept_member test a {b} m = go (test a) refl m
  where
    go : (x : Bool) → test a ≡ x → Memᴰ b (cond x (a ∷ []) []) → (b ≡ a) × (test a ≡ true)
    go true q m = (Memᴰ.eq_of_singleton m, q)
    go false q m = absurd (Memᴰ.not-nil m)

pub member_kept : {X : Type 0} (test : X → Bool) (b : X) → test b ≡ true → Memᴰ b (kept test b)
unfolding kept
member_kept test b e = rw e (Memᴰ.head refl)

-- s are the first numbers of every member of l, and l ascends
pub record Run {X : Type 0} (numbers : X → List ℕ) (s : List ℕ) (l : List X) : Type 0 where
  pub ascending : Ascending numbers l
  pub begins : (b : X) → Memᴰ b l → (t : List ℕ) × (numbers b ≡ s ++ t)

module _ {X : Type 0} {numbers : X → List ℕ} where
  -- the order of what is gathered, one number at a time
  module _ (s : List ℕ) (f : ℕ → List X) (runs : (k : ℕ) → Run numbers (s ++ (k ∷ [])) (f k)) where
    ascending_from : (i n : ℕ) → Ascending numbers (flatten (listed f i n))
    unfolding listed flatten
    ascending_from i zero = IsChain.nil
    ascending_from i (suc n) = ascending_append (runs i).ascending (ascending_from (suc i) n) later
      where
        later : (a b : X) → Memᴰ a (f i) → Memᴰ b (flatten (listed f (suc i) n)) → Before numbers a b
        later a b m k =
            let r = from_member f (suc i) n k in
            let p = (runs i).begins a m in
            let q = (runs r.0).begins b r.2 in
            rw (p.1, q.1) (next_decides s p.0 q.0 r.1)

    pub run_gathered : (n : ℕ) → Run numbers s (gathered n f)
    unfolding gathered
    run_gathered n = record { ascending = ascending_from 0 n; begins = begins }
      where
        begins : (b : X) → Memᴰ b (flatten (listed f 0 n)) → (t : List ℕ) × (numbers b ≡ s ++ t)
        begins b m =
            let r = from_member f 0 n m in
            let q = (runs r.0).begins b r.2 in
            (r.0 ∷ q.0, q.1 ∙ append_assoc s (r.0 ∷ []) q.0)

  pub run_kept : (test : X → Bool) (b : X) → Run numbers (numbers b) (kept test b)
  unfolding kept
  run_kept test b = go (test b)
    where
      go : (x : Bool) → Run numbers (numbers b) (cond x (b ∷ []) [])
      go true = record { ascending = IsChain.singleton b; begins = λ a m. ([], ap numbers (Memᴰ.eq_of_singleton m) ∙ sym (append-nil (numbers b))) }
      go false = record { ascending = IsChain.nil; begins = λ a m. absurd (Memᴰ.not-nil m) }
