-- The number of records is a total over rules, places, starts and middles.
use Prim.Native.Nat.{ℕ, zero, suc, ◌+◌, ◌-◌, ◌*◌, ◌≤◌, ◌<◌, zero-le, suc-le-suc}
use mathlib.Core.Path.{◌≡◌, refl, sym, ap, ◌∙◌}
use mathlib.Core.Logic.{⊎_elim}
use mathlib.Core.Bool.{Bool, true, false, ◌&&◌, cond}
use mathlib.Core.List.{List}
use native.Mathlib.Nat.{le_refl, le_step, zero-add, zero-mul, one-mul, suc-mul}
use native.Mathlib.Decide.{ℕ_discrete}
use native.Mathlib.Omega.{arith}
use lib.Bits.{bit_and}
use lib.ListN.{length, get_or, take}
use lib.Dec.{ltb}
use borrow.Author.Tests.{lt-ltb, le-leb}
use Rattle.positions.specs.Member.{digit, Member}
use Rattle.positions.specs.Count.{count_below}
use Rattle.positions.proofs.Members.{member?, no_digit, none_member}
use Rattle.positions.proofs.Taking.{Taken}
use Rattle.derivation.specs.Grammar.{Grammar, Proper, rule_at}
use Rattle.derivation.specs.Tree.{Child, Children}
use Rattle.derivation.specs.computed.Round.{child, children}
use Rattle.derivation.specs.computed.Facts.{facts}
use Rattle.derivation.specs.computed.Forest.{is_branch, passing, forest}
use Rattle.derivation.specs.computed.FactCount.{total}
use Rattle.derivation.proofs.Tests.{and_parts, and_both}
use Rattle.derivation.proofs.Within.{child_inside}
use Rattle.derivation.proofs.Totals.{total_none, total_le, total_past, total_same}
use Rattle.derivation.proofs.Facts.{facts_exact, length_gathered, length_kept}
use Rattle.derivation.proofs.Forest.{child_exact, children_exact}
use Rattle.chart.proofs.CountLaws.{count_total, digit_test}
use Rattle.forest.specs.inner.Parts.{branch_at}
use Rattle.forest.specs.inner.Count.{derives, middle_count, start_count, place_count, rule_count}

-- a total's first number apart
total_first : (f : ℕ → ℕ) (n : ℕ) → total f (suc n) ≡ f 0 + total (λ k. f (suc k)) n
unfolding total
total_first f zero = omega arith
total_first f (suc n) = omega (arith, total_first f n)

total_zero : (f : ℕ → ℕ) (n : ℕ) → ((k : ℕ) → f k ≡ 0) → total f n ≡ 0
total_zero f n h = ap (total f) (sym (zero-add n)) ∙ total_past f 0 n (λ k l. h k) ∙ total_none f

-- a total's number at e apart
total_apart : (f h : ℕ → ℕ) (e n : ℕ) → e < n → h e ≡ 0 → ((k : ℕ) → (k ≡ e → ⊥) → f k ≡ h k) → total f n ≡ f e + total h n
unfolding total
total_apart f h e zero l z same = absurd (omega arith)
total_apart f h e (suc n) l z same = go (ℕ_discrete n e) (λ k. total_apart f h e n k z same)
  where
    go : Dec (n ≡ e) → (e < n → total f n ≡ f e + total h n) → total f n + f n ≡ f e + (total h n + h n)
    go (yes q) before = omega (arith, total_same f h n (λ k b. same k (λ p. omega arith)), ap f q, ap h q, z)
    go (no m) before = omega (arith, before (omega arith), same n m)

-- the numbers of a set's members, and 0 for the others
abbrev pub chosen : ℕ → (ℕ → ℕ) → ℕ → ℕ
chosen set f m = digit set m * f m

module _ (f : ℕ → ℕ) where
  chosen_in : (set m : ℕ) → Member set m → chosen set f m ≡ f m
  chosen_in set m h = ap (λ (x : ℕ). x * f m) h ∙ one-mul (f m)

  chosen_out : (set m : ℕ) → (Member set m → ⊥) → chosen set f m ≡ 0
  chosen_out set m n = ap (λ (x : ℕ). x * f m) (no_digit set m n) ∙ zero-mul (f m)

  -- no other number counts
  pub chosen_whole : (set n : ℕ) → ((m : ℕ) → (Member set m → ⊥) → f m ≡ 0) → total (chosen set f) n ≡ total f n
  chosen_whole set n none = total_same _ _ n (λ m l. ⊎_elim (chosen_in set m) (λ z. chosen_out set m z ∙ sym (none m z)) (member? set m))

  -- the number of the first member apart
  pub chosen_less : (left e n : ℕ) → Taken left e → e < n → total (chosen left f) n ≡ f e + total (chosen (bit_and left (left - 1)) f) n
  chosen_less left e n t l =
      let rest = bit_and left (left - 1) in
      let gone = chosen_out rest e (λ h. ((t.rest e).0 h).1 refl) in
      let other : (k : ℕ) → (k ≡ e → ⊥) → chosen left f k ≡ chosen rest f k =
      λ k n. ⊎_elim (λ h. chosen_in left k h ∙ sym (chosen_in rest k ((t.rest k).1 (h, n)))) (λ z. chosen_out left k z ∙ sym (chosen_out rest k (λ h. z ((t.rest k).0 h).0))) (member? left k) in
      total_apart (chosen left f) (chosen rest f) e n l gone other ∙ ap (λ (x : ℕ). x + total (chosen rest f) n) (chosen_in left e t.here)

  pub chosen_none : (n : ℕ) → total (chosen 0 f) n ≡ 0
  chosen_none n = total_zero _ n (λ m. chosen_out 0 m (none_member m))

one_le : (b : Bool) → cond b 1 0 ≤ 1
one_le true = le_refl 1
one_le false = zero-le

no_one : (b : Bool) → (b ≡ true → ⊥) → ◌≡◌ {A = ℕ} (cond b 1 0) 0
no_one true n = absurd (n refl)
no_one false n = refl

module _ (G : Grammar) (line : List ℕ) (short : length line ≤ 63) (symbols : List ℕ) (d : ℕ) where
  middle_le : (i m : ℕ) → middle_count G line symbols d i m ≤ 64
  middle_le i m = omega (arith, total_le (λ j. cond (derives G line symbols d i m j) 1 0) 1 (suc (length line)) (λ j. one_le (derives G line symbols d i m j)))

  pub start_le : (i k : ℕ) → k ≤ suc (length line) → total (middle_count G line symbols d i) k ≤ 4096
  start_le i k l = omega (arith, total_le (middle_count G line symbols d i) 64 k (middle_le i))

  pub place_le : (k : ℕ) → k ≤ suc (length line) → total (start_count G line symbols d) k ≤ 262144
  place_le k l = omega (arith, total_le (start_count G line symbols d) 4096 k (λ i. start_le i (suc (length line)) (le_refl (suc (length line)))))

  module _ (proper : Proper G) (i m : ℕ) where
    abbrev before : Bool
    before = children line (facts G line) (take d symbols) i m

    derives_both : (j : ℕ) → derives G line symbols d i m j ≡ true → Children G line (take d symbols) i m × Child G line (get_or symbols d 0) m j
    derives_both j e =
        let p = and_parts before (child line (facts G line) (get_or symbols d 0) m j) e in
        ((children_exact G line proper (facts G line) (facts_exact G line proper) (take d symbols) i m).0 p.0, (child_exact G line proper (facts G line) (facts_exact G line proper) (get_or symbols d 0) m j).0 p.1)

    both_derive : (j : ℕ) → Children G line (take d symbols) i m → Child G line (get_or symbols d 0) m j → derives G line symbols d i m j ≡ true
    both_derive j bs b =
        and_both ((children_exact G line proper (facts G line) (facts_exact G line proper) (take d symbols) i m).1 bs)
        ((child_exact G line proper (facts G line) (facts_exact G line proper) (get_or symbols d 0) m j).1 b)

    -- where the symbols before do not derive i..m there is no record
    pub middle_none : (Children G line (take d symbols) i m → ⊥) → middle_count G line symbols d i m ≡ 0
    middle_none n = total_zero _ (suc (length line)) (λ j. no_one (derives G line symbols d i m j) (λ e. n (derives_both j e).0))

    -- where they do, there are as many as the symbol has ends
    pub middle_some :
        (ends : ℕ) → Children G line (take d symbols) i m → ((j : ℕ) → (Member ends j → Child G line (get_or symbols d 0) m j) × (Child G line (get_or symbols d 0) m j → Member ends j)) →
        count_below 64 ends ≡ middle_count G line symbols d i m
    middle_some ends bs w =
        let n = length line in
        let past : (j : ℕ) → suc n ≤ j → digit ends j ≡ 0 = λ j h. no_digit ends j (λ z. omega (arith, (child_inside ((w j).0 z)).ends)) in
        let same : (j : ℕ) → digit ends j ≡ cond (derives G line symbols d i m j) 1 0 =
        λ j. digit_test ends j (derives G line symbols d i m j) (λ z. both_derive j bs ((w j).0 z)) (λ e. (w j).1 (derives_both j e).1) in
        let all : 64 ≡ suc n + (63 - n) = omega arith in
        count_total 64 ends ∙ ap (total (digit ends)) all ∙ total_past (digit ends) (suc n) (63 - n) past ∙ total_same _ _ (suc n) (λ j h. same j)

pub rule_le : (G : Grammar) (line symbols : List ℕ) → length line ≤ 63 → (k : ℕ) → k ≤ 8 → total (place_count G line symbols) k ≤ 2097152
rule_le G line symbols short k l = omega (arith, total_le (place_count G line symbols) 262144 k (λ d. place_le G line short symbols d (suc (length line)) (le_refl (suc (length line)))))

total_below : (f : ℕ → ℕ) (b n : ℕ) → ((k : ℕ) → k < n → f k ≤ b) → total f n ≤ n * b
unfolding total
total_below f b zero h = zero-le
total_below f b (suc n) h = omega (arith, total_below f b n (λ k l. h k (le_step l)), h n (le_refl (suc n)), suc-mul n b)

pub all_le :
    (G : Grammar) (line : List ℕ) → length line ≤ 63 → (k : ℕ) → k ≤ 128 → ((p : ℕ) → p < k → length (rule_at G p).right ≤ 8) →
    total (λ p. rule_count G line (rule_at G p).right) k ≤ 268435456
all_le G line short k l each =
    omega (arith, total_below (λ p. rule_count G line (rule_at G p).right) 2097152 k (λ p h. rule_le G line (rule_at G p).right short (length (rule_at G p).right) (each p h)))

-- the test of a record at a place of a rule, and at place 0
module _ (G : Grammar) (line : List ℕ) (p : ℕ) where
  branch_test : p < length G.rules → (d i m j : ℕ) → d < length (rule_at G p).right → is_branch G line (facts G line) (branch_at p (suc d) i m j) ≡ derives G line (rule_at G p).right d i m j
  unfolding is_branch
  branch_test l d i m j h =
      let e : suc d - 1 ≡ d = omega arith in
      rw (e, lt-ltb p (length G.rules) l, le-leb 1 (suc d) (suc-le-suc zero-le), le-leb (suc d) (length (rule_at G p).right) h)

  pub branch_zero : (i m j : ℕ) → is_branch G line (facts G line) (branch_at p 0 i m j) ≡ false
  unfolding is_branch
  branch_zero i m j = go (ltb p (length G.rules))
    where
      go : (b : Bool) → b && false ≡ false
      go true = refl
      go false = refl

  abbrev at_place : ℕ → ℕ
  at_place d = total (λ i. total (λ m. total (λ j. cond (is_branch G line (facts G line) (branch_at p d i m j)) 1 0) (suc (length line))) (suc (length line))) (suc (length line))

  rule_total : p < length G.rules → total at_place (suc (length (rule_at G p).right)) ≡ rule_count G line (rule_at G p).right
  rule_total l =
      let none : at_place 0 ≡ 0 = total_zero _ _ (λ i. total_zero _ _ (λ m. total_zero _ _ (λ j. ap (λ (b : Bool). cond b 1 0) (branch_zero i m j)))) in
      let some : total (λ d. at_place (suc d)) (length (rule_at G p).right) ≡ rule_count G line (rule_at G p).right =
      total_same _ _ (length (rule_at G p).right) (λ d h. total_same _ _ _ (λ i x. total_same _ _ _ (λ m y. total_same _ _ _ (λ j z. ap (λ (b : Bool). cond b 1 0) (branch_test l d i m j h))))) in
      total_first at_place (length (rule_at G p).right) ∙ omega (arith, none, some)

-- the forest's records, counted rule by rule
pub forest_counted : (G : Grammar) (line : List ℕ) → length (forest G line) ≡ total (λ p. rule_count G line (rule_at G p).right) (length G.rules)
unfolding forest passing
forest_counted G line =
    length_gathered _ _ (λ p. length_gathered _ _ (λ d. length_gathered _ _ (λ i. length_gathered _ _ (λ m. length_gathered _ _ (λ j. length_kept _ _) _) _) _) _) _
    ∙ total_same _ _ (length G.rules) (λ p l. rule_total G line p l)

-- the records of rule p
abbrev pub numbered_records : Grammar → List ℕ → ℕ → ℕ
numbered_records G line p = rule_count G line (rule_at G p).right
