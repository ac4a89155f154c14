-- Lists that are gathered from 0 on, or over the members of a set.
use Rattle.std.proofs.Common.{◌≡◌, ℕ, zero, suc, ◌+◌, ◌-◌, ◌<◌, ◌≤◌, Bool, eqb, List, [], ◌∷◌, ◌++◌, map, length, refl, sym, ap, ap₂, ◌∙◌, append_assoc, append-nil, add-one, arith, length-append, eq-eqb, ne_eqb}
use Rattle.std.specs.List.{flat_map, filter, range_with_len}
use Rattle.std.proofs.lemmas.List.{map-append}
use Rattle.std.proofs.lemmas.Grind.{flat_map-append}
use mathlib.Core.List.{flatten}
use mathlib.Core.Logic.{⊎_elim}
use Rattle.positions.specs.Member.{digit, Member}
use Rattle.positions.specs.Ascending.{member_list}
use Rattle.positions.proofs.Members.{member?, member_below, lt_power}
use Rattle.derivation.specs.computed.Listing.{listed, gathered}

module _ {X : Type 0} (f : ℕ → List X) where
  listed_parts : (i a b : ℕ) → flatten (listed f i (a + b)) ≡ flatten (listed f i a) ++ flatten (listed f (i + a) b)
  unfolding listed flatten
  listed_parts i zero b = ap₂ (λ (k n : ℕ). flatten (listed f k n)) (omega arith) (omega arith)
  listed_parts i (suc a) b =
      let e : suc a + b ≡ suc (a + b) = omega arith in
      let same : suc i + a ≡ i + suc a = omega arith in
      rw (e, listed_parts (suc i) a b, same) (sym (append_assoc (f i) (flatten (listed f (suc i) a)) (flatten (listed f (i + suc a) b))))

  listed_empty : (i n : ℕ) → ((k : ℕ) → i ≤ k → f k ≡ []) → flatten (listed f i n) ≡ []
  unfolding listed flatten
  listed_empty i zero none = refl
  listed_empty i (suc n) none = rw (none i (omega arith)) (listed_empty (suc i) n (λ k l. none k (omega arith)))

  pub gathered_none : gathered 0 f ≡ []
  unfolding gathered listed flatten
  gathered_none = refl

  pub gathered_next : (k : ℕ) → gathered (k + 1) f ≡ gathered k f ++ f k
  unfolding gathered listed flatten
  gathered_next k = listed_parts 0 k 1 ∙ ap (λ (i : ℕ). flatten (listed f 0 k) ++ (f i ++ [])) (omega arith) ∙ ap (λ (s : List X). flatten (listed f 0 k) ++ s) (append-nil (f k))

  pub gathered_fits : (k n : ℕ) → k < n → length (gathered k f) + length (f k) ≤ length (gathered n f)
  unfolding gathered
  gathered_fits k n l =
      let more = k + 1 in
      let e : more + (n - more) ≡ n = omega arith in
      let parts = ap (λ (s : List X). length s) (ap (λ (m : ℕ). flatten (listed f 0 m)) (sym e) ∙ listed_parts 0 more (n - more)) in
      omega (arith, parts, length-append (flatten (listed f 0 more)) (flatten (listed f (0 + more) (n - more))), ap (λ (s : List X). length s) (gathered_next k), length-append (flatten (listed f 0 k)) (f k))

  -- past a, none is gathered
  gathered_past : (a b : ℕ) → ((k : ℕ) → a ≤ k → f k ≡ []) → gathered (a + b) f ≡ gathered a f
  unfolding gathered
  gathered_past a b none = listed_parts 0 a b ∙ ap (λ (s : List X). flatten (listed f 0 a) ++ s) (listed_empty (0 + a) b (λ k l. none k (omega arith))) ∙ append-nil (flatten (listed f 0 a))

  pub gathered_empty : (n : ℕ) → ((k : ℕ) → f k ≡ []) → gathered n f ≡ []
  unfolding gathered
  gathered_empty n none = listed_empty 0 n (λ k l. none k)

-- the first list apart
pub gathered_first : {X : Type 0} (f : ℕ → List X) (n : ℕ) → f 0 ≡ [] → gathered (suc n) f ≡ gathered n (λ k. f (suc k))
unfolding gathered listed flatten
gathered_first {X} f n none = ap (λ (s : List X). s ++ flatten (listed f 1 n)) none ∙ go 0 n
  where
    go : (i n : ℕ) → flatten (listed f (suc i) n) ≡ flatten (listed (λ k. f (suc k)) i n)
    go i zero = refl
    go i (suc n) = ap (λ (s : List X). f (suc i) ++ s) (go (suc i) n)

pub gathered_map : {X Y : Type 0} (r : X → Y) (f : ℕ → List X) (n : ℕ) → map r (gathered n f) ≡ gathered n (λ k. map r (f k))
unfolding gathered listed flatten
gathered_map {X} {Y} r f n = go 0 n
  where
    go : (i n : ℕ) → map r (flatten (listed f i n)) ≡ flatten (listed (λ k. map r (f k)) i n)
    go i zero = refl
    go i (suc n) = map-append r (f i) (flatten (listed f (suc i) n)) ∙ ap (λ (s : List Y). map r (f i) ++ s) (go (suc i) n)

-- what h gives at the members of a set is what f gives, which gives nothing else
module _ {X : Type 0} (set : ℕ) (h f : ℕ → List X) (same : (j : ℕ) → Member set j → h j ≡ f j) (none : (j : ℕ) → (Member set j → ⊥) → f j ≡ []) where
  abbrev test : ℕ → Bool
  test j = eqb (digit set j) 1

  over_range : (k n : ℕ) → flat_map h (filter test (range_with_len k n)) ≡ flatten (listed f k n)
  unfolding listed flatten
  over_range k zero = refl
  over_range k (suc n) =
      let more : flat_map h (filter test (range_with_len (k + 1) n)) ≡ flatten (listed f (suc k) n) = rw add-one (over_range (suc k) n) in
      ⊎_elim
      (λ m. rw (eq-eqb (digit set k) 1 m) (ap₂ ◌++◌ (same k m) more))
      (λ m. rw (ne_eqb (digit set k) 1 m, none k m) more)
      (member? set k)

  pub members_gathered : (n : ℕ) → ((j : ℕ) → Member set j → j < n) → flat_map h (member_list set) ≡ gathered n f
  unfolding member_list gathered
  members_gathered n inside =
      let in_word : gathered (set + n) f ≡ gathered set f = gathered_past f set n (λ k l. none k (λ m. omega (arith, member_below set set k (lt_power set) m))) in
      let in_line : gathered (n + set) f ≡ gathered n f = gathered_past f n set (λ k l. none k (λ m. omega (arith, inside k m))) in
      let both : set + n ≡ n + set = omega arith in
      over_range 0 set ∙ sym in_word ∙ ap (λ (k : ℕ). gathered k f) both ∙ in_line

-- one list more of those that are made over a list, and they fit in all
pub flat_map_next : {X : Type 0} (h : ℕ → List X) (xs : List ℕ) (m : ℕ) → flat_map h (xs ++ m ∷ []) ≡ flat_map h xs ++ h m
flat_map_next {X} h xs m = flat_map-append h xs (m ∷ []) ∙ ap (λ (s : List X). flat_map h xs ++ s) (append-nil (h m))

pub flat_map_fits : {X : Type 0} (h : ℕ → List X) (xs ys all : List ℕ) (m : ℕ) → xs ++ m ∷ ys ≡ all → length (flat_map h xs) + length (h m) ≤ length (flat_map h all)
flat_map_fits {X} h xs ys all m e =
    let parts = ap (λ (s : List ℕ). length (flat_map h s)) (sym e) ∙ ap (λ (s : List X). length s) (flat_map-append h xs (m ∷ ys)) in
    omega (arith, parts, length-append (flat_map h xs) (h m ++ flat_map h ys), length-append (h m) (flat_map h ys))

-- a loop over a list, where `taken` is what it has taken and `left` what is left: m is the next one, or none is left
module _ (taken left all : List ℕ) (e : taken ++ left ≡ all) where
  pub taken_next : {m : ℕ} {rest : List ℕ} → left ≡ m ∷ rest → taken ++ m ∷ rest ≡ all
  taken_next step = ap (λ (s : List ℕ). taken ++ s) (sym step) ∙ e

  pub taken_more : {m : ℕ} {rest : List ℕ} → left ≡ m ∷ rest → (taken ++ m ∷ []) ++ rest ≡ all
  taken_more {m} {rest} step = append_assoc taken (m ∷ []) rest ∙ taken_next step

  pub taken_all : left ≡ [] → taken ≡ all
  taken_all none = sym (append-nil taken) ∙ ap (λ (s : List ℕ). taken ++ s) (sym none) ∙ e
