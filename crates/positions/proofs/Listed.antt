-- The list of a set's members, ascending: its first is the first member, the others are those of the set without it, and it has each member once.
use Rattle.std.proofs.Common.{◌≡◌, ℕ, zero, suc, ◌+◌, ◌-◌, ◌^◌, ◌<◌, ◌≤◌, ◌↔◌, Bool, true, cond, eqb, List, [], ◌∷◌, length, get_or, drop, refl, sym, ap, ◌∙◌, arith, add-zero, eq-eqb, ne_eqb, bit_and}
use Rattle.std.specs.List.{filter, range_with_len, Contains}
use Rattle.std.proofs.lemmas.List.Elements.{All-contains, filter_passes}
use Rattle.std.proofs.lemmas.Bool.{eqb-true}
use mathlib.Core.Logic.{⊎_elim}
use lib.Count.{count_trailing_zeros}
use native.Mathlib.Decide.{ℕ_discrete}
use Rattle.positions.specs.Member.{digit, Member}
use Rattle.positions.specs.First.{First}
use Rattle.positions.specs.Ascending.{member_list}
use Rattle.positions.specs.declared.Ascending.{Ascending}
use Rattle.positions.specs.Count.{count_below}
use Rattle.positions.proofs.Counts.{count_step, count_none}
use Rattle.positions.proofs.Members.{member?, no_digit, member_below, lt_power, same_members}
use Rattle.positions.proofs.Extremes.{first_trailing}
use Rattle.positions.proofs.Taking.{NoneBelow, Taken, taken}

-- the members among the n positions from k on
abbrev pub listed : ℕ → ℕ → ℕ → List ℕ
listed set k n = filter (λ j. eqb (digit set j) 1) (range_with_len k n)

pub listed_here : (set k n : ℕ) → Member set k → listed set k (suc n) ≡ k ∷ listed set (k + 1) n
listed_here set k n m = ap (λ (b : Bool). cond b (k ∷ listed set (k + 1) n) (listed set (k + 1) n)) (eq-eqb (digit set k) 1 m)

pub listed_past : (set k n : ℕ) → (Member set k → ⊥) → listed set k (suc n) ≡ listed set (k + 1) n
listed_past set k n m = ap (λ (b : Bool). cond b (k ∷ listed set (k + 1) n) (listed set (k + 1) n)) (ne_eqb (digit set k) 1 m)

-- without a member from k on none is listed
listed_none : (set k n : ℕ) → ((j : ℕ) → k ≤ j → Member set j → ⊥) → listed set k n ≡ []
listed_none set k zero h = refl
listed_none set k (suc n) h = listed_past set k n (h k (omega arith)) ∙ listed_none set (k + 1) n (λ j l. h j (omega arith))

-- two sets with the same members from k on, all of them among the positions that are looked at
listed_same : (a b k n i : ℕ) → ((j : ℕ) → k ≤ j → Member a j ↔ Member b j) → ((j : ℕ) → Member a j → j < k + n) → ((j : ℕ) → Member b j → j < k + i) → listed a k n ≡ listed b k i
listed_same a b k zero i h p q = sym (listed_none b k i (λ j l m. omega (arith, p j ((h j l).1 m))))
listed_same a b k (suc n) zero h p q = listed_none a k (suc n) (λ j l m. omega (arith, q j ((h j l).0 m)))
listed_same a b k (suc n) (suc i) h p q =
    let more : listed a (k + 1) n ≡ listed b (k + 1) i = listed_same a b (k + 1) n i (λ j l. h j (omega arith)) (λ j m. omega (arith, p j m)) (λ j m. omega (arith, q j m)) in
    let at : Member a k ↔ Member b k = h k (omega arith) in
    ⊎_elim (λ m. listed_here a k n m ∙ ap (λ (xs : List ℕ). k ∷ xs) more ∙ sym (listed_here b k i (at.0 m)))
    (λ m. listed_past a k n m ∙ more ∙ sym (listed_past b k i (λ z. m (at.1 z)))) (member? a k)

-- a member is below its word
pub below_word : (set j : ℕ) → Member set j → j < set
below_word set j m = member_below set set j (lt_power set) m

listed_skip : (set k n : ℕ) → (Member set k → ⊥) → listed set k n ≡ listed set (k + 1) (n - 1)
listed_skip set k zero m = refl
listed_skip set k (suc n) m = let e : suc n - 1 ≡ n = omega arith in rw e (listed_past set k n m)

-- the first member, and then those of the set without it
module _ (left e : ℕ) (t : Taken left e) (none : NoneBelow left e) where
  abbrev rest : ℕ
  rest = bit_and left (left - 1)

  later : (k i : ℕ) → k ≤ e → ((j : ℕ) → Member rest j → j < k + i) → (j : ℕ) → Member rest j → j < k + 1 + (i - 1)
  later k i low q j m =
      let p = (t.rest j).0 m in
      let before : j < e → ⊥ = λ l. none j l p.0 in
      omega (arith, q j m, p.1)

  listed_taken : (k n i : ℕ) → k ≤ e → ((j : ℕ) → Member left j → j < k + n) → ((j : ℕ) → Member rest j → j < k + i) → listed left k n ≡ e ∷ listed rest k i
  listed_taken k zero i low p q = absurd (omega (arith, p e t.here))
  listed_taken k (suc n) i low p q = elim (ℕ_discrete k e) [
    | yes at ↦
        let here : Member left k = rw at t.here in
        let gone : Member rest k → ⊥ = λ h. ((t.rest k).0 h).1 at in
        let same : (j : ℕ) → k + 1 ≤ j → Member left j ↔ Member rest j = λ j l. (λ h. (t.rest j).1 (h, λ (z : j ≡ e). omega arith), λ h. ((t.rest j).0 h).0) in
        let more : listed left (k + 1) n ≡ listed rest (k + 1) (i - 1) = listed_same left rest (k + 1) n (i - 1) same (λ j m. omega (arith, p j m)) (later k i low q) in
        listed_here left k n here ∙ ap (λ (xs : List ℕ). k ∷ xs) (more ∙ sym (listed_skip rest k i gone)) ∙ ap (λ (x : ℕ). x ∷ listed rest k i) at
    | no other ↦
        let before : k < e = omega arith in
        listed_past left k n (none k before) ∙ listed_taken (k + 1) n (i - 1) (omega arith) (λ j m. omega (arith, p j m)) (later k i low q)
        ∙ ap (λ (xs : List ℕ). e ∷ xs) (sym (listed_skip rest k i (λ h. none k before ((t.rest k).0 h).0)))
  ]

pub empty_list : member_list 0 ≡ []
unfolding member_list
empty_list = refl

pub first_listed : (left e : ℕ) → First left e → left < 2 ^ 64 → (left ≡ 0 → ⊥) → member_list left ≡ e ∷ member_list (bit_and left (left - 1))
unfolding member_list
first_listed left e f fits some =
    let t = taken left e f fits some in
    listed_taken left e t f.none_below 0 left (bit_and left (left - 1)) (omega arith) (λ j m. omega (arith, below_word left j m)) (λ j m. omega (arith, below_word (bit_and left (left - 1)) j m))

-- what is listed are the members
contains_there : (set j k n : ℕ) → Member set j → k ≤ j → j < k + n → Contains (listed set k n) j
contains_there set j k zero m low high = absurd (omega arith)
contains_there set j k (suc n) m low high = elim (ℕ_discrete k j) [
  | yes at ↦
      let e : listed set k (suc n) ≡ k ∷ listed set (k + 1) n = listed_here set k n (rw at m) in
      rw e (0, omega arith, at)
  | no other ↦
      let h = contains_there set j (k + 1) n m (omega arith) (omega arith) in
      ⊎_elim (λ here. rw (listed_here set k n here) (suc h.0, omega (arith, h.1), h.2)) (λ gone. rw (listed_past set k n gone) h) (member? set k)
]

pub contains_list : (set j : ℕ) → Contains (member_list set) j ↔ Member set j
unfolding member_list
contains_list set j = (
  λ h. eqb-true (digit set j) 1 (All-contains (λ i. eqb (digit set i) 1 ≡ true) _ j (filter_passes (λ j. eqb (digit set j) 1) (range_with_len 0 set)) h),
  λ m. contains_there set j 0 set m (omega arith) (omega (arith, below_word set j m)),
)

-- two sets with the same list are equal
pub same_list : (a b : ℕ) → member_list a ≡ member_list b → a ≡ b
same_list a b e = same_members a b (λ j. (λ m. (contains_list b j).0 (rw e at ((contains_list a j).1 m)), λ m. (contains_list a j).0 (rw (← e) at ((contains_list b j).1 m))))

-- a set whose list is empty is empty
pub none_left : (left : ℕ) → member_list left ≡ [] → left ≡ 0
none_left left e = same_list left 0 (e ∙ sym empty_list)

-- a loop over the members of a set begins with all of them
pub begun : {s t : Ascending} {set : ℕ} → s ≡ t → t.left ≡ set → s.left ≡ set
begun e h = ap (λ (x : Ascending). x.left) e ∙ h

-- a turn of a loop over the members: m is the first of what was left, and after it the others are left
pub record Turn (left m next : ℕ) : Type 0 where
  pub first : First left m
  pub taken : Taken left m
  pub after : next ≡ bit_and left (left - 1)
  pub less : next < left
  pub rest : (j : ℕ) → Member next j ↔ (Member left j × (j ≡ m → ⊥))

pub turn : (left m next : ℕ) → left < 2 ^ 64 → member_list left ≡ m ∷ member_list next → Turn left m next
turn left m next fits given =
    let some : left ≡ 0 → ⊥ = λ z. let e : [] ≡ m ∷ member_list next = sym empty_list ∙ ap (λ (n : ℕ). member_list n) (sym z) ∙ given in cc in
    let e : ℕ = count_trailing_zeros 64 left in
    let f : First left e = first_trailing left in
    let listed : m ∷ member_list next ≡ e ∷ member_list (bit_and left (left - 1)) = sym given ∙ first_listed left e f fits some in
    let same : e ≡ m = sym (ap (λ (xs : List ℕ). get_or xs 0 0) listed) in
    let at : First left m = rw same at f in
    let t : Taken left m = taken left m at fits some in
    let after : next ≡ bit_and left (left - 1) = same_list next (bit_and left (left - 1)) (ap (λ (xs : List ℕ). drop 1 xs) listed) in
    record { first = at; taken = t; after = after; less = rw after t.less; rest = rw after t.rest }

-- as many are listed as there are members
count_listed : (set k n : ℕ) → length (listed set k n) + count_below k set ≡ count_below (k + n) set
count_listed set k zero = omega (arith, ap (λ (i : ℕ). count_below i set) (add-zero k))
count_listed set k (suc n) =
    let more : length (listed set (k + 1) n) + count_below (k + 1) set ≡ count_below (k + 1 + n) set = count_listed set (k + 1) n in
    let shift : count_below (k + 1 + n) set ≡ count_below (k + suc n) set = ap (λ (i : ℕ). count_below i set) (omega arith) in
    ⊎_elim (λ m. omega (arith, ap (λ (xs : List ℕ). length xs) (listed_here set k n m), m, count_step k set)) (λ m. omega (arith, ap (λ (xs : List ℕ). length xs) (listed_past set k n m), no_digit set k m, count_step k set)) (member? set k)

pub length_list : (set : ℕ) → set < 2 ^ 64 → length (member_list set) ≡ count_below 64 set
unfolding member_list
length_list set fits =
    let same : listed set 0 set ≡ listed set 0 64 = listed_same set set 0 set 64 (λ j l. (λ m. m, λ m. m)) (λ j m. omega (arith, below_word set j m)) (λ j m. omega (arith, member_below set 64 j fits m)) in
    omega (arith, ap (λ (xs : List ℕ). length xs) same, count_listed set 0 64, count_none set)
