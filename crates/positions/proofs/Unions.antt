-- A union over the positions of a set, made some positions at a time. A set is here a family of types: what is left need not be a word.
use mathlib.Core.Path.{◌≡◌, ap, ◌∙◌}
use mathlib.Core.Logic.{◌↔◌, ◌⊎◌, inl, inr, ⊎_elim}
use mathlib.Core.List.{List}
use Prim.Native.Nat.{ℕ, ◌+◌, ◌-◌, ◌≤◌, ◌<◌}
use native.Mathlib.Decide.{ℕ_discrete}
use native.Mathlib.Omega.{arith}
use lib.Bits.{bit_or, bit_and}
use lib.ListN.{get_or, length, take, drop}
use Rattle.std.proofs.Common.{get_or-take, get_or-drop, length-take, length-drop}
use Rattle.positions.specs.Member.{Member}
use Rattle.positions.specs.Union.{Union}
use Rattle.positions.proofs.Members.{none_member, or_member}
use Rattle.positions.proofs.Taking.{Taken}
use Rattle.positions.proofs.Listed.{Turn}

-- some position of the set leads to j
abbrev pub Led : (ℕ → ℕ → Type 0) → (ℕ → Type 0) → ℕ → Type 0
Led Leads Set j = (m : ℕ) × Set m × Leads m j

-- where the set leads is gathered already, or what is left of the set leads there
abbrev pub Gathered : (ℕ → ℕ → Type 0) → (ℕ → Type 0) → (ℕ → Type 0) → ℕ → Type 0
Gathered Leads Set Left all = (j : ℕ) → Led Leads Set j ↔ (Member all j ⊎ Led Leads Left j)

module _ (Leads : ℕ → ℕ → Type 0) (Set Left : ℕ → Type 0) where
  -- nothing is gathered, and what is not left leads nowhere
  pub gathered_none : ((m j : ℕ) → Set m → Leads m j → Left m) → ((m : ℕ) → Left m → Set m) → Gathered Leads Set Left 0
  gathered_none part all j = (
    λ v. inr (v.0, part v.0 j v.1 v.2, v.2),
    λ v. ⊎_elim (λ h. absurd (none_member j h)) (λ u. (u.0, all u.0 u.1, u.2)) v,
  )

  module _ (word : ℕ) (u : Gathered Leads Set Left word) where
    -- nothing is left
    pub gathered_all : ((m : ℕ) → Left m → ⊥) → (j : ℕ) → Member word j ↔ Led Leads Set j
    gathered_all none j = (λ h. (u j).1 (inl h), λ v. ⊎_elim (λ h. h) (λ w. absurd (none w.0 w.1)) ((u j).0 v))

    module _ (Rest : ℕ → Type 0) (wider : (x : ℕ) → Rest x → Left x) where
      -- what is left, said in another way
      pub gathered_same : ((x : ℕ) → Left x → Rest x) → Gathered Leads Set Rest word
      gathered_same part j = (
        λ v. ⊎_elim inl (λ w. inr (w.0, part w.0 w.1, w.2)) ((u j).0 v),
        λ v. (u j).1 (⊎_elim inl (λ w. inr (w.0, wider w.0 w.1, w.2)) v),
      )

      -- where m leads is gathered
      pub gathered_more : (m : ℕ) → Left m → ((x : ℕ) → Left x → (x ≡ m → ⊥) → Rest x) → (row : ℕ) → ((j : ℕ) → Member row j ↔ Leads m j) → Gathered Leads Set Rest (bit_or word row)
      gathered_more m here part row w j =
          let o = or_member word row j in (
            λ v. ⊎_elim (λ h. inl (o.1 (inl h))) (λ z. ⊎_elim (λ h. inl (o.1 (inr ((w j).1 h)))) inr (cases z)) ((u j).0 v),
            λ v. (u j).1 (⊎_elim (λ h. ⊎_elim inl (λ k. inr (m, here, (w j).0 k)) (o.0 h)) (λ z. inr (z.0, wider z.0 z.1, z.2)) v),
          )
        where
          cases : Led Leads Left j → Leads m j ⊎ Led Leads Rest j
          cases z = go (ℕ_discrete z.0 m)
            where
              go : Dec (z.0 ≡ m) → Leads m j ⊎ Led Leads Rest j
              go (yes e) = inl (rw e at z.2)
              go (no n) = inr (z.0, part z.0 z.1 n, z.2)

-- the first member is gathered
pub gathered_first : (Leads : ℕ → ℕ → Type 0) (Set : ℕ → Type 0) (left m word row : ℕ) → Taken left m → Gathered Leads Set (Member left) word → ((j : ℕ) → Member row j ↔ Leads m j) →
    Gathered Leads Set (Member (bit_and left (left - 1))) (bit_or word row)
gathered_first Leads Set left m word row t u w =
    gathered_more Leads Set (Member left) word u (Member (bit_and left (left - 1))) (λ x h. ((t.rest x).0 h).0) m t.here (λ x h n. (t.rest x).1 (h, n)) row w

-- the same, as a turn of a loop over the members knows it
pub gathered_turn : (Leads : ℕ → ℕ → Type 0) (Set : ℕ → Type 0) (left m next word row : ℕ) → Turn left m next → Gathered Leads Set (Member left) word → ((j : ℕ) → Member row j ↔ Leads m j) →
    Gathered Leads Set (Member next) (bit_or word row)
gathered_turn Leads Set left m next word row t u w = rw t.after (gathered_first Leads Set left m word row t.taken u w)

-- m leads to the members of its row, from ≤ m < width
abbrev pub RowLeads : List ℕ → ℕ → ℕ → ℕ → ℕ → ℕ → Type 0
RowLeads rows base from width m j = (from ≤ m) × (m < width) × Member (get_or rows (base + m) 0) j

-- the row of a member within the bounds
pub row_leads : (rows : List ℕ) (base from width m : ℕ) → (from ≤ m) × (m < width) → (j : ℕ) → Member (get_or rows (base + m) 0) j ↔ RowLeads rows base from width m j
row_leads rows base from width m within j = (λ k. (within.0, within.1, k), λ p. p.2)

-- the same of the rows of a run, as a part of the list from i on
part_row : (rows : List ℕ) (i n k : ℕ) → k < n → get_or (take n (drop i rows)) k 0 ≡ get_or rows (i + k) 0
part_row rows i n k l = rw (get_or-take, get_or-drop)

pub part_inside : (rows : List ℕ) (i n k : ℕ) → k < length (take n (drop i rows)) → k < n
part_inside rows i n k l = omega (arith, l, length-take n (drop i rows))

pub part_length : (rows : List ℕ) (base m last width : ℕ) → m ≤ last → last < width → base + width ≤ length rows → length (take (base + last + 1 - (base + m)) (drop (base + m) rows)) + m ≡ last + 1
part_length rows base m last width low high room = simp (length-take, length-drop) (omega arith)

pub part_leads : (rows : List ℕ) (base from width m n k : ℕ) → k < n → (from ≤ m + k) × (m + k < width) → (j : ℕ) → Member (get_or (take n (drop (base + m) rows)) k 0) j ↔ RowLeads rows base from width (m + k) j
part_leads rows base from width m n k l within j =
    let e : get_or (take n (drop (base + m) rows)) k 0 ≡ get_or rows (base + (m + k)) 0 = part_row rows (base + m) n k l ∙ ap (λ (i : ℕ). get_or rows i 0) (omega arith) in
    rw e (row_leads rows base from width (m + k) within j)

-- the members from k on
abbrev pub From : ℕ → ℕ → ℕ → Type 0
From left k x = Member left x × (k ≤ x)

module _ (set : ℕ) (rows : List ℕ) (base from width : ℕ) where
  pub union_is : (r : ℕ) → ((j : ℕ) → Member r j ↔ Led (RowLeads rows base from width) (Member set) j) → Union set rows base from width r
  union_is r u j = (
    λ h. let v = (u j).0 h in record { mid = v.0; after = v.2.0; before = v.2.1; chosen = v.1; leads = v.2.2 },
    λ v. (u j).1 (v.mid, v.chosen, (v.after, v.before, v.leads)),
  )

  pub union_none : width ≤ from → Union set rows base from width 0
  union_none l j = (λ h. absurd (none_member j h), λ v. absurd (omega (arith, v.after, v.before)))
