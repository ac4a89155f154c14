-- How far rows reach: the ends of one row, and those of the secret categories below k from a start.
use Prim.Native.Nat.{ℕ, ◌+◌, ◌*◌, ◌<◌, max}
use mathlib.Core.Path.{◌≡◌}
use mathlib.Core.Logic.{◌↔◌, ◌⊎◌, inl, inr, ⊎_elim}
use mathlib.Core.List.{List}
use native.Mathlib.Decide.{ℕ_discrete, dec_lt}
use native.Mathlib.Omega.{arith}
use lib.ListN.{get_or}
use Rattle.positions.specs.Member.{Member}
use Rattle.positions.specs.Last.{Last}
use Rattle.positions.proofs.Members.{none_member}
use Rattle.derivation.specs.Grammar.{Grammar}
use Rattle.marks.specs.inner.Reach.{RowReachIs}

-- a row without members, and one whose largest member is `last`
pub row_empty : (far : ℕ) → RowReachIs 0 far far
row_empty far t = (inl, ⊎_elim (λ h. h) (λ m. absurd (none_member m.0 m.1)))

module _ (row far last : ℕ) (l : Last row last) where
  before_last : (t : ℕ) → (j : ℕ) × Member row j × (t < j) → t < last
  before_last t m = let n : last < m.0 → ⊥ = λ h. l.none_above m.0 h m.1 in omega (arith, m.2)

  pub row_further : RowReachIs row far (max far last)
  row_further t = (λ h. further h (dec_lt t far), ⊎_elim (λ k. omega arith) (λ m. omega (arith, before_last t m)))
    where
      further : t < max far last → Dec (t < far) → (t < far) ⊎ ((j : ℕ) × Member row j × (t < j))
      further h (yes k) = inl k
      further h (no k) = inr (last, l.found, omega arith)

-- t is before an end from the start of a secret category below k
abbrev pub BeforeEnd : Grammar → List ℕ → ℕ → ℕ → ℕ → ℕ → Type 0
BeforeEnd G words width start k t =
    (A : ℕ) × (j : ℕ) × (A < k) × (get_or G.categories A 0 ≡ 1) × Member (get_or words (A * width + start) 0) j × (t < j)

-- the same as `Reaches`, for the categories below k
abbrev pub ReachesBelow : Grammar → List ℕ → ℕ → ℕ → ℕ → ℕ → ℕ → Type 0
ReachesBelow G words width start k far r = (t : ℕ) → (t < r) ↔ ((t < far) ⊎ BeforeEnd G words width start k t)

module _ (G : Grammar) (words : List ℕ) (width start far : ℕ) where
  pub reach_none : ReachesBelow G words width start 0 far far
  reach_none t = (inl, ⊎_elim (λ h. h) (λ b. absurd (omega (arith, b.2))))

  module _ (k r : ℕ) (x : ReachesBelow G words width start k far r) where
    more : (t : ℕ) → BeforeEnd G words width start k t → BeforeEnd G words width start (k + 1) t
    more t b = (b.0, b.1, omega (arith, b.2), b.3, b.4, b.5)

    -- an end of category k, or of one before it
    last_or : (t : ℕ) → BeforeEnd G words width start (k + 1) t →
        BeforeEnd G words width start k t ⊎ ((get_or G.categories k 0 ≡ 1) × ((j : ℕ) × Member (get_or words (k * width + start) 0) j × (t < j)))
    last_or t b = go (ℕ_discrete b.0 k)
      where
        go : Dec (b.0 ≡ k) → BeforeEnd G words width start k t ⊎ ((get_or G.categories k 0 ≡ 1) × ((j : ℕ) × Member (get_or words (k * width + start) 0) j × (t < j)))
        go (yes e) = inr (rw e at b.3, (b.1, rw e at b.4, b.5))
        go (no n) = inl (b.0, b.1, omega (arith, b.2), b.3, b.4, b.5)

    -- category k is plain
    pub reach_plain : (get_or G.categories k 0 ≡ 1 → ⊥) → ReachesBelow G words width start (k + 1) far r
    reach_plain plain t = (
      λ h. ⊎_elim inl (λ b. inr (more t b)) ((x t).0 h),
      ⊎_elim (λ h. (x t).1 (inl h)) (λ b. ⊎_elim (λ y. (x t).1 (inr y)) (λ y. absurd (plain y.0)) (last_or t b)),
    )

    -- category k is secret
    pub reach_secret : (r' : ℕ) → get_or G.categories k 0 ≡ 1 → RowReachIs (get_or words (k * width + start) 0) r r' → ReachesBelow G words width start (k + 1) far r'
    reach_secret r' flag row t = (
      λ h. ⊎_elim (λ y. ⊎_elim inl (λ b. inr (more t b)) ((x t).0 y)) (λ m. inr (k, m.0, omega arith, flag, m.1, m.2)) ((row t).0 h),
      ⊎_elim (λ h. (row t).1 (inl ((x t).1 (inl h))))
          (λ b. ⊎_elim (λ y. (row t).1 (inl ((x t).1 (inr y)))) (λ y. (row t).1 (inr y.1)) (last_or t b)),
    )
