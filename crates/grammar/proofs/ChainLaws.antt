-- Laws of `specs/inner/Chains.antt`: a chain is its next number and the chain after that.
use Prim.Native.Nat.{ℕ, suc, ◌-◌, ◌≤◌, ◌<◌}
use mathlib.Core.Path.{◌≡◌, refl, sym}
use mathlib.Core.Logic.{◌⊎◌, inl, inr}
use mathlib.Core.List.{List}
use native.Mathlib.Omega.{arith}
use lib.ListN.{get_or}
use Rattle.grammar.specs.inner.Chains.{OnChain, next, later}

-- nothing is on a chain that has ended
pub ended : (before : List ℕ) {q : ℕ} → OnChain before 0 q → ⊥
ended before c = go c refl
  where
    go : {v q : ℕ} → OnChain before v q → v ≡ 0 → ⊥
    go next e = omega arith
    go (later c) e = omega arith

module _ (before : List ℕ) (v : ℕ) (some : 0 < v) where
  same : v ≡ suc (v - 1)
  same = omega arith

  pub chain_next : OnChain before v (v - 1)
  chain_next = let head : OnChain before (suc (v - 1)) (v - 1) = next in rw (sym same) at head

  pub chain_later : {q : ℕ} → OnChain before (get_or before (v - 1) 0) q → OnChain before v q
  chain_later {q} c = let rest : OnChain before (suc (v - 1)) q = later c in rw (sym same) at rest

  pub chain_cases : {q : ℕ} → OnChain before v q → (q ≡ v - 1) ⊎ OnChain before (get_or before (v - 1) 0) q
  chain_cases c = go c refl
    where
      go : {w q : ℕ} → OnChain before w q → w ≡ v → (q ≡ v - 1) ⊎ OnChain before (get_or before (v - 1) 0) q
      go (next {q}) e = let z : q ≡ v - 1 = omega arith in inl z
      go (later {p} c) e = let z : p ≡ v - 1 = omega arith in inr (rw z at c)

-- a chain that falls below `most` is the same in a table that agrees there
pub chain_agrees :
    (before before' : List ℕ) (most : ℕ) → ((p : ℕ) → p < most → (get_or before p 0 ≤ p) × (get_or before p 0 ≡ get_or before' p 0)) → {v q : ℕ} → v ≤ most → OnChain before v q → OnChain before' v q
chain_agrees before before' most agree h next = next
chain_agrees before before' most agree h (later {p} {q} c) =
    let a = agree p (omega arith) in
    let rest : OnChain before' (get_or before p 0) q = chain_agrees before before' most agree (omega (arith, a.0)) c in
    later (rw a.1 at rest)
