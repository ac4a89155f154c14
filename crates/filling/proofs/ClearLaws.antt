-- A row of memory whose first k entries are cleared.
use Prim.Native.Nat.{ℕ, ◌+◌, ◌-◌, ◌≤◌, ◌<◌}
use mathlib.Core.Path.{◌≡◌, ap, ◌∙◌}
use mathlib.Core.List.{List, ◌++◌}
use lib.ListN.{length, get_or, take, drop, replicate, length-replicate, get_or-replicate, length-append, length-drop, get_or-append}
use lib.Seq.{get_or-append-add, get_or-drop}
use native.Mathlib.Omega.{arith}
use Rattle.std.proofs.lemmas.List.{length-take-le}

-- the first k entries are filled with 0
pub cleared_front : (k : ℕ) (old front : List ℕ) → k ≤ length old → front ≡ replicate (length (take k old)) 0 → front ++ drop k old ≡ replicate k 0 ++ drop k old
cleared_front k old front l e = ap (λ (x : List ℕ). x ++ drop k old) (e ∙ ap (λ (n : ℕ). replicate n 0) (length-take-le k old l))

-- the entries of a cleared row
module _ (k : ℕ) (old : List ℕ) where
  pub cleared_at : (q : ℕ) → q < k → get_or (replicate k 0 ++ drop k old) q 0 ≡ 0
  cleared_at q l = get_or-append (replicate k 0) (drop k old) 0 q (rw (length-replicate {A = ℕ} k 0) l) ∙ get_or-replicate k q 0 0 l

  pub cleared_past : (q : ℕ) → k ≤ q → get_or (replicate k 0 ++ drop k old) q 0 ≡ get_or old q 0
  cleared_past q l =
      let e : q ≡ k + (q - k) = omega arith in
      let f = get_or-append-add (replicate k 0) (drop k old) (q - k) 0 in
      rw e (rw (length-replicate {A = ℕ} k 0) at f ∙ get_or-drop k old (q - k) 0)

  pub cleared_long : k ≤ length old → length (replicate k 0 ++ drop k old) ≡ length old
  cleared_long l = rw (length-append, length-replicate {A = ℕ} k 0, length-drop) (omega arith)
