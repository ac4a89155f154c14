-- A part of the bytes: `count` of them, from a position. And a table of zeros.
use Prim.Native.Nat.{ℕ, zero, suc, ◌+◌, ◌≤◌, ◌<◌}
use mathlib.Core.Path.{◌≡◌, refl}
use mathlib.Core.List.{List}
use native.Mathlib.Omega.{arith}
use lib.ListN.{take, drop, length, get_or, replicate, length-drop}
use lib.Seq.{length-take-le, get_or-take, get_or-drop}
use Rattle.grammar.specs.Reading.{byte}

module _ (g : List ℕ) (count at : ℕ) where
  pub part_length : at + count ≤ length g → length (take count (drop at g)) ≡ count
  part_length inside = length-take-le count (drop at g) (rw length-drop (omega arith))

  pub part_at : (i : ℕ) → i < count → get_or (take count (drop at g)) i 0 ≡ byte g (at + i)
  part_at i l = rw (get_or-take, get_or-drop)

-- each entry of a table of zeros is 0, and so is each past it
pub zeros : (n q : ℕ) → ◌≡◌ {A = ℕ} (get_or (replicate n 0) q 0) 0
zeros zero q = refl
zeros (suc n) zero = refl
zeros (suc n) (suc q) = zeros n q
