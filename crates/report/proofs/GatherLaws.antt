-- Lists gathered: in rows, one after the other, and what is made of each element.
use Prim.Native.Nat.{ℕ, zero, suc, ◌+◌, ◌*◌, ◌<◌}
use mathlib.Core.Path.{◌≡◌, refl, sym, ◌∙◌, ap}
use mathlib.Core.List.{List, [], ◌∷◌, ◌++◌, append_assoc, map, map-append, flatten}
use native.Mathlib.Numerals.{add-one}
use native.Mathlib.Nat.{add-zero, zero-add, add-suc, suc-add, zero-mul, suc-mul}
use native.Mathlib.Omega.{arith}
use Rattle.derivation.specs.computed.Listing.{listed, gathered}
use Rattle.lines.proofs.WriteLaws.{gathered_none, gathered_more}

module _ {X : Type 0} where
  pub flatten_append : (x y : List (List X)) → flatten (x ++ y) ≡ flatten x ++ flatten y
  unfolding flatten
  flatten_append [] y = refl
  flatten_append (l ∷ x) y = rw (flatten_append x y, append_assoc)

  -- equal lists are gathered equally
  from_same : (f g : ℕ → List X) (i n : ℕ) → ((k : ℕ) → k < n → f (i + k) ≡ g (i + k)) → flatten (listed f i n) ≡ flatten (listed g i n)
  unfolding flatten listed
  from_same f g i zero h = refl
  from_same f g i (suc n) h =
      let first : f i ≡ g i = rw add-zero at (h 0 (omega arith)) in
      rw (first, from_same f g (suc i) n (λ k l. rw (suc-add, ← add-suc) (h (suc k) (omega arith))))

  pub gathered_same : (f g : ℕ → List X) (n : ℕ) → ((k : ℕ) → k < n → f k ≡ g k) → gathered n f ≡ gathered n g
  unfolding gathered
  gathered_same f g n h = from_same f g 0 n (λ k l. rw zero-add (h k l))

  -- a first part and the rest
  from_split : (f : ℕ → List X) (i a b : ℕ) → flatten (listed f i (a + b)) ≡ flatten (listed f i a) ++ flatten (listed f (i + a) b)
  unfolding flatten listed
  from_split f i zero b = rw (zero-add, add-zero)
  from_split f i (suc a) b = rw (suc-add, from_split f (suc i) a b, append_assoc, add-suc, suc-add)

  from_shift : (f : ℕ → List X) (i s n : ℕ) → flatten (listed f (s + i) n) ≡ flatten (listed (λ k. f (s + k)) i n)
  unfolding flatten listed
  from_shift f i s zero = refl
  from_shift f i s (suc n) = rw (← add-suc, from_shift f (suc i) s n)

  pub gathered_split : (f : ℕ → List X) (a b : ℕ) → gathered (a + b) f ≡ gathered a f ++ gathered b (λ k. f (a + k))
  unfolding gathered
  gathered_split f a b =
      from_split f 0 a b
      ∙ ap (λ (l : List X). flatten (listed f 0 a) ++ l) (ap (λ (m : ℕ). flatten (listed f m b)) (zero-add a ∙ sym (add-zero a)) ∙ from_shift f 0 a b)

  from_next : (f : ℕ → List X) (i n : ℕ) → flatten (listed f (suc i) n) ≡ flatten (listed (λ k. f (suc k)) i n)
  unfolding flatten listed
  from_next f i zero = refl
  from_next f i (suc n) = rw (from_next f (suc i) n)

  -- the first and the others
  pub gathered_first : (f : ℕ → List X) (n : ℕ) → gathered (suc n) f ≡ f 0 ++ gathered n (λ k. f (suc k))
  unfolding gathered flatten listed
  gathered_first f n = rw (from_next f 0 n)

  -- rows of width w, one after the other
  pub gathered_rows : (f : ℕ → List X) (w n : ℕ) → gathered (n * w) f ≡ gathered n (λ a. gathered w (λ i. f (a * w + i)))
  gathered_rows f w zero = rw (zero-mul, gathered_none f, gathered_none (λ a. gathered w (λ i. f (a * w + i))))
  gathered_rows f w (suc n) =
      let last = rw add-one at (gathered_more (λ a. gathered w (λ i. f (a * w + i))) n) in
      rw (suc-mul, last, ← gathered_rows f w n) (gathered_split f (n * w) w)

module _ {X Y : Type 0} (h : X → List Y) where
  from_map : (f : ℕ → List X) (i n : ℕ) → flatten (map h (flatten (listed f i n))) ≡ flatten (listed (λ k. flatten (map h (f k))) i n)
  unfolding flatten listed
  from_map f i zero = refl
  from_map f i (suc n) = rw (map-append h (f i) (flatten (listed f (suc i) n)), flatten_append (map h (f i)) (map h (flatten (listed f (suc i) n))), from_map f (suc i) n)

  -- what is made of each element of what is gathered
  pub map_gathered : (f : ℕ → List X) (n : ℕ) → flatten (map h (gathered n f)) ≡ gathered n (λ k. flatten (map h (f k)))
  unfolding gathered
  map_gathered f n = from_map f 0 n
