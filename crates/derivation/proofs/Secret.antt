-- The computed marks are the secret tokens.
use Prim.Native.Nat.{ℕ, suc, ◌≤◌, ◌<◌, suc-le-suc}
use mathlib.Core.Path.{◌≡◌, refl, sym}
use mathlib.Core.Logic.{◌↔◌, ◌⊎◌, inl, inr}
use mathlib.Core.Bool.{Bool, true, ◌&&◌, ◌||◌, true≢false}
use mathlib.Core.List.{List}
use native.Mathlib.Nat.{le_trans}
use native.Mathlib.Omega.{arith}
use lib.ListN.{length, get_or}
use lib.Dec.{eqb, ltb, leb}
use borrow.Author.Tests.{ltb-true, leb-true, eqb-true, lt-ltb, le-leb, eq-eqb}
use Rattle.derivation.specs.Grammar.{Grammar, Proper}
use Rattle.derivation.specs.Fact.{Fact}
use Rattle.derivation.specs.Depth.{DepthIs, no_fact, deep}
use Rattle.derivation.specs.Secret.{Secret, by_class, by_fact}
use Rattle.derivation.specs.computed.Search.{some}
use Rattle.derivation.specs.computed.Table.{is_found, depth_of}
use Rattle.derivation.specs.computed.Marks.{covered, secret}
use Rattle.derivation.proofs.Tests.{and_parts, and_both, or_cases, or_left, or_right, some_found, some_here}
use Rattle.derivation.proofs.Within.{tree_inside}
use Rattle.derivation.proofs.Bound.{tree_category}
use Rattle.derivation.proofs.Table.{depth_of_is}

-- a number kept for (A, i, j) is found exactly where it is a fact
pub found_fact : {g : Grammar} {w : List ℕ} {A i j d : ℕ} → DepthIs g w A i j d → is_found d ≡ true → Fact g w A i j
unfolding is_found
found_fact (no_fact n) e = absurd (true≢false (sym e))
found_fact (deep p) e = p.tree

pub fact_found : {g : Grammar} {w : List ℕ} {A i j d : ℕ} → DepthIs g w A i j d → Fact g w A i j → is_found d ≡ true
unfolding is_found
fact_found (no_fact n) t = absurd (n t)
fact_found (deep p) t = refl

module _ (g : Grammar) (w : List ℕ) (proper : Proper g) (t : ℕ) where
  covers : ℕ → ℕ → ℕ → Bool
  covers A i j = is_found (depth_of g w A i j) && (leb i t && ltb t j)

  covered_sound : (A : ℕ) → covered g w t A ≡ true → get_or g.categories A 0 ≡ 1 → Secret g w t
  unfolding covered covers
  covered_sound A e k =
      let a = some_found (λ i. some (covers A i) (suc (length w))) (suc (length w)) e in
      let b = some_found (covers A a.0) (suc (length w)) a.2 in
      let c = and_parts (is_found (depth_of g w A a.0 b.0)) (leb a.0 t && ltb t b.0) b.2 in
      let d = and_parts (leb a.0 t) (ltb t b.0) c.1 in
      by_fact k (found_fact (depth_of_is g w proper A a.0 b.0) c.0) (leb-true a.0 t d.0) (ltb-true t b.0 d.1)

  covered_complete : (A i j : ℕ) → Fact g w A i j → i ≤ t → t < j → covered g w t A ≡ true
  unfolding covered covers
  covered_complete A i j f x y =
      let r = tree_inside f in
      some_here (λ i. some (covers A i) (suc (length w))) (suc (length w)) i (suc-le-suc (le_trans r.rises r.ends))
      (some_here (covers A i) (suc (length w)) j (suc-le-suc r.ends)
      (and_both (fact_found (depth_of_is g w proper A i j) f) (and_both (le-leb i t x) (lt-ltb t j y))))

  test : ℕ → Bool
  test A = eqb (get_or g.categories A 0) 1 && covered g w t A

  by_flag : Bool
  by_flag = eqb (get_or g.classes (get_or w t 0) 0) 1

  pub secret_iff : (secret g w t ≡ true) ↔ Secret g w t
  unfolding secret test by_flag
  secret_iff = (λ e. let a = and_parts (ltb t (length w)) (by_flag || some test (length g.categories)) e in sound (ltb-true t (length w) a.0) (or_cases by_flag (some test (length g.categories)) a.1), complete)
    where
      sound : t < length w → (by_flag ≡ true) ⊎ (some test (length g.categories) ≡ true) → Secret g w t
      sound l (inl e) = by_class l (eqb-true (get_or g.classes (get_or w t 0) 0) 1 e)
      sound l (inr e) =
          let a = some_found test (length g.categories) e in
          let b = and_parts (eqb (get_or g.categories a.0 0) 1) (covered g w t a.0) a.2 in
          covered_sound a.0 b.1 (eqb-true (get_or g.categories a.0 0) 1 b.0)

      complete : Secret g w t → secret g w t ≡ true
      complete (by_class l e) = and_both (lt-ltb t (length w) l) (or_left by_flag (some test (length g.categories)) (eq-eqb (get_or g.classes (get_or w t 0) 0) 1 e))
      complete (by_fact {A} {i} {j} k f x y) =
          and_both (lt-ltb t (length w) (omega (arith, (tree_inside f).ends)))
          (or_right by_flag (some test (length g.categories))
          (some_here test (length g.categories) A (tree_category proper f)
          (and_both (eq-eqb (get_or g.categories A 0) 1 k) (covered_complete A i j f x y))))
