-- Facts are derivations in the textbook sense: the category rewrites to the tokens of its stretch.
use Prim.Native.Nat.{ℕ, zero, suc, ◌+◌, ◌-◌, ◌≤◌, ◌<◌}
use mathlib.Core.Path.{◌≡◌, refl, ap}
use mathlib.Core.Logic.{◌↔◌}
use mathlib.Core.List.{List, [], ◌∷◌, ◌++◌}
use native.Mathlib.Nat.{le_refl, le_trans, le-add_right, add-sub_cancel_left, add-sub_of_le}
use native.Mathlib.Omega.{arith}
use lib.ListN.{length}
use lib.Seq.{slice_empty, slice-cons}
use Rattle.derivation.specs.Grammar.{Grammar, IsRule}
use Rattle.derivation.specs.Tree.{Tree, Child, Children, node, token, category, stop, then}
use Rattle.derivation.specs.Fact.{Fact}
use Rattle.derivation.specs.Rewriting.{Step, Rewrites, done, step, stretch, Tokens}
use Rattle.derivation.proofs.Within.{tree_inside, children_inside}
use Rattle.derivation.proofs.Prefix.{split}

module _ {g : Grammar} where
  rewrites_trans : {u v x : List ℕ} → Rewrites g u v → Rewrites g v x → Rewrites g u x
  rewrites_trans done q = q
  rewrites_trans (step s p) q = step s (rewrites_trans p q)

  -- a rewriting goes on behind one more symbol
  step_behind : {u v : List ℕ} (c : ℕ) → Step g u v → Step g (c ∷ u) (c ∷ v)
  step_behind c s =
      record {
        before = c ∷ s.before;
        after = s.after;
        right = s.right;
        p = s.p;
        A = s.A;
        rule = s.rule;
        from = ap (λ (r : List ℕ). c ∷ r) s.from;
        to = ap (λ (r : List ℕ). c ∷ r) s.to;
      }

  rewrites_behind : {u v : List ℕ} (c : ℕ) → Rewrites g u v → Rewrites g (c ∷ u) (c ∷ v)
  rewrites_behind c done = done
  rewrites_behind c (step s q) = step (step_behind c s) (rewrites_behind c q)

module _ {g : Grammar} {w : List ℕ} where
  -- what derives i..m rewrites, before the tokens of m..j, to the tokens of i..j
  mutual
    tree_rewrites : {A i m j : ℕ} → Tree g w A i m → m ≤ j → j ≤ length w → Rewrites g ((128 + A) ∷ stretch w m j) (stretch w i j)
    tree_rewrites (node p r bs) h l =
        step (record { before = []; after = _; right = _; p = p; A = _; rule = r; from = refl; to = refl }) (children_rewrite bs h l)

    child_rewrites : {c i m j : ℕ} → Child g w c i m → m ≤ j → j ≤ length w → Rewrites g (c ∷ stretch w m j) (stretch w i j)
    child_rewrites {i = i} {j = j} (token k f e) h l = rw (slice-cons i j w 0 h l, e) done
    child_rewrites (category k t) h l = rw (add-sub_of_le k) at (tree_rewrites t h l)

    children_rewrite : {s : List ℕ} {i m j : ℕ} → Children g w s i m → m ≤ j → j ≤ length w → Rewrites g (s ++ stretch w m j) (stretch w i j)
    children_rewrite (stop f) h l = done
    children_rewrite (then {c} b bs) h l =
        rewrites_trans (rewrites_behind c (children_rewrite bs h l)) (child_rewrites b (le_trans (children_inside bs).rises h) l)

  -- the tokens of i..j derive i..j
  stretch_derives : Tokens w → (k i j : ℕ) → i + k ≡ j → j ≤ length w → Children g w (stretch w i j) i j
  stretch_derives ts zero i j e l = let same : j ≡ i = omega arith in rw (same, slice_empty) (stop (rw same at l))
  stretch_derives ts (suc k) i j e l =
      let h : i < length w = omega arith in
      rw (slice-cons i j w 0 (omega arith) l) (then (token (ts.below i h) h refl) (stretch_derives ts k (suc i) j (omega arith) l))

  -- symbol 128 + A derives what category A derives
  tree_child : {A i j : ℕ} → Tree g w A i j → Child g w (128 + A) i j
  tree_child {A} t = category (le-add_right 128 A) (rw (← (add-sub_cancel_left 128 A)) at t)

  category_tree : {A i j : ℕ} → Children g w ((128 + A) ∷ []) i j → Tree g w A i j
  category_tree (then (token k f e) bs) = absurd (omega arith)
  category_tree {A} (then (category k t) (stop l)) = rw (add-sub_cancel_left 128 A) at t

  -- what the right side of a rule derives its category derives, among other symbols
  step_derives :
      (before after : List ℕ) {right : List ℕ} {p A i j : ℕ} → IsRule g p A right → Children g w (before ++ (right ++ after)) i j → Children g w (before ++ ((128 + A) ∷ after)) i j
  step_derives [] after {right} {p} r bs =
      let a = split right (record { children = bs; low = le_refl _ }) in then (tree_child (node p r a.1.children)) a.2.children
  step_derives (c ∷ before) after r (then b bs) = then b (step_derives before after r bs)

  rewrites_derive : {u x : List ℕ} {i j : ℕ} → Rewrites g u x → Children g w x i j → Children g w u i j
  rewrites_derive done bs = bs
  rewrites_derive (step s q) bs = rw s.from (step_derives s.before s.after s.rule (rw s.to at (rewrites_derive q bs)))

  -- (A, i, j) is a fact exactly where i..j is a stretch of the line and A rewrites to its tokens
  pub textbook : Tokens w → (A i j : ℕ) → Fact g w A i j ↔ ((i ≤ j) × (j ≤ length w) × Rewrites g ((128 + A) ∷ []) (stretch w i j))
  textbook ts A i j = (
    λ t. let r = tree_inside t in (r.rises, r.ends, rw slice_empty at (tree_rewrites t (le_refl j) r.ends)),
    λ d. category_tree (rewrites_derive d.2 (stretch_derives ts (j - i) i j (add-sub_of_le d.0) d.1)),
  )
