-- Where a contract of this crate is a relation, two outcomes that it allows are equal.
use Rattle.std.proofs.Common.{Err, Ok, Result}
use Rattle.refusals.specs.declared.Refusal.{Refusal}
use Prim.Native.Nat.{ℕ, ◌<◌}
use mathlib.Core.Path.{◌≡◌, sym, ◌∙◌, ap}
use mathlib.Core.List.{List, [], ◌∷◌, ◌++◌}
use lib.ListN.{length, drop}
use native.Mathlib.Decide.{dec_lt}
use native.Mathlib.Omega.{arith}
use Rattle.refusals.specs.Told as told
use Rattle.derivation.specs.Grammar.{Grammar}
use Rattle.derivation.specs.Tree.{Tree}
use Rattle.derivation.specs.Node.{NodeValue, preorder}
use Rattle.derivation.specs.Choice.{Chosen}
use Rattle.derivation.proofs.Choice.{chosen_unique}
use Rattle.checks.proofs.Laws.{one_refusal, not_both}
use Rattle.filling.proofs.Unique.{filled_unique}
use Rattle.tree.specs.inner.Counted.{Counted}
use Rattle.tree.specs.Bytes.{bytes}
use Rattle.tree.specs.Told.{tree_told}
use Rattle.tree.specs.Outcome.{TreeOutcome, turned_down, no_fact, no_room, shows}

-- there is one count
pub counted_unique : {total limit r q : ℕ} → Counted total limit r → Counted total limit q → r ≡ q
counted_unique {total} {limit} {r} {q} x y = go (dec_lt limit r) (dec_lt limit q)
  where
    go : Dec (limit < r) → Dec (limit < q) → r ≡ q
    go (yes l) (yes k) = omega (arith, x.most, y.most)
    go (yes l) (no k) = absurd (omega (arith, x.over l, y.exact (omega arith)))
    go (no l) (yes k) = absurd (omega (arith, y.over k, x.exact (omega arith)))
    go (no l) (no k) = omega (arith, x.exact (omega arith), y.exact (omega arith))

-- a count that is told is the answer's
told_count : (answer : Result ℕ Refusal) (count : ℕ) → tree_told answer ≡ told.answered (count ∷ []) → answer ≡ Ok count
told_count (Ok n) count e = let z : n ≡ count = cc in ap Ok z
told_count (Err refusal) count e = absurd (never e)
  where
    never : tree_told (Err refusal) ≡ told.answered (count ∷ []) → ⊥
    never k = let z : ◌≡◌ {A = ℕ} 0 1 = cc in omega arith

-- two chosen trees of a fact have equally many bytes
same_bytes : {g : Grammar} {w : List ℕ} {A i j : ℕ} (t s : Tree g w A i j) → Chosen t → Chosen s → length (bytes (preorder t)) ≡ length (bytes (preorder s))
same_bytes t s c d = ap (λ (q : List NodeValue). length (bytes q)) (chosen_unique t s c d)

-- the tree question has one outcome
pub tree_outcome_unique : {g line : List ℕ} {A i j : ℕ} {words depths out : List ℕ} {a b : (Result ℕ Refusal)} {words₁ depths₁ out₁ words₂ depths₂ out₂ : List ℕ} →
    TreeOutcome g line A i j words depths out a words₁ depths₁ out₁ → TreeOutcome g line A i j words depths out b words₂ depths₂ out₂ →
    (a ≡ b) × (words₁ ≡ words₂) × (depths₁ ≡ depths₂) × (out₁ ≡ out₂)
tree_outcome_unique (turned_down e x p q r) (turned_down f y o t u) = (x ∙ ap Err (one_refusal e f) ∙ sym y, p ∙ sym o, q ∙ sym t, r ∙ sym u)
tree_outcome_unique (turned_down e x p q r) (no_fact f n y w u) = absurd (not_both e f)
tree_outcome_unique (turned_down e x p q r) (no_room _ f c l y w u) = absurd (not_both e f)
tree_outcome_unique (turned_down e x p q r) (shows _ f c l y w u) = absurd (not_both e f)
tree_outcome_unique (no_fact e n x v r) (turned_down f y o t u) = absurd (not_both f e)
tree_outcome_unique {words = words} {depths = depths} (no_fact e n x v r) (no_fact f m y w u) = let z = filled_unique _ _ words depths v w in (x ∙ sym y, z.0, z.1, r ∙ sym u)
tree_outcome_unique (no_fact e n x v r) (no_room t f c l y w u) = absurd (n t)
tree_outcome_unique (no_fact e n x v r) (shows t f c l y w u) = absurd (n t)
tree_outcome_unique (no_room _ e c l x v r) (turned_down f y o t u) = absurd (not_both f e)
tree_outcome_unique (no_room t e c l x v r) (no_fact f n y w u) = absurd (n t)
tree_outcome_unique {words = words} {depths = depths} (no_room _ e c l x v r) (no_room _ f d k y w u) = let z = filled_unique _ _ words depths v w in (x ∙ sym y, z.0, z.1, r ∙ sym u)
tree_outcome_unique (no_room t e c l x v r) (shows s f d k y w u) = absurd (omega (arith, l, k, same_bytes t s c d))
tree_outcome_unique (shows _ e c l x v r) (turned_down f y o t u) = absurd (not_both f e)
tree_outcome_unique (shows t e c l x v r) (no_fact f n y w u) = absurd (n t)
tree_outcome_unique (shows t e c l x v r) (no_room s f d k y w u) = absurd (omega (arith, l, k, same_bytes t s c d))
tree_outcome_unique {words = words} {depths = depths} {out = out} {a = a} {b = b} (shows t e c l x v r) (shows s f d k y w u) =
    let z = filled_unique _ _ words depths v w in
    let same = chosen_unique t s c d in
    (told_count a _ x ∙ ap (λ (q : List NodeValue). Ok (length q)) same ∙ sym (told_count b _ y), z.0, z.1, r ∙ ap (λ (q : List NodeValue). bytes q ++ drop (length (bytes q)) out) same ∙ sym u)
