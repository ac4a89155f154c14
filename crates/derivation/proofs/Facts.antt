-- The computed facts are the facts: as a test, as a list, and their number.
use Prim.Native.Nat.{ℕ, zero, suc, ◌+◌, ◌≤◌, ◌<◌, suc-le-suc}
use mathlib.Core.Path.{◌≡◌, refl, sym, ◌∙◌, ap}
use mathlib.Core.Logic.{◌↔◌}
use mathlib.Core.Bool.{Bool, true, false, cond}
use mathlib.Core.List.{List, [], ◌∷◌, flatten, Memᴰ}
use native.Mathlib.Nat.{le_trans, add-suc, suc-add, add-zero, zero-add}
use native.Mathlib.Omega.{arith}
use lib.ListN.{length, length-append}
use Rattle.derivation.specs.Grammar.{Grammar, Proper}
use Rattle.derivation.specs.Fact.{Fact}
use Rattle.derivation.specs.computed.Listing.{listed, gathered, kept}
use Rattle.derivation.specs.computed.Table.{depth_of}
use Rattle.derivation.specs.computed.Facts.{facts}
use Rattle.derivation.specs.FactList.{Span, span_numbers, FactsAre}
use Rattle.derivation.specs.computed.Facts.{fact_list}
use Rattle.derivation.specs.computed.FactCount.{total, fact_count}
use Rattle.derivation.proofs.Within.{tree_inside}
use Rattle.derivation.proofs.Bound.{tree_category}
use Rattle.derivation.proofs.Table.{depth_of_is}
use Rattle.derivation.proofs.Secret.{found_fact, fact_found}
use Rattle.derivation.proofs.Order.{Run, ascending_unique, gathered_member, member_gathered, kept_member, member_kept, run_gathered, run_kept}

pub facts_exact : (g : Grammar) (w : List ℕ) → Proper g → (A i j : ℕ) → (facts g w A i j ≡ true) ↔ Fact g w A i j
unfolding facts depth_of
facts_exact g w proper A i j = (found_fact (depth_of_is g w proper A i j), fact_found (depth_of_is g w proper A i j))

-- what is gathered is as long as the lists together
module _ {X : Type 0} (f : ℕ → List X) (long : ℕ → ℕ) (each : (k : ℕ) → length (f k) ≡ long k) where
  length_from : (i n : ℕ) → length (flatten (listed f i n)) + total long i ≡ total long (i + n)
  unfolding listed flatten total
  length_from i zero = rw add-zero (zero-add (total long i))
  length_from i (suc n) =
      let later : length (flatten (listed f (suc i) n)) + (total long i + long i) ≡ total long (i + suc n) = length_from (suc i) n ∙ ap (total long) (suc-add i n ∙ sym (add-suc i n)) in
      rw (length-append (f i) (flatten (listed f (suc i) n))) (omega (arith, later, each i))

  pub length_gathered : (n : ℕ) → length (gathered n f) ≡ total long n
  unfolding gathered total
  length_gathered n = rw (zero-add, add-zero) at (length_from 0 n)

pub length_kept : {X : Type 0} (test : X → Bool) (x : X) → length (kept test x) ≡ cond (test x) 1 0
unfolding kept
length_kept test x = go (test x)
  where
    go : (y : Bool) → length (cond y (x ∷ []) []) ≡ cond y 1 0
    go true = refl
    go false = refl

module _ (g : Grammar) (w : List ℕ) where
  list_run : Run span_numbers [] (fact_list g w)
  unfolding fact_list
  list_run =
      run_gathered [] _ (λ A.
      run_gathered (A ∷ []) _ (λ i.
      run_gathered (A ∷ i ∷ []) _ (λ j.
      run_kept _ (record { category = A; start = i; end = j })) _) _) _

  list_fact : {s : Span} → Memᴰ s (fact_list g w) → facts g w s.category s.start s.end ≡ true
  unfolding fact_list
  list_fact m =
      let A = gathered_member _ _ m in
      let i = gathered_member _ _ A.1 in
      let j = gathered_member _ _ i.1 in
      let k = kept_member _ _ j.1 in
      rw k.0 k.1

  fact_list_lem : (s : Span) → s.category < length g.categories → s.start ≤ length w → s.end ≤ length w → facts g w s.category s.start s.end ≡ true → Memᴰ s (fact_list g w)
  unfolding fact_list
  fact_list_lem s A i j e =
      member_gathered _ _ s.category A
      (member_gathered _ _ s.start (suc-le-suc i)
      (member_gathered _ _ s.end (suc-le-suc j)
      (member_kept _ s e)))

  -- the facts are as many as the computed list has members
  pub length_fact_list : length (fact_list g w) ≡ fact_count g w
  unfolding fact_list fact_count
  length_fact_list = length_gathered _ _ (λ A. length_gathered _ _ (λ i. length_gathered _ _ (λ j. length_kept _ _) _) _) _

  pub fact_list_is : Proper g → FactsAre g w (fact_list g w)
  fact_list_is proper = record { each = λ s. (λ m. (facts_exact g w proper s.category s.start s.end).0 (list_fact m), complete s); ascending = list_run.ascending }
    where
      complete : (s : Span) → Fact g w s.category s.start s.end → Memᴰ s (fact_list g w)
      complete s t =
          let r = tree_inside t in
          fact_list_lem s (tree_category proper t) (le_trans r.rises r.ends) r.ends ((facts_exact g w proper s.category s.start s.end).1 t)

pub facts_unique : {g : Grammar} {w : List ℕ} {l l' : List Span} → FactsAre g w l → FactsAre g w l' → l ≡ l'
facts_unique {l = l} {l' = l'} f h = ascending_unique l l' f.ascending h.ascending (λ s. (λ m. (h.each s).1 ((f.each s).0 m), λ m. (f.each s).1 ((h.each s).0 m)))

-- the number of facts: the length of any list of the facts
pub fact_count_lem : {g : Grammar} {w : List ℕ} {l : List Span} → Proper g → FactsAre g w l → length l ≡ fact_count g w
fact_count_lem {g} {w} proper f = ap length (facts_unique f (fact_list_is g w proper)) ∙ length_fact_list g w
