-- The computed forest is the forest, and there is one only.
use Prim.Native.Nat.{ℕ, ◌-◌, ◌≤◌, ◌<◌, suc-le-suc}
use mathlib.Core.Path.{◌≡◌, refl, fun_ext}
use mathlib.Core.Logic.{◌↔◌}
use mathlib.Core.Bool.{Bool, true, ◌&&◌}
use mathlib.Core.List.{List, [], ◌∷◌, Memᴰ}
use native.Mathlib.Nat.{le_trans}
use lib.ListN.{length, get_or, take}
use lib.Dec.{ltb, leb}
use borrow.Author.Tests.{ltb-true, leb-true, lt-ltb, le-leb}
use Rattle.derivation.specs.Bound.{rounds_bound}
use Rattle.derivation.specs.Grammar.{Grammar, Proper, rule_at}
use Rattle.derivation.specs.Tree.{Tree, Child, Children, token, category, stop, then}
use Rattle.derivation.specs.Fact.{Fact}
use Rattle.derivation.specs.inner.Within.{Within, ChildWithin, ChildrenWithin}
use Rattle.derivation.specs.computed.Round.{Known, child, children, within}
use Rattle.derivation.specs.computed.Facts.{facts}
use Rattle.derivation.specs.Branch.{BranchValue, IsBranch, ForestIs, branch_numbers}
use Rattle.derivation.specs.computed.Forest.{is_branch, passing, forest}
use Rattle.derivation.proofs.Tests.{and_parts, and_both, same_test}
use Rattle.derivation.proofs.Within.{within_sound, within_complete, child_inside, children_inside, child_iff, children_iff}
use Rattle.derivation.proofs.Decide.{depth_exists, rounds_bound_lem}
use Rattle.derivation.proofs.Prefix.{empty_within, then_within, token_within, category_within}
use Rattle.derivation.proofs.Facts.{facts_exact}
use Rattle.derivation.proofs.Order.{Run, ascending_unique, gathered_member, member_gathered, kept_member, member_kept, run_gathered, run_kept}

module _ (g : Grammar) (w : List ℕ) (proper : Proper g) where
  -- as many rounds as the bound reach all that derives
  tree_low : {A i j : ℕ} → Tree g w A i j → Within g w (rounds_bound g w) A i j
  tree_low t = let p = (depth_exists g w t).1 in record { tree = p.tree; low = rw p.high (rounds_bound_lem g w proper p) }

  child_low : {c i j : ℕ} → Child g w c i j → ChildWithin g w (rounds_bound g w) c i j
  child_low (token k l e) = token_within k l e
  child_low (category k t) = category_within k (tree_low t)

  children_low : {s : List ℕ} {i j : ℕ} → Children g w s i j → ChildrenWithin g w (rounds_bound g w) s i j
  children_low (stop l) = empty_within l
  children_low (then b bs) = then_within (child_low b) (children_low bs)

  -- where what is known is exactly the facts, the tests of a symbol, of symbols and of a record tell what derives
  module _ (known : Known) (exact : (A i j : ℕ) → (known A i j ≡ true) ↔ Fact g w A i j) where
    known_within : known ≡ within g w (rounds_bound g w)
    known_within =
        fun_ext λ A. fun_ext λ i. fun_ext λ j.
        same_test (known A i j) (within g w (rounds_bound g w) A i j)
        (λ e. let t = tree_low ((exact A i j).0 e) in within_complete g w t.tree (rounds_bound g w) t.low)
        (λ e. (exact A i j).1 (within_sound g w (rounds_bound g w) A i j e).tree)

    pub child_exact : (c i j : ℕ) → (child w known c i j ≡ true) ↔ Child g w c i j
    child_exact c i j = rw known_within (λ e. ((child_iff g w (rounds_bound g w) c i j).0 e).child, λ b. (child_iff g w (rounds_bound g w) c i j).1 (child_low b))

    pub children_exact : (s : List ℕ) (i j : ℕ) → (children w known s i j ≡ true) ↔ Children g w s i j
    children_exact s i j = rw known_within (λ e. ((children_iff g w (rounds_bound g w) s i j).0 e).children, λ b. (children_iff g w (rounds_bound g w) s i j).1 (children_low b))

    pub is_branch_exact : (b : BranchValue) → (is_branch g w known b ≡ true) ↔ IsBranch g w b
    unfolding is_branch
    is_branch_exact b = (sound, complete)
      where
        complete : IsBranch g w b → is_branch g w known b ≡ true
        complete r =
            let s = (rule_at g b.rule).right in
            and_both (lt-ltb b.rule (length g.rules) r.below)
            (and_both (le-leb 1 b.place r.first)
            (and_both (le-leb b.place (length s) r.last)
            (and_both ((children_exact (take (b.place - 1) s) b.start b.middle).1 r.before)
            ((child_exact (get_or s (b.place - 1) 0) b.middle b.end).1 r.symbol))))

        sound : is_branch g w known b ≡ true → IsBranch g w b
        sound e =
            let s = (rule_at g b.rule).right in
            let before = children w known (take (b.place - 1) s) b.start b.middle in
            let symbol = child w known (get_or s (b.place - 1) 0) b.middle b.end in
            let a = and_parts (ltb b.rule (length g.rules)) (leb 1 b.place && (leb b.place (length s) && (before && symbol))) e in
            let c = and_parts (leb 1 b.place) (leb b.place (length s) && (before && symbol)) a.1 in
            let d = and_parts (leb b.place (length s)) (before && symbol) c.1 in
            let f = and_parts before symbol d.1 in
            record {
              below = ltb-true b.rule (length g.rules) a.0;
              first = leb-true 1 b.place c.0;
              last = leb-true b.place (length s) d.0;
              before = (children_exact (take (b.place - 1) s) b.start b.middle).0 f.0;
              symbol = (child_exact (get_or s (b.place - 1) 0) b.middle b.end).0 f.1;
            }

-- all that pass a test and stand in the ranges, and those only, ascending
module _ (g : Grammar) (w : List ℕ) (test : BranchValue → Bool) where
  passing_run : Run branch_numbers [] (passing g w test)
  unfolding passing
  passing_run =
      run_gathered [] _ (λ p.
      run_gathered (p ∷ []) _ (λ d.
      run_gathered (p ∷ d ∷ []) _ (λ i.
      run_gathered (p ∷ d ∷ i ∷ []) _ (λ m.
      run_gathered (p ∷ d ∷ i ∷ m ∷ []) _ (λ j.
      run_kept test (record { rule = p; place = d; start = i; middle = m; end = j })) _) _) _) _) _

  passing_test : {b : BranchValue} → Memᴰ b (passing g w test) → test b ≡ true
  unfolding passing
  passing_test x =
      let p = gathered_member _ _ x in
      let d = gathered_member _ _ p.1 in
      let i = gathered_member _ _ d.1 in
      let m = gathered_member _ _ i.1 in
      let j = gathered_member _ _ m.1 in
      let k = kept_member test _ j.1 in
      rw k.0 k.1

  member_passing :
      (b : BranchValue) → b.rule < length g.rules → b.place ≤ length (rule_at g b.rule).right → b.start ≤ length w → b.middle ≤ length w → b.end ≤ length w →
      test b ≡ true → Memᴰ b (passing g w test)
  unfolding passing
  member_passing b p d i m j e =
      member_gathered _ _ b.rule p
      (member_gathered _ _ b.place (suc-le-suc d)
      (member_gathered _ _ b.start (suc-le-suc i)
      (member_gathered _ _ b.middle (suc-le-suc m)
      (member_gathered _ _ b.end (suc-le-suc j)
      (member_kept test b e)))))

-- at the first place, m = i
pub branch_one : {g : Grammar} {w : List ℕ} {b : BranchValue} → IsBranch g w b → b.place ≡ 1 → b.middle ≡ b.start
branch_one {g} {w} r e = go (rw e at r.before)
  where
    go : {i m : ℕ} → Children g w [] i m → m ≡ i
    go (stop l) = refl

module _ {g : Grammar} {w : List ℕ} where
  -- the test decides what is a record
  pub is_branch_iff : Proper g → (b : BranchValue) → (is_branch g w (facts g w) b ≡ true) ↔ IsBranch g w b
  is_branch_iff proper = is_branch_exact g w proper (facts g w) (facts_exact g w proper)

  pub forest_is : Proper g → ForestIs g w (forest g w)
  unfolding forest
  forest_is proper = record { each = λ b. (λ m. (is_branch_iff proper b).0 (passing_test g w test m), complete b); ascending = (passing_run g w test).ascending }
    where
      test : BranchValue → Bool
      test = is_branch g w (facts g w)

      complete : (b : BranchValue) → IsBranch g w b → Memᴰ b (passing g w test)
      complete b r =
          let a = children_inside r.before in
          let c = child_inside r.symbol in
          member_passing g w test b r.below r.last (le_trans a.rises a.ends) a.ends c.ends ((is_branch_iff proper b).1 r)

  pub forest_unique : {l l' : List BranchValue} → ForestIs g w l → ForestIs g w l' → l ≡ l'
  forest_unique {l} {l'} f h = ascending_unique l l' f.ascending h.ascending (λ b. (λ m. (h.each b).1 ((f.each b).0 m), λ m. (f.each b).1 ((h.each b).0 m)))
