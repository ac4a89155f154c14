-- A tree with the document's choice at every node has the least height, and any two of a fact have the same nodes.
use Prim.Native.Nat.{ℕ, ◌-◌, ◌<◌}
use mathlib.Core.Path.{◌≡◌, refl, sym, ◌∙◌, ap, ap₂, subst}
use mathlib.Core.List.{List, ◌∷◌, ◌++◌}
use native.Mathlib.Omega.{arith}
use Rattle.derivation.specs.Grammar.{Grammar, IsRule, rule_at}
use Rattle.derivation.specs.Tree.{Tree, Child, Children, node, token, category, stop, then, height, child_height, children_height}
use Rattle.derivation.specs.Depth.{Depth}
use Rattle.derivation.specs.Node.{preorder, child_preorder, children_preorder}
use Rattle.derivation.specs.Choice.{ChildServes, token_serves, category_serves, Serves, next_serves, RuleServes, NotAfter, ended, before, level, Choice, child_ends, Chosen, ChosenChild, ChosenChildren}
use Rattle.derivation.proofs.Depth.{depth_unique}
use Rattle.derivation.proofs.Table.{height_pos}

-- two lists neither of which comes after the other are equal
level_ends : {ends others : List ℕ} → NotAfter ends others → NotAfter others ends → ends ≡ others
level_ends ended ended = refl
level_ends (before l) (before m) = absurd (omega arith)
level_ends (before l) (level q v) = absurd (omega arith)
level_ends (level q u) (before m) = absurd (omega arith)
level_ends (level q u) (level r v) = ap₂ ◌∷◌ q (level_ends u v)

module _ {g : Grammar} {w : List ℕ} where
  -- a rule has one list of symbols
  pub rule_symbols : {h A i j p : ℕ} {s ends : List ℕ} → IsRule g p A s → RuleServes g w h A i j p ends → Serves g w h s i ends j
  rule_symbols {h} {i = i} {j = j} {ends = ends} r v = subst (λ (s : List ℕ). Serves g w h s i ends j) (sym v.is_rule.to ∙ r.to) v.serves

  -- a tree with the choice at every node has the fact's depth for its height
  mutual
    unfolding height Chosen child_ends

    pub chosen_height : {A i j d : ℕ} (t : Tree g w A i j) → Chosen t → Depth g w A i j d → height t ≡ d
    chosen_height (node p r cs) x q =
        let c = x.1 in
        let z : 0 < x.0 = omega (arith, height_pos c.depth.tree, c.depth.high) in
        let low = children_low cs x.2 z (rule_symbols r c.serves) in
        omega (arith, depth_unique c.depth q, q.least (node p r cs))

    child_low : {c i j h : ℕ} (b : Child g w c i j) → ChosenChild b → 0 < h → ChildServes g w h c i j → child_height b < h
    child_low (token k f e) x z v = z
    child_low (category k t) x z (token_serves l f e) = absurd (omega arith)
    child_low (category k t) x z (category_serves l p m) = omega (arith, chosen_height t x p)

    children_low : {s : List ℕ} {i j h : ℕ} (cs : Children g w s i j) → ChosenChildren cs → 0 < h → Serves g w h s i (child_ends cs) j → children_height cs < h
    children_low (stop l) x z v = z
    children_low (then c cs) x z (next_serves b v) = omega (arith, child_low c x.0 z b, children_low cs x.1 z v)

  -- a fact, also one given by equal numbers, has one choice of rule and division
  choice_unique :
      {h k A i j B a b p q : ℕ} {ends others : List ℕ} → A ≡ B → i ≡ a → j ≡ b → Choice g w h A i j p ends → Choice g w k B a b q others → (p ≡ q) × (ends ≡ others)
  choice_unique {p = p} {q = q} l m n x y =
      let x = rw (l, m, n) at x in
      let x = rw (depth_unique x.depth y.depth) at x in
      let e : p ≡ q = omega (arith, x.lowest y.serves, y.lowest x.serves) in
      (e, level_ends (x.first (rw e y.serves)) (y.first (rw e at x.serves)))

  mutual
    unfolding preorder Chosen child_ends

    same_tree : {A i j B a b : ℕ} (t : Tree g w A i j) (u : Tree g w B a b) → A ≡ B → i ≡ a → j ≡ b → Chosen t → Chosen u → preorder t ≡ preorder u
    same_tree (node p r cs) (node q s ds) k l m x y =
        let e = choice_unique k l m x.1 y.1 in
        let to = ap (λ (p : ℕ). (rule_at g p).right) e.0 in
        let rest = same_children cs ds (sym r.to ∙ to ∙ s.to) l e.1 x.2 y.2 in
        cc e.0

    same_child : {c i j d a b : ℕ} (t : Child g w c i j) (u : Child g w d a b) → c ≡ d → i ≡ a → j ≡ b → ChosenChild t → ChosenChild u → child_preorder t ≡ child_preorder u
    same_child (token k f e) (token l f' e') p q r x y = cc
    same_child (token k f e) (category l u) p q r x y = absurd (omega arith)
    same_child (category k t) (token l f e) p q r x y = absurd (omega arith)
    same_child (category k t) (category l u) p q r x y = same_tree t u (ap (λ (c : ℕ). c - 128) p) q r x y

    same_children :
        {s t : List ℕ} {i j a b : ℕ} (cs : Children g w s i j) (ds : Children g w t a b) → s ≡ t → i ≡ a → child_ends cs ≡ child_ends ds → ChosenChildren cs → ChosenChildren ds → children_preorder cs ≡ children_preorder ds
    same_children (stop k) (stop l) p q e x y = refl
    same_children (stop k) (then d ds) p q e x y = cc
    same_children (then c cs) (stop l) p q e x y = cc
    same_children (then {m = m} b cs) (then {m = n} b' ds) p q e x y =
        let m≡n : m ≡ n = cc in
        ap₂ ◌++◌ (same_child b b' (cc) q m≡n x.0 y.0) (same_children cs ds (cc) m≡n (cc) x.1 y.1)

  -- any two trees of a fact with the choice at every node have the same nodes
  pub chosen_unique : {A i j : ℕ} (t u : Tree g w A i j) → Chosen t → Chosen u → preorder t ≡ preorder u
  chosen_unique t u x y = same_tree t u refl refl refl x y
