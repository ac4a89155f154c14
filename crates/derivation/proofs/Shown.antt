-- The nodes that are shown are those of the tree with the document's choice at every node.
use Prim.Native.Nat.{ℕ, zero, suc, pred, ◌+◌, ◌-◌, ◌≤◌, ◌<◌, zero-le, suc-le-suc}
use mathlib.Core.Path.{◌≡◌, refl, sym, ◌∙◌, ap, ap₂, subst, fun_ext}
use mathlib.Core.Logic.{◌⊎◌, inl, inr}
use mathlib.Core.Bool.{Bool, true, false, ◌&&◌, cond, true≢false}
use mathlib.Core.List.{List, [], ◌∷◌, ◌++◌}
use native.Mathlib.Nat.{le_of_eq, eq-or-lt_of_le, le_of_suc-le-suc, lt_of_le_of_lt}
use native.Mathlib.Omega.{arith}
use lib.ListN.{length}
use lib.Dec.{eqb, ltb, leb}
use borrow.Author.Tests.{eqb-true, leb-true, eq-eqb, lt-ltb, le-ltb}
use Rattle.derivation.specs.Grammar.{Grammar, Proper, IsRule, rule_at}
use Rattle.derivation.specs.Tree.{Tree, Child, Children, node, token, category, stop, then, height, child_height}
use Rattle.derivation.specs.Depth.{Depth}
use Rattle.derivation.specs.inner.Within.{ChildWithin, ChildrenWithin}
use Rattle.derivation.specs.Node.{NodeValue, token_node, rule_node, preorder, child_preorder, children_preorder}
use Rattle.derivation.specs.computed.Search.{first_from}
use Rattle.derivation.specs.computed.Round.{child, children, round, within}
use Rattle.derivation.specs.computed.Table.{depth_of}
use Rattle.derivation.specs.computed.Shown.{below, chosen_rule, chosen_end, chosen_row, chosen, shown}
use Rattle.derivation.specs.Choice.{ChildServes, token_serves, category_serves, Serves, none_serves, next_serves, RuleServes, NotAfter, ended, before, level, Choice, child_ends, Chosen, ChosenChild, ChosenChildren}
use Rattle.derivation.proofs.Tests.{and_parts, and_both, some_found}
use Rattle.derivation.proofs.Within.{within_complete, child_iff, children_iff}
use Rattle.derivation.proofs.Decide.{depth_within, depth_exists}
use Rattle.derivation.proofs.Prefix.{empty_within, then_within, token_within, category_within}
use Rattle.derivation.proofs.Table.{height_pos, seen_depth, depth_of_is, depth_of_depth}
use Rattle.derivation.proofs.Choice.{rule_symbols, chosen_height, chosen_unique}

-- m is the first number from i on that passes
pub record First (test : ℕ → Bool) (i m : ℕ) : Type 0 where
  pub passes : test m ≡ true
  pub least : (n : ℕ) → i ≤ n → test n ≡ true → m ≤ n

past_of : (test : ℕ → Bool) (i n : ℕ) → (i ≡ n) ⊎ (i < n) → test n ≡ true → test i ≡ false → i < n
past_of test i n (inl q) t f = absurd (true≢false (sym t ∙ ap test (sym q) ∙ f))
past_of test i n (inr l) t f = l

first_is : (test : ℕ → Bool) (k i m : ℕ) → i ≤ m → m < i + k → test m ≡ true → First test i (first_from test i k)
unfolding first_from
first_is test zero i m a b e = absurd (omega arith)
first_is test (suc k) i m a b e = go (test i) refl (λ c. first_is test k (suc i) m c (omega arith) e)
  where
    go : (x : Bool) → test i ≡ x → (suc i ≤ m → First test (suc i) (first_from test (suc i) k)) → First test i (cond (test i) i (first_from test (suc i) k))
    go true q ih = rw q (record { passes = q; least = λ n l t. l })
    go false q ih =
        let past : (n : ℕ) → i ≤ n → test n ≡ true → i < n = λ n l t. past_of test i n (eq-or-lt_of_le l) t q in
        let r = ih (past m a e) in
        rw q (record { passes = r.passes; least = λ n l t. r.least n (past n l t) t })

-- a number below n passes: the first does, and is at most that one
pub first_below : (test : ℕ → Bool) (n m : ℕ) → m < n → test m ≡ true → First test 0 (first_from test 0 n)
first_below test n m h e = first_is test n 0 m zero-le (omega arith) e

-- what is shown of (A, i, j), of a symbol and of symbols is the nodes of a tree with the choice at every node
record Shows (g : Grammar) (w : List ℕ) (A i j : ℕ) (nodes : List NodeValue) : Type 0 where
  tree : Tree g w A i j
  chosen : Chosen tree
  same : nodes ≡ preorder tree

record ShowsChild (g : Grammar) (w : List ℕ) (c i j : ℕ) (nodes : List NodeValue) : Type 0 where
  child : Child g w c i j
  chosen : ChosenChild child
  same : nodes ≡ child_preorder child

record ShowsRow (g : Grammar) (w : List ℕ) (h : ℕ) (s : List ℕ) (i j : ℕ) (nodes : List NodeValue) : Type 0 where
  row : Children g w s i j
  serves : Serves g w h s i (child_ends row) j
  first : (others : List ℕ) → Serves g w h s i others j → NotAfter (child_ends row) others
  chosen : ChosenChildren row
  same : nodes ≡ children_preorder row

module _ (g : Grammar) (w : List ℕ) (h : ℕ) where
  -- the test of rule p of A
  abbrev rule_test : ℕ → ℕ → ℕ → ℕ → Bool
  rule_test A i j p = eqb (rule_at g p).left A && children w (within g w h) (rule_at g p).right i j

  -- the test of an end m of symbol c, with symbols s after it
  abbrev end_test : ℕ → List ℕ → ℕ → ℕ → ℕ → Bool
  end_test c s i j m = child w (within g w h) c i m && children w (within g w h) s m j

  -- what serves below depth h + 1 derives within h, and so passes the test
  child_within : {c i j : ℕ} → ChildServes g w (suc h) c i j → ChildWithin g w h c i j
  child_within (token_serves k f e) = token_within k f e
  child_within (category_serves k p l) = category_within k (record { tree = p.tree; low = omega (arith, p.high) })

  serves_within : {s ends : List ℕ} {i j : ℕ} → Serves g w (suc h) s i ends j → ChildrenWithin g w h s i j
  serves_within (none_serves l) = empty_within l
  serves_within (next_serves b v) = then_within (child_within b) (serves_within v)

  end_passes : {c i m j : ℕ} {s ends : List ℕ} → ChildServes g w (suc h) c i m → Serves g w (suc h) s m ends j → end_test c s i j m ≡ true
  end_passes {c} {i} {m} {j} {s} b v = and_both ((child_iff g w h c i m).1 (child_within b)) ((children_iff g w h s m j).1 (serves_within v))

  rule_passes : {A i j p : ℕ} {ends : List ℕ} → RuleServes g w (suc h) A i j p ends → rule_test A i j p ≡ true
  rule_passes {A} {i} {j} {p} v =
      and_both (eq-eqb (rule_at g p).left A v.is_rule.from) (rw v.is_rule.to ((children_iff g w h v.symbols i j).1 (serves_within v.serves)))

  -- a symbol that passes the test serves
  child_serves : (c i j : ℕ) → child w (within g w h) c i j ≡ true → ChildServes g w (suc h) c i j
  unfolding child_height
  child_serves c i j e = let b = (child_iff g w h c i j).0 e in go b.child b.low
    where
      go : {c i j : ℕ} (b : Child g w c i j) → child_height b ≤ h → ChildServes g w (suc h) c i j
      go (token k f e) l = token_serves k f e
      go {c} {i} {j} (category k t) l = let d = depth_within g w h (c - 128) i j (within_complete g w t h l) in category_serves k d.2 (suc-le-suc d.1)

  -- the first end, then a list that comes first, is a list that comes first
  next_first :
      {c i j m : ℕ} {s ends : List ℕ} → First (end_test c s i j) 0 m →
      ((others : List ℕ) → Serves g w (suc h) s m others j → NotAfter ends others) → (others : List ℕ) → Serves g w (suc h) (c ∷ s) i others j → NotAfter (m ∷ ends) others
  next_first {c = c} {i = i} {j = j} {m = m} {s = s} {ends = ends} f rest [] v = elim v [ ]
  next_first {m = m} {ends = ends} f rest (n ∷ others) (next_serves b v) = go (eq-or-lt_of_le (f.least n zero-le (end_passes b v)))
    where
      go : (m ≡ n) ⊎ (m < n) → NotAfter (m ∷ ends) (n ∷ others)
      go (inl q) = level q (rest others (rw q v))
      go (inr l) = before {m = m} {n = n} l

module _ (g : Grammar) (w : List ℕ) (proper : Proper g) where
  pub below_within : (h : ℕ) → below g w (depth_of g w) h ≡ within g w h
  unfolding below
  below_within h = fun_ext λ A. fun_ext λ i. fun_ext λ j. seen_depth g w h (depth_of_is g w proper A i j)

  -- where symbols derive i..j, the chosen end is the first that serves
  end_first : (h c : ℕ) (s : List ℕ) (i j : ℕ) → children w (within g w h) (c ∷ s) i j ≡ true → First (end_test g w h c s i j) 0 (chosen_end g w (depth_of g w) h c s i j)
  unfolding children chosen_end
  end_first h c s i j e =
      let f = some_found (end_test g w h c s i j) (suc j) e in
      simp (below_within h) (first_below (end_test g w h c s i j) (suc j) f.0 f.1 f.2)

  -- where a round derives (A, i, j), the chosen rule is the first that serves
  rule_first : (h A i j : ℕ) → round g w (within g w h) A i j ≡ true → First (rule_test g w h A i j) 0 (chosen_rule g w (depth_of g w) h A i j) × (chosen_rule g w (depth_of g w) h A i j < length g.rules)
  unfolding round chosen_rule
  rule_first h A i j e =
      let f = some_found (rule_test g w h A i j) (length g.rules) e in
      let r = first_below (rule_test g w h A i j) (length g.rules) f.0 f.1 f.2 in
      simp (below_within h) (r, lt_of_le_of_lt (r.least f.0 zero-le f.2) f.1)

  -- `sub` shows the categories of depth at most h
  module _ (sub : ℕ → ℕ → ℕ → List NodeValue) (h : ℕ) (shows : (A i j d : ℕ) → Depth g w A i j d → d ≤ h → Shows g w A i j (sub A i j)) where
    show_child : {c i j : ℕ} → ChildServes g w (suc h) c i j → ShowsChild g w c i j (cond (ltb c 128) (token_node c i j ∷ []) (sub (c - 128) i j))
    unfolding preorder Chosen
    show_child {c} (token_serves k f e) = record { child = token k f e; chosen = tt; same = rw (lt-ltb c 128 k) }
    show_child {c} {i} {j} (category_serves {d = d} k p l) =
        let r = shows (c - 128) i j d p (le_of_suc-le-suc l) in
        record { child = category k r.tree; chosen = r.chosen; same = rw (le-ltb c 128 k) r.same }

    show_row : (s : List ℕ) (i j : ℕ) → children w (within g w h) s i j ≡ true → ShowsRow g w (suc h) s i j (chosen_row g w (depth_of g w) sub h s i j)
    unfolding children chosen_row preorder child_ends Chosen
    show_row [] i j e =
        let a = and_parts (eqb i j) (leb i (length w)) e in
        let l = leb-true i (length w) a.1 in
        subst (λ (m : ℕ). ShowsRow g w (suc h) [] i m []) (eqb-true i j a.0) (record { row = stop l; serves = none_serves l; first = none_first; chosen = tt; same = refl })
      where
        none_first : {i j : ℕ} (others : List ℕ) → Serves g w (suc h) [] i others j → NotAfter [] others
        none_first [] (none_serves l) = ended
        none_first (_ ∷ _) v = elim v [ ]
    show_row (c ∷ s) i j e =
        let m = chosen_end g w (depth_of g w) h c s i j in
        let f = end_first h c s i j e in
        let a = and_parts (child w (within g w h) c i m) (children w (within g w h) s m j) f.passes in
        let v = child_serves g w h c i m a.0 in
        let b = show_child v in
        let r = show_row s m j a.1 in
        record {
          row = then b.child r.row;
          serves = next_serves v r.serves;
          first = next_first g w h f r.first;
          chosen = (b.chosen, r.chosen);
          same = ap₂ ◌++◌ b.same r.same;
        }

    show_node :
        (A i j : ℕ) → Depth g w A i j (suc h) →
        Shows g w A i j (rule_node (chosen_rule g w (depth_of g w) h A i j) i j ∷ chosen_row g w (depth_of g w) sub h (rule_at g (chosen_rule g w (depth_of g w) h A i j)).right i j)
    unfolding within preorder Chosen
    show_node A i j p =
        let n = chosen_rule g w (depth_of g w) h A i j in
        let f = rule_first h A i j (within_complete g w p.tree (suc h) (le_of_eq p.high)) in
        let a = and_parts (eqb (rule_at g n).left A) (children w (within g w h) (rule_at g n).right i j) f.0.passes in
        let r = show_row (rule_at g n).right i j a.1 in
        let is : IsRule g n A (rule_at g n).right = record { below = f.1; from = eqb-true (rule_at g n).left A a.0; to = refl } in
        let choice : Choice g w (suc h) A i j n (child_ends r.row) = record {
          depth = p;
          serves = record { symbols = (rule_at g n).right; is_rule = is; serves = r.serves };
          lowest = λ {q} v. f.0.least q zero-le (rule_passes g w h v);
          first = λ {others} v. r.first others (rule_symbols is v);
        } in
        record { tree = node n is r.row; chosen = (suc h, choice, r.chosen); same = ap (λ (ns : List NodeValue). rule_node n i j ∷ ns) r.same }

  show_chosen : (k A i j d : ℕ) → Depth g w A i j d → d ≤ k → Shows g w A i j (chosen g w (depth_of g w) k A i j)
  unfolding chosen
  show_chosen zero A i j d p l = absurd (omega (arith, height_pos p.tree, p.high))
  show_chosen (suc k) A i j zero p l = absurd (omega (arith, height_pos p.tree, p.high))
  show_chosen (suc k) A i j (suc h) p l =
      let q : pred (depth_of g w A i j) ≡ h = omega (arith, depth_of_depth g w proper p) in
      rw q (show_node (chosen g w (depth_of g w) k) h (λ A i j d p m. show_chosen k A i j d p (omega arith)) A i j p)

  -- a fact has a tree with the choice at every node; its height is the depth, and its nodes are shown
  pub chosen_exists : {A i j d : ℕ} → Depth g w A i j d → (t : Tree g w A i j) × Chosen t × (height t ≡ d) × (shown g w A i j ≡ preorder t)
  unfolding shown
  chosen_exists {A} {i} {j} {d} p =
      let r = show_chosen (depth_of g w A i j) A i j d p (le_of_eq (sym (depth_of_depth g w proper p))) in
      (r.tree, r.chosen, chosen_height r.tree r.chosen p, r.same)

  -- the nodes of any tree with the choice at every node are those shown
  pub chosen_shown : {A i j : ℕ} (t : Tree g w A i j) → Chosen t → shown g w A i j ≡ preorder t
  chosen_shown t x = let r = chosen_exists (depth_exists g w t).1 in r.3 ∙ chosen_unique r.0 t r.1 x
