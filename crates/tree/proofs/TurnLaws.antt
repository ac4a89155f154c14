-- A node's own turn, once it is searched: its rule, its symbols, and each child.
use Prim.Native.Nat.{ℕ, zero, suc, ◌+◌, ◌-◌, ◌≤◌, ◌<◌}
use mathlib.Core.Path.{◌≡◌, sym, ◌∙◌}
use mathlib.Core.Bool.{cond}
use mathlib.Core.List.{List, [], ◌∷◌, ◌++◌}
use native.Mathlib.Numerals.{add-one}
use native.Mathlib.Omega.{arith}
use lib.ListN.{length, get_or, drop}
use lib.Seq.{drop-cons}
use lib.Dec.{ltb}
use Rattle.derivation.specs.Grammar.{Grammar}
use Rattle.derivation.specs.inner.Within.{ChildWithin, ChildrenWithin}
use Rattle.derivation.specs.Node.{NodeValue, token_node, rule_node}
use Rattle.derivation.specs.computed.Table.{depth_of}
use Rattle.derivation.specs.computed.Shown.{chosen_end, chosen_row, shown}
use Rattle.derivation.proofs.Within.{child_inside}
use Rattle.grammar.specs.Value.{standing}
use Rattle.tree.specs.declared.kept.Span.{Span}
use Rattle.tree.specs.declared.search.Search.{Search}
use Rattle.tree.specs.declared.search.Found.{Found}
use Rattle.tree.specs.inner.Searchable.{Searchable, NodeAt}
use Rattle.tree.specs.inner.Searched.{child_limit, Searched}
use Rattle.tree.proofs.NodeLaws.{chosen_end_lem, end_tells, shown_node, child_depth}
use Rattle.tree.proofs.SearchLaws.{right_is, symbols_known, symbols_few, chosen_serves}

-- from m, symbol d ends at e; what is shown of the symbols from d on is that child's nodes and those of the symbols after it
pub record NextChild (G : Grammar) (line : List ℕ) (h : ℕ) (symbols : List ℕ) (end d m e : ℕ) : Type 0 where
  pub start : m ≤ length line
  pub inside : e ≤ length line
  pub child : ChildWithin G line h (get_or symbols d 0) m e
  pub row : (sub : ℕ → ℕ → ℕ → List NodeValue) →
      chosen_row G line (depth_of G line) sub h (drop d symbols) m end
      ≡ cond (ltb (get_or symbols d 0) 128) (token_node (get_or symbols d 0) m e ∷ []) (sub (get_or symbols d 0 - 128) m e) ++ chosen_row G line (depth_of G line) sub h (drop (suc d) symbols) e end

module _ (G : Grammar) (f : Search) (s : Searchable G f) (span : Span) (a : NodeAt G f.kept.line.now span) (found : Found) (r : Searched G f.kept.line.now span found) where
  abbrev line : List ℕ
  line = f.kept.line.now

  abbrev h : ℕ
  h = child_limit G line span

  abbrev symbols : List ℕ
  symbols = found.symbols.now

  pub found_inside : found.rule < length G.rules
  found_inside = omega (arith, (chosen_serves G f s span a).0, r.rule)

  -- what stands there
  standing_is : symbols ≡ (standing f.grammar.view.bytes.now (get_or f.starts.now found.rule 0)).right
  standing_is = r.symbols ∙ sym (right_is G f s found.rule found_inside)

  pub turn_few : length symbols ≤ 8
  turn_few = rw standing_is (symbols_few G f s found.rule found_inside)

  -- what is shown of the node
  pub turn_shown : shown G line span.category span.start span.end ≡ rule_node found.rule span.start span.end ∷ chosen_row G line (depth_of G line) (shown G line) h symbols (get_or found.ends 0 0) span.end
  turn_shown = rw (r.symbols, r.rule, r.division.first) (shown_node G line s.proper span.category span.start span.end a.fact)

  abbrev chosen : ℕ → ℕ
  chosen d = chosen_end G line (depth_of G line) h (get_or symbols d 0) (drop (suc d) symbols) (get_or found.ends d 0) span.end

  end_is : (d : ℕ) → d < length symbols → chosen d ≡ get_or found.ends (suc d) 0
  end_is d l = sym (r.division.each d l)

  -- where the symbols from d on derive the rest of the node's span from lower children, the first of them ends at its end
  parts : (d : ℕ) → d < length symbols → ChildrenWithin G line h (drop d symbols) (get_or found.ends d 0) span.end →
      ChildWithin G line h (get_or symbols d 0) (get_or found.ends d 0) (get_or found.ends (suc d) 0) × ChildrenWithin G line h (drop (suc d) symbols) (get_or found.ends (suc d) 0) span.end
  parts d l v =
      let c = get_or symbols d 0 in
      let t = drop (suc d) symbols in
      let m = get_or found.ends d 0 in
      rw (end_is d l) at (end_tells G line s.proper h c t m span.end (chosen d) (chosen_end_lem G line s.proper h c t m span.end (rw (drop-cons symbols d 0 l) at v)).passes)

  -- and they do
  turn_left : (d : ℕ) → d ≤ length symbols → ChildrenWithin G line h (drop d symbols) (get_or found.ends d 0) span.end
  turn_left zero l = rw (r.symbols, r.division.first, r.rule) (chosen_serves G f s span a).2
  turn_left (suc d) l = (parts d l (turn_left d (omega arith))).1

  module _ (d : ℕ) (l : d < length symbols) where
    -- the child that symbol d is
    pub turn_child : NextChild G line h symbols span.end d (get_or found.ends d 0) (get_or found.ends (d + 1) 0)
    unfolding chosen_row
    turn_child =
        let c = (parts d l (turn_left d (omega arith))).0 in
        let x = child_inside c.child in
        rw add-one (record { start = omega (arith, x.rises, x.ends); inside = x.ends; child = c; row = λ sub. rw (drop-cons symbols d 0 l, end_is d l) })

    -- a category child is a node of lower depth
    pub child_node : (child : Span) → 128 ≤ get_or symbols d 0 → child.category ≡ get_or symbols d 0 - 128 → child.start ≡ get_or found.ends d 0 → child.end ≡ get_or found.ends (d + 1) 0 →
        NodeAt G line child × (depth_of G line child.category child.start child.end < depth_of G line span.category span.start span.end)
    child_node child k e₀ e₁ e₂ =
        let n = turn_child in
        let known = (rw (← standing_is) at (symbols_known G f s found.rule found_inside)) d l k in
        let c = child_depth G line s.proper h (get_or symbols d 0) _ _ k n.child in
        (record { category = rw e₀ known; start = rw e₁ n.start; end = rw e₂ n.inside; fact = rw (e₀, e₁, e₂) c.0 }, rw (e₀, e₁, e₂) (omega (arith, c.1, a.fact)))
