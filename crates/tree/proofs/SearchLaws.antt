-- The search at a node: no rule before p serves; of rule p, the ends of the first d symbols are chosen.
use Prim.Native.Nat.{ℕ, suc, ◌+◌, ◌-◌, ◌≤◌, ◌<◌, zero-le}
use mathlib.Core.Path.{◌≡◌, refl, sym, ◌∙◌, ap}
use mathlib.Core.Logic.{◌↔◌, ⊎_elim}
use mathlib.Core.List.{List, [], ◌∷◌, replicate}
use native.Mathlib.Nat.{eq-or-lt_of_le, le_of_suc-le-suc, eq-zero-or-pos}
use native.Mathlib.Numerals.{add-one}
use native.Mathlib.Omega.{arith}
use lib.ListN.{length, get_or, drop, set, length-set}
use lib.Seq.{drop-cons, get_or-set_same, get_or-set_other}
use Rattle.positions.specs.Member.{Member}
use Rattle.derivation.specs.Grammar.{Rule, Grammar, Proper, rule_at}
use Rattle.derivation.specs.inner.Within.{ChildrenWithin}
use Rattle.derivation.specs.computed.Table.{depth_of}
use Rattle.derivation.specs.computed.Shown.{chosen_rule, chosen_end}
use Rattle.derivation.proofs.Within.{child_inside, children_inside}
use Rattle.derivation.proofs.Table.{depth_of_is, depth_is_unique}
use Rattle.derivation.proofs.Prefix.{empty_within, then_within}
use Rattle.grammar.specs.Value.{standing}
use Rattle.grammar.proofs.Accepted.{length_is}
use Rattle.std.proofs.Common.{Some, None}
use Rattle.tree.specs.declared.kept.Span.{Span}
use Rattle.tree.specs.declared.search.Search.{Search}
use Rattle.tree.specs.declared.search.Found.{Found}
use Rattle.tree.specs.inner.Kept.{depth_kept, Fits}
use Rattle.tree.specs.inner.Sets.{CategoryKnown, Leads, FirstThat}
use Rattle.tree.specs.inner.Searchable.{Searchable, NodeAt}
use Rattle.tree.specs.inner.Searched.{Division, child_limit, Searched}
use Rattle.tree.proofs.DivisionLaws.{rows_inside, depths_inside}
use Rattle.tree.proofs.NodeLaws.{rule_least, end_passes, end_tells, chosen_end_lem, node_rule}

module _ (G : Grammar) (f : Search) (s : Searchable G f) where
  abbrev line : List ℕ
  line = f.kept.line.now

  -- the symbols of rule p, where they stand
  module _ (p : ℕ) (l : p < length G.rules) where
    abbrev right : List ℕ
    right = (standing f.grammar.view.bytes.now (get_or f.starts.now p 0)).right

    pub right_is : right ≡ (rule_at G p).right
    right_is = ap (λ (r : Rule). r.right) (s.is p l)

    pub symbols_few : length right ≤ 8
    symbols_few = let k = s.stands p l in rw (← length_is f.grammar.view.bytes.now (get_or f.starts.now p 0) k) k.long

    pub symbols_known : (d : ℕ) → d < length right → CategoryKnown G (get_or right d 0)
    symbols_known d k = rw right_is (s.symbols p l d (rw right_is at k))

    pub symbols_fit : (d : ℕ) → d < length right → Fits f.kept (get_or right d 0)
    symbols_fit d k c = let a = symbols_known d k c in (rows_inside _ _ _ _ a s.rows, depths_inside _ _ _ _ a s.room)

  module _ (span : Span) (a : NodeAt G line span) where
    -- the depth that is kept for it
    pub kept_is : depth_kept f.kept span ≡ depth_of G line span.category span.start span.end
    kept_is = depth_is_unique (s.work.kept _ _ _ a.category a.start a.end) (depth_of_is G line s.proper _ _ _)

    -- the most that its children's depth is, and the rule that is chosen
    abbrev h : ℕ
    h = child_limit G line span

    pub limit_is : {d : ℕ} → d ≡ depth_kept f.kept span → d - 1 ≡ h
    limit_is e = ap (λ (d : ℕ). d - 1) (e ∙ kept_is)

    abbrev chosen : ℕ
    chosen = chosen_rule G line (depth_of G line) h span.category span.start span.end

    pub chosen_serves : (chosen < length G.rules) × ((rule_at G chosen).left ≡ span.category) × ChildrenWithin G line h (rule_at G chosen).right span.start span.end
    chosen_serves = node_rule G line s.proper span.category span.start span.end a.fact

    pub node_rises : span.start ≤ span.end
    node_rises = (children_inside chosen_serves.2.children).rises

    module _ (p : ℕ) (low : p ≤ chosen) where
      pub rule_inside : p < length G.rules
      rule_inside = omega (arith, low, chosen_serves.0)

      left_is : (standing f.grammar.view.bytes.now (get_or f.starts.now p 0)).left ≡ (rule_at G p).left
      left_is = ap (λ (r : Rule). r.left) (s.is p rule_inside)

      -- where rule p does not serve, the chosen rule is a later one
      pub rule_after : ((standing f.grammar.view.bytes.now (get_or f.starts.now p 0)).left ≡ span.category → ChildrenWithin G line h (right p rule_inside) span.start span.end → ⊥) → p + 1 ≤ chosen
      rule_after n = ⊎_elim
          (λ (q : p ≡ chosen). let c = chosen_serves in absurd (n (left_is ∙ rw q c.1) (rw (right_is p rule_inside, q) c.2)))
          (λ l. rw add-one l)
          (eq-or-lt_of_le low)

      -- where it serves, it is the chosen one
      pub rule_found : (found : Found) → found.rule ≡ p → found.symbols.now ≡ right p rule_inside → (standing f.grammar.view.bytes.now (get_or f.starts.now p 0)).left ≡ span.category →
          ChildrenWithin G line h found.symbols.now span.start span.end → Division G line h found.symbols.now span.start span.end found.ends → Searched G line span found
      rule_found found q e l v x =
          let are : found.symbols.now ≡ (rule_at G p).right = e ∙ right_is p rule_inside in
          let least = rule_least G line s.proper h span.category span.start span.end p rule_inside (sym left_is ∙ l) (rw are at v) in
          record { rule = omega (arith, q, low, least); symbols = rw q are; division = x }

-- of symbols, the ends of the first d are chosen, the last of them m
pub record SearchTurn (G : Grammar) (line : List ℕ) (h : ℕ) (symbols : List ℕ) (i j : ℕ) (ends : List ℕ) (m d : ℕ) : Type 0 where
  pub low : d ≤ length symbols
  pub after : i ≤ m
  pub long : length ends ≡ 9
  pub first : get_or ends 0 0 ≡ i
  pub here : get_or ends d 0 ≡ m
  pub begun : 0 < d → ChildrenWithin G line h symbols i j
  pub left : ChildrenWithin G line h symbols i j → ChildrenWithin G line h (drop d symbols) m j
  pub each :
      ChildrenWithin G line h symbols i j →
      (x : ℕ) → x < d → get_or ends (suc x) 0 ≡ chosen_end G line (depth_of G line) h (get_or symbols x 0) (drop (suc x) symbols) (get_or ends x 0) j

module _ (G : Grammar) (line : List ℕ) (proper : Proper G) (h : ℕ) (symbols : List ℕ) (i j : ℕ) (b : j ≤ length line) where
  pub turn_begin : SearchTurn G line h symbols i j (replicate 9 i) i 0
  turn_begin = record {
    low = omega arith;
    after = omega arith;
    long = refl;
    first = refl;
    here = refl;
    begun = λ l. absurd (omega arith);
    left = λ v. v;
    each = λ v x l. absurd (omega arith);
  }

  module _ (ends : List ℕ) (m d : ℕ) (turn : SearchTurn G line h symbols i j ends m d) where
    -- the last end is on the line
    pub turn_inside : i ≤ length line → m ≤ length line
    turn_inside a = ⊎_elim
        (λ (q : d ≡ 0). omega (arith, turn.first, rw q at turn.here))
        (λ k. let r = children_inside (turn.left (turn.begun k)).children in omega (arith, r.rises))
        (eq-zero-or-pos d)

    -- where all are chosen, the rule serves, with these ends
    pub turn_whole : length symbols ≤ d → (length symbols ≡ 0 → i ≡ j) → ChildrenWithin G line h symbols i j × Division G line h symbols i j ends
    turn_whole k empty =
        let v : ChildrenWithin G line h symbols i j = ⊎_elim (λ (z : length symbols ≡ 0). nothing symbols z (empty z)) (λ l. turn.begun (omega arith)) (eq-zero-or-pos (length symbols)) in
        (v, record { first = turn.first; each = λ x l. turn.each v x (omega arith) })
      where
        nothing : (t : List ℕ) → length t ≡ 0 → i ≡ j → ChildrenWithin G line h t i j
        nothing [] z e = rw e (empty_within b)
        nothing (c ∷ t) z e = absurd (omega arith)

    module _ (set_after : ℕ) (l : d < length symbols) (exact : (x : ℕ) → Member set_after x ↔ ((i ≤ x) × ChildrenWithin G line h (drop (suc d) symbols) x j)) where
      abbrev Next : ℕ → Type 0
      Next = Leads G line h (get_or symbols d 0) set_after m

      abbrev chosen_next : ℕ
      chosen_next = chosen_end G line (depth_of G line) h (get_or symbols d 0) (drop (suc d) symbols) m j

      -- where the symbols from d on derive the rest, the chosen end leads on
      chosen_leads : ChildrenWithin G line h (drop d symbols) m j → Next chosen_next
      chosen_leads v =
          let c = get_or symbols d 0 in
          let t = drop (suc d) symbols in
          let tells = end_tells G line proper h c t m j chosen_next (chosen_end_lem G line proper h c t m j (rw (drop-cons symbols d 0 l) at v)).passes in
          let r = child_inside tells.0.child in
          ((exact chosen_next).1 (omega (arith, turn.after, r.rises), tells.1), tells.0)

      -- where no end does, the rule does not serve
      pub turn_fails : FirstThat Next None → ChildrenWithin G line h symbols i j → ⊥
      turn_fails n v = n chosen_next (chosen_leads (turn.left v))

      module _ (e : ℕ) (f : FirstThat Next (Some e)) where
        -- the first end that does is the chosen one
        end_chosen : ChildrenWithin G line h (drop d symbols) m j → e ≡ chosen_next
        end_chosen v =
            let c = get_or symbols d 0 in
            let t = drop (suc d) symbols in
            let not-before : chosen_next < e → ⊥ = λ k. f.0 chosen_next k (chosen_leads v) in
            let first = chosen_end_lem G line proper h c t m j (rw (drop-cons symbols d 0 l) at v) in
            let least : chosen_next ≤ e = first.least e zero-le (end_passes G line proper h c t m j e f.1.1 ((exact e).0 f.1.0).1) in
            omega arith

        pub turn_next : d < 8 → SearchTurn G line h symbols i j (set ends (d + 1) e) e (d + 1)
        turn_next k = rw add-one (record {
          low = l;
          after = ((exact e).0 f.1.0).0;
          long = length-set ends (suc d) e ∙ turn.long;
          first = other 0 (λ q. omega arith) ∙ turn.first;
          here = last;
          begun = λ pos. ⊎_elim
              (λ (q : d ≡ 0).
              let same : m ≡ i = sym (rw q at turn.here) ∙ turn.first in
              let v : ChildrenWithin G line h (drop d symbols) m j = rw (drop-cons symbols d 0 l) (then_within f.1.1 ((exact e).0 f.1.0).1) in
              rw (q, same) at v)
              turn.begun
              (eq-zero-or-pos d);
          left = λ v. ((exact e).0 f.1.0).1;
          each = λ v x y. ⊎_elim
              (λ (q : x ≡ d). rw (q, last, other d (λ z. omega arith), turn.here) (end_chosen (turn.left v)))
              (λ z. rw (other (suc x) (λ w. omega arith), other x (λ w. omega arith)) (turn.each v x z))
              (eq-or-lt_of_le (le_of_suc-le-suc y));
        })
          where
            last : get_or (set ends (suc d) e) (suc d) 0 ≡ e
            last = get_or-set_same ends (suc d) e 0 (omega (arith, turn.long))

            other : (x : ℕ) → (x ≡ suc d → ⊥) → get_or (set ends (suc d) e) x 0 ≡ get_or ends x 0
            other x n = get_or-set_other ends (suc d) x e 0 n
