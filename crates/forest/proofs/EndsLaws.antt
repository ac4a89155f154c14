-- The ends of a symbol from one position and from a set of positions, and those of a rule's first symbols, one symbol at a time.
use Prim.Native.Nat.{ℕ, zero, suc, ◌+◌, ◌-◌, ◌*◌, ◌≤◌, ◌<◌}
use mathlib.Core.Path.{◌≡◌, sym, subst, ◌∙◌}
use mathlib.Core.Logic.{inr, ⊎_elim}
use mathlib.Core.List.{List}
use native.Mathlib.Nat.{le_refl, le-add_right, le-add_left, lt_of_lt_of_le, add-zero}
use native.Mathlib.Numerals.{add-one}
use native.Mathlib.Omega.{arith}
use lib.ListN.{length, get_or, take}
use Rattle.positions.specs.Member.{Member}
use Rattle.positions.specs.With.{With}
use Rattle.positions.proofs.Members.{none_member}
use Rattle.derivation.specs.Grammar.{Grammar}
use Rattle.derivation.specs.Tree.{Tree, Child, Children, token, category, stop, child_height, children_height}
use Rattle.derivation.proofs.Within.{children_inside}
use Rattle.derivation.proofs.Prefix.{prefix_join, prefix_split, within_token, within_category}
use Rattle.checks.specs.Memory.{chart_size}
use Rattle.checks.proofs.Laws.{chart_small}
use Rattle.grammar.specs.declared.reading.Sections.{Sections}
use Rattle.grammar.specs.Value.{standing}
use Rattle.grammar.specs.Limits.{RuleWithin}
use Rattle.grammar.specs.Checked.{grammar_in}
use Rattle.grammar.proofs.Accepted.{whole}
use Rattle.grammar.proofs.Encoded.{category_count_lem, sections_within}
use Rattle.filling.proofs.PrefixLaws.{stays}
use Rattle.filling.proofs.RowLaws.{row_inside}
use Rattle.forest.specs.declared.place.Chart.{Chart}
use Rattle.forest.specs.declared.place.Place.{Place}
use Rattle.forest.specs.inner.Charted.{Charted, RuleStands}
use Rattle.forest.specs.inner.Ends.{SymbolEnds, StepEnds, PrefixEnds}
use Rattle.forest.proofs.RuleLaws.{rules_all, rule_found}
use Rattle.forest.proofs.ChartLaws.{opened}

-- a class derives one token, and a category what its facts are
child_class : {g : Grammar} {w : List ℕ} {c i j : ℕ} → c < 128 → Child g w c i j → (i < length w) × (get_or w i 0 ≡ c) × (j ≡ suc i)
child_class k b = within_token k (record { child = b; low = le_refl (child_height b) })

child_category : {g : Grammar} {w : List ℕ} {c i j : ℕ} → 128 ≤ c → Child g w c i j → Tree g w (c - 128) i j
child_category k b = (within_category k (record { child = b; low = le_refl (child_height b) })).tree

-- what a place carries
module _ (place : Place) where
  abbrev g : List ℕ
  g = place.chart.now.grammar.view.bytes.now

  abbrev s : Sections
  s = place.chart.now.grammar.view.sections

  abbrev G : Grammar
  G = grammar_in place.chart.now.grammar

  abbrev line : List ℕ
  line = place.chart.now.line.now

  abbrev words : List ℕ
  words = place.chart.now.words.now

  abbrev right : List ℕ
  right = (standing g place.at).right

  pub chart_of : Charted place.chart.now.grammar line words
  chart_of = opened place.chart.now.charted

  pub rule_of : RuleStands place.chart.now.grammar place.rule place.at
  rule_of = rule_found place.chart.now.grammar place.rule place.at place.stands place.below

  rule_within : RuleWithin G (standing g place.at)
  rule_within = rw rule_of.found.is ((sections_within g s place.chart.now.grammar.sectioned).each place.rule (rw (rules_all place.chart.now.grammar) place.below))

  pub right_long : length right ≤ 8
  right_long = rule_within.long

  abbrev symbol : ℕ
  symbol = get_or right place.d 0

  known : 128 ≤ symbol → symbol - 128 < length G.categories
  known k = (rule_within.symbols place.d place.inside).category k

  module _ (m : ℕ) (inside : m ≤ length line) where
    -- the row of a category's symbol is one of the chart's
    in_chart : 128 ≤ symbol → (symbol - 128) * (length line + 1) + m < chart_size s.categories (length line)
    in_chart k =
        row_inside (symbol - 128) s.categories (length line + 1) m (rw (category_count_lem g s place.chart.now.grammar.sectioned) at (known k)) (omega arith)

    pub in_words : 128 ≤ symbol → (symbol - 128) * (length line + 1) + m < length words
    in_words k = lt_of_lt_of_le (in_chart k) chart_of.room

    pub in_few : 128 ≤ symbol → (symbol - 128) * (length line + 1) + m < 2048
    in_few k = lt_of_lt_of_le (in_chart k) (chart_small s.categories (length line) (whole g s place.chart.now.grammar.sectioned).categories_high chart_of.is_line.short)

    pub ends_category : 128 ≤ symbol → SymbolEnds place.chart.now place.at place.d m (get_or words ((symbol - 128) * (length line + 1) + m) 0)
    ends_category k j = let w = chart_of.word (symbol - 128) m (known k) inside j in (λ h. category k (w.0 h), λ b. w.1 (child_category k b))

    pub ends_past : symbol < 128 → length line ≤ m → SymbolEnds place.chart.now place.at place.d m 0
    ends_past k h j = (λ z. absurd (none_member j z), λ b. absurd (omega (arith, (child_class k b).0)))

    pub ends_other : symbol < 128 → (get_or line m 0 ≡ symbol → ⊥) → SymbolEnds place.chart.now place.at place.d m 0
    ends_other k n j = (λ z. absurd (none_member j z), λ b. absurd (n (child_class k b).1))

    pub ends_class : symbol < 128 → m < length line → get_or line m 0 ≡ symbol → (r : ℕ) → With 0 (m + 1) r → SymbolEnds place.chart.now place.at place.d m r
    ends_class k h e r w j = (
      λ z. ⊎_elim (λ o. absurd (none_member j o)) (λ q. subst (λ (x : ℕ). Child G line symbol m x) (sym (q ∙ add-one m)) (token k h e)) ((w j).0 z),
      λ b. (w j).1 (inr ((child_class k b).2 ∙ sym (add-one m))),
    )

module _ (chart : Chart) (at i : ℕ) where
  pub prefix_none : (r : ℕ) → i ≤ length chart.line.now → With 0 i r → PrefixEnds chart at 0 i r
  prefix_none r l w m = (
    λ z. ⊎_elim (λ o. absurd (none_member m o)) (λ e. rw e (stop l)) ((w m).0 z),
    λ b. (w m).1 (inr (stays b)),
  )

  pub prefix_more : (d r r' : ℕ) → d < length (standing chart.grammar.view.bytes.now at).right → PrefixEnds chart at d i r → StepEnds chart at d r r' → PrefixEnds chart at (d + 1) i r'
  prefix_more d r r' l u w j = (
    λ z.
        let v = (w j).0 z in
        let bs = (u v.0).0 v.1 in
        let h = children_height bs + child_height v.2 in
        rw add-one
        (prefix_join {h = h} (standing chart.grammar.view.bytes.now at).right d l
        (record { children = bs; low = le-add_right (children_height bs) (child_height v.2) })
        (record { child = v.2; low = le-add_left (child_height v.2) (children_height bs) })).children,
    λ b.
        let bs : Children (grammar_in chart.grammar) chart.line.now (take (suc d) (standing chart.grammar.view.bytes.now at).right) i j = rw add-one at b in
        let s = prefix_split {h = children_height bs} (standing chart.grammar.view.bytes.now at).right d l (record { children = bs; low = le_refl (children_height bs) }) in
        (w j).1 (s.0, (u s.0).1 s.1.children, s.2.child),
  )

  pub prefix_inside : (d r : ℕ) → PrefixEnds chart at d i r → (m : ℕ) → Member r m → m ≤ length chart.line.now
  prefix_inside d r u m z = (children_inside ((u m).0 z)).ends

  -- where the first d symbols have no end, more have none
  pub prefix_empty : (d x : ℕ) → d + x ≤ length (standing chart.grammar.view.bytes.now at).right → PrefixEnds chart at d i 0 → PrefixEnds chart at (d + x) i 0
  prefix_empty d zero l u = rw add-zero u
  prefix_empty d (suc x) l u =
      let step : StepEnds chart at (d + x) 0 0 = λ j. (λ z. absurd (none_member j z), λ v. absurd (none_member v.0 v.1)) in
      let one : d + x + 1 ≡ d + suc x = omega arith in
      subst (λ (k : ℕ). PrefixEnds chart at k i 0) one (prefix_more (d + x) 0 0 (omega arith) (prefix_empty d x (omega arith) u) step)
