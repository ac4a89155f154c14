-- What the questions' outcomes say of a job whose checks pass, and of a question on it.
use Rattle.std.proofs.Common.{Err, Ok, Result}
use Rattle.refusals.specs.Check.{nothing_wrong}
use Prim.Native.Nat.{ℕ, ◌*◌, ◌≤◌, ◌<◌}
use mathlib.Core.Path.{◌≡◌, refl, ◌∙◌, ap}
use mathlib.Core.Bool.{Bool, true, false}
use mathlib.Core.List.{List, ◌++◌}
use native.Mathlib.Omega.{arith}
use lib.ListN.{length, get_or, take, drop, length-append, length-drop}
use borrow.Author.Tests.{lt-ltb, le-ltb}
use Rattle.refusals.specs.declared.Refusal.{Refusal}
use Rattle.refusals.specs.declared.Refusal.TheVariants.{TreeOfNoFact, TreeTooSmall}
use Rattle.refusals.specs.Order.{early, late}
use Rattle.derivation.specs.Grammar.{Grammar, Proper}
use Rattle.derivation.specs.Fact.{Fact}
use Rattle.derivation.specs.Node.{preorder}
use Rattle.derivation.specs.computed.Facts.{facts}
use Rattle.derivation.proofs.Facts.{facts_exact}
use Rattle.derivation.proofs.Shown.{chosen_shown}
use Rattle.derivation.specs.computed.RoundsOf.{rounds_of}
use Rattle.derivation.specs.computed.FactCount.{fact_count}
use Rattle.derivation.specs.computed.Marks as computed
use Rattle.derivation.specs.computed.Shown.{shown}
use Rattle.checks.specs.declared.Asked.TheVariants.{Nothing, Span}
use Rattle.checks.proofs.Laws.{not_both}
use Rattle.grammar.specs.declared.reading.Sections.{Sections}
use Rattle.grammar.specs.Given.{grammar_given}
use Rattle.grammar.proofs.Encoded.{sections_proper, category_count_lem}
use Rattle.filling.specs.Filled.{WorkFilled}
use Rattle.chart.proofs.CheckLaws.{Passes, sections, line_is, grammar_is, early_passed, early_proper}
use Rattle.chart.specs.declared.ChartAnswer.{ChartAnswer}
use Rattle.chart.specs.ChartOutcome.{ChartOutcome}
use Rattle.chart.proofs.AnswerLaws.{chart_answered}
use Rattle.marks.specs.Outcome.{MarksOutcome, marks_room, marks_checks, turned_down, no_room, answered}
use Rattle.marks.proofs.MarkLaws.{mark_le}
use Rattle.marks.proofs.Unique.{marks_computed}
use Rattle.tree.specs.Bytes.{bytes}
use Rattle.tree.specs.Checks.{tree_checks}
use Rattle.tree.specs.Outcome as tree_outcome
use Rattle.tree.proofs.ByteLaws.{bytes_four}
use Rattle.report.specs.Printed.{tree_verdict}

-- of a job whose checks pass
module _ {g line : List ℕ} {s : Sections} (passes : Passes g line Nothing 512 16384 s) where
  pub ready_proper : Proper (grammar_given g)
  ready_proper = rw (grammar_is passes) (sections_proper g s (sections passes))

  pub ready_categories : length (grammar_given g).categories ≡ s.categories
  ready_categories = rw (grammar_is passes) (category_count_lem g s (sections passes))

  pub ready_short : length line ≤ 63
  ready_short = (line_is passes).short

  -- rounds and facts are those computed, and the work memory is filled
  pub chart_ready : {words depths words' depths' : List ℕ} {answer : Result ChartAnswer Refusal} → length words ≡ 512 → length depths ≡ 16384 → ChartOutcome g line words depths answer words' depths' →
      (answer ≡ Ok (record { rounds = rounds_of (grammar_given g) line; facts = fact_count (grammar_given g) line })) × WorkFilled (grammar_given g) line words depths words' depths'
  chart_ready {words} {depths} w d outcome = rw (grammar_is passes) (chart_answered g line words depths s (rw (w, d) passes) outcome)

  -- the marks are those computed, and no more than 1 each
  pub marks_answered : {words depths marks words' depths' marks' : List ℕ} {answer : Result ℕ Refusal} → length words ≡ 512 → length depths ≡ 16384 → length marks ≡ 63 →
      MarksOutcome g line words depths marks answer words' depths' marks' →
      (take (length line) marks' ≡ computed.marks (grammar_given g) line) × (length marks' ≡ 63) × ((t : ℕ) → t < length line → get_or marks' t 0 ≤ 1)
  marks_answered {words} {depths} {marks} w d m outcome = go outcome
    where
      room : length line ≤ length marks
      room = omega (arith, ready_short, m)

      passed : (early (marks_checks g line words depths marks) ≡ nothing_wrong) × (late (marks_checks g line words depths marks) ≡ nothing_wrong)
      passed = (early_passed {asked = Nothing} words depths {s = s} nothing_wrong (marks_room line marks) (rw (w, d) passes), rw (le-ltb (length marks) (length line) room))

      go : {words' depths' marks' : List ℕ} {answer : Result ℕ Refusal} → MarksOutcome g line words depths marks answer words' depths' marks' →
          (take (length line) marks' ≡ computed.marks (grammar_given g) line) × (length marks' ≡ 63) × ((t : ℕ) → t < length line → get_or marks' t 0 ≤ 1)
      go (turned_down e _ _ _ _) = absurd (not_both e passed.0)
      go (no_room _ e _ _ _) = absurd (not_both e passed.1)
      go (answered _ _ _ are) = (marks_computed ready_proper room are, are.long ∙ m, λ t l. mark_le (are.mark t l))

-- a question's refusal is what is found of it, and its count that of the nodes shown, whose bytes the row begins with
module _ (g line : List ℕ) (A i j : ℕ) (words depths out : List ℕ) where
  abbrev G : Grammar
  G = grammar_given g

  module _ (e : early (tree_checks g line A i j words depths) ≡ nothing_wrong) where
    proper : Proper G
    proper = early_proper g line (Span A i j) words depths nothing_wrong nothing_wrong e

    is_fact : Fact G line A i j → facts G line A i j ≡ true
    is_fact t = (facts_exact G line proper A i j).1 t

    is_none : (Fact G line A i j → ⊥) → facts G line A i j ≡ false
    is_none n = go (facts G line A i j) refl
      where
        go : (x : Bool) → facts G line A i j ≡ x → x ≡ false
        go true q = absurd (n ((facts_exact G line proper A i j).0 q))
        go false q = refl

  pub tree_refused : {refusal : Refusal} {words' depths' out' : List ℕ} → tree_outcome.TreeOutcome g line A i j words depths out (Err refusal) words' depths' out' →
      tree_verdict g line A i j words depths out ≡ Err refusal
  tree_refused {refusal} (tree_outcome.turned_down {refusal = x} e a _ _ _) = let z : x ≡ refusal = cc in rw (e, z)
  tree_refused {refusal} (tree_outcome.no_fact e n a _ _) = let z : TreeOfNoFact ≡ refusal = cc in rw (e, is_none e n, z)
  tree_refused {refusal} (tree_outcome.no_room t e c l a _ _) =
      let z : TreeTooSmall ≡ refusal = cc in
      rw (e, is_fact e t, chosen_shown G line (proper e) t c, lt-ltb (length out) (length (bytes (preorder t))) l, z)
  tree_refused (tree_outcome.shows _ _ _ _ t _ _) = absurd (let z : ◌≡◌ {A = ℕ} 0 1 = cc in omega arith)

  pub record TreeShown (count : ℕ) (out' : List ℕ) : Type 0 where
    pub passed : tree_verdict g line A i j words depths out ≡ nothing_wrong
    pub nodes : count ≡ length (shown G line A i j)
    pub begins : out' ≡ bytes (shown G line A i j) ++ drop (length (bytes (shown G line A i j))) out
    pub room : 4 * count ≤ length out
    pub long : length out' ≡ length out

  pub tree_shown : {count : ℕ} {words' depths' out' : List ℕ} → tree_outcome.TreeOutcome g line A i j words depths out (Ok count) words' depths' out' → TreeShown count out'
  tree_shown (tree_outcome.turned_down e a _ _ _) = absurd (let z : ◌≡◌ {A = ℕ} 0 1 = cc in omega arith)
  tree_shown (tree_outcome.no_fact e n a _ _) = absurd (let z : ◌≡◌ {A = ℕ} 0 1 = cc in omega arith)
  tree_shown (tree_outcome.no_room t e c l a _ _) = absurd (let z : ◌≡◌ {A = ℕ} 0 1 = cc in omega arith)
  tree_shown {count} (tree_outcome.shows t e c l told _ o) =
      let same = chosen_shown G line (proper e) t c in
      let z : count ≡ length (preorder t) = cc in
      let four = bytes_four (preorder t) in
      record {
        passed = rw (e, is_fact e t, same, le-ltb (length out) (length (bytes (preorder t))) l);
        nodes = rw same z;
        begins = rw same o;
        room = omega (arith, z, l, four);
        long = ap length o ∙ length-append (bytes (preorder t)) (drop (length (bytes (preorder t))) out) ∙ rw length-drop (omega (arith, l));
      }
