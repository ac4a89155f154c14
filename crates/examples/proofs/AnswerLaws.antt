-- An accepted grammar: the question is answered, or turned down after the filling, and the work memory is filled.
use Rattle.std.proofs.Common.{Err, Ok}
use Prim.Native.Nat.{ℕ, ◌+◌, ◌*◌, ◌≤◌, ◌<◌}
use mathlib.Core.Path.{◌≡◌, refl, sym, ap, ◌∙◌}
use mathlib.Core.Bool.{Bool, true, false, true≢false, cond}
use mathlib.Core.List.{List, [], ◌∷◌, map}
use native.Mathlib.Omega.{arith}
use lib.ListN.{length, get_or, length-map}
use borrow.Author.Tests.{le-ltb}
use Rattle.refusals.specs.declared.Refusal.TheVariants.{TreeOfNoFact}
use Rattle.refusals.specs.Check.{Check, nothing_wrong}
use Rattle.refusals.specs.Row.{row_of}
use Rattle.refusals.specs.Order.{early}
use Rattle.refusals.specs.Told.{Told, answered, refused}
use Rattle.positions.specs.Count.{count_below}
use Rattle.positions.proofs.Extremes.{smallest_of, largest_of, both_computed}
use Rattle.derivation.specs.Grammar.{Grammar, Proper}
use Rattle.derivation.specs.Node.{NodeValue, preorder}
use Rattle.derivation.specs.Branch as derivation
use Rattle.derivation.specs.computed.RoundsOf.{rounds_of}
use Rattle.derivation.specs.computed.FactCount.{total, fact_count}
use Rattle.derivation.specs.computed.Facts as is_fact
use Rattle.derivation.specs.computed.Facts.{fact_list}
use Rattle.derivation.specs.computed.Marks as of-line
use Rattle.derivation.specs.computed.Shown.{shown}
use Rattle.derivation.specs.computed.Forest as records
use Rattle.derivation.proofs.Tests.{and_parts}
use Rattle.derivation.proofs.Totals.{total_same}
use Rattle.derivation.proofs.Table.{at_listed}
use Rattle.derivation.proofs.RoundsOf.{rounds_of_is}
use Rattle.derivation.proofs.Facts.{facts_exact, length_fact_list, fact_list_is}
use Rattle.derivation.proofs.Decide.{depth_exists}
use Rattle.derivation.proofs.Shown.{chosen_exists}
use Rattle.derivation.proofs.Forest.{forest_is}
use Rattle.checks.specs.declared.Asked.{Asked}
use Rattle.checks.specs.declared.Asked.TheVariants.{Nothing, Start, Span}
use Rattle.checks.specs.Line.{line_check}
use Rattle.checks.specs.Question.{start_check, span_check, asked_check}
use Rattle.checks.proofs.Laws.{start_passed}
use Rattle.grammar.specs.Reading.{read_of}
use Rattle.grammar.specs.Given.{sections_given, grammar_given}
use Rattle.grammar.proofs.Accepted.{accepted}
use Rattle.grammar.proofs.Encoded.{category_count_lem, accepted_proper}
use Rattle.filling.specs.Filled.{WorkFilled}
use Rattle.chart.specs.Checks.{checks_of}
use Rattle.chart.specs.ChartOutcome as chart-outcome
use Rattle.chart.specs.EndsOutcome as ends_outcome
use Rattle.chart.proofs.CheckLaws.{Passes, line_is, early_passed}
use Rattle.chart.proofs.CountLaws.{row_fits}
use Rattle.marks.specs.Marks.{MarksAre}
use Rattle.marks.proofs.Unique.{length_listed, mark_computed}
use Rattle.marks.proofs.OutcomeLaws.{marks_answered}
use Rattle.tree.specs.Bytes.{node_bytes, bytes}
use Rattle.tree.specs.Outcome as tree_outcome
use Rattle.forest.specs.Record.{record_of}
use Rattle.forest.specs.Outcome as forest-outcome
use Rattle.examples.specs.Entry.{Graded, Question, chart, ends, marks, tree, forest, holding}
use Rattle.examples.specs.Memory.{word_at, overwritten, Lent, words_after, depths_after}
use Rattle.examples.specs.Claim.{OutcomeIs}
use Rattle.examples.proofs.Test.{same, same_by, same_told, passes, work_test, tree_test, answer_test}
use Rattle.examples.proofs.OnlyLaws.{chart_only, ends_only, marks_only, tree_only, forest_only}
use Rattle.examples.proofs.TestLaws.{same_is, same_by_lem, node_one, branch_one, told_is, passes_is}
use Rattle.examples.proofs.WorkLaws.{written_long, written_at, written_past, word_shows, work_filled}

-- marks that are the computed ones, over any old contents
marks_are : (G : Grammar) (line new row : List ℕ) → Proper G → new ≡ of-line.marks G line → length line ≤ length row → MarksAre G line row (overwritten new row) (total (λ t. get_or new t 0) (length line))
unfolding of-line.marks
marks_are G line new row proper e room =
    let mark : ℕ → ℕ = λ t. cond (of-line.secret G line t) 1 0 in
    let long : length new ≡ length line = rw e (length_listed mark 0 (length line)) in
    let at : (t : ℕ) → t < length line → get_or (overwritten new row) t 0 ≡ get_or new t 0 = λ t l. written_at new row t (omega arith) in
    record {
      long = written_long new row (omega arith);
      mark = λ t l. rw (at t l, e, at_listed mark 0 (length line) t l) (mark_computed G line t proper);
      past = λ q l. written_past new row q (omega arith);
      ones = total_same _ _ (length line) (λ t l. sym (at t l));
    }

module _ (g line : List ℕ) (read : read_of g ≡ Ok (sections_given g)) (is-line : line_check (sections_given g).classes line ≡ nothing_wrong) (facts : List Graded) (filled : work_test g line facts ≡ true) where
  abbrev G : Grammar
  G = grammar_given g

  proper : Proper G
  proper = accepted_proper g (sections_given g) read

  categories : length G.categories ≡ (sections_given g).categories
  categories = category_count_lem g (sections_given g) (accepted g (sections_given g) read).0

  module _ (words depths : List ℕ) (lent : Lent g line words depths) where
    -- the first checks pass where the question's own does
    first : (asked : Asked) → asked_check (sections_given g).categories (length line) asked ≡ nothing_wrong → Passes g line asked (length words) (length depths) (sections_given g)
    first asked q = record { read = read; rest = rw (is-line, q, ← categories, le-ltb _ _ lent.words_enough, le-ltb _ _ lent.depths_enough) }

    passed : (asked : Asked) (fact room : Check) → asked_check (sections_given g).categories (length line) asked ≡ nothing_wrong → early (checks_of g line asked words depths fact room) ≡ nothing_wrong
    passed asked fact room q = early_passed words depths fact room (first asked q)

    work : WorkFilled G line words depths (words_after g line (holding facts) words) (depths_after g line (holding facts) depths)
    work = work_filled g line proper facts filled words depths lent

  chart_holds : (told : Told) → answer_test g line facts chart told ≡ true → OutcomeIs g line chart told (holding facts)
  unfolding answer_test
  chart_holds told t = λ words depths lent. chart_only (
    Ok (record { rounds = rounds_of G line; facts = fact_count G line }),
    sym (told_is told _ t),
    chart-outcome.filled {rounds = rounds_of G line} {facts = fact_list G line}
        (rw (passed words depths lent Nothing nothing_wrong nothing_wrong refl))
        (ap (λ (n : ℕ). answered (rounds_of G line ∷ n ∷ [])) (sym (length_fact_list G line)))
        (rounds_of_is G line proper)
        (fact_list_is G line proper)
        (work words depths lent),
  )

  ends_holds : (A i : ℕ) (told : Told) → answer_test g line facts (ends A i) told ≡ true → OutcomeIs g line (ends A i) told (holding facts)
  unfolding answer_test
  ends_holds A i told t =
      let row = word_at facts (length line + 1) (A * (length line + 1) + i) in
      let p = and_parts (passes (start_check (sections_given g).categories (length line) A i)) (same_told told (answered (row ∷ count_below 64 row ∷ smallest_of row ∷ largest_of row ∷ []))) t in
      let question = passes_is (start_check (sections_given g).categories (length line) A i) p.0 in
      let inside = start_passed (sections_given g).categories (length line) A i question in
      let shows = word_shows g line proper facts filled A i (rw categories inside.0) inside.1 in
      λ words depths lent. ends_only (
        Ok (record { row = row; ends = count_below 64 row; smallest = smallest_of row; largest = largest_of row }),
        sym (told_is told _ p.1),
        ends_outcome.found {row = row} {count = count_below 64 row} {smallest = smallest_of row} {largest = largest_of row}
            (rw (passed words depths lent (Start A i) nothing_wrong nothing_wrong question))
            refl
            shows
            refl
            (both_computed row (row_fits G line A i row (line_is (first words depths lent (Start A i) question)).short shows))
            (work words depths lent),
      )

  marks_holds : (new : List ℕ) (told : Told) → answer_test g line facts (marks new) told ≡ true → OutcomeIs g line (marks new) told (holding facts)
  unfolding answer_test of-line.marks
  marks_holds new told t =
      let secret = total (λ t. get_or new t 0) (length line) in
      let p = and_parts (same new (of-line.marks G line)) (same_told told (answered (secret ∷ []))) t in
      let is = same_is new (of-line.marks G line) p.0 in
      let long : length new ≡ length line = rw is (length_listed _ 0 (length line)) in
      λ words depths row lent room. marks_only (
        Ok secret,
        sym (told_is told _ p.1),
        marks_answered g line words depths row (sections_given g) (first words depths lent Nothing refl) secret _ _ (overwritten new row) (omega arith) (work words depths lent)
            (marks_are G line new row proper is (omega arith)),
      )

  tree_holds : (A i j : ℕ) (nodes : List NodeValue) (told : Told) → span_check (sections_given g).categories (length line) A i j ≡ nothing_wrong → (c : Bool) → is_fact.facts G line A i j ≡ c → tree_test g line A i j nodes told c ≡ true →
      OutcomeIs g line (tree A i j nodes) told (holding facts)
  unfolding tree_test bytes
  tree_holds A i j nodes told question true fact t =
      let p = and_parts (same_by node_bytes nodes (shown G line A i j)) (same_told told (answered (length nodes ∷ []))) t in
      let chosen = chosen_exists G line proper (depth_exists G line ((facts_exact G line proper A i j).0 fact)).1 in
      let is : nodes ≡ preorder chosen.0 = same_by_lem node_bytes node_one nodes (shown G line A i j) p.0 ∙ chosen.3 in
      λ words depths row lent room. tree_only (
        Ok (length nodes),
        sym (told_is told _ p.1),
        tree_outcome.shows
            chosen.0
            (passed words depths lent (Span A i j) nothing_wrong nothing_wrong question)
            chosen.1
            (rw is at room)
            (ap (λ (l : List NodeValue). answered (length l ∷ [])) is)
            (work words depths lent)
            (ap (λ (l : List NodeValue). overwritten (bytes l) row) is),
      )
  tree_holds A i j nodes told question false fact t =
      let p = and_parts (same_by node_bytes nodes []) (same_told told (refused (row_of TreeOfNoFact))) t in
      let none = same_by_lem node_bytes node_one nodes [] p.0 in
      λ words depths row lent room. tree_only (
        Err TreeOfNoFact,
        sym (told_is told _ p.1),
        tree_outcome.no_fact
            (passed words depths lent (Span A i j) nothing_wrong nothing_wrong question)
            (λ f. true≢false (sym ((facts_exact G line proper A i j).1 f) ∙ fact))
            refl
            (work words depths lent)
            (rw none),
      )

  forest_holds : (branches : List derivation.BranchValue) (told : Told) → answer_test g line facts (forest branches) told ≡ true → OutcomeIs g line (forest branches) told (holding facts)
  unfolding answer_test
  forest_holds branches told t =
      let p = and_parts (same_by derivation.branch_numbers branches (records.forest G line)) (same_told told (answered (length branches ∷ []))) t in
      let is = same_by_lem derivation.branch_numbers branch_one branches (records.forest G line) p.0 in
      λ words depths rows lent room.
      let fits : length (records.forest G line) ≤ length rows = rw is at room in forest_only (
        Ok (length branches),
        sym (told_is told _ p.1),
        forest-outcome.answered
            (passed words depths lent Nothing nothing_wrong nothing_wrong refl)
            (forest_is proper)
            fits
            (ap (λ (l : List derivation.BranchValue). answered (length l ∷ [])) is)
            (work words depths lent)
            (ap (λ (l : List derivation.BranchValue). overwritten (map record_of l) rows) is ∙ rw (length-map (records.forest G line) record_of)),
      )

  pub answer_holds : (question : Question) (told : Told) → answer_test g line facts question told ≡ true → OutcomeIs g line question told (holding facts)
  unfolding answer_test
  answer_holds chart told t = chart_holds told t
  answer_holds (ends A i) told t = ends_holds A i told t
  answer_holds (marks new) told t = marks_holds new told t
  answer_holds (tree A i j nodes) told t =
      let p = and_parts (passes (span_check (sections_given g).categories (length line) A i j)) (tree_test g line A i j nodes told (is_fact.facts G line A i j)) t in
      tree_holds A i j nodes told (passes_is (span_check (sections_given g).categories (length line) A i j) p.0) (is_fact.facts G line A i j) refl p.1
  answer_holds (forest branches) told t = forest_holds branches told t
