-- The ten starred examples: every entry of the table holds.
use Rattle.std.proofs.Common.{Err, Ok, Result}
use Rattle.refusals.specs.declared.Refusal.{Refusal}
use Prim.Native.Nat.{ℕ}
use mathlib.Core.Path.{◌≡◌, refl, sym, ◌∙◌}
use mathlib.Core.Bool.{true, ◌&&◌, false≢true}
use mathlib.Core.List.Memᴰ
use mathlib.Core.List.{List, [], ◌∷◌, map, flatten, Memᴰ}
use native.Mathlib.Omega.{arith}
use lib.ListN.{length}
use lib.Count.{count_trailing_zeros, count_leading_zeros}
use lib.Dec.{eqb}
use borrow.Author.Tests.{eqb-true}
use Rattle.refusals.specs.Told.{Told}
use Rattle.positions.specs.Member.{digit}
use Rattle.positions.specs.Count.{count_below}
use Rattle.positions.proofs.Extremes.{smallest_of, largest_of}
use Rattle.derivation.specs.Bound.{depth_bound}
use Rattle.derivation.specs.Grammar.{Grammar}
use Rattle.derivation.specs.Tree.{node}
use Rattle.derivation.specs.Fact.{Fact}
use Rattle.derivation.specs.Depth.{Depth, DepthIs, no_fact, deep}
use Rattle.derivation.specs.computed.Search.{some, first_from}
use Rattle.derivation.specs.computed.Listing.{listed, gathered, kept}
use Rattle.derivation.specs.computed.Round.{token_is, child, children, round}
use Rattle.derivation.specs.computed.Table as derivation
use Rattle.derivation.specs.computed.Table.{is_found, seen, grade, depths, depth_of}
use Rattle.derivation.specs.computed.RoundsOf.{greatest, rounds_of}
use Rattle.derivation.specs.computed.Facts.{facts}
use Rattle.derivation.specs.computed.FactCount.{total, fact_count}
use Rattle.derivation.specs.computed.Marks.{covered, secret, marks}
use Rattle.derivation.specs.computed.Shown.{below, chosen_rule, chosen_end, chosen_row, chosen, shown}
use Rattle.derivation.specs.computed.Forest.{is_branch, passing, forest}
use Rattle.derivation.proofs.Tests.{and_parts}
use Rattle.derivation.proofs.Table.{depth_of_is}
use Rattle.checks.specs.Line.{tokens_from, line_check}
use Rattle.checks.specs.Question.{start_check, span_check}
use Rattle.grammar.specs.Repeats.{same_symbols, same_rule, is_repeated}
use Rattle.grammar.specs.Reading.{each_from, rule_from, rules_from, flags_section, rules_section, sections_of, read_of}
use Rattle.grammar.specs.Value.{standing, rules_at, grammar_of}
use Rattle.grammar.specs.declared.reading.Sections.{Sections}
use Rattle.grammar.specs.Given.{sections_given, grammar_given}
use Rattle.grammar.proofs.Encoded.{accepted_proper}
use Rattle.lines.specs.Lines.{text, spaced, line_of}
use Rattle.report.proofs.Examples.{document_job, document_output, examples}
use Rattle.examples.specs.Entry.{Graded, Question, Work, as_before, holding, Entry, outcome, no_facts, meets_bound, prints}
use Rattle.examples.specs.Memory.{word_at, number_at}
use Rattle.examples.specs.Claim.{OutcomeIs, Holds}
use Rattle.examples.specs.Table.{table}
use Rattle.examples.proofs.Test.{every, same, same_by, same_told, passes, writes_nothing, place_test, row_test, work_test, tree_test, answer_test, filled_test, turned_test, read_test, no_facts_test, bound_test, test, all}
use Rattle.examples.proofs.TestLaws.{same_is, passes_is}
use Rattle.examples.proofs.TurnedLaws.{turned_holds}
use Rattle.examples.proofs.AnswerLaws.{answer_holds}

-- the computed test: every entry of the table passes
pub all_pass : (line : List ℕ) (A i j b : ℕ) → all (table line A i j b) ≡ true
unfolding table all test text line_of spaced bound_test no_facts_test read_test turned_test filled_test answer_test tree_test work_test row_test place_test writes_nothing passes same_told same_by same every word_at number_at smallest_of largest_of count_trailing_zeros count_leading_zeros digit count_below read_of sections_of flags_section rules_section rules_from rule_from each_from is_repeated same_rule same_symbols grammar_of rules_at standing line_check tokens_from start_check span_check rounds_of greatest fact_count total facts forest passing is_branch gathered kept marks secret covered shown chosen chosen_row chosen_end chosen_rule below first_from depth_of depths derivation.table listed is_found seen grade round children child token_is some flatten
all_pass line A i j b = refl

-- a question's entry that passes holds
question_holds : (g line : List ℕ) (question : Question) (told : Told) (work : Work) → read_test g line question told work (read_of g) ≡ true → OutcomeIs g line question told work
unfolding read_test filled_test
question_holds g line question told work t = go (read_of g) refl t
  where
    accepted : {s : Sections} → read_of g ≡ Ok s → (work : Work) → filled_test g line question told work ≡ true → OutcomeIs g line question told work
    accepted read as_before ok = absurd (false≢true ok)
    accepted read (holding facts) ok =
        let p = and_parts (passes (line_check (sections_given g).classes line)) (work_test g line facts && answer_test g line facts question told) ok in
        let q = and_parts (work_test g line facts) (answer_test g line facts question told) p.1 in
        answer_holds g line (rw read) (passes_is _ p.0) facts q.0 question told q.1

    go : (r : Result Sections Refusal) → read_of g ≡ r → read_test g line question told work r ≡ true → OutcomeIs g line question told work
    go (Ok s) read ok = accepted read work ok
    go (Err refusal) read ok = turned_holds g line refusal read question told work ok

-- a grammar without rules has no fact
without_rules : {G : Grammar} {line : List ℕ} {A i j : ℕ} → length G.rules ≡ 0 → Fact G line A i j → ⊥
without_rules none (node p r children) = omega (arith, r.below)

-- an entry of no facts that passes holds
none_holds : (g : List ℕ) → no_facts_test g (read_of g) ≡ true → Holds (no_facts g)
unfolding no_facts_test
none_holds g t = go (read_of g) refl t
  where
    go : (r : Result Sections Refusal) → read_of g ≡ r → no_facts_test g r ≡ true → Holds (no_facts g)
    go (Ok s) read ok = (rw read, λ line A i j. without_rules (eqb-true (length (grammar_given g).rules) 0 ok))
    go (Err refusal) read ok = absurd (false≢true ok)

-- a number kept that is found is the depth
found_depth : {G : Grammar} {line : List ℕ} {A i j d : ℕ} → DepthIs G line A i j d → is_found d ≡ true → Depth G line A i j d
unfolding is_found
found_depth (no_fact none) found = absurd (false≢true found)
found_depth (deep depth) found = depth

-- an entry of the bound that passes holds
bound_holds : (g line : List ℕ) (fact : Graded) → bound_test g line fact (read_of g) ≡ true → Holds (meets_bound g line fact)
unfolding bound_test
bound_holds g line fact t = go (read_of g) refl t
  where
    go : (r : Result Sections Refusal) → read_of g ≡ r → bound_test g line fact r ≡ true → Holds (meets_bound g line fact)
    go (Ok s) read ok =
        let computed = depth_of (grammar_given g) line fact.category fact.start fact.end in
        let most = depth_bound (grammar_given g) fact.start fact.end in
        let p = and_parts (is_found fact.depth) (eqb computed fact.depth && eqb fact.depth most) ok in
        let q = and_parts (eqb computed fact.depth) (eqb fact.depth most) p.1 in
        let is = depth_of_is (grammar_given g) line (accepted_proper g (sections_given g) (rw read)) fact.category fact.start fact.end in
        (found_depth (rw (eqb-true computed fact.depth q.0) at is) p.0, eqb-true fact.depth most q.1)
    go (Err refusal) read ok = absurd (false≢true ok)

-- a passing entry holds
pub test_holds : (e : Entry) → test e ≡ true → Holds e
unfolding test
test_holds (outcome g line question told work) t = question_holds g line question told work t
test_holds (no_facts g) t = none_holds g t
test_holds (meets_bound g line fact) t = bound_holds g line fact t
test_holds (prints input lines) t =
    let output = flatten (map (λ line. line_of line []) lines) in
    let p = and_parts (same input document_job) (same output (text document_output)) t in
    rw (same_is input document_job p.0) (examples.0 ∙ sym (same_is output (text document_output) p.1))

-- where all pass, each does
member_passes : (es : List Entry) {e : Entry} → all es ≡ true → Memᴰ e es → test e ≡ true
unfolding all
member_passes [] ok m = absurd (Memᴰ.not-nil m)
member_passes (x ∷ es) ok (Memᴰ.head q) = rw q (and_parts (test x) (all es) ok).0
member_passes (x ∷ es) ok (Memᴰ.tail m) = member_passes es (and_parts (test x) (all es) ok).1 m

-- every example of the document holds: what is written out is the one outcome, over lent memory of any old contents
pub examples_hold : (line : List ℕ) (A i j b : ℕ) (e : Entry) → Memᴰ e (table line A i j b) → Holds e
examples_hold line A i j b e m = test_holds e (member_passes (table line A i j b) (all_pass line A i j b) m)
