-- Every question has a result that its own outcome allows.
use Rattle.std.proofs.Common.{Err, Ok}
use Prim.Native.Nat.{ℕ, ◌+◌, ◌*◌, ◌≤◌, ◌<◌}
use mathlib.Core.Path.{◌≡◌, refl}
use mathlib.Core.Bool.{cond}
use mathlib.Core.List.{List, [], ◌∷◌, ◌++◌, map}
use native.Mathlib.Decide.{dec_lt}
use native.Mathlib.Omega.{arith}
use lib.ListN.{length, get_or, drop}
use borrow.Author.Tests.{lt-ltb, le-ltb}
use Rattle.refusals.specs.declared.Refusal.{Refusal}
use Rattle.refusals.specs.declared.Refusal.TheVariants.{MarksTooSmall, ForestTooSmall, TreeOfNoFact, TreeTooSmall}
use Rattle.refusals.specs.Check.{Check, nothing_wrong}
use Rattle.refusals.specs.Row.{row_of}
use Rattle.refusals.specs.Told.{answered, refused}
use Rattle.positions.specs.Count.{count_below}
use Rattle.positions.proofs.Extremes.{smallest_of, largest_of, both_computed}
use Rattle.derivation.specs.Grammar.{Grammar, Proper}
use Rattle.derivation.specs.Tree.{Tree, height}
use Rattle.derivation.specs.Fact.{Fact}
use Rattle.derivation.specs.Node.{preorder}
use Rattle.derivation.specs.Choice.{Chosen}
use Rattle.derivation.specs.computed.RoundsOf.{rounds_of}
use Rattle.derivation.specs.computed.Facts.{fact_list}
use Rattle.derivation.specs.computed.FactCount.{total}
use Rattle.derivation.specs.computed.Marks as computed
use Rattle.derivation.specs.computed.Shown.{shown}
use Rattle.derivation.specs.computed.Forest as computed-forest
use Rattle.derivation.proofs.Decide.{depth_exists, fact?}
use Rattle.derivation.proofs.RoundsOf.{rounds_of_is}
use Rattle.derivation.proofs.Facts.{fact_list_is}
use Rattle.derivation.proofs.Shown.{chosen_exists}
use Rattle.derivation.proofs.Forest.{forest_is}
use Rattle.grammar.specs.Given.{grammar_given}
use Rattle.filling.specs.Filled.{WorkFilled}
use Rattle.chart.specs.ChartOutcome as chart-outcome
use Rattle.chart.specs.EndsOutcome as ends_outcome
use Rattle.chart.proofs.CheckLaws.{early_proper}
use Rattle.chart.proofs.CountLaws.{row_fits}
use Rattle.chart.proofs.OutcomeLaws.{chart_turned, ends_turned}
use Rattle.marks.specs.Marks.{MarksAre}
use Rattle.marks.specs.Outcome as marks-outcome
use Rattle.marks.proofs.Unique.{mark_computed}
use Rattle.marks.proofs.OutcomeLaws.{marks_turned}
use Rattle.tree.specs.Bytes.{bytes}
use Rattle.tree.specs.Outcome as tree_outcome
use Rattle.tree.proofs.OutcomeLaws.{tree_turned}
use Rattle.forest.specs.declared.Branch.{Branch}
use Rattle.forest.specs.Record.{record_of}
use Rattle.forest.specs.Outcome as forest-outcome
use Rattle.examples.specs.Memory.{overwritten}
use Rattle.examples.proofs.WorkLaws.{listed_long, listed_at, listed_past}
use Rattle.demands.specs.Question.{Input, Query, chart, ends, marks, tree, forest, row_before, Result, Allowed}
use Rattle.demands.proofs.Right.{asked_of}
use Rattle.demands.proofs.Refusals.{first}
use Rattle.demands.proofs.Ending.{all_right_lem}
use Rattle.demands.proofs.Filling.{filled_exists}

-- refused early, nothing is changed
abbrev refused_result : (x : Input) (q : Query) → Refusal → Result q
refused_result x q refusal = record { told = refused (row_of refusal); words = x.words; depths = x.depths; row = row_before q }

turned : (x : Input) (q : Query) (refusal : Refusal) → first x q ≡ Err refusal → Allowed x q (refused_result x q refusal)
turned x chart refusal e = (Err refusal, refl, chart_turned x.grammar x.line x.words x.depths refusal e)
turned x (ends A i) refusal e = (Err refusal, refl, ends_turned x.grammar x.line x.words x.depths A i refusal e)
turned x (marks row) refusal e = (Err refusal, refl, marks_turned x.grammar x.line x.words x.depths row refusal e)
turned x (tree A i j row) refusal e = (Err refusal, refl, tree_turned x.grammar x.line A i j x.words x.depths row refusal e)
turned x (forest rows) refusal e = (Err refusal, refl, forest-outcome.turned_down {refusal = refusal} e refl refl refl refl)

-- the first checks pass, and the work memory is filled
module _ (x : Input) {words' depths' : List ℕ} (filled : WorkFilled (grammar_given x.grammar) x.line x.words x.depths words' depths') where
  abbrev G : Grammar
  G = grammar_given x.grammar

  module _ (proper : Proper G) where
    chart_exists : first x chart ≡ nothing_wrong → (r : Result chart) × Allowed x chart r
    chart_exists e = (
      record { told = answered (rounds_of G x.line ∷ length (fact_list G x.line) ∷ []); words = words'; depths = depths'; row = tt },
      (Ok (record { rounds = rounds_of G x.line; facts = length (fact_list G x.line) }), refl, chart-outcome.filled (rw e) refl (rounds_of_is G x.line proper) (fact_list_is G x.line proper) filled),
    )

    ends_exists : (A i : ℕ) → first x (ends A i) ≡ nothing_wrong → (r : Result (ends A i)) × Allowed x (ends A i) r
    ends_exists A i e =
        let right = all_right_lem x (ends A i) e in
        let row = get_or words' (A * (length x.line + 1) + i) 0 in
        let shows = filled.word A i ((right.asked 0 (omega arith)).category refl) ((right.asked 1 (omega arith)).start refl) in
        let both = both_computed row (row_fits G x.line A i row right.line.short shows) in (
          record { told = answered (row ∷ count_below 64 row ∷ smallest_of row ∷ largest_of row ∷ []); words = words'; depths = depths'; row = tt },
          (Ok (record { row = row; ends = count_below 64 row; smallest = smallest_of row; largest = largest_of row }), refl, ends_outcome.found (rw e) refl shows refl both filled),
        )

    marks_are : (row : List ℕ) → length x.line ≤ length row → MarksAre G x.line row (overwritten (computed.marks G x.line) row) (total (λ t. get_or (overwritten (computed.marks G x.line) row) t 0) (length x.line))
    unfolding computed.marks
    marks_are row room =
        let mark : ℕ → ℕ = λ t. cond (computed.secret G x.line t) 1 0 in
        record {
          long = listed_long mark (length x.line) row room;
          mark = λ t l. rw (listed_at mark (length x.line) row t l) (mark_computed G x.line t proper);
          past = listed_past mark (length x.line) row;
          ones = refl;
        }

    marks_exists : (row : List ℕ) → first x (marks row) ≡ nothing_wrong → Dec (length row < length x.line) → (r : Result (marks row)) × Allowed x (marks row) r
    marks_exists row e (yes l) = (
      record { told = refused (row_of (MarksTooSmall (length x.line))); words = words'; depths = depths'; row = row },
      (Err (MarksTooSmall (length x.line)), refl, marks-outcome.no_room {refusal = MarksTooSmall (length x.line)} e (rw (lt-ltb (length row) (length x.line) l)) refl filled refl),
    )
    marks_exists row e (no l) =
        let room : length x.line ≤ length row = omega arith in
        let new = overwritten (computed.marks G x.line) row in
        let secret = total (λ t. get_or new t 0) (length x.line) in (
          record { told = answered (secret ∷ []); words = words'; depths = depths'; row = new },
          (Ok secret, refl, marks-outcome.answered (rw (e, le-ltb (length row) (length x.line) room)) refl filled (marks_are row room)),
        )

    tree_exists : (A i j : ℕ) (row : List ℕ) → first x (tree A i j row) ≡ nothing_wrong → Dec (Fact G x.line A i j) → (r : Result (tree A i j row)) × Allowed x (tree A i j row) r
    tree_exists A i j row e (no n) = (
      record { told = refused (row_of TreeOfNoFact); words = words'; depths = depths'; row = row },
      (Err TreeOfNoFact, refl, tree_outcome.no_fact e n refl filled refl),
    )
    tree_exists A i j row e (yes f) = go (chosen_exists G x.line proper (depth_exists G x.line f).1) (dec_lt _ _)
      where
        go : {d : ℕ} (c : (t : Tree G x.line A i j) × Chosen t × (height t ≡ d) × (shown G x.line A i j ≡ preorder t)) → Dec (length row < length (bytes (preorder c.0))) → (r : Result (tree A i j row)) × Allowed x (tree A i j row) r
        go c (yes l) = (
          record { told = refused (row_of TreeTooSmall); words = words'; depths = depths'; row = row },
          (Err TreeTooSmall, refl, tree_outcome.no_room c.0 e c.1 l refl filled refl),
        )
        go c (no l) = (
          record { told = answered (length (preorder c.0) ∷ []); words = words'; depths = depths'; row = bytes (preorder c.0) ++ drop (length (bytes (preorder c.0))) row },
          (Ok (length (preorder c.0)), refl, tree_outcome.shows c.0 e c.1 (omega arith) refl filled refl),
        )

    forest_exists : (rows : List Branch) → first x (forest rows) ≡ nothing_wrong → Dec (length rows < length (computed-forest.forest G x.line)) → (r : Result (forest rows)) × Allowed x (forest rows) r
    forest_exists rows e (yes l) =
        let records = computed-forest.forest G x.line in (
          record { told = refused (row_of (ForestTooSmall (length records))); words = words'; depths = depths'; row = rows },
          (Err (ForestTooSmall (length records)), refl, forest-outcome.no_room e (forest_is proper) l refl filled refl),
        )
    forest_exists rows e (no l) =
        let records = computed-forest.forest G x.line in (
          record { told = answered (length records ∷ []); words = words'; depths = depths'; row = map record_of records ++ drop (length records) rows },
          (Ok (length records), refl, forest-outcome.answered e (forest_is proper) (omega arith) refl filled refl),
        )

    passed : (q : Query) → first x q ≡ nothing_wrong → (r : Result q) × Allowed x q r
    passed chart e = chart_exists e
    passed (ends A i) e = ends_exists A i e
    passed (marks row) e = marks_exists row e (dec_lt _ _)
    passed (tree A i j row) e = tree_exists A i j row e (fact? G x.line proper A i j)
    passed (forest rows) e = forest_exists rows e (dec_lt _ _)

pub result_exists : (x : Input) (q : Query) → (r : Result q) × Allowed x q r
result_exists x q = go (first x q) refl
  where
    go : (c : Check) → first x q ≡ c → (r : Result q) × Allowed x q r
    go (Err refusal) e = (refused_result x q refusal, turned x q refusal e)
    go nothing_wrong e =
        let a = all_right_lem x q e in
        let proper = early_proper x.grammar x.line (asked_of q) x.words x.depths nothing_wrong nothing_wrong e in
        let f = filled_exists (grammar_given x.grammar) x.line x.words x.depths proper a.words a.depths in
        passed x f.2 proper q e
