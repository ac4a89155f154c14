-- Depths are least heights, the tree shown has that height, rounds is the greatest depth, the forest is the list of the records.
use Prim.Native.Nat.{ℕ, ◌≤◌, ◌<◌}
use mathlib.Core.Path.{◌≡◌, refl, sym, ap, ◌∙◌}
use mathlib.Core.List.{List, [], ◌∷◌, ◌++◌}
use native.Mathlib.Omega.{arith}
use lib.ListN.{length, drop}
use Rattle.refusals.specs.Told.{answered}
use Rattle.derivation.specs.Grammar.{Grammar, Proper}
use Rattle.derivation.specs.Tree.{Tree}
use Rattle.derivation.specs.Depth.{DepthIs, no_fact, deep}
use Rattle.derivation.specs.Rounds.{RoundsIs}
use Rattle.derivation.specs.Node.{preorder}
use Rattle.derivation.specs.Choice.{Chosen}
use Rattle.derivation.proofs.Decide.{depth_bound_lem, depth_fits}
use Rattle.derivation.proofs.Choice.{chosen_height}
use Rattle.grammar.specs.Given.{grammar_given}
use Rattle.chart.specs.Told.{chart_told}
use Rattle.chart.specs.ChartOutcome as chart-outcome
use Rattle.tree.specs.Told.{tree_told}
use Rattle.tree.specs.Bytes.{bytes}
use Rattle.tree.specs.Outcome as tree_outcome
use Rattle.forest.specs.declared.Branch.{Branch}
use Rattle.forest.specs.Told.{forest_told}
use Rattle.forest.specs.Outcome as forest-outcome
use Rattle.demands.specs.Question.{Input, Query, chart, tree, forest, Result, Allowed}
use Rattle.demands.specs.TurnedDown.{Encodes}
use Rattle.demands.specs.Demands.{Reports, depth_kept, LeastHeight, ShowsTree, ListsRecords}
use Rattle.demands.proofs.AllRight.{given_is}
use Rattle.demands.proofs.Outcomes.{not_refused}
use Rattle.demands.proofs.Reported.{reports_right, reports_work, one_told}

-- an accepted grammar has the left category of every rule
pub encoded_proper : {G : Grammar} {g : List ℕ} → Encodes G g → Proper G
encoded_proper e = record { lefts = λ p l. (e.within.each p l).left }

least_height : {G : Grammar} {g line : List ℕ} {A i j d : ℕ} → Encodes G g → length line ≤ 63 → DepthIs G line A i j d → LeastHeight G line A i j d
least_height e short (no_fact n) = record { least = λ f. absurd (n f); bounded = omega arith; fits = omega arith; none = λ m. refl }
least_height {G} {line = line} e short (deep d) =
    let proper = encoded_proper e in
    record { least = λ f. d; bounded = depth_bound_lem G line proper d; fits = depth_fits G line proper e.within.categories short d; none = λ m. absurd (m d.tree) }

module _ {G : Grammar} {x : Input} where
  pub depths_least : {q : Query} {r : Result q} → Reports G x q r → (A i j : ℕ) → A < length G.categories → i ≤ length x.line → j ≤ length x.line →
      LeastHeight G x.line A i j (depth_kept r.depths x.line A i j)
  depths_least report A i j a l k = least_height report.grammar (reports_right report).line.short ((reports_work report).depth A i j a l k)

  pub rounds_told : {r : Result chart} → Reports G x chart r → (values : List ℕ) → r.told ≡ answered values →
      (rounds : ℕ) × (facts : ℕ) × (values ≡ rounds ∷ facts ∷ []) × RoundsIs G x.line rounds
  rounds_told {r} report values told = go report.allowed
    where
      go : Allowed x chart r → (rounds : ℕ) × (facts : ℕ) × (values ≡ rounds ∷ facts ∷ []) × RoundsIs G x.line rounds
      go (answer, tells, chart-outcome.turned_down e a w d) = absurd (not_refused told (sym tells ∙ ap chart_told a))
      go (answer, tells, chart-outcome.filled {rounds = rounds} {facts = facts} e t m f y) =
          (rounds, length facts, one_told told (sym tells ∙ t), rw (given_is report.grammar) at m)

  module _ {A i j : ℕ} {row : List ℕ} {r : Result (tree A i j row)} (report : Reports G x (tree A i j row) r) (values : List ℕ) (told : r.told ≡ answered values) where
    -- the chosen tree of a grammar is what is told and written
    abbrev Shown : Grammar → Type 0
    Shown H = (t : Tree H x.line A i j) × Chosen t × (values ≡ length (preorder t) ∷ []) × (r.row ≡ bytes (preorder t) ++ drop (length (bytes (preorder t))) row)

    shown : Allowed x (tree A i j row) r → Shown (grammar_given x.grammar)
    shown (answer, tells, tree_outcome.turned_down e a w d o) = absurd (not_refused told (sym tells ∙ ap tree_told a))
    shown (answer, tells, tree_outcome.no_fact e n a y o) = absurd (not_refused told (sym tells ∙ ap tree_told a))
    shown (answer, tells, tree_outcome.no_room t e c l a y o) = absurd (not_refused told (sym tells ∙ ap tree_told a))
    shown (answer, tells, tree_outcome.shows t e c l a y o) = (t, c, one_told told (sym tells ∙ a), o)

    pub tree_shown : (nodes : ℕ) × (values ≡ nodes ∷ []) × ShowsTree G x.line A i j (depth_kept r.depths x.line A i j) nodes row r.row
    tree_shown =
        let asked = (reports_right report).asked in
        let t = rw (given_is report.grammar) at (shown report.allowed) in
        let least = (depths_least report A i j ((asked 0 (omega arith)).category refl) ((asked 1 (omega arith)).start refl) ((asked 2 (omega arith)).end refl).1).least t.0 in
        (length (preorder t.0), t.2, record { tree = t.0; chosen = t.1; high = chosen_height t.0 t.1 least; counted = refl; written = t.3 })

  pub forest_listed : {rows : List Branch} {r : Result (forest rows)} → Reports G x (forest rows) r → (values : List ℕ) → r.told ≡ answered values →
      (count : ℕ) × (values ≡ count ∷ []) × ListsRecords G x.line count rows r.row
  forest_listed {rows} {r} report values told = go report.allowed
    where
      go : Allowed x (forest rows) r → (count : ℕ) × (values ≡ count ∷ []) × ListsRecords G x.line count rows r.row
      go (answer, tells, forest-outcome.turned_down e a w d o) = absurd (not_refused told (sym tells ∙ ap forest_told a))
      go (answer, tells, forest-outcome.no_room e is l a y o) = absurd (not_refused told (sym tells ∙ ap forest_told a))
      go (answer, tells, forest-outcome.answered {records = records} e is l a y o) =
          (length records, one_told told (sym tells ∙ a), record { records = records; all = rw (given_is report.grammar) at is; counted = refl; written = o })
