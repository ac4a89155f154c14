-- What is reported is what the grammar derives in the textbook sense.
use Prim.Native.Nat.{ℕ, ◌+◌, ◌*◌, ◌≤◌, ◌<◌}
use mathlib.Core.Path.{◌≡◌, refl, sym, ap, ◌∙◌}
use mathlib.Core.Logic.{◌↔◌}
use mathlib.Core.List.{List, [], ◌∷◌}
use native.Mathlib.Omega.{arith}
use lib.ListN.{length, get_or}
use Rattle.refusals.specs.Told.{Told, answered}
use Rattle.positions.specs.Member.{Member}
use Rattle.positions.proofs.Extremes.{both_empty}
use Rattle.derivation.specs.Grammar.{Grammar}
use Rattle.derivation.specs.Fact.{Fact}
use Rattle.derivation.specs.Secret.{Secret, by_class, by_fact}
use Rattle.derivation.specs.Rewriting.{Tokens}
use Rattle.derivation.specs.FactList.{Span, FactsAre}
use Rattle.derivation.proofs.Rewriting.{textbook}
use Rattle.filling.specs.Filled.{WorkFilled}
use Rattle.grammar.specs.Given.{grammar_given}
use Rattle.chart.specs.Told.{chart_told, ends_told}
use Rattle.chart.specs.ChartOutcome as chart-outcome
use Rattle.chart.specs.EndsOutcome as ends_outcome
use Rattle.chart.proofs.CountLaws.{row_fits}
use Rattle.marks.specs.Told.{marks_told}
use Rattle.marks.specs.Marks.{MarkIs, marked, unmarked}
use Rattle.marks.specs.Outcome as marks-outcome
use Rattle.demands.specs.Question.{Input, Query, chart, ends, marks, Result, Allowed}
use Rattle.demands.specs.TurnedDown.{AllRight}
use Rattle.demands.specs.Textbook.{Derives, DerivedAre, IsSecret, flagged, covered, MarksToken}
use Rattle.demands.specs.Demands.{Reports, ShowsEnds, ShowsMarks}
use Rattle.demands.proofs.AllRight.{given_is}
use Rattle.demands.proofs.Ending.{all_right_lem, ending}
use Rattle.demands.proofs.Outcomes.{not_refused, fills_passed, work_for}

module _ {G : Grammar} {x : Input} {q : Query} {r : Result q} (report : Reports G x q r) where
  abbrev same : grammar_given x.grammar ≡ G
  same = given_is report.grammar

  -- all that is looked at before the filling is right
  pub reports_right : AllRight G x q
  reports_right = rw same at (all_right_lem x q (fills_passed x q r (ending x q r report.allowed) report.fills))

  -- a line that passes has classes for tokens
  line_tokens : Tokens x.line
  line_tokens = record { below = λ t h. omega (arith, reports_right.line.tokens t h, report.grammar.within.classes) }

  -- (A, i, j) is a fact exactly when A rewrites to the tokens of i..j
  pub fact_derives : (A i j : ℕ) → Fact G x.line A i j ↔ Derives G x.line A i j
  fact_derives A i j = textbook line_tokens A i j

  pub reports_work : WorkFilled G x.line x.words x.depths r.words r.depths
  reports_work = work_for x q r reports_right report.allowed

  pub facts_derived : (l : List Span) → FactsAre G x.line l → DerivedAre G x.line l
  facts_derived l are = record {
    each = λ s.
        let f = fact_derives s.category s.start s.end in
        (λ m. f.0 ((are.each s).0 m), λ d. (are.each s).1 (f.1 d));
    ascending = are.ascending;
  }

  secret_iff : (t : ℕ) → t < length x.line → Secret G x.line t ↔ IsSecret G x.line t
  secret_iff t l = (there, back)
    where
      there : Secret G x.line t → IsSecret G x.line t
      there (by_class h e) = flagged e
      there (by_fact {A} {i} {j} e f a b) = covered A i j e ((fact_derives A i j).0 f) a b

      back : IsSecret G x.line t → Secret G x.line t
      back (flagged e) = by_class l e
      back (covered A i j e d a b) = by_fact e ((fact_derives A i j).1 d) a b

  -- a mark is 1 where the token is secret and 0 where it is not
  pub marks_token : (t m : ℕ) → t < length x.line → MarkIs G x.line t m → MarksToken G x.line t m
  marks_token t _ l (marked s) =
      let i = (secret_iff t l).0 s in
      record { one = (λ e. i, λ h. refl); zero = (λ e. absurd (omega arith), λ n. absurd (n i)) }
  marks_token t _ l (unmarked n) =
      let i = (secret_iff t l).1 in
      record { one = (λ e. absurd (omega arith), λ h. absurd (n (i h))); zero = (λ e h. n (i h), λ h. refl) }

-- one thing is told
pub one_told : {told : Told} {a b : List ℕ} → told ≡ answered a → told ≡ answered b → a ≡ b
one_told p q = cc

module _ {G : Grammar} {x : Input} where
  pub words_derive : {q : Query} {r : Result q} (report : Reports G x q r) (A i j : ℕ) → A < length G.categories → i ≤ length x.line →
      Member (get_or r.words (A * (length x.line + 1) + i) 0) j ↔ Derives G x.line A i j
  words_derive report A i j a l =
      let bit = (reports_work report).word A i a l j in
      let f = fact_derives report A i j in
      (λ m. f.0 (bit.0 m), λ d. bit.1 (f.1 d))

  pub facts_counted : {r : Result chart} → Reports G x chart r → (values : List ℕ) → r.told ≡ answered values →
      (rounds : ℕ) × (facts : List Span) × (values ≡ rounds ∷ length facts ∷ []) × DerivedAre G x.line facts
  facts_counted {r} report values told = go report.allowed
    where
      go : Allowed x chart r → (rounds : ℕ) × (facts : List Span) × (values ≡ rounds ∷ length facts ∷ []) × DerivedAre G x.line facts
      go (answer, tells, chart-outcome.turned_down e a w d) = absurd (not_refused told (sym tells ∙ ap chart_told a))
      go (answer, tells, chart-outcome.filled {rounds = rounds} {facts = facts} e t m f y) =
          (rounds, facts, one_told told (sym tells ∙ t), facts_derived report facts (rw (given_is report.grammar) at f))

  pub ends_shown : {A i : ℕ} {r : Result (ends A i)} → Reports G x (ends A i) r → (values : List ℕ) → r.told ≡ answered values →
      (row : ℕ) × (count : ℕ) × (smallest : ℕ) × (largest : ℕ) × (values ≡ row ∷ count ∷ smallest ∷ largest ∷ []) × ShowsEnds G x.line A i row count smallest largest
  ends_shown {A} {i} {r} report values told = go report.allowed
    where
      go : Allowed x (ends A i) r →
          (row : ℕ) × (count : ℕ) × (smallest : ℕ) × (largest : ℕ) × (values ≡ row ∷ count ∷ smallest ∷ largest ∷ []) × ShowsEnds G x.line A i row count smallest largest
      go (answer, tells, ends_outcome.turned_down e a w d) = absurd (not_refused told (sym tells ∙ ap ends_told a))
      go (answer, tells, ends_outcome.found {row = row} {count = count} {smallest = smallest} {largest = largest} e t m c b y) =
          let bits = rw (given_is report.grammar) at m in
          let each : (j : ℕ) → Member row j ↔ Derives G x.line A i j = λ j. let d = fact_derives report A i j in (λ h. d.0 ((bits j).0 h), λ h. (bits j).1 (d.1 h)) in
          let none = both_empty row smallest largest (row_fits G x.line A i row (reports_right report).line.short bits) b in (
            row,
            count,
            smallest,
            largest,
            one_told told (sym tells ∙ t),
            record {
              each = each;
              counted = c;
              both = b;
              smallest_none = (λ q j d. none.0.0 q j ((each j).1 d), λ n. none.0.1 (λ j h. n j ((each j).0 h)));
              largest_none = (λ q j d. none.1.0 q j ((each j).1 d), λ n. none.1.1 (λ j h. n j ((each j).0 h)));
            },
          )

  pub marks_right : {row : List ℕ} {r : Result (marks row)} → Reports G x (marks row) r → (values : List ℕ) → r.told ≡ answered values →
      (secret : ℕ) × (values ≡ secret ∷ []) × ShowsMarks G x.line secret row r.row
  marks_right {row} {r} report values told = go report.allowed
    where
      go : Allowed x (marks row) r → (secret : ℕ) × (values ≡ secret ∷ []) × ShowsMarks G x.line secret row r.row
      go (answer, tells, marks-outcome.turned_down e a w d m) = absurd (not_refused told (sym tells ∙ ap marks_told a))
      go (answer, tells, marks-outcome.no_room e k a y m) = absurd (not_refused told (sym tells ∙ ap marks_told a))
      go (answer, tells, marks-outcome.answered {secret = secret} e u y are) = (
        secret,
        one_told told (sym tells ∙ u),
        record {
          each = λ t l. marks_token report t _ l (rw (given_is report.grammar) at (are.mark t l));
          past = record { long = are.long; past = are.past };
          counted = are.ones;
        },
      )
