-- Any two outcomes that the contract of Chart or of Ends allows are equal.
use Rattle.std.proofs.Common.{Err, Ok, Result}
use Rattle.refusals.specs.declared.Refusal.{Refusal}
use Prim.Native.Nat.{ℕ}
use mathlib.Core.Path.{◌≡◌, sym, ap, ◌∙◌}
use mathlib.Core.List.{List, [], ◌∷◌}
use lib.ListN.{length}
use Rattle.refusals.specs.Told as told
use Rattle.positions.specs.Count.{count_below}
use Rattle.positions.proofs.Members.{same_members}
use Rattle.positions.proofs.Unique.{both_ends_unique}
use Rattle.derivation.proofs.Rounds.{rounds_unique}
use Rattle.derivation.proofs.Facts.{facts_unique}
use Rattle.checks.proofs.Laws.{one_refusal, not_both}
use Rattle.grammar.specs.Given.{grammar_given}
use Rattle.filling.proofs.Unique.{filled_unique}
use Rattle.chart.specs.declared.ChartAnswer.{ChartAnswer}
use Rattle.chart.specs.declared.EndsAnswer.{EndsAnswer}
use Rattle.chart.specs.Told.{chart_told, ends_told}
use Rattle.chart.specs.ChartOutcome.{ChartOutcome, turned_down, filled}
use Rattle.chart.specs.EndsOutcome.{EndsOutcome, found}
use Rattle.chart.specs.EndsOutcome as ends_outcome

-- the values that are told are those of one answer
pub chart_told_lem : (a : Result ChartAnswer Refusal) {rounds facts : ℕ} → chart_told a ≡ told.answered (rounds ∷ facts ∷ []) → a ≡ Ok (record { rounds = rounds; facts = facts })
chart_told_lem (Ok x) {rounds} {facts} e = let r : rounds ≡ x.rounds = cc in let f : facts ≡ x.facts = cc in rw (r, f)
chart_told_lem (Err refusal) e = cc

pub ends_told_lem : (a : Result EndsAnswer Refusal) {row count smallest largest : ℕ} → ends_told a ≡ told.answered (row ∷ count ∷ smallest ∷ largest ∷ []) → a ≡ Ok (record { row = row; ends = count; smallest = smallest; largest = largest })
ends_told_lem (Ok x) {row} {count} {smallest} {largest} e =
    let r : row ≡ x.row = cc in
    let c : count ≡ x.ends = cc in
    let s : smallest ≡ x.smallest = cc in
    let l : largest ≡ x.largest = cc in
    rw (r, c, s, l)
ends_told_lem (Err refusal) e = cc

module _ (g line words depths : List ℕ) where
  pub chart_outcome_unique : {a b : Result ChartAnswer Refusal} {w d x e : List ℕ} →
      ChartOutcome g line words depths a w d → ChartOutcome g line words depths b x e → (a ≡ b) × (w ≡ x) × (d ≡ e)
  chart_outcome_unique (turned_down p a w d) (turned_down q b x e) = (a ∙ ap Err (one_refusal p q) ∙ sym b, w ∙ sym x, d ∙ sym e)
  chart_outcome_unique (turned_down p a w d) (filled q t' r f y) = absurd (not_both p q)
  chart_outcome_unique (filled p t r f y) (turned_down q b x e) = absurd (not_both q p)
  chart_outcome_unique {a} {b} (filled p t r f y) (filled q t' r' f' y') =
      let memory = filled_unique (grammar_given g) line words depths y y' in
      let rounds = rounds_unique r r' in
      let facts = ap length (facts_unique f f') in
      (chart_told_lem a t ∙ rw (rounds, facts) (sym (chart_told_lem b t')), memory.0, memory.1)

  pub ends_outcome_unique : (A i : ℕ) {a b : Result EndsAnswer Refusal} {w d x e : List ℕ} →
      EndsOutcome g line A i words depths a w d → EndsOutcome g line A i words depths b x e → (a ≡ b) × (w ≡ x) × (d ≡ e)
  ends_outcome_unique A i (ends_outcome.turned_down p a w d) (ends_outcome.turned_down q b x e) =
      (a ∙ ap Err (one_refusal p q) ∙ sym b, w ∙ sym x, d ∙ sym e)
  ends_outcome_unique A i (ends_outcome.turned_down p a w d) (found q t' m c o y) = absurd (not_both p q)
  ends_outcome_unique A i (found p t m c o y) (ends_outcome.turned_down q b x e) = absurd (not_both q p)
  ends_outcome_unique A i {a} {b} (found p t m c o y) (found q t' m' c' o' y') =
      let memory = filled_unique (grammar_given g) line words depths y y' in
      let row = same_members _ _ (λ j. (λ h. (m' j).1 ((m j).0 h), λ h. (m j).1 ((m' j).0 h))) in
      let count = c ∙ ap (count_below 64) row ∙ sym c' in
      let both = both_ends_unique o (rw (← row) at o') in
      (ends_told_lem a t ∙ rw (row, count, both.0, both.1) (sym (ends_told_lem b t')), memory.0, memory.1)
