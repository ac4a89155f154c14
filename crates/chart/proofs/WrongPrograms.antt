-- The wrong programs that the document names: the contracts allow none of their outcomes on the job.
use Rattle.std.proofs.Common.{Err, Ok, Result}
use Prim.Native.Nat.{ℕ, ◌+◌, ◌*◌}
use mathlib.Core.Path.{◌≡◌, ap}
use mathlib.Core.List.{List}
use native.Mathlib.Omega.{arith}
use lib.ListN.{get_or}
use Rattle.refusals.specs.declared.Refusal.{Refusal}
use Rattle.filling.specs.inner.Holds.{HoldsAfter}
use Rattle.chart.specs.declared.ChartAnswer.{ChartAnswer}
use Rattle.chart.specs.Told.{chart_told, ends_told}
use Rattle.chart.specs.ChartOutcome.{ChartOutcome}
use Rattle.chart.specs.EndsOutcome.{EndsOutcome}
use Rattle.chart.specs.inner.Job.{job_bytes, job_grammar, job_line, other_line, JobMemory}
use Rattle.chart.proofs.JobLaws.{job_deep, job_filled, job_outcome, other_outcome, job_ends}

module _ {words depths : List ℕ} (memory : JobMemory words depths) where
  -- it refuses everything
  pub refuses_everything : {refusal : Refusal} {words' depths' : List ℕ} → ChartOutcome job_bytes job_line words depths (Err refusal) words' depths' → ⊥
  refuses_everything o = let e = (job_outcome memory o).0 in let z : ◌≡◌ {A = ℕ} 0 1 = cc in omega arith

  -- it answers the same on lines of one length
  pub one_fixed_answer : {answer : Result ChartAnswer Refusal} {words' depths' words'' depths'' : List ℕ} →
      ChartOutcome job_bytes job_line words depths answer words' depths' → ChartOutcome job_bytes other_line words depths answer words'' depths'' → ⊥
  one_fixed_answer o p =
      let e = ap chart_told (job_outcome memory o).0 in
      let f = ap chart_told (other_outcome memory p).0 in
      let z : ◌≡◌ {A = ℕ} 3 0 = cc in omega arith

  -- it leaves one fixed chart on lines of one length, whatever the memory held and whatever it answers
  pub one_fixed_chart : {a b : Result ChartAnswer Refusal} {words' depths' depths'' : List ℕ} →
      ChartOutcome job_bytes job_line words depths a words' depths' → ChartOutcome job_bytes other_line words depths b words' depths'' → ⊥
  one_fixed_chart o p = omega (arith, (job_outcome memory o).1, (other_outcome memory p).1)

  -- it writes nothing into the chart; word 1 was cleared
  pub writes_nothing_lem : {answer : Result ChartAnswer Refusal} {depths' : List ℕ} → get_or words 1 0 ≡ 0 → ChartOutcome job_bytes job_line words depths answer words depths' → ⊥
  writes_nothing_lem clear o = omega (arith, (job_outcome memory o).1)

  -- it works in the first round and idles after it: its chart shows what one round finds
  pub idles_after_first_round : {answer : Result ChartAnswer Refusal} {words' depths' : List ℕ} → HoldsAfter job_grammar job_line 1 words' → ChartOutcome job_bytes job_line words depths answer words' depths' → ⊥
  unfolding job_grammar job_line
  idles_after_first_round holds o =
      let shown = ((job_filled memory o).word 0 1 (omega arith) (omega arith) 6).1 job_deep.tree in
      let early = (holds 0 1 (omega arith) (omega arith) 6).0 shown in
      omega (arith, job_deep.least early.tree, early.low)

  -- it invents rounds, facts, depths
  pub invents_rounds : {rounds facts : ℕ} {words' depths' : List ℕ} → (rounds ≡ 3 → ⊥) → ChartOutcome job_bytes job_line words depths (Ok (record { rounds = rounds; facts = facts })) words' depths' → ⊥
  invents_rounds {rounds} wrong o = let e = ap chart_told (job_outcome memory o).0 in let z : rounds ≡ 3 = cc in wrong z

  pub invents_facts : {rounds facts : ℕ} {words' depths' : List ℕ} → (facts ≡ 6 → ⊥) → ChartOutcome job_bytes job_line words depths (Ok (record { rounds = rounds; facts = facts })) words' depths' → ⊥
  invents_facts {facts = facts} wrong o = let e = ap chart_told (job_outcome memory o).0 in let z : facts ≡ 6 = cc in wrong z

  pub invents_depths : {answer : Result ChartAnswer Refusal} {words' depths' : List ℕ} → (get_or depths' (1 * 7 + 6) 0 ≡ 3 → ⊥) → ChartOutcome job_bytes job_line words depths answer words' depths' → ⊥
  invents_depths wrong o = wrong (job_outcome memory o).2

  -- and of the ends of (0, 1): it refuses everything, or invents the row, the number of ends, the smallest or the largest
  pub refuses_every_end : {refusal : Refusal} {words' depths' : List ℕ} → EndsOutcome job_bytes job_line 0 1 words depths (Err refusal) words' depths' → ⊥
  refuses_every_end o = let e = job_ends memory o in let z : ◌≡◌ {A = ℕ} 0 1 = cc in omega arith

  pub invents_ends : {row count smallest largest : ℕ} {words' depths' : List ℕ} → ((row ≡ 84) × (count ≡ 3) × (smallest ≡ 2) × (largest ≡ 6) → ⊥) →
      EndsOutcome job_bytes job_line 0 1 words depths (Ok (record { row = row; ends = count; smallest = smallest; largest = largest })) words' depths' → ⊥
  invents_ends wrong o = let e = ap ends_told (job_ends memory o) in wrong (cc, cc, cc, cc)
