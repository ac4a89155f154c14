-- `report::sections::CheckedJob::write_chart`: the line of rounds and facts, and the lines of facts read off the depths.
use Rattle.std.proofs.Common.{arith, rules, ℕ, ◌+◌, ◌*◌, ◌≡◌, length, length-take, ap, sym, ◌∙◌}
use Rattle.std.proofs.lemmas.List.{length-replicate}
use Rattle.derivation.specs.computed.RoundsOf.{rounds_of}
use Rattle.derivation.specs.computed.FactCount.{fact_count}
use Rattle.grammar.specs.Given.{grammar_given}
use Rattle.lines.proofs.WriteLaws.{printed_then, printed_stored}
use Rattle.lines.proofs.LineLaws.{rounds_few}
use Rattle.chart.specs.declared.ChartAnswer.{ChartAnswer}
use Rattle.report.specs.Printed.{rounds_line}
use Rattle.chart.proofs.CheckLaws.{passed, memory_is}
use Rattle.report.proofs.AnswerLaws.{ready_proper, ready_categories, chart_ready}
use Rattle.report.proofs.FactLaws.{facts_listed, lines_front}
use Rattle.report.proofs.sections.CheckedJob.write_chart.Goals as goal

pub facts-requires-clause-room : goal.facts-requires-clause-room
facts-requires-clause-room c =
    let few = rounds_few c.in-Ok.answer.rounds c.in-Ok.answer.facts (omega arith) (omega arith) in
    let size = (memory_is (passed c.args.self.passes)).1 in
    omega (arith, few, size, length-take {A = ℕ})

pub returns-in-Ok : goal.returns-in-Ok
unfolding rounds_line
returns-in-Ok c =
    let p = passed c.args.self.passes in
    let ready = chart_ready p (length-replicate {A = ℕ} 512 0) (length-replicate {A = ℕ} 16384 0) c.chart.ensures in
    let was = sym ready.0 ∙ c.in-Ok.is in
    let answer :
    ◌≡◌ {A = ChartAnswer}
    (record { rounds = rounds_of (grammar_given c.args.self.grammar.view.bytes.now) c.args.self.line.now; facts = fact_count (grammar_given c.args.self.grammar.view.bytes.now) c.args.self.line.now })
    c.in-Ok.answer = cc in
    let e₁ = ap (λ a. a.rounds) answer in
    let e₂ = ap (λ a. a.facts) answer in
    let w = length c.args.self.line.now + 1 in
    let front = lines_front c.chart.new.depths w (c.args.self.grammar.view.sections.categories * w * w) (omega (arith, (memory_is p).1)) in
    let lines = rw (ready_categories p) at (facts_listed _ _ (ready_proper p) ready.1) in
    let all = printed_then c.rounds.ensures (rw front at c.facts.ensures.printed) in
    rw (e₁, e₂, sym lines) (printed_stored all (search rules))
