-- Bytes are read as a job exactly when they are the encoding of grammar bytes, a line and questions, and those are what is read.
use Rattle.std.proofs.Common.{Ok}
use Prim.Native.Nat.{ℕ, zero, suc, ◌+◌, ◌*◌, ◌/◌, ◌%◌, ◌≤◌, ◌<◌}
use mathlib.Core.Path.{◌≡◌, refl, ap, sym, ◌∙◌}
use mathlib.Core.Logic.{◌↔◌}
use mathlib.Core.List.{List, [], ◌∷◌, ◌++◌}
use native.Mathlib.Omega.{arith}
use lib.ListN.{length, drop, length-append, take-append-drop}
use lib.Seq.{drop-cons, drop-drop, drop-length}
use Rattle.derivation.specs.FactList.{Span}
use Rattle.grammar.specs.Reading.{byte}
use Rattle.grammar.proofs.Parts.{part_length}
use Rattle.grammar.proofs.Encoded.{counted}
use Rattle.grammar.proofs.Encoding.{byte_is, byte_after, bytes_are, bytes_after}
use Rattle.report.specs.declared.job.Job.{Job}
use Rattle.report.specs.Job.{line_at, questions_at, end_at, grammar_count, job_of, grammar_part, line_part, questions_from, questions_part}
use Rattle.report.specs.JobEncoding.{AreBytes, encode_questions, encode_job, JobWithin}
use Rattle.report.proofs.JobLaws.{job_at, job_read, read_whole, questions_count}

-- the questions that stand from an offset to the end
questions_encoded : (b : List ℕ) (count at : ℕ) → length b ≡ at + 3 * count → drop at b ≡ encode_questions (questions_from b count at)
unfolding questions_from encode_questions
questions_encoded b zero at e = let z : at ≡ length b = omega arith in rw z (drop-length b)
questions_encoded b (suc count) at e =
    let second : suc at ≡ at + 1 = omega arith in
    let third : suc (at + 1) ≡ at + 2 = omega arith in
    let next : suc (at + 2) ≡ at + 3 = omega arith in
    drop-cons b at 0 (omega arith)
    ∙ rw (second, drop-cons b (at + 1) 0 (omega arith), third, drop-cons b (at + 2) 0 (omega arith), next, questions_encoded b count (at + 3) (omega arith))

-- bytes that have the sections are an encoding
sections_encode :
    (b grammar line : List ℕ) (questions : List Span) → 2 ≤ length b → byte b 0 ≡ length grammar % 256 → byte b 1 ≡ length grammar / 256 →
    drop 2 b ≡ grammar ++ ((length line ∷ line) ++ (length questions ∷ encode_questions questions)) → b ≡ encode_job grammar line questions
unfolding encode_job
sections_encode b grammar line questions inside low high sections =
    drop-cons b 0 0 (omega arith) ∙ rw (drop-cons b 1 0 (omega arith), low, high, sections)

-- what was read is the encoding of its parts
module _ (b : List ℕ) (bytes : AreBytes b) (whole : length b ≡ end_at (job_at b)) where
  abbrev job : Job
  job = job_at b

  grammar_length : length (grammar_part b job) ≡ job.grammar
  grammar_length = part_length b job.grammar 2 (omega arith)

  line_length : length (line_part b job) ≡ job.line
  line_length = part_length b job.line (line_at job.grammar) (omega arith)

  question_length : length (questions_part b job) ≡ job.questions
  question_length = questions_count b job.questions (questions_at job.grammar job.line)

  questions_section : drop (3 + job.grammar + job.line) b ≡ length (questions_part b job) ∷ encode_questions (questions_part b job)
  questions_section =
      let next : suc (3 + job.grammar + job.line) ≡ questions_at job.grammar job.line = omega arith in
      drop-cons b (3 + job.grammar + job.line) 0 (omega arith)
      ∙ rw (next, question_length, questions_encoded b job.questions (questions_at job.grammar job.line) whole)

  line_section : drop (2 + job.grammar) b ≡ (length (line_part b job) ∷ line_part b job) ++ drop (3 + job.grammar + job.line) b
  line_section = counted b job.line (line_at job.grammar) (omega arith) (2 + job.grammar) (omega arith) refl

  grammar_section : drop 2 b ≡ grammar_part b job ++ drop (2 + job.grammar) b
  grammar_section = sym (take-append-drop job.grammar (drop 2 b)) ∙ rw (drop-drop job.grammar 2 b)

  low : byte b 0 ≡ length (grammar_part b job) % 256
  low = let l : byte b 0 < 256 = bytes 0 in rw grammar_length (omega arith)

  high : byte b 1 ≡ length (grammar_part b job) / 256
  high = let l : byte b 0 < 256 = bytes 0 in rw grammar_length (omega arith)

  parts_encode : b ≡ encode_job (grammar_part b job) (line_part b job) (questions_part b job)
  parts_encode =
      sections_encode b (grammar_part b job) (line_part b job) (questions_part b job) (omega arith) low high
      (grammar_section ∙ rw (line_section, questions_section))

  parts_within : length b ≤ 4096 → JobWithin (grammar_part b job) (line_part b job) (questions_part b job)
  parts_within short = record {
    grammar_count_fits = rw grammar_length (omega arith);
    line_count_fits = let l : job.line < 256 = bytes (2 + job.grammar) in rw line_length (omega arith);
    question_count_fits = let l : job.questions < 256 = bytes (3 + job.grammar + job.line) in rw question_length (omega arith);
    whole = rw (← parts_encode) short;
  }

-- an encoding is read, and its parts are what is read
questions_size : (questions : List Span) → length (encode_questions questions) ≡ 3 * length questions
unfolding encode_questions
questions_size [] = refl
questions_size (q ∷ questions) = let rest : length (encode_questions questions) ≡ 3 * length questions = questions_size questions in omega arith

questions_are : (b : List ℕ) (questions : List Span) (at : ℕ) → drop at b ≡ encode_questions questions → questions_from b (length questions) at ≡ questions
unfolding questions_from encode_questions
questions_are b [] at e = refl
questions_are b (q ∷ questions) at e =
    let rest = encode_questions questions in
    let second : drop (at + 1) b ≡ q.start ∷ (q.end ∷ rest) = byte_after b (q.start ∷ q.end ∷ rest) q.category at e in
    let step : at + 2 ≡ at + 1 + 1 = omega arith in
    let third : drop (at + 2) b ≡ q.end ∷ rest = rw step (byte_after b (q.end ∷ rest) q.start (at + 1) second) in
    let next : at + 3 ≡ at + 2 + 1 = omega arith in
    let fourth : drop (at + 3) b ≡ rest = rw next (byte_after b rest q.end (at + 2) third) in
    rw (
      byte_is b (q.start ∷ q.end ∷ rest) q.category at e,
      byte_is b (q.end ∷ rest) q.start (at + 1) second,
      byte_is b rest q.end (at + 2) third,
      questions_are b questions (at + 3) fourth,
    )

module _ (b grammar line : List ℕ) (questions : List Span) (e : b ≡ encode_job grammar line questions) where
  size : length b ≡ 4 + length grammar + length line + 3 * length questions
  unfolding encode_job
  size =
      let rest = questions_size questions in
      rw e (simp (length-append, rest) (omega arith))

  at_high : drop 1 b ≡ length grammar / 256 ∷ (grammar ++ ((length line ∷ line) ++ (length questions ∷ encode_questions questions)))
  unfolding encode_job
  at_high = byte_after b _ _ 0 e

  at_grammar : drop 2 b ≡ grammar ++ ((length line ∷ line) ++ (length questions ∷ encode_questions questions))
  at_grammar = byte_after b _ _ 1 at_high

  at_line_count : drop (2 + length grammar) b ≡ length line ∷ (line ++ (length questions ∷ encode_questions questions))
  at_line_count = bytes_after b grammar _ 2 at_grammar

  at_line : drop (3 + length grammar) b ≡ line ++ (length questions ∷ encode_questions questions)
  at_line = let z : 3 + length grammar ≡ 2 + length grammar + 1 = omega arith in rw z (byte_after b _ _ (2 + length grammar) at_line_count)

  at_question_count : drop (3 + length grammar + length line) b ≡ length questions ∷ encode_questions questions
  at_question_count = bytes_after b line _ (3 + length grammar) at_line

  at_questions : drop (4 + length grammar + length line) b ≡ encode_questions questions
  at_questions =
      let z : 4 + length grammar + length line ≡ 3 + length grammar + length line + 1 = omega arith in
      rw z (byte_after b _ _ (3 + length grammar + length line) at_question_count)

  grammar_count_is : grammar_count b ≡ length grammar
  unfolding encode_job
  grammar_count_is =
      let low : byte b 0 ≡ length grammar % 256 = byte_is b _ _ 0 e in
      let high : byte b 1 ≡ length grammar / 256 = byte_is b _ _ 1 at_high in
      omega arith

  job_is : job_at b ≡ record { grammar = length grammar; line = length line; questions = length questions }
  job_is =
      rw (
        grammar_count_is,
        byte_is b _ _ (2 + length grammar) at_line_count,
        byte_is b _ _ (3 + length grammar + length line) at_question_count,
      )

  encoding_read : JobWithin grammar line questions → job_of b ≡ Ok (job_at b)
  encoding_read within = read_whole b (rw (← e) at within.whole) (size ∙ ap end_at (sym job_is))

  encoding_parts : (job : Job) → job ≡ job_at b → (grammar_part b job ≡ grammar) × (line_part b job ≡ line) × (questions_part b job ≡ questions)
  encoding_parts job read =
      rw (read ∙ job_is) (
        bytes_are b grammar _ 2 at_grammar,
        bytes_are b line _ (3 + length grammar) at_line,
        questions_are b questions (4 + length grammar + length line) at_questions,
      )

-- bytes are read as a job exactly when they are the encoding of some grammar bytes, a line and questions, within the limits
pub job_iff :
    (b : List ℕ) → AreBytes b →
    ((job : Job) × (job_of b ≡ Ok job)) ↔ ((grammar : List ℕ) × (line : List ℕ) × (questions : List Span) × JobWithin grammar line questions × (b ≡ encode_job grammar line questions))
job_iff b bytes = (
  λ r. let read = job_read b r.0 r.1 in
      let whole = read.whole ∙ ap end_at read.is in (
        grammar_part b (job_at b),
        line_part b (job_at b),
        questions_part b (job_at b),
        parts_within b bytes whole read.short,
        parts_encode b bytes whole,
      ),
  λ r. (job_at b, encoding_read b r.0 r.1 r.2 r.4 r.3),
)

-- and what is read are those parts
pub parts_read :
    (b : List ℕ) (job : Job) (grammar line : List ℕ) (questions : List Span) → job_of b ≡ Ok job → b ≡ encode_job grammar line questions →
    (grammar_part b job ≡ grammar) × (line_part b job ≡ line) × (questions_part b job ≡ questions)
parts_read b job grammar line questions read encoded =
    encoding_parts b grammar line questions encoded job (job_read b job read).is
