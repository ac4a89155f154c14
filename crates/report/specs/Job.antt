-- How a job's bytes are read: three sections, each after its count, and nothing after them.
use Rattle.refusals.specs.declared.Refusal.{Refusal}
use Rattle.std.specs.Prelude.{ℕ, zero, suc, ◌+◌, ◌*◌, ◌/◌, cond, List, [], ◌∷◌, length, take, drop, ltb, Err, Ok, Result}
use Rattle.refusals.specs.declared.Refusal.TheVariants.{JobBadlyFormed}
use Rattle.derivation.specs.FactList.{Span}
use Rattle.grammar.specs.Reading.{byte}
use Rattle.report.specs.declared.job.Job.{Job}

-- the job is badly formed, at an offset
abbrev pub badly_formed : ℕ → Result Job Refusal
badly_formed at = Err (JobBadlyFormed at)

-- the input ends early where it has fewer bytes than `end`; the place is its length
abbrev pub unless_short : List ℕ → ℕ → Result Job Refusal → Result Job Refusal
unless_short input end go = cond (ltb (length input) end) (badly_formed (length input)) go

-- where the line and the questions begin, after their counts, and where the questions end
abbrev pub line_at : ℕ → ℕ
line_at grammar = 3 + grammar

abbrev pub questions_at : ℕ → ℕ → ℕ
questions_at grammar line = 4 + grammar + line

abbrev pub end_at : Job → ℕ
end_at job = questions_at job.grammar job.line + 3 * job.questions

-- the two-byte count of the grammar, low byte first; the one-byte counts of the line and of the questions, just before them
abbrev pub grammar_count : List ℕ → ℕ
grammar_count input = byte input 0 + 256 * byte input 1

abbrev pub line_count : List ℕ → ℕ → ℕ
line_count input grammar = byte input (2 + grammar)

abbrev pub question_count : List ℕ → ℕ → ℕ → ℕ
question_count input grammar line = byte input (3 + grammar + line)

-- nothing stands after the questions
abbrev pub end_read : List ℕ → Job → Result Job Refusal
end_read input job = cond (ltb (end_at job) (length input)) (badly_formed (end_at job)) (Ok job)

-- the questions, three bytes each
abbrev pub questions_read : List ℕ → Job → Result Job Refusal
questions_read input job = unless_short input (end_at job) (end_read input job)

-- the line, and the count of the questions
abbrev pub line_read : List ℕ → ℕ → ℕ → Result Job Refusal
line_read input grammar line =
    unless_short input (questions_at grammar line)
    (questions_read input (record { grammar = grammar; line = line; questions = question_count input grammar line }))

-- the grammar bytes, and the count of the line
abbrev pub grammar_read : List ℕ → ℕ → Result Job Refusal
grammar_read input grammar = unless_short input (line_at grammar) (line_read input grammar (line_count input grammar))

-- at most 4,096 bytes, tested first; then the sections in their order
unfoldable pub job_of : List ℕ → Result Job Refusal
job_of input = cond (ltb 4096 (length input)) (badly_formed 4096) (unless_short input 2 (grammar_read input (grammar_count input)))

-- the job that was read; of a refused one nothing
abbrev pub job_in : Result Job Refusal → Job
job_in (Ok job) = job
job_in (Err refusal) = record { grammar = 0; line = 0; questions = 0 }

-- the three parts of a job that was read
abbrev pub grammar_part : List ℕ → Job → List ℕ
grammar_part input job = take job.grammar (drop 2 input)

abbrev pub line_part : List ℕ → Job → List ℕ
line_part input job = take job.line (drop (line_at job.grammar) input)

-- as many questions as `count`, from an offset
unfoldable pub questions_from : List ℕ → ℕ → ℕ → List Span
questions_from input zero at = []
questions_from input (suc count) at =
    record { category = byte input at; start = byte input (at + 1); end = byte input (at + 2) } ∷ questions_from input count (at + 3)

abbrev pub questions_part : List ℕ → Job → List Span
questions_part input job = questions_from input job.questions (questions_at job.grammar job.line)

-- the questions that bytes hold, three each
abbrev pub questions_of : List ℕ → List Span
questions_of bytes = questions_from bytes (length bytes / 3) 0
