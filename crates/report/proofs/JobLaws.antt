-- What a job that was read says of the bytes, and where a job is read.
use Rattle.std.proofs.Common.{Ok, Result}
use Rattle.refusals.specs.declared.Refusal.{Refusal}
use Prim.Native.Nat.{ℕ, zero, suc, ◌+◌, ◌≤◌}
use mathlib.Core.Path.{◌≡◌, refl, sym, ap, ◌∙◌}
use mathlib.Core.Bool.{Bool, true, false, cond}
use mathlib.Core.List.{List}
use native.Mathlib.Nat.{le_antisymm}
use native.Mathlib.Omega.{arith}
use lib.ListN.{length}
use lib.Dec.{ltb}
use borrow.Author.Tests.{le-ltb, ltb-false}
use Rattle.report.specs.declared.job.Job.{Job}
use Rattle.report.specs.Job.{badly_formed, unless_short, end_read, questions_read, line_read, grammar_read, line_at, questions_at, end_at, grammar_count, line_count, question_count, job_of, questions_from}

-- the job whose counts stand in the bytes
abbrev pub job_at : List ℕ → Job
job_at b =
    let grammar = grammar_count b in
    let line = line_count b grammar in
    record { grammar = grammar; line = line; questions = question_count b grammar line }

-- a job that was read: its counts, and its length
pub record JobRead (b : List ℕ) (job : Job) : Type 0 where
  pub is : job ≡ job_at b
  pub short : length b ≤ 4096
  pub whole : length b ≡ end_at job

-- where a job is read, a test found no fault
read_left : (fault : Bool) (at : ℕ) (go : Result Job Refusal) (job : Job) → cond fault (badly_formed at) go ≡ Ok job → (fault ≡ false) × (go ≡ Ok job)
read_left false at go job e = (refl, e)
read_left true at go job e = cc

read_same : (one other : Job) → ◌≡◌ {A = Result Job Refusal} (Ok one) (Ok other) → one ≡ other
read_same one other e = cc

unless_short_read : (b : List ℕ) (end : ℕ) (go : Result Job Refusal) (job : Job) → unless_short b end go ≡ Ok job → (end ≤ length b) × (go ≡ Ok job)
unless_short_read b end go job e = let r = read_left (ltb (length b) end) (length b) go job e in (ltb-false (length b) end r.0, r.1)

pub job_read : (b : List ℕ) (job : Job) → job_of b ≡ Ok job → JobRead b job
unfolding job_of
job_read b job e =
    let grammar = grammar_count b in
    let line = line_count b grammar in
    let short = read_left (ltb 4096 (length b)) 4096 (unless_short b 2 (grammar_read b grammar)) job e in
    let counted = unless_short_read b 2 (grammar_read b grammar) job short.1 in
    let grammars = unless_short_read b (line_at grammar) (line_read b grammar line) job counted.1 in
    let lines = unless_short_read b (questions_at grammar line) (questions_read b (job_at b)) job grammars.1 in
    let questions = unless_short_read b (end_at (job_at b)) (end_read b (job_at b)) job lines.1 in
    let after = read_left (ltb (end_at (job_at b)) (length b)) (end_at (job_at b)) (Ok (job_at b)) job questions.1 in
    let same : job_at b ≡ job = read_same (job_at b) job after.1 in
    let low : end_at (job_at b) ≤ length b = questions.0 in
    let high : length b ≤ end_at (job_at b) = ltb-false (end_at (job_at b)) (length b) after.0 in
    record { is = sym same; short = ltb-false 4096 (length b) short.0; whole = rw (← same) (le_antisymm high low) }

-- the length of a job that a call has read
pub length_read : (b : List ℕ) {job : Job} {answer : Result Job Refusal} → answer ≡ job_of b → answer ≡ Ok job → length b ≡ end_at job
length_read b e f = (job_read _ _ (sym e ∙ f)).whole

pub read_whole : (b : List ℕ) → length b ≤ 4096 → length b ≡ end_at (job_at b) → job_of b ≡ Ok (job_at b)
unfolding job_of
read_whole b short whole =
    let grammar = grammar_count b in
    let line = line_count b grammar in
    rw (
      le-ltb 4096 (length b) short,
      le-ltb (length b) 2 (omega arith),
      le-ltb (length b) (line_at grammar) (omega arith),
      le-ltb (length b) (questions_at grammar line) (omega arith),
      le-ltb (length b) (end_at (job_at b)) (omega arith),
      le-ltb (end_at (job_at b)) (length b) (omega arith),
    )

-- as many questions are read as are counted
pub questions_count : (bytes : List ℕ) (count at : ℕ) → length (questions_from bytes count at) ≡ count
unfolding questions_from
questions_count bytes zero at = refl
questions_count bytes (suc count) at = ap suc (questions_count bytes count (at + 3))
