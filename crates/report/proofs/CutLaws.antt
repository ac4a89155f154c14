-- A job of which only a first part was read is refused by 13, at the length of that part.
use Rattle.std.proofs.Common.{Ok, Result}
use Rattle.refusals.specs.declared.Refusal.{Refusal}
use Prim.Native.Nat.{ℕ, ◌+◌, ◌≤◌, ◌<◌}
use mathlib.Core.Path.{◌≡◌, ◌∙◌, ap}
use mathlib.Core.List.{List}
use native.Mathlib.Decide.{dec_lt}
use native.Mathlib.Nat.{lt_of_not-le}
use native.Mathlib.Omega.{arith}
use lib.ListN.{length, take}
use lib.Seq.{length-take-le, get_or-take}
use borrow.Author.Tests.{lt-ltb, le-ltb}
use Rattle.refusals.specs.Told.{refused}
use Rattle.grammar.specs.Reading.{byte}
use Rattle.report.specs.declared.job.Job.{Job}
use Rattle.report.specs.Job.{badly_formed, unless_short, line_at, questions_at, end_at, grammar_count, line_count, line_read, grammar_read, job_of}
use Rattle.report.specs.Told.{job_told}
use Rattle.report.proofs.JobLaws.{job_at, job_read}

module _ (b : List ℕ) (n : ℕ) (cut : n < length b) (short : length b ≤ 4096) (whole : length b ≡ end_at (job_at b)) where
  abbrev part : List ℕ
  part = take n b

  abbrev grammar : ℕ
  grammar = grammar_count b

  abbrev line : ℕ
  line = line_count b grammar

  size : length part ≡ n
  size = length-take-le n b (omega arith)

  -- what was read is as it was
  same : (i : ℕ) → i < n → byte part i ≡ byte b i
  same i h = get_or-take n b i 0 h

  -- where a section reaches past the part, that is the fault
  past : (end : ℕ) (go : Result Job Refusal) → n < end → unless_short part end go ≡ badly_formed n
  past end go h = rw (size, lt-ltb n end h)

  before : (end : ℕ) (go : Result Job Refusal) → end ≤ n → unless_short part end go ≡ go
  before end go h = rw (size, le-ltb n end h)

  line_cut : line_read part grammar line ≡ badly_formed n
  line_cut = go (dec_lt n (questions_at grammar line))
    where
      go : Dec (n < questions_at grammar line) → line_read part grammar line ≡ badly_formed n
      go (yes h) = past _ _ h
      go (no h) =
          let l = lt_of_not-le h in
          before _ _ (omega arith) ∙ rw (same (3 + grammar + line) (omega arith)) (past (end_at (job_at b)) _ (omega arith))

  grammar_cut : grammar_read part grammar ≡ badly_formed n
  grammar_cut = go (dec_lt n (line_at grammar))
    where
      go : Dec (n < line_at grammar) → grammar_read part grammar ≡ badly_formed n
      go (yes h) = past _ _ h
      go (no h) =
          let l = lt_of_not-le h in
          before _ _ (omega arith) ∙ rw (same (2 + grammar) (omega arith)) line_cut

  job_cut : job_of part ≡ badly_formed n
  unfolding job_of
  job_cut = rw (le-ltb 4096 (length part) (omega (arith, size))) (go (dec_lt n 2))
    where
      go : Dec (n < 2) → unless_short part 2 (grammar_read part (grammar_count part)) ≡ badly_formed n
      go (yes h) = past _ _ h
      go (no h) =
          let l = lt_of_not-le h in
          before _ _ (omega arith) ∙ rw (same 0 (omega arith), same 1 (omega arith)) grammar_cut

pub cut_refused : (b : List ℕ) (job : Job) (n : ℕ) → job_of b ≡ Ok job → n < length b → job_told (job_of (take n b)) ≡ refused (record { number = 13; place = n })
cut_refused b job n e cut = let read = job_read b job e in rw (job_cut b n cut read.short (read.whole ∙ ap end_at read.is))
