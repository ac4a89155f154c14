-- How many pieces there are, and which stands where; the questions that bytes hold; a piece that is yielded.
use Rattle.std.proofs.Common.{Err, Ok, Result}
use Rattle.refusals.specs.declared.Refusal.{Refusal}
use Prim.Native.Nat.{ℕ, zero, suc, ◌+◌, ◌-◌, ◌*◌, ◌/◌, ◌≤◌, ◌<◌}
use mathlib.Core.Path.{◌≡◌, refl, sym, ◌∙◌, ap}
use mathlib.Core.Bool.{Bool, false}
use mathlib.Core.List.{List, [], ◌∷◌, ◌++◌, map}
use native.Mathlib.Nat.{zero-add, add-zero, add_assoc}
use native.Mathlib.Omega.{arith}
use lib.ListN.{length, get_or, take, drop, length-append, length-map, length-drop}
use Rattle.std.proofs.lemmas.List.{get_or-take}
use lib.Seq.{take_all, get_or-drop}
use lib.Dec.{ltb, leb, leb-suc-suc}
use borrow.Author.Tests.{le-ltb}
use Rattle.refusals.specs.Order.{reported}
use Rattle.refusals.specs.Told.{Told, answered, refused, check_told}
use Rattle.derivation.specs.FactList.{Span}
use Rattle.grammar.specs.Given.{grammar_given}
use Rattle.grammar.specs.Reading.{byte}
use Rattle.chart.specs.Checks.{chart_checks}
use Rattle.tree.specs.Bytes.{wrote}
use Rattle.lines.specs.inner.Stored.{Stored}
use Rattle.lines.proofs.WriteLaws.{stored_none}
use Rattle.report.specs.declared.Piece.{Piece}
use Rattle.report.specs.declared.job.Job.{Job}
use Rattle.report.specs.Job.{job_of, questions_at, grammar_part, line_part, questions_from, questions_part, questions_of}
use Rattle.report.specs.Printed.{lent_words, lent_depths, rounds_line, fact_lines, marks_line, tree_lines, unless_refused, answer_pieces, chart_pieces, job_pieces, pieces}
use Rattle.report.specs.Yielded.{Yielded}
use Rattle.report.proofs.JobLaws.{JobRead, job_read, questions_count}

-- there is a first piece
chart_some : (g line : List ℕ) (questions : List Span) → 0 < length (chart_pieces g line questions)
unfolding chart_pieces answer_pieces
chart_some g line questions = go (check_told (reported (chart_checks g line lent_words lent_depths)))
  where
    go : (t : Told) → 0 < length (unless_refused t (answer_pieces g line questions))
    go (refused row) = omega arith
    go (answered values) = omega arith

pub pieces_some : (input : List ℕ) → 0 < length (pieces input)
unfolding pieces
pieces_some input = go (job_of input)
  where
    go : (r : Result Job Refusal) → 0 < length (job_pieces input r)
    go (Err refusal) = omega arith
    go (Ok job) = chart_some (grammar_part input job) (line_part input job) (questions_part input job)

-- the questions that stand in a row of bytes
abbrev pub question_at : List ℕ → ℕ → Span
question_at bytes at = record { category = byte bytes at; start = byte bytes (at + 1); end = byte bytes (at + 2) }

-- a list made of each question: the part of question k
pub question_part : (f : Span → List ℕ) (bytes : List ℕ) (count at k : ℕ) → k < count → get_or (map f (questions_from bytes count at)) k [] ≡ f (question_at bytes (at + 3 * k))
unfolding questions_from
question_part f bytes zero at k h = absurd (omega arith)
question_part f bytes (suc count) at zero h = rw add-zero
question_part f bytes (suc count) at (suc k) h =
    let e : at + 3 * suc k ≡ at + 3 + 3 * k = omega arith in
    question_part f bytes count (at + 3) k (omega arith) ∙ rw e

-- past the last question there is none
pub question_none : (f : Span → List ℕ) (bytes : List ℕ) (count at k : ℕ) → count ≤ k → get_or (map f (questions_from bytes count at)) k [] ≡ []
unfolding questions_from
question_none f bytes zero at k h = refl
question_none f bytes (suc count) at zero h = absurd (omega arith)
question_none f bytes (suc count) at (suc k) h = question_none f bytes count (at + 3) k (omega arith)

-- questions in a part of the bytes are those of the whole
pub questions_moved : (bytes part : List ℕ) (offset count at : ℕ) → ((k : ℕ) → k < at + 3 * count → byte part k ≡ byte bytes (offset + k)) → questions_from part count at ≡ questions_from bytes count (offset + at)
unfolding questions_from
questions_moved bytes part offset zero at h = refl
questions_moved bytes part offset (suc count) at h =
    rw (h at (omega arith), h (at + 1) (omega arith), h (at + 2) (omega arith), questions_moved bytes part offset count (at + 3) (λ k l. h k (omega arith)), add_assoc, add_assoc, add_assoc)

-- piece k is written, or there is none
module _ (all : List (List ℕ)) (k : ℕ) {row : List ℕ} (more : Bool) (follows : more ≡ ltb (suc k) (length all)) where
  pub piece_stored : (bytes : List ℕ) {row' : List ℕ} {n : ℕ} → get_or all k [] ≡ bytes → Stored row 0 bytes row' n → Yielded all k row row' (record { length = n; more = more })
  piece_stored bytes e w = record { holds = rw e w.holds; long = rw e (w.after ∙ zero-add (length bytes)); more = follows }

  pub piece_none : get_or all k [] ≡ [] → Yielded all k row row (record { length = 0; more = more })
  piece_none e = piece_stored [] e (stored_none row 0)

-- past the only piece there is none
none_after_one : (bytes : List ℕ) (k : ℕ) → 0 < k → get_or (bytes ∷ []) k [] ≡ []
none_after_one bytes zero h = absurd (omega arith)
none_after_one bytes (suc k) h = refl

pub past_one : (bytes : List ℕ) (k : ℕ) {row : List ℕ} → 0 < k → Yielded (bytes ∷ []) k row row (record { length = 0; more = false })
past_one bytes k h = piece_none (bytes ∷ []) k false (sym (le-ltb (suc k) 1 (omega arith))) (none_after_one bytes k h)

-- the pieces of the answers
module _ (g line bytes : List ℕ) where
  abbrev all : List (List ℕ)
  all = answer_pieces g line (questions_of bytes)

  pub answers_more : (k : ℕ) → leb k (length bytes / 3) ≡ ltb (suc k) (length all)
  unfolding answer_pieces
  answers_more k =
      let n = length bytes / 3 in
      rw (length-map (questions_of bytes) (tree_lines g line), questions_count bytes n 0) (sym (leb-suc-suc (suc k) (suc n) ∙ leb-suc-suc k n))

  -- three bytes from a place on are the question there
  question_of_part : (at : ℕ) (part : List ℕ) → part ≡ take 3 (drop at bytes) → question_at part 0 ≡ question_at bytes at
  question_of_part at part e =
      let same : (i : ℕ) → i < 3 → byte part i ≡ byte bytes (at + i) = λ i l. ap (λ (s : List ℕ). byte s i) e ∙ get_or-take 3 (drop at bytes) i 0 l ∙ get_or-drop at bytes i 0 in
      rw (same 0 (omega arith), same 1 (omega arith), same 2 (omega arith), add-zero)

  pub first_answer : get_or all 0 [] ≡ rounds_line (grammar_given g) line ++ fact_lines (grammar_given g) line
  unfolding answer_pieces
  first_answer = refl

  pub second_answer : get_or all 1 [] ≡ marks_line (grammar_given g) line
  unfolding answer_pieces
  second_answer = refl

  pub later_answer : (k : ℕ) (part : List ℕ) → 2 ≤ k → k - 2 < length bytes / 3 → part ≡ take 3 (drop (3 * (k - 2)) bytes) → get_or all k [] ≡ tree_lines g line (question_at part 0)
  unfolding answer_pieces
  later_answer zero part h l e = absurd (omega arith)
  later_answer (suc zero) part h l e = absurd (omega arith)
  later_answer (suc (suc k)) part h l e =
      let n : suc (suc k) - 2 ≡ k = omega arith in
      question_part (tree_lines g line) bytes (length bytes / 3) 0 k (omega arith) ∙ rw (zero-add, question_of_part (3 * k) part (rw n at e))

  pub no_answer : (k : ℕ) → 2 ≤ k → length bytes / 3 ≤ k - 2 → get_or all k [] ≡ []
  unfolding answer_pieces
  no_answer zero h l = absurd (omega arith)
  no_answer (suc zero) h l = absurd (omega arith)
  no_answer (suc (suc k)) h l = question_none (tree_lines g line) bytes (length bytes / 3) 0 k (omega arith)

-- the questions' bytes of a job that was read stand at its end
pub questions_read_lem : (input : List ℕ) (job : Job) → JobRead input job → (at : ℕ) → at ≡ questions_at job.grammar job.line → questions_of (take (length input - at) (drop at input)) ≡ questions_part input job
questions_read_lem input job read at e =
    let whole = read.whole in
    let size : length (drop at input) ≡ 3 * job.questions = length-drop at input ∙ omega arith in
    let part : take (length input - at) (drop at input) ≡ drop at input = take_all (length input - at) (drop at input) (omega (arith, length-drop at input)) in
    let count : length (drop at input) / 3 ≡ job.questions = rw size (omega arith) in
    rw (part, count) (questions_moved input (drop at input) at job.questions 0 (λ k l. get_or-drop at input k 0) ∙ rw (add-zero, e))

-- there are few pieces
chart_few : (g line : List ℕ) (questions : List Span) → length questions ≤ 4096 → length (chart_pieces g line questions) ≤ 4098
unfolding chart_pieces answer_pieces
chart_few g line questions h = go (check_told (reported (chart_checks g line lent_words lent_depths)))
  where
    go : (t : Told) → length (unless_refused t (answer_pieces g line questions)) ≤ 4098
    go (refused row) = omega arith
    go (answered values) = omega (arith, length-map questions (tree_lines g line))

pub pieces_few : (input : List ℕ) → length (pieces input) ≤ 4098
unfolding pieces
pieces_few input = go (job_of input) refl
  where
    go : (r : Result Job Refusal) → job_of input ≡ r → length (job_pieces input r) ≤ 4098
    go (Err refusal) e = omega arith
    go (Ok job) e =
        let read = job_read input job e in
        chart_few (grammar_part input job) (line_part input job) (questions_part input job) (omega (arith, read.whole, read.short, questions_count input job.questions (questions_at job.grammar job.line)))

-- a piece that is yielded lies within the row
pub yielded_within : {all : List (List ℕ)} {k : ℕ} {row row' : List ℕ} {piece : Piece} → Yielded all k row row' piece → piece.length ≤ length row'
unfolding wrote
yielded_within {all} {k} {row} y =
    let bytes = get_or all k [] in
    let whole = ap length y.holds ∙ length-append bytes (drop (0 + length bytes) row) in
    omega (arith, whole, y.long)

-- a piece is yielded in one way
same_piece : {x y : Piece} → x.length ≡ y.length → x.more ≡ y.more → x ≡ y
same_piece {x} {y} e f = ap (λ (n : ℕ). piece n x.more) e ∙ ap (λ (m : Bool). piece y.length m) f
  where
    piece : ℕ → Bool → Piece
    piece n m = record { length = n; more = m }

pub yielded_unique : {all : List (List ℕ)} {k : ℕ} {row a b : List ℕ} {x y : Piece} → Yielded all k row a x → Yielded all k row b y → (a ≡ b) × (x ≡ y)
yielded_unique p q = (p.holds ∙ sym q.holds, same_piece (p.long ∙ sym q.long) (p.more ∙ sym q.more))
