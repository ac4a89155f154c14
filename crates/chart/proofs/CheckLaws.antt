-- What a question's checks report, from what the first of them find.
use Rattle.std.proofs.Common.{Err, Ok, Result}
use Prim.Native.Nat.{ℕ, ◌≤◌}
use mathlib.Core.Path.{◌≡◌, refl}
use mathlib.Core.List.{List}
use lib.ListN.{length}
use Rattle.refusals.specs.declared.Refusal.{Refusal}
use Rattle.refusals.specs.Check.{Check, nothing_wrong}
use Rattle.refusals.specs.Order.{early}
use Rattle.derivation.specs.Grammar.{Proper}
use Rattle.checks.specs.declared.Asked.{Asked}
use Rattle.checks.specs.Line.{IsLine, line_check}
use Rattle.checks.specs.Question.{asked_check}
use Rattle.checks.specs.Memory.{chart_size, depths_size}
use Rattle.checks.specs.inner.Rest.{rest_check}
use Rattle.checks.proofs.Laws.{both_passed, line_passed, work_passed}
use Rattle.grammar.specs.declared.reading.Sections.{Sections}
use Rattle.grammar.specs.Reading.{read_of}
use Rattle.grammar.specs.Value.{Sectioned, grammar_of}
use Rattle.grammar.specs.Given.{check_of, sections_in, grammar_given}
use Rattle.grammar.specs.Told.{reading_told}
use Rattle.grammar.proofs.Accepted.{accepted, whole}
use Rattle.grammar.proofs.Encoded.{accepted_proper}
use Rattle.chart.specs.inner.Checked.{accepted_if, checked_of}
use Rattle.chart.specs.Checks.{checks_of}
use Rattle.chart.specs.Told.{first_told}

-- sections are handed on exactly where the check passes
accepted_passed : (s x : Sections) (c : Check) → accepted_if x c ≡ Ok s → (x ≡ s) × (c ≡ nothing_wrong)
accepted_passed s x (Ok u) e = (cc, refl)
accepted_passed s x (Err y) e = cc

accepted_refused : (x : Sections) (c : Check) (refusal : Refusal) → accepted_if x c ≡ Err refusal → c ≡ Err refusal
accepted_refused x (Err y) refusal e = cc
accepted_refused x (Ok u) refusal e = cc

-- a refusal of the first checks is the question's
pub checked_refused :
    (g line : List ℕ) (asked : Asked) (words depths : List ℕ) (fact room : Check) (refusal : Refusal) →
    checked_of (read_of g) line asked (length words) (length depths) ≡ Err refusal → early (checks_of g line asked words depths fact room) ≡ Err refusal
checked_refused g line asked words depths fact room refusal e = go (read_of g) refl e
  where
    go : (r : Result Sections Refusal) → read_of g ≡ r → checked_of r line asked (length words) (length depths) ≡ Err refusal → early (checks_of g line asked words depths fact room) ≡ Err refusal
    go (Err x) q h = rw q cc
    go (Ok s) q h = rw q (accepted_refused s _ refusal h)

-- what is known of a question whose first checks pass
pub record Passes (g line : List ℕ) (asked : Asked) (words numbers : ℕ) (s : Sections) : Type 0 where
  pub read : read_of g ≡ Ok s
  pub rest : rest_check s.classes s.categories line asked words numbers ≡ nothing_wrong

pub passed : {g line : List ℕ} {asked : Asked} {words numbers : ℕ} {s : Sections} → checked_of (read_of g) line asked words numbers ≡ Ok s → Passes g line asked words numbers s
passed {g = g} {line = line} {asked = asked} {words = words} {numbers = numbers} {s = s} e = go (read_of g) refl e
  where
    go : (r : Result Sections Refusal) → read_of g ≡ r → checked_of r line asked words numbers ≡ Ok s → Passes g line asked words numbers s
    go (Err x) q h = cc
    go (Ok x) q h =
        let p = accepted_passed s x (rest_check x.classes x.categories line asked words numbers) h in
        record { read = rw p.0 at q; rest = rw p.0 at p.1 }

module _ {g line : List ℕ} {asked : Asked} {words numbers : ℕ} {s : Sections} (passes : Passes g line asked words numbers s) where
  pub sections : Sectioned g s
  sections = (accepted g s passes.read).0

  pub line_is : IsLine s.classes line
  line_is = (line_passed s.classes line).0 (both_passed _ _ passes.rest).0

  pub asked_is : asked_check s.categories (length line) asked ≡ nothing_wrong
  asked_is = (both_passed _ _ (both_passed (line_check s.classes line) _ passes.rest).1).0

  pub memory_is : (chart_size s.categories (length line) ≤ words) × (depths_size s.categories (length line) ≤ numbers)
  memory_is = work_passed _ _ _ _ (both_passed (asked_check s.categories (length line) asked) _ (both_passed (line_check s.classes line) _ passes.rest).1).1

  -- so the memory can be filled
  pub fillable : IsLine s.classes line × (chart_size s.categories (length line) ≤ words) × (depths_size s.categories (length line) ≤ numbers)
  fillable = (line_is, memory_is.0, memory_is.1)

  pub categories_few : s.categories ≤ 32
  categories_few = (whole g s sections).categories_high

  pub grammar_is : grammar_given g ≡ grammar_of g s
  grammar_is = rw passes.read

pub early_passed : {g line : List ℕ} {asked : Asked} (words depths : List ℕ) {s : Sections} (fact room : Check) → Passes g line asked (length words) (length depths) s →
    early (checks_of g line asked words depths fact room) ≡ nothing_wrong
early_passed words depths fact room passes = rw passes.read passes.rest

-- what the first checks tell
pub checked_told :
    (g line : List ℕ) (asked : Asked) (words depths : List ℕ) → reading_told (checked_of (read_of g) line asked (length words) (length depths)) ≡ first_told g line asked words depths
checked_told g line asked words depths = go (checked_of (read_of g) line asked (length words) (length depths)) refl
  where
    go : (r : Result Sections Refusal) → checked_of (read_of g) line asked (length words) (length depths) ≡ r → reading_told r ≡ first_told g line asked words depths
    go (Err refusal) e = rw (checked_refused g line asked words depths nothing_wrong nothing_wrong refusal e)
    go (Ok s) e =
        let passes = passed {g = g} {line = line} {asked = asked} {words = length words} {numbers = length depths} {s = s} e in
        rw (early_passed words depths nothing_wrong nothing_wrong passes, passes.read)

-- a question whose first checks pass has a grammar with every rule's left category in it
pub early_proper : (g line : List ℕ) (asked : Asked) (words depths : List ℕ) (fact room : Check) → early (checks_of g line asked words depths fact room) ≡ nothing_wrong → Proper (grammar_given g)
early_proper g line asked words depths fact room e = go (read_of g) refl (both_passed (check_of (read_of g)) _ e).0
  where
    go : (r : Result Sections Refusal) → read_of g ≡ r → check_of r ≡ nothing_wrong → Proper (grammar_of g (sections_in r))
    go (Ok s) q h = accepted_proper g s q
    go (Err x) q h = cc
