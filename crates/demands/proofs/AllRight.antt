-- All that is looked at before the filling is right exactly where the question's first checks pass.
use Rattle.std.proofs.Common.{Err, Ok, Result}
use Rattle.refusals.specs.declared.Refusal.{Refusal}
use Prim.Native.Nat.{ℕ, ◌≤◌}
use mathlib.Core.Path.{◌≡◌, refl, sym, ◌∙◌}
use mathlib.Core.List.{List}
use lib.ListN.{length}
use borrow.Author.Tests.{le-ltb}
use Rattle.refusals.specs.Check.{Check, nothing_wrong}
use Rattle.refusals.specs.Order.{early}
use Rattle.derivation.specs.Grammar.{Grammar}
use Rattle.checks.specs.Line.{line_check}
use Rattle.checks.specs.Question.{asked_check}
use Rattle.checks.specs.Memory.{chart_size, depths_size, work_check}
use Rattle.checks.proofs.Laws.{not_both, line_passed}
use Rattle.grammar.specs.declared.reading.Sections.{Sections}
use Rattle.grammar.specs.Reading.{read_of}
use Rattle.grammar.specs.Value.{grammar_of}
use Rattle.grammar.specs.Given.{grammar_given}
use Rattle.grammar.proofs.Accepted.{accepted}
use Rattle.grammar.proofs.Encoded.{class_count, category_count_lem, accepted_encodes}
use Rattle.grammar.proofs.Encoding.{accepted_iff, value_read}
use Rattle.chart.specs.Checks.{checks_of}
use Rattle.chart.proofs.CheckLaws.{Passes, sections, line_is, asked_is, memory_is}
use Rattle.demands.specs.Question.{Input, Query}
use Rattle.demands.specs.TurnedDown.{Encodes, AllRight}
use Rattle.demands.proofs.Right.{asked_of, numbers_right, right_numbers}

-- bytes that encode a grammar are read as that grammar
pub record ReadAs (G : Grammar) (g : List ℕ) (s : Sections) : Type 0 where
  pub read : read_of g ≡ Ok s
  pub value : grammar_of g s ≡ G
  pub classes : s.classes ≡ length G.classes
  pub categories : s.categories ≡ length G.categories

pub encodes_read : {G : Grammar} {g : List ℕ} → Encodes G g → (s : Sections) × ReadAs G g s
encodes_read {G} {g} e =
    let a = (accepted_iff g).1 (G, e.within, e.distinct, e.encoding) in
    let s = a.0 in
    let same = value_read g s G a.1 e.encoding e.within e.distinct in
    let whole = (accepted g s a.1).0 in (
      s,
      record {
        read = a.1;
        value = same;
        classes = sym (class_count g s whole) ∙ rw same;
        categories = sym (category_count_lem g s whole) ∙ rw same;
      },
    )

pub read_encodes : {g : List ℕ} {s : Sections} → read_of g ≡ Ok s → Encodes (grammar_of g s) g
read_encodes {g} {s} e = let a = accepted_encodes g s e in record { within = a.0; distinct = a.1; encoding = a.2 }

-- the grammar that is given is the one that is encoded
pub given_is : {G : Grammar} {g : List ℕ} → Encodes G g → grammar_given g ≡ G
given_is e = let r = (encodes_read e).1 in rw r.read r.value

-- the first checks of a question pass
abbrev pub PassesFor : (x : Input) (q : Query) → Sections → Type 0
PassesFor x q s = Passes x.grammar x.line (asked_of q) (length x.words) (length x.depths) s

-- memory that is large enough passes
pub work_right : (categories n words numbers : ℕ) → chart_size categories n ≤ words → depths_size categories n ≤ numbers → work_check categories n words numbers ≡ nothing_wrong
work_right categories n words numbers c d = rw (le-ltb words (chart_size categories n) c, le-ltb numbers (depths_size categories n) d)

pub right_passes : {G : Grammar} {x : Input} {q : Query} → AllRight G x q → (s : Sections) × ReadAs G x.grammar s × PassesFor x q s
right_passes {G} {x} {q} a =
    let e = encodes_read a.grammar in
    let line : line_check e.0.classes x.line ≡ nothing_wrong = (line_passed e.0.classes x.line).1 (rw e.1.classes a.line) in
    let asked : asked_check e.0.categories (length x.line) (asked_of q) ≡ nothing_wrong = rw e.1.categories (numbers_right _ (length x.line) q a.asked) in
    let work : work_check e.0.categories (length x.line) (length x.words) (length x.depths) ≡ nothing_wrong = rw e.1.categories (work_right _ _ _ _ a.words a.depths) in
    (e.0, e.1, record { read = e.1.read; rest = rw (line, asked, work) })

pub passes_right : {x : Input} {q : Query} {s : Sections} → PassesFor x q s → AllRight (grammar_of x.grammar s) x q
passes_right {x} {q} {s} p =
    let classes = class_count x.grammar s (sections p) in
    let categories = category_count_lem x.grammar s (sections p) in
    record {
      grammar = read_encodes p.read;
      line = rw classes (line_is p);
      asked = rw categories (right_numbers s.categories (length x.line) q (asked_is p));
      words = rw categories (memory_is p).0;
      depths = rw categories (memory_is p).1;
    }

-- where no refusal comes early, the first checks pass
pub early_passes : (x : Input) (q : Query) (fact room : Check) → early (checks_of x.grammar x.line (asked_of q) x.words x.depths fact room) ≡ nothing_wrong → (s : Sections) × PassesFor x q s
early_passes x q fact room e = go (read_of x.grammar) refl e
  where
    go : (r : Result Sections Refusal) → read_of x.grammar ≡ r → early (checks_of x.grammar x.line (asked_of q) x.words x.depths fact room) ≡ nothing_wrong → (s : Sections) × PassesFor x q s
    go (Err refusal) read h = absurd (not_both refl (rw read at h))
    go (Ok s) read h = (s, record { read = read; rest = rw read at h })
