-- A question is turned down exactly as the document's table says.
use Rattle.std.proofs.Common.{Err, Ok, Result}
use Prim.Native.Nat.{ℕ, ◌≤◌, ◌<◌}
use mathlib.Core.Path.{◌≡◌, refl}
use mathlib.Core.Logic.{inl, inr}
use mathlib.Core.List.{List}
use native.Mathlib.Nat.{lt_of_not-le}
use native.Mathlib.Decide.{dec_le}
use native.Mathlib.Omega.{arith}
use lib.ListN.{length}
use Rattle.refusals.specs.declared.Refusal.{Refusal}
use Rattle.refusals.specs.declared.Refusal.TheVariants.{ChartTooSmall, DepthsTooSmall}
use Rattle.refusals.specs.declared.Row.{Row}
use Rattle.refusals.specs.Check.{Check, nothing_wrong}
use Rattle.refusals.specs.Row.{row_of}
use Rattle.refusals.specs.Order.{early}
use Rattle.refusals.specs.Told.{Told, refused, check_told}
use Rattle.derivation.specs.Grammar.{Grammar}
use Rattle.checks.specs.Line.{IsLine, LineOutcome, too_long, bad_token, is_line, line_check}
use Rattle.checks.specs.Question.{asked_check}
use Rattle.checks.specs.Memory.{chart_size, depths_size}
use Rattle.checks.proofs.Laws.{one_refusal, not_both, line_outcome, outcome_unique, line_passed, too_small, large_enough}
use Rattle.grammar.specs.declared.reading.Sections.{Sections}
use Rattle.grammar.specs.Reading.{read_of}
use Rattle.grammar.specs.Value.{grammar_of}
use Rattle.grammar.specs.Told.{reading_told}
use Rattle.grammar.specs.Beginning.{NextByte, count_between, flag_byte, left_of, symbol_of, no_more, number_of, Refusing, ends_early, not_right, rule_repeated}
use Rattle.grammar.proofs.Refusals.{refused_iff}
use Rattle.grammar.proofs.Accepted.{accepted}
use Rattle.grammar.proofs.Encoded.{class_count, category_count_lem}
use Rattle.chart.specs.Checks.{checks_of}
use Rattle.chart.proofs.CheckLaws.{early_passed}
use Rattle.demands.specs.Question.{Input, Query, numbers}
use Rattle.demands.specs.TurnedDown.{by, EarlyNumber, Encodes, FirstWrong, AllRight, TurnedDown, grammar_wrong, line_too_long, token_no_class, number_wrong, words_too_few, depths_too_few}
use Rattle.demands.proofs.Right.{asked_of, AllNumbers, numbers_wrong, numbers_right, right_numbers, wrong_numbers}
use Rattle.demands.proofs.AllRight.{ReadAs, encodes_read, read_encodes, right_passes, work_right}

-- what is reported of a question before the filling
abbrev pub first : Input → Query → Check
first x q = early (checks_of x.grammar x.line (asked_of q) x.words x.depths nothing_wrong nothing_wrong)

-- refusals of grammar bytes come before the filling
grammar_number : {g : List ℕ} {row : Row} → Refusing g row → EarlyNumber row.number
grammar_number (ends_early b n) = inl (omega arith)
grammar_number (rule_repeated u w same rest) = inr refl
grammar_number (not_right {next = next} b y w rest) = inl (go next)
  where
    go : (next : NextByte) → number_of next ≤ 9
    go (count_between low high) = omega arith
    go flag_byte = omega arith
    go (left_of G) = omega arith
    go (symbol_of G) = omega arith
    go no_more = omega arith

module _ (x : Input) (q : Query) where
  -- the question is refused before the filling, by this row
  abbrev pub TurnedEarly : Row → Type 0
  TurnedEarly row = (refusal : Refusal) × (first x q ≡ Err refusal) × (row_of refusal ≡ row)

  pub grammar_turned : {row : Row} → Refusing x.grammar row → TurnedEarly row
  grammar_turned {row} w = go (read_of x.grammar) refl ((refused_iff x.grammar row).1 w)
    where
      go : (r : Result Sections Refusal) → read_of x.grammar ≡ r → reading_told r ≡ refused row → TurnedEarly row
      go (Ok s) read h = absurd (let z : ◌≡◌ {A = ℕ} 0 1 = cc in omega arith)
      go (Err refusal) read h = (refusal, rw read, cc)

  module _ {G : Grammar} (e : Encodes G x.grammar) where
    abbrev s : Sections
    s = (encodes_read e).0

    abbrev read : ReadAs G x.grammar s
    read = (encodes_read e).1

    pub line_turned : {row : Row} → LineOutcome (length G.classes) x.line (refused row) → TurnedEarly row
    line_turned {row} o = go (line_check s.classes x.line) refl (outcome_unique s.classes x.line {b = refused row} (line_outcome s.classes x.line) (rw read.classes o))
      where
        go : (c : Check) → line_check s.classes x.line ≡ c → check_told c ≡ refused row → TurnedEarly row
        go (Ok u) is h = absurd (let z : ◌≡◌ {A = ℕ} 0 1 = cc in omega arith)
        go (Err refusal) is h = (refusal, rw (read.read, is), cc)

    module _ (line : IsLine (length G.classes) x.line) where
      line_right : line_check s.classes x.line ≡ nothing_wrong
      line_right = (line_passed s.classes x.line).1 (rw read.classes line)

      pub number_turned : {place : ℕ} → FirstWrong (length G.categories) (length x.line) (numbers q) place → TurnedEarly (by 8 place)
      number_turned {place} f =
          let w = numbers_wrong (length G.categories) (length x.line) q f in
          let is : asked_check s.categories (length x.line) (asked_of q) ≡ Err w.0 = rw read.categories w.1 in
          (w.0, rw (read.read, line_right, is), w.2)

      module _ (all : AllNumbers (length G.categories) (length x.line) q) where
        asked_right : asked_check s.categories (length x.line) (asked_of q) ≡ nothing_wrong
        asked_right = rw read.categories (numbers_right _ (length x.line) q all)

        pub words_turned : length x.words < chart_size (length G.categories) (length x.line) → TurnedEarly (by 9 0)
        words_turned l =
            let is = too_small (chart_size s.categories (length x.line)) (length x.words) ChartTooSmall (rw read.categories l) in
            (ChartTooSmall, rw (read.read, line_right, asked_right, is), refl)

        pub depths_turned : chart_size (length G.categories) (length x.line) ≤ length x.words → length x.depths < depths_size (length G.categories) (length x.line) → TurnedEarly (by 9 1)
        depths_turned h l =
            let enough = large_enough (chart_size s.categories (length x.line)) (length x.words) ChartTooSmall (rw read.categories h) in
            let is = too_small (depths_size s.categories (length x.line)) (length x.depths) DepthsTooSmall (rw read.categories l) in
            (DepthsTooSmall, rw (read.read, line_right, asked_right, enough, is), refl)

  -- where all is right nothing is refused before the filling
  pub right_passed : {G : Grammar} → AllRight G x q → first x q ≡ nothing_wrong
  right_passed a = early_passed x.words x.depths nothing_wrong nothing_wrong (right_passes a).2

  -- what is refused before the filling is in the table, with such a number
  module _ (refusal : Refusal) (e : first x q ≡ Err refusal) where
    abbrev Listed : Refusal → Type 0
    Listed r = TurnedDown x q (row_of r) × EarlyNumber (row_of r).number

    -- one refusal is found
    same : {other : Refusal} → first x q ≡ Err other → Listed other → Listed refusal
    same h t = rw (one_refusal e h) t

    module _ (s : Sections) (read : read_of x.grammar ≡ Ok s) where
      abbrev classes : length (grammar_of x.grammar s).classes ≡ s.classes
      classes = class_count x.grammar s (accepted x.grammar s read).0

      abbrev categories : length (grammar_of x.grammar s).categories ≡ s.categories
      categories = category_count_lem x.grammar s (accepted x.grammar s read).0

      module _ (l : IsLine s.classes x.line) where
        abbrev line : line_check s.classes x.line ≡ nothing_wrong
        line = (line_passed s.classes x.line).1 l

        memory_listed : asked_check s.categories (length x.line) (asked_of q) ≡ nothing_wrong → Dec (chart_size s.categories (length x.line) ≤ length x.words) → Dec (depths_size s.categories (length x.line) ≤ length x.depths) → Listed refusal
        memory_listed asked (no w) d =
            let small = lt_of_not-le w in
            same {other = ChartTooSmall} (rw (read, line, asked, too_small _ _ ChartTooSmall small))
            (words_too_few (read_encodes read) (rw classes l) (rw categories (right_numbers _ _ q asked)) (rw categories small), inl (omega arith))
        memory_listed asked (yes w) (no d) =
            let small = lt_of_not-le d in
            same {other = DepthsTooSmall} (rw (read, line, asked, large_enough _ _ ChartTooSmall w, too_small _ _ DepthsTooSmall small))
            (depths_too_few (read_encodes read) (rw classes l) (rw categories (right_numbers _ _ q asked)) (rw categories w) (rw categories small), inl (omega arith))
        memory_listed asked (yes w) (yes d) =
            absurd (not_both e (early_passed {asked = asked_of q} x.words x.depths nothing_wrong nothing_wrong (record { read = read; rest = rw (line, asked, work_right _ _ _ _ w d) })))

        numbers_listed : (c : Check) → asked_check s.categories (length x.line) (asked_of q) ≡ c → Listed refusal
        numbers_listed (Err other) is =
            let f = wrong_numbers s.categories (length x.line) q other is in
            same {other = other} (rw (read, line, is)) (rw f.2 (number_wrong {q = q} {place = f.0} (read_encodes read) (rw classes l) (rw categories f.1), inl (omega arith)))
        numbers_listed (Ok u) is = memory_listed is (dec_le _ _) (dec_le _ _)

      told_listed : (told : Told) → LineOutcome s.classes x.line told → {row : Row} → told ≡ refused row → TurnedDown x q row × EarlyNumber row.number
      told_listed _ (too_long l) {row} h = let z : row ≡ by 6 63 = cc in rw z (line_too_long (read_encodes read) l, inl (omega arith))
      told_listed _ (bad_token {t = t} short f) {row} h = let z : row ≡ by 7 t = cc in rw z (token_no_class {q = q} {t = t} (read_encodes read) short (rw classes f), inl (omega arith))
      told_listed _ (is_line l) h = absurd (let z : ◌≡◌ {A = ℕ} 0 1 = cc in omega arith)

      line_listed : (c : Check) → line_check s.classes x.line ≡ c → Listed refusal
      line_listed (Err other) is = same {other = other} (rw (read, is)) (told_listed _ (line_outcome s.classes x.line) (rw is))
      line_listed (Ok u) is = numbers_listed ((line_passed s.classes x.line).0 is) _ refl

    grammar_listed : (r : Result Sections Refusal) → read_of x.grammar ≡ r → Listed refusal
    grammar_listed (Err other) read =
        let w = (refused_iff x.grammar (row_of other)).0 (rw read) in
        same {other = other} (rw read) (grammar_wrong w, grammar_number w)
    grammar_listed (Ok s) read = line_listed s read _ refl

    pub early_listed : TurnedDown x q (row_of refusal) × EarlyNumber (row_of refusal).number
    early_listed = grammar_listed _ refl
