-- What is printed of the document's job, and of jobs on the edges.
use Prim.Native.Nat.{ℕ, ◌<◌}
use Prim.Native.String.{String}
use mathlib.Core.Path.{◌≡◌, refl}
use mathlib.Core.List.{List, [], ◌∷◌, flatten}
use lib.ListN.{length}
use borrow.Author.Tests.{lt-ltb}
use Rattle.derivation.specs.computed.Search.{some, first_from}
use Rattle.derivation.specs.computed.Listing.{listed, gathered, kept}
use Rattle.derivation.specs.computed.Round.{token_is, child, children, round}
use Rattle.derivation.specs.computed.Table.{table, is_found, seen, grade, depths, depth_of}
use Rattle.derivation.specs.computed.RoundsOf.{greatest, rounds_of}
use Rattle.derivation.specs.computed.Facts.{facts}
use Rattle.derivation.specs.computed.FactCount.{total, fact_count}
use Rattle.derivation.specs.computed.Facts.{fact_list}
use Rattle.derivation.specs.computed.Marks.{covered, secret, marks}
use Rattle.derivation.specs.computed.Shown.{below, chosen_rule, chosen_end, chosen_row, chosen, shown}
use Rattle.checks.specs.Line.{tokens_from, line_check}
use Rattle.checks.specs.Question.{start_check, span_check}
use Rattle.grammar.specs.Repeats.{same_symbols, same_rule, is_repeated}
use Rattle.grammar.specs.Reading.{each_from, rule_from, rules_from, flags_section, rules_section, sections_of, read_of}
use Rattle.grammar.specs.Value.{standing, rules_at, grammar_of}
use Rattle.report.specs.Job.{job_of, questions_from}
use Rattle.lines.specs.Decimal.{digits, decimal}
use Rattle.lines.specs.Lines.{text, spaced, line_of, numbered, rounds_and_facts, marks_of}
use Rattle.tree.specs.Bytes.{bytes}
use Rattle.report.specs.Printed.{lent_words, lent_depths, lent_tree, refused_line, rounds_line, fact_line, fact_lines, marks_line, node_line, tree_lines, answer_pieces, chart_pieces, pieces, printed}

-- the document's job: 15 grammar bytes, 6 tokens, 1 question
abbrev pub document_job : List ℕ
document_job =
    15 ∷ 0 ∷ 3 ∷ 0 ∷ 0 ∷ 0 ∷ 1 ∷ 1 ∷ 2 ∷ 0 ∷ 3 ∷ 128 ∷ 1 ∷ 0 ∷ 0 ∷ 1 ∷ 0
    ∷ 6 ∷ 2 ∷ 0 ∷ 1 ∷ 0 ∷ 1 ∷ 0
    ∷ 1 ∷ 0 ∷ 1 ∷ 6 ∷ []

abbrev pub document_output : String
document_output =
    "rounds 3 facts 6\nfact 0 1 2 1\nfact 0 1 4 2\nfact 0 1 6 3\nfact 0 3 4 1\nfact 0 3 6 2\nfact 0 5 6 1\nmarks 011111\ntree 0 1 6\nnode 1 0 1 6\nnode 1 0 1 4\nnode 1 1 1 2\nnode 0 0 1 2\nnode 0 1 2 3\nnode 0 0 3 4\nnode 0 1 4 5\nnode 0 0 5 6\n"

-- the same grammar on the empty line, and no question
abbrev empty_job : List ℕ
empty_job = 15 ∷ 0 ∷ 3 ∷ 0 ∷ 0 ∷ 0 ∷ 1 ∷ 1 ∷ 2 ∷ 0 ∷ 3 ∷ 128 ∷ 1 ∷ 0 ∷ 0 ∷ 1 ∷ 0 ∷ 0 ∷ 0 ∷ []

-- A → A alone on the line 0: a question of no fact, and one of no category
abbrev circular_job : List ℕ
circular_job = 8 ∷ 0 ∷ 1 ∷ 0 ∷ 1 ∷ 0 ∷ 1 ∷ 0 ∷ 1 ∷ 128 ∷ 1 ∷ 0 ∷ 2 ∷ 0 ∷ 0 ∷ 1 ∷ 1 ∷ 0 ∷ 255 ∷ []

pub examples :
    (printed document_job ≡ text document_output)
    × (printed empty_job ≡ text "rounds 0 facts 0\nmarks\n")
    × (printed circular_job ≡ text "rounds 0 facts 0\nmarks 0\ntree 0 0 1\nrefused 10 0\ntree 1 0 255\nrefused 8 0\n")
    × (printed [] ≡ text "refused 13 0\n")
    × (printed (7 ∷ []) ≡ text "refused 13 1\n")
    × (printed (2 ∷ 0 ∷ 1 ∷ 0 ∷ 0 ∷ 0 ∷ []) ≡ text "refused 1 2\n")
    × (printed (2 ∷ 0 ∷ 1 ∷ 0 ∷ 0 ∷ 0 ∷ 9 ∷ []) ≡ text "refused 13 6\n")
    × (printed (9 ∷ 0 ∷ 1 ∷ 0 ∷ 1 ∷ 0 ∷ 2 ∷ 0 ∷ 0 ∷ 0 ∷ 0 ∷ 0 ∷ 0 ∷ []) ≡ text "refused 14 7\n")
unfolding rounds_and_facts marks_of printed pieces refused_line job_of questions_from chart_pieces answer_pieces tree_lines node_line marks_line fact_lines fact_line rounds_line lent_words lent_depths lent_tree bytes numbered line_of spaced text decimal digits read_of sections_of flags_section rules_section rules_from rule_from each_from is_repeated same_rule same_symbols grammar_of rules_at standing line_check tokens_from start_check span_check rounds_of greatest fact_count total facts fact_list gathered kept marks secret covered shown chosen chosen_row chosen_end chosen_rule below first_from depth_of depths table listed is_found seen grade round children child token_is some flatten
examples = (refl, refl, refl, refl, refl, refl, refl, refl)

-- more than 4,096 bytes, whatever they are
pub long_printed : (input : List ℕ) → 4096 < length input → printed input ≡ text "refused 13 4096\n"
unfolding flatten printed pieces job_of refused_line numbered line_of spaced text decimal digits
long_printed input long = rw (lt-ltb 4096 (length input) long)
