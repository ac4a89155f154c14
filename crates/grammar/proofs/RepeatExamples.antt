-- Computed: how bytes are read in which a rule stands twice, or nearly. One class, and one category where not said otherwise.
use Rattle.std.proofs.Common.{Err, Ok}
use mathlib.Core.Path.{◌≡◌, refl}
use mathlib.Core.List.{[], ◌∷◌}
use Rattle.refusals.specs.declared.Refusal.TheVariants.{GrammarEndsEarly, NotInGrammar, RuleRepeated}
use Rattle.derivation.specs.computed.Search.{some}
use Rattle.grammar.specs.Standing.{standing}
use Rattle.grammar.specs.Repeats.{same_symbols, same_rule, is_repeated}
use Rattle.grammar.specs.Reading.{each_from, rule_from, rules_from, flags_section, rules_section, sections_of, read_of}

pub repeats_read :
    -- a rule of no symbols, twice; then anything may follow, or nothing where a third rule is to stand
    (read_of (1 ∷ 0 ∷ 1 ∷ 0 ∷ 2 ∷ 0 ∷ 0 ∷ 0 ∷ 0 ∷ []) ≡ Err (RuleRepeated 7))
    × (read_of (1 ∷ 0 ∷ 1 ∷ 0 ∷ 2 ∷ 0 ∷ 0 ∷ 0 ∷ 0 ∷ 9 ∷ []) ≡ Err (RuleRepeated 7))
    × (read_of (1 ∷ 0 ∷ 1 ∷ 0 ∷ 3 ∷ 0 ∷ 0 ∷ 0 ∷ 0 ∷ []) ≡ Err (RuleRepeated 7))
    -- of three equal rules the second is reported
    × (read_of (1 ∷ 0 ∷ 1 ∷ 0 ∷ 3 ∷ 0 ∷ 0 ∷ 0 ∷ 0 ∷ 0 ∷ 0 ∷ []) ≡ Err (RuleRepeated 7))
    -- a rule stands between the two
    × (read_of (1 ∷ 0 ∷ 1 ∷ 0 ∷ 3 ∷ 0 ∷ 1 ∷ 0 ∷ 0 ∷ 0 ∷ 0 ∷ 1 ∷ 0 ∷ []) ≡ Err (RuleRepeated 10))
    -- the second is cut short, or has a symbol that is not in the grammar
    × (read_of (1 ∷ 0 ∷ 1 ∷ 0 ∷ 2 ∷ 0 ∷ 1 ∷ 0 ∷ 0 ∷ 1 ∷ []) ≡ Err (GrammarEndsEarly 10))
    × (read_of (1 ∷ 0 ∷ 1 ∷ 0 ∷ 2 ∷ 0 ∷ 1 ∷ 0 ∷ 0 ∷ 1 ∷ 1 ∷ []) ≡ Err (NotInGrammar 10))
    -- two categories: the same symbols after another left category; and one symbol more
    × (read_of (1 ∷ 0 ∷ 2 ∷ 0 ∷ 0 ∷ 2 ∷ 0 ∷ 1 ∷ 0 ∷ 1 ∷ 1 ∷ 0 ∷ []) ≡ Ok (record { classes = 1; categories = 2; rules = 2; flags = 3; first = 6; end = 12 }))
    × (read_of (1 ∷ 0 ∷ 2 ∷ 0 ∷ 0 ∷ 2 ∷ 0 ∷ 1 ∷ 0 ∷ 0 ∷ 2 ∷ 0 ∷ 0 ∷ []) ≡ Ok (record { classes = 1; categories = 2; rules = 2; flags = 3; first = 6; end = 13 }))
unfolding read_of sections_of flags_section rules_section rules_from rule_from each_from standing is_repeated same_rule same_symbols some
repeats_read = (refl, refl, refl, refl, refl, refl, refl, refl, refl)
