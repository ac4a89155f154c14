-- How grammar bytes are read: byte by byte, the first fault met is reported. A position is an offset in the whole list.
use Rattle.std.specs.Prelude.{ℕ, zero, suc, ◌+◌, ◌-◌, List, [], ◌∷◌, ◌++◌, Bool, not, cond, length, ltb, leb, Err, Ok, Result}
use Rattle.refusals.specs.declared.Refusal.{Refusal}
use Rattle.refusals.specs.declared.Refusal.TheVariants.{GrammarEndsEarly, CountOutsideLimits, FlagAboveOne, NotInGrammar, RuleRepeated, BytesAfterRules}
use Rattle.derivation.specs.Grammar.{Rule}
use Rattle.grammar.specs.declared.reading.Sections.{Sections}
use Rattle.grammar.specs.Standing.{standing}
use Rattle.grammar.specs.Repeats.{is_repeated}
pub use Rattle.grammar.specs.Standing.{byte}

-- the bytes end early where none stands at the position
abbrev pub have : List ℕ → ℕ → Result ℕ Refusal → Result ℕ Refusal
have g at go = cond (ltb at (length g)) go (Err (GrammarEndsEarly (length g)))

-- a refusal unless the test holds
abbrev pub must : Bool → Refusal → Result ℕ Refusal → Result ℕ Refusal
must ok refusal go = cond ok go (Err refusal)

abbrev pub then_read : Result ℕ Refusal → (ℕ → Result ℕ Refusal) → Result ℕ Refusal
then_read (Ok at) go = go at
then_read (Err refusal) go = Err refusal

-- as many bytes as `count`, each of which passes the test or else is refused with its position
unfoldable pub each_from : (ℕ → Bool) → (ℕ → Refusal) → List ℕ → ℕ → ℕ → Result ℕ Refusal
each_from ok fault g zero at = Ok at
each_from ok fault g (suc count) at = have g at (must (ok (byte g at)) (fault at) (each_from ok fault g count (at + 1)))

-- a flag is 0 or 1
abbrev pub is_flag : ℕ → Bool
is_flag b = leb b 1

abbrev pub flags_from : List ℕ → ℕ → ℕ → Result ℕ Refusal
flags_from = each_from is_flag (λ at. FlagAboveOne at)

-- a symbol below 128 is a class, below t; another is category symbol - 128, below n
abbrev pub is_symbol : ℕ → ℕ → ℕ → Bool
is_symbol t n b = cond (ltb b 128) (ltb b t) (ltb (b - 128) n)

abbrev pub symbols_from : List ℕ → ℕ → ℕ → ℕ → ℕ → Result ℕ Refusal
symbols_from g t n = each_from (is_symbol t n) (λ at. NotInGrammar at) g

-- a rule: its left category, its length, 0 to 8, and as many symbols
unfoldable pub rule_from : List ℕ → ℕ → ℕ → ℕ → Result ℕ Refusal
rule_from g t n at =
    have g at
    (must (ltb (byte g at) n) (NotInGrammar at)
    (have g (at + 1)
    (must (leb (byte g (at + 1)) 8) (CountOutsideLimits (at + 1))
    (symbols_from g t n (byte g (at + 1)) (at + 2)))))

-- as many rules as `count`, none of which repeats an earlier one: each is tested when it is whole, before the next is looked at
unfoldable pub rules_from : List ℕ → ℕ → ℕ → List Rule → ℕ → ℕ → Result ℕ Refusal
rules_from g t n earlier zero at = Ok at
rules_from g t n earlier (suc count) at =
    then_read (rule_from g t n at) (λ next.
    must (not (is_repeated (standing g at) earlier)) (RuleRepeated at)
    (rules_from g t n (earlier ++ (standing g at ∷ [])) count next))

-- a section of flags: its count, 1 to `most`, and as many flags
unfoldable pub flags_section : List ℕ → ℕ → ℕ → Result ℕ Refusal
flags_section g most at =
    have g at
    (must (leb 1 (byte g at)) (CountOutsideLimits at)
    (must (leb (byte g at) most) (CountOutsideLimits at)
    (flags_from g (byte g at) (at + 1))))

-- the section of rules: its count, 0 to 128, and as many rules
unfoldable pub rules_section : List ℕ → ℕ → ℕ → ℕ → Result ℕ Refusal
rules_section g t n at =
    have g at
    (must (leb (byte g at) 128) (CountOutsideLimits at)
    (rules_from g t n [] (byte g at) (at + 1)))

abbrev pub onward : Result ℕ Refusal → (ℕ → Result Sections Refusal) → Result Sections Refusal
onward (Ok at) go = go at
onward (Err refusal) go = Err refusal

-- the counts and offsets, where the categories' section begins at `a`, the rules' section at `b` and `end` is past the last rule
abbrev pub sections_at : List ℕ → ℕ → ℕ → ℕ → Sections
sections_at g a b end =
    record { classes = byte g 0; categories = byte g a; rules = byte g b; flags = a + 1; first = b + 1; end = end }

-- classes, categories, rules
unfoldable pub sections_of : List ℕ → Result Sections Refusal
sections_of g =
    onward (flags_section g 128 0) (λ a.
    onward (flags_section g 32 a) (λ b.
    onward (rules_section g (byte g 0) (byte g a) b) (λ end. Ok (sections_at g a b end))))

-- nothing stands after the sections
abbrev pub nothing_after : List ℕ → Result Sections Refusal → Result Sections Refusal
nothing_after g (Ok s) = cond (ltb s.end (length g)) (Err (BytesAfterRules s.end)) (Ok s)
nothing_after g (Err refusal) = Err refusal

-- the three sections, and nothing after them
unfoldable pub read_of : List ℕ → Result Sections Refusal
read_of g = nothing_after g (sections_of g)
