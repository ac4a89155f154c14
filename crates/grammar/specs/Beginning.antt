-- Which bytes are right so far and what the next one must be; so where, and by which number, grammar bytes are refused.
use Rattle.std.specs.Prelude.{ℕ, ◌≤◌, ◌<◌, ◌≡◌, ◌≢◌, List, [], ◌∷◌, ◌++◌, length}
use Rattle.refusals.specs.declared.Row.{Row}
use Rattle.derivation.specs.Grammar.{Rule, Grammar, rule}
use Rattle.grammar.specs.Limits.{FlagsWithin, SymbolWithin, RuleWithin, WithinLimits}
use Rattle.grammar.specs.Repeats.{Repeats, Distinct}
use Rattle.grammar.specs.Encoding.{encode_rule, encode_rules, encode}

-- what the next byte must be: a count within its limits, a flag, a left category or a symbol of a grammar; or none may come
pub data NextByte : Type 0 where
  count_between : (low high : ℕ) → NextByte
  flag_byte : NextByte
  left_of symbol_of : Grammar → NextByte
  no_more : NextByte

-- byte y is right there
abbrev pub RightByte : NextByte → ℕ → Type 0
RightByte (count_between low high) y = (low ≤ y) × (y ≤ high)
RightByte flag_byte y = y ≤ 1
RightByte (left_of G) y = y < length G.categories
RightByte (symbol_of G) y = SymbolWithin G y
RightByte no_more y = ⊥

-- the number that refuses any other byte there
abbrev pub number_of : NextByte → ℕ
number_of (count_between low high) = 2
number_of flag_byte = 3
number_of (left_of G) = 4
number_of (symbol_of G) = 4
number_of no_more = 5

-- flags so far: as many as `many` are to stand, 1 to `most`, and each that stands is 0 or 1
pub record FlagsSoFar (most many : ℕ) (flags : List ℕ) : Type 0 where
  pub low : 1 ≤ many
  pub high : many ≤ most
  pub within : FlagsWithin flags

-- rules so far: P are to stand, at most 128, and those of G stand, which are fewer and all differ
pub record RulesSoFar (G : Grammar) (P : ℕ) : Type 0 where
  pub within : WithinLimits G
  pub distinct : Distinct G
  pub fewer : length G.rules < P
  pub high : P ≤ 128

-- the bytes up to there: those of `encode G`, with P for the count of rules
abbrev pub bytes_so_far : Grammar → ℕ → List ℕ
bytes_so_far G P =
    (length G.classes ∷ G.classes)
    ++ ((length G.categories ∷ G.categories)
    ++ (P ∷ encode_rules G.rules))

-- bytes that are right so far, and what the next one must be
pub data Beginning : List ℕ → NextByte → Type 0 where
  -- no byte: T is next
  no_byte : Beginning [] (count_between 1 128)
  -- T and fewer flags: a flag is next
  some_classes : {T : ℕ} {f : List ℕ} → FlagsSoFar 128 T f → length f < T → Beginning (T ∷ f) flag_byte
  -- T and all its flags: N is next
  all_classes : {f : List ℕ} → FlagsSoFar 128 (length f) f → Beginning (length f ∷ f) (count_between 1 32)
  -- then N and fewer flags: a flag is next
  some_categories : {N : ℕ} {f h : List ℕ} →
      FlagsSoFar 128 (length f) f → FlagsSoFar 32 N h → length h < N →
      Beginning ((length f ∷ f) ++ (N ∷ h)) flag_byte
  -- then N and all its flags: P is next
  all_categories : {f h : List ℕ} →
      FlagsSoFar 128 (length f) f → FlagsSoFar 32 (length h) h →
      Beginning ((length f ∷ f) ++ (length h ∷ h)) (count_between 0 128)
  -- then P and fewer rules: a left category is next
  some_rules : {G : Grammar} {P : ℕ} → RulesSoFar G P → Beginning (bytes_so_far G P) (left_of G)
  -- then a left category: k is next
  left_category : {G : Grammar} {P A : ℕ} →
      RulesSoFar G P → A < length G.categories →
      Beginning (bytes_so_far G P ++ (A ∷ [])) (count_between 0 8)
  -- then a left category, k and fewer symbols: a symbol is next
  some_symbols : {G : Grammar} {P A k : ℕ} {s : List ℕ} →
      RulesSoFar G P → RuleWithin G (rule A s) → length s < k → k ≤ 8 →
      Beginning (bytes_so_far G P ++ (A ∷ (k ∷ s))) (symbol_of G)
  -- the bytes of a whole grammar whose rules all differ: none may come
  whole_grammar : {G : Grammar} → WithinLimits G → Distinct G → Beginning (encode G) no_more

-- the number and place that refuse the bytes
pub data Refusing : List ℕ → Row → Type 0 where
  -- all are right, and one more is wanted
  ends_early : {b : List ℕ} {next : NextByte} →
      Beginning b next → next ≢ no_more →
      Refusing b (record { number = 1; place = length b })
  -- b is right, and the next byte is not
  not_right : {b : List ℕ} {next : NextByte} →
      Beginning b next → (y : ℕ) → ¬ RightByte next y → (rest : List ℕ) →
      Refusing (b ++ (y ∷ rest)) (record { number = number_of next; place = length b })
  -- rules so far, and then a whole rule that is one of them, whatever follows: the place is that of its left category
  rule_repeated : {G : Grammar} {P : ℕ} {r : Rule} →
      RulesSoFar G P → RuleWithin G r → Repeats G r → (rest : List ℕ) →
      Refusing (bytes_so_far G P ++ (encode_rule r ++ rest)) (record { number = 14; place = length (bytes_so_far G P) })

-- by `encode` alone: the encoding of a grammar within the limits begins so, be its rules different or not
pub record EncodingBegins (b : List ℕ) : Type 0 where
  pub rest : List ℕ
  pub grammar : Grammar
  pub within : WithinLimits grammar
  pub encoded : b ++ rest ≡ encode grammar
