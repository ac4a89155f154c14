-- The symbols of a rule as one word, by which the rules of a left category are told apart.
use Rattle.refusals.specs.declared.Refusal.{Refusal}
use Rattle.grammar.specs.declared.reading.PassedRule.{PassedRule}
use Rattle.std.specs.Prelude.{ℕ, ◌+◌, ◌*◌, ◌%◌, List, [], ◌∷◌, Err, Ok, Result}

-- each symbol and 1 as a digit of base 256, after those of `word`
unfoldable pub word_from : ℕ → List ℕ → ℕ
word_from word [] = word
word_from word (symbol ∷ symbols) = word_from (word * 256 + (symbol + 1)) symbols

abbrev pub word_of : List ℕ → ℕ
word_of symbols = word_from 0 symbols

-- the chain on which a rule is kept: one of 37 for its left category
abbrev pub chain_of : ℕ → ℕ → ℕ
chain_of left word = left * 37 + word % 37

-- a rule that was passed over, with its symbols as one word
abbrev pub with_word : Result ℕ Refusal → ℕ → Result PassedRule Refusal
with_word (Ok next) word = Ok (record { next = next; word = word })
with_word (Err refusal) word = Err refusal
