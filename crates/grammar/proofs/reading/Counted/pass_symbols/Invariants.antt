-- The symbols that are left, from here and after this word, give what all give from the start, and the word of all fits.
use Rattle.std.proofs.Common.{◌≡◌, ◌+◌, ◌-◌, ◌^◌, ◌<◌, take, drop}
use Rattle.grammar.specs.Reading.{symbols_from}
use Rattle.grammar.specs.inner.Words.{word_from, word_of, with_word}
use Rattle.grammar.proofs.WordLaws.{Fits}
use Rattle.grammar.proofs.reading.Counted.pass_symbols.Given as goal

abbrev pub invariant-loop-k : goal.invariant-loop-k
invariant-loop-k l = record {
  fits : l.at + l.k < 2 ^ 64;
  word_fits : Fits l.word (l.count - l.k);
  same :
      with_word (symbols_from l.self.bytes.now l.self.classes l.self.categories (l.count - l.k) (l.at + l.k)) (word_from l.word (take (l.count - l.k) (drop (l.at + l.k) l.self.bytes.now)))
      ≡ with_word (symbols_from l.self.bytes.now l.self.classes l.self.categories l.count l.at) (word_of (take l.count (drop l.at l.self.bytes.now)));
}
