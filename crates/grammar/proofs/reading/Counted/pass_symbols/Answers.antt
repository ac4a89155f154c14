-- The word fits with each symbol, and with it the symbols after that give what all give.
use Rattle.std.proofs.Common.{◌≡◌, true, ◌+◌, ◌-◌, refl, sym, ◌∙◌, arith}
use mathlib.Core.Path.{ap₂}
use Rattle.grammar.specs.Reading.{byte, is_symbol}
use Rattle.grammar.specs.inner.Words.{with_word}
use Rattle.grammar.proofs.ReadingLaws.{each_next}
use Rattle.grammar.proofs.WordLaws.{fits_none, symbol_fits, word_step}
use Rattle.grammar.proofs.reading.Counted.pass_symbols.Goals as goal

pub loop-k-init : goal.loop-k-init
loop-k-init c =
    let start : c.args.at + 0 ≡ c.args.at = omega arith in
    let all : c.args.count - 0 ≡ c.args.count = omega arith in
    record { fits = omega arith; word_fits = rw all (fits_none c.args.count c.requires); same = rw (start, all) refl }

pub overflow_mul-word : goal.overflow_mul-word
overflow_mul-word c =
    let right = sym c.is_symbol.ensures ∙ c.if-not-is_symbol.false in
    omega (arith, (symbol_fits _ _ _ _ _ _ c.args.self.limits.0 c.args.self.limits.1 right c.loop-k-test.true c.loop-k.invariant.word_fits).0)

pub overflow_add-word-in-loop-k : goal.overflow_add-word-in-loop-k
overflow_add-word-in-loop-k c =
    let right = sym c.is_symbol.ensures ∙ c.if-not-is_symbol.false in
    omega (arith, c.from.ensures, (symbol_fits _ _ _ _ _ _ c.args.self.limits.0 c.args.self.limits.1 right c.loop-k-test.true c.loop-k.invariant.word_fits).0)

pub loop-k-preserved : goal.loop-k-preserved
loop-k-preserved c =
    let l = c.loop-k in
    let here = c.in_ok-symbol.ensures in
    let right = sym c.is_symbol.ensures ∙ c.if-not-is_symbol.false in
    let passed : is_symbol c.args.self.classes c.args.self.categories (byte c.args.self.bytes.now (c.args.at + l.k)) ≡ true = rw here.1 at right in
    record {
      fits = omega (arith, here.0);
      word_fits = rw c.from.ensures (symbol_fits _ _ _ _ _ _ c.args.self.limits.0 c.args.self.limits.1 right c.loop-k-test.true l.invariant.word_fits).1;
      same =
          rw (c.from.ensures, here.1)
          (sym (ap₂ with_word (each_next _ _ _ _ _ _ c.loop-k-test.true here.0 passed) (word_step _ l.word _ _ _ c.loop-k-test.true here.0))
          ∙ l.invariant.same);
    }
