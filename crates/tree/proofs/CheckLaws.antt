-- What is known of read sections, so that the tree's search can begin.
use Prim.Native.Nat.{ℕ, ◌≤◌, ◌<◌}
use mathlib.Core.List.{List}
use lib.ListN.{length}
use Rattle.checks.specs.Memory.{chart_size, depths_size}
use Rattle.grammar.specs.declared.reading.Sections.{Sections}
use Rattle.grammar.specs.Value.{Sectioned, grammar_of}
use Rattle.grammar.specs.inner.Starts.{Starts}
use Rattle.grammar.proofs.Accepted.{whole}
use Rattle.grammar.proofs.Encoded.{category_count_lem, rule_count_lem, sections_within, sections_proper}
use Rattle.tree.specs.declared.search.Search.{Search}
use Rattle.tree.specs.inner.Sets.{WorkKept}
use Rattle.grammar.specs.Checked.{grammar_in}
use Rattle.tree.specs.inner.Searchable.{Searchable}

-- a category of read sections is one of their grammar's
pub category_known : (g : List ℕ) (s : Sections) → Sectioned g s → (A : ℕ) → A < s.categories → A < length (grammar_of g s).categories
category_known g s e A l = rw (category_count_lem g s e) l

-- a grammar, where its rules stand, and memory that keeps the chart and the depths are ready to be searched
pub searchable : (f : Search) → Starts f.grammar.view.bytes.now f.grammar.view.sections f.starts.now →
    chart_size f.grammar.view.sections.categories (length f.kept.line.now) ≤ length f.kept.words.now →
    depths_size f.grammar.view.sections.categories (length f.kept.line.now) ≤ length f.kept.depths.now → WorkKept (grammar_in f.grammar) f.kept → Searchable (grammar_in f.grammar) f
searchable f found rows room work =
    let g = f.grammar.view.bytes.now in
    let s = f.grammar.view.sections in
    let e = f.grammar.sectioned in
    record {
      proper = sections_proper g s e;
      few = rw (rule_count_lem g s e) (whole g s e).rules_high;
      stands = λ p l. (found.found p (rw (rule_count_lem g s e) at l)).stands;
      is = λ p l. (found.found p (rw (rule_count_lem g s e) at l)).is;
      symbols = λ p l d k. (((sections_within g s e).each p l).symbols d k).category;
      work = work;
      rows = rw (category_count_lem g s e) rows;
      room = rw (category_count_lem g s e) room;
    }
