-- What the search needs: the rules of a grammar where they stand in its bytes, and memory that keeps the chart and the depths of a line.
use Rattle.std.specs.Prelude.{ℕ, ◌≤◌, ◌<◌, ◌≡◌, List, length, get_or}
use Rattle.derivation.specs.Grammar.{Grammar, Proper, rule_at}
use Rattle.derivation.specs.Node.{NodeValue}
use Rattle.derivation.specs.computed.Table.{depth_of}
use Rattle.derivation.specs.computed.Shown.{shown}
use Rattle.checks.specs.Memory.{chart_size, depths_size}
use Rattle.grammar.specs.Value.{Stands, standing}
use Rattle.grammar.specs.Checked.{grammar_in}
use Rattle.tree.specs.declared.kept.Span.{Span}
use Rattle.tree.specs.declared.search.Search.{Search}
use Rattle.tree.specs.inner.Sets.{CategoryKnown, WorkKept}

pub record Searchable (G : Grammar) (s : Search) : Type 0 where
  pub proper : Proper G
  pub few : length G.rules ≤ 128
  pub stands : (p : ℕ) → p < length G.rules → Stands s.grammar.view.bytes.now (get_or s.starts.now p 0)
  pub is : (p : ℕ) → p < length G.rules → standing s.grammar.view.bytes.now (get_or s.starts.now p 0) ≡ rule_at G p
  pub symbols : (p : ℕ) → p < length G.rules → (d : ℕ) → d < length (rule_at G p).right → CategoryKnown G (get_or (rule_at G p).right d 0)
  pub work : WorkKept G s.kept
  pub rows : chart_size (length G.categories) (length s.kept.line.now) ≤ length s.kept.words.now
  pub room : depths_size (length G.categories) (length s.kept.line.now) ≤ length s.kept.depths.now

-- the span's category derives it: a fact of the grammar on the line
pub record NodeAt (G : Grammar) (line : List ℕ) (span : Span) : Type 0 where
  pub category : span.category < length G.categories
  pub start : span.start ≤ length line
  pub end : span.end ≤ length line
  pub fact : 0 < depth_of G line span.category span.start span.end

-- both of the grammar that is searched, and the nodes that are shown of a span
abbrev pub Ready : Search → Span → Type 0
Ready s span = Searchable (grammar_in s.grammar) s × NodeAt (grammar_in s.grammar) s.kept.line.now span

abbrev pub nodes_of : Search → Span → List NodeValue
nodes_of s span = shown (grammar_in s.grammar) s.kept.line.now span.category span.start span.end
