use Rattle.grammar.specs.Checked.{grammar_in}
use Rattle.marks.proofs.MarkLaws.{SpansReach, MarkedBelow}
use Rattle.marks.proofs.mark_tokens.Given as goal

-- the tokens below `token` have their marks, and `reach` is how far the secret spans reach that begin before it
abbrev pub invariant-loop-token : goal.invariant-loop-token
invariant-loop-token l = record {
  spans : SpansReach (grammar_in l.grammar) l.line l.token l.reach;
  below : MarkedBelow (grammar_in l.grammar) l.line l.fn.marks l.token l.marks l.secret;
}
