use Rattle.std.proofs.Common.{arith}
use Rattle.ob0_parse_descent.proofs.Rest.{rest_more, rest_end}
use Rattle.ob0_parse_descent.proofs.parser.Parser.kind.Goals as goal

pub returns-then-at-self-clause-here : goal.returns-then-at-self-clause-here
returns-then-at-self-clause-here c = rest_more _ _ _ c.if-at-self.true

pub returns-else-at-self-clause-here : goal.returns-else-at-self-clause-here
returns-else-at-self-clause-here c = rest_end _ _ (omega arith)
