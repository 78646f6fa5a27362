use Rattle.std.proofs.Common.{subst}
use Rattle.ob0_tree.specs.Tree.{nesting}
use Rattle.ob0_parse.specs.IsRightParseRefusal.{IsRightParseRefusal}
use Rattle.ob0_inline.proofs.Depths.{shallow_where_parsed, deep_where_refused, shallow_is, deep_is}
use Rattle.ob0_inline.proofs.nesting_limit.tokens_can_be_parsed.Goals as goal

pub returns-in-Ok-clause-shallow : goal.returns-in-Ok-clause-shallow
returns-in-Ok-clause-shallow c = λ t spelled.
    shallow_is (nesting t) (shallow_where_parsed c.args.tokens.now t spelled c.in-Ok._module c.in-Ok.ensures.found.0 c.in-Ok.ensures.found.1)

pub returns-in-Syntax-clause-shallow : goal.returns-in-Syntax-clause-shallow
returns-in-Syntax-clause-shallow c = λ t spelled. deep_is (nesting t) (deep_where_refused c.args.tokens.now t spelled c.in-Syntax.token (subst (IsRightParseRefusal c.args.tokens.now) c.in-Syntax.is c.in-Err.ensures.refused).1)

pub returns-in-TooDeep-clause-shallow : goal.returns-in-TooDeep-clause-shallow
returns-in-TooDeep-clause-shallow c = λ t spelled. deep_is (nesting t) (deep_where_refused c.args.tokens.now t spelled c.in-TooDeep.token (subst (IsRightParseRefusal c.args.tokens.now) c.in-TooDeep.is c.in-Err.ensures.refused).1)
