use Rattle.std.proofs.Common.{All, List, vec_len}
use Rattle.ob0_scan.specs.declared.lexeme.Token.{Token}
use Rattle.ob0_parse.specs.KeptTreeTokens.{TokensContainProcedures, KeptTreeMatchesTokens}
use Rattle.ob0_parse.proofs.kept_trees.keep_procedures.Given as goal

abbrev pub invariant-loop-procedure : goal.invariant-loop-procedure
invariant-loop-procedure l = (ts : List Token) → TokensContainProcedures ts l.initial.procedures.items → All (KeptTreeMatchesTokens ts) l.initial.kept.items → TokensContainProcedures ts l.procedures.items × All (KeptTreeMatchesTokens ts) l.kept.items

abbrev pub decreases-loop-procedure : goal.decreases-loop-procedure
decreases-loop-procedure l = vec_len l.procedures
