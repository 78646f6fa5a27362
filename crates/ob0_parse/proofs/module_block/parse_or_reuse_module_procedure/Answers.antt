use Rattle.std.proofs.Common.{refl}
use Rattle.ob0_parse_descent.proofs.Leads.{no_item}
use Rattle.ob0_parse.proofs.module_block.parse_or_reuse_module_procedure.Goals as goal

pub returns-then-not-has_reserved_word_at-clause-read : goal.returns-then-not-has_reserved_word_at-clause-read
returns-then-not-has_reserved_word_at-clause-read c = no_item 15 refl c.if-not-has_reserved_word_at.ensures

pub returns-in-Procedure-clause-read : goal.returns-in-Procedure-clause-read
returns-in-Procedure-clause-read c = rw c.in-Procedure.is at c.in-Some.ensures.taken
