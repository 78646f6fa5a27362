use Rattle.std.proofs.Common.{sym, ◌∙◌}
use Rattle.ob0_scope.proofs.StillOnce.{nothing_twice}
use Rattle.ob0_scope.proofs.declaration_checks.recheck_declarations.Goals as goal

pub returns : goal.returns
returns c = c.new.ensures.items ∙ sym (nothing_twice c.args.read.now c.args.known.now c.requires (sym c.has_duplicate_or_end_name_fault.ensures ∙ c.if-has_duplicate_or_end_name_fault.false))
