use Rattle.std.proofs.Common.{◌≡◌, ◌∙◌, true, false, sym}
use Rattle.ob0_edits.proofs.memory_refusals.memory_refusal_as_error.Goals as goal

pub returns-in-Ok : goal.returns-in-Ok
returns-in-Ok c = (sym c.in-Ok.is, tt)

pub returns-else-eq : goal.returns-else-eq
returns-else-eq c = (sym c.in-Err.is, (λ wants. let alike = rw wants at c.eq.ensures in let both : true ≡ false = sym alike ∙ c.if-eq.false in cc))
