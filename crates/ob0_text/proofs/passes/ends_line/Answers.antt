use Rattle.std.proofs.Common.{sym, ap, ◌∙◌, not, refl, arith}
use Rattle.std.proofs.lemmas.Grind.{common_steps}
use Rattle.ob0_text.specs.Texts.{ends_line}
use Rattle.ob0_text.proofs.FirstBytes.{starts_with_lf-chars}
use Rattle.ob0_text.proofs.passes.ends_line.Goals as goal

pub returns-then-c-eq10 : goal.returns-then-c-eq10
unfolding ends_line
returns-then-c-eq10 c = rw c.if-c-eq10.true refl

pub returns-then-c-eq13 : goal.returns-then-c-eq13
unfolding ends_line
returns-then-c-eq13 c =
    let first = starts_with_lf-chars c.args.rest.now c.utf8.rest in
    let reported = c.starts_with.ensures.byte (omega arith) (omega arith) (λ w o h. h) in
    rw c.if-c-eq13.true (ap not (reported ∙ sym first))

pub returns-else-c-eq13 : goal.returns-else-c-eq13
unfolding ends_line
returns-else-c-eq13 c = grind (arith, common_steps)
