use mir.Val.{SFits}
use Rattle.std.proofs.Math.Facts.{to_z-of_z}
use Rattle.std.proofs.Common.{rules, w32, ap, refl, ◌∙◌}
use Rattle.ob0_run_machine.specs.Evaluation.{cell_at, gives, ◌>>=◌}
use Rattle.ob0_run_machine.specs.LoweredSyntax.{cell, literal}
use Rattle.ob0_run_machine.specs.LoweredCodeViews.{truth_of, variable_of, variable_comparison}
use Rattle.ob0_run_machine.proofs.statements.recognize_counting_condition.Goals as goal

pub returns-in-VariableLessThanLiteral : goal.returns-in-VariableLessThanLiteral
returns-in-VariableLessThanLiteral c =
    let a : SFits w32 c.in-VariableLessThanLiteral.n = search rules in
    rw (to_z-of_z a) (literal _, ap truth_of c.in-VariableLessThanLiteral.is, λ cells. refl)

pub returns-in-Less : goal.returns-in-Less
returns-in-Less c =
    let i = c.in-VariableComparedToVariable in
    (cell (variable_of _), ap truth_of i.is ∙ ap (λ r. variable_comparison r i.v (cell (variable_of i.w))) c.in-Less.is, λ cells. ap (λ o. o >>= (λ a. gives (cell_at cells a))) (c.variable_address.ensures cells))
