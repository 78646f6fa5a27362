use Rattle.std.proofs.Common.{◌∙◌}
use Rattle.ob0_analysis.proofs.Scanning.{faulty_is_none, module_in}
use Rattle.ob0_analysis.proofs.questions.ask.Goals as goal

pub returns-in-Some-well_typed-clause-found : goal.returns-in-Some-well_typed-clause-found
returns-in-Some-well_typed-clause-found g c =
    let is = c.in-Some-well_typed.ensures ∙ c.in_ok-checked.ensures.names in (
      c.in-Some-well_typed.module,
      module_in c.args.analysis.now c.in-Some-well_typed.module c.in-Some.parts.now is c.in-Some.ensures c.resolved-names.ensures.well_typed,
      c.in_ok-answer-in-Some-well_typed.ensures,
    )

pub returns-clause-found : goal.returns-clause-found
returns-clause-found g c =
    faulty_is_none c.args.analysis.now c.in_ok-checked.checked c.in-Some.parts.now c.in_ok-checked.ensures.names c.scan_is_unique.ensures c.tree_is_unique.ensures c.in-Some.ensures
    c.in_ok-checked.ensures.checked c.in-None.ensures
