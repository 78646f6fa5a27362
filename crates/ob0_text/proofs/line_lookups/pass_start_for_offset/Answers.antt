use Rattle.ob0_text.proofs.line_lookups.pass_start_for_offset.Goals as goal

pub returns-clause-place : goal.returns-clause-place
returns-clause-place c = λ unit _. c.line_start_before_offset-start.ensures.place unit
