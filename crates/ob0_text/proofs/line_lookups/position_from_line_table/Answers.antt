use Rattle.ob0_text.proofs.line_lookups.position_from_line_table.Goals as goal

pub advance_to_offset-requires-clause-place : goal.advance_to_offset-requires-clause-place
advance_to_offset-requires-clause-place c = c.line_start_before_offset-place.ensures.place c.args.unit
