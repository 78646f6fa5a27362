use Rattle.ob0_rpc.proofs.AppendedJson.{position_read, position_written}
use Rattle.ob0_rpc.proofs.ranges.write_position_ending_at.Goals as goal

pub returns-clause-text : goal.returns-clause-text
returns-clause-text c =
    position_written c.args.position _ _ _ _ _ _ c.write_verbatim_ending_at-index_after_line.ensures.text c.write_digits_ending_at-at_line.ensures.text c.write_verbatim_ending_at-index_after_character.ensures.text
    c.write_digits_ending_at-at_character.ensures.text c.write_verbatim_ending_at.ensures.text

pub returns-clause-reads : goal.returns-clause-reads
returns-clause-reads c = position_read c.args.position c.write_digits_ending_at-at_character.ensures.fits c.write_digits_ending_at-at_line.ensures.fits
