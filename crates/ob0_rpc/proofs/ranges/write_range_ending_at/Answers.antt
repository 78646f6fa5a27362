use Rattle.ob0_rpc.proofs.AppendedJson.{range_read, range_text}
use Rattle.ob0_rpc.proofs.ranges.write_range_ending_at.Goals as goal

pub returns-clause-text : goal.returns-clause-text
returns-clause-text c =
    range_text c.args.start c.args.end _ _ _ _ _ _ c.write_verbatim_ending_at-index_after_start.ensures.text c.write_position_ending_at-at_start.ensures.text c.write_verbatim_ending_at-index_after_end.ensures.text
    c.write_position_ending_at-at_end.ensures.text c.write_verbatim_ending_at.ensures.text

pub returns-clause-reads : goal.returns-clause-reads
returns-clause-reads c = range_read c.args.start c.args.end c.write_position_ending_at-at_start.ensures.reads c.write_position_ending_at-at_end.ensures.reads
