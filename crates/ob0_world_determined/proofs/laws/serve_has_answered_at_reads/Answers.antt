use Rattle.ob0_world_determined.proofs.laws.serve_has_answered_at_reads.Goals as goal
use Rattle.ob0_world_determined.proofs.Streams.{conversation_is_served_at_reads}

pub returns : goal.returns
returns c = conversation_is_served_at_reads c.conversation_is_determined.ensures c.feeding_result_is_unique.ensures c.empty_feed_completes_nothing.ensures c.written_frames_are_read.ensures
