use Rattle.ob0_world_determined.proofs.laws.serve_ends_like_session.Goals as goal
use Rattle.ob0_world_determined.proofs.Streams.{ended_conversation_is_served}

pub returns : goal.returns
returns c = ended_conversation_is_served c.conversation_is_determined.ensures c.feeding_result_is_unique.ensures c.empty_feed_completes_nothing.ensures c.written_frames_are_read.ensures
