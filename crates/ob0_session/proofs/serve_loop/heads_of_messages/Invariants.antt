use Rattle.std.proofs.Common.{◌≡◌, length, map, take}
use Rattle.ob0_frame.specs.Frames.{written_head}
use Rattle.ob0_session.proofs.serve_loop.heads_of_messages.Given as goal

abbrev pub invariant-loop-message : goal.invariant-loop-message
invariant-loop-message l = map (λ v. v.items) l.heads.items ≡ map (λ v. written_head (length v.items)) (take l.message-index l.messages)
