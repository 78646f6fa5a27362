use Rattle.std.proofs.Common.{◌≡◌, false, map, take}
use Rattle.std.specs.List.{flat_map}
use Rattle.ob0_frame.specs.Frames.{frame}
use Rattle.ob0_session.specs.ServeSteps.{WritesToStream}
use Rattle.ob0_session.proofs.serve_loop.write_all_frames.Given as goal

abbrev pub invariant-loop-i : goal.invariant-loop-i
invariant-loop-i g l = record {
  sent : WritesToStream (g.S.Stream.state l.fn.stream) (g.S.Stream.state l.stream) (flat_map frame (map (λ v. v.items) (take l.i l.messages)));
  not_failed : (g.S.Stream.state l.stream).output.has_failed ≡ false;
}
