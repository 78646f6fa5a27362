use Rattle.ob0_tests_session.proofs.Recording.{recorded_from_empty}
use Rattle.ob0_tests_session.proofs.recorder.serve_recorded.Goals as goal

pub returns : goal.returns
returns g c =
    let p = c.serve_stream.ensures.prompt in
    recorded_from_empty _ _ p.0 c.requires.empty p.1 p.2
