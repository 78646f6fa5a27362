use Rattle.std.proofs.Common.{◌≡◌, rules}
use Rattle.ob0_session.proofs.serve_loop.serve.Goals as goal

pub returns : goal.returns
returns g c =
    let r : c.reader-1.given.0 ≡ c.serve_stream.new.stream.reader.now = search rules in
    let w : c.writer-1.given.0 ≡ c.serve_stream.new.stream.writer.now = search rules in
    rw (r, w) c.serve_stream.ensures.served
