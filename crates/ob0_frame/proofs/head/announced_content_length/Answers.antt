use Rattle.std.proofs.Common.{arith}
use Rattle.std.proofs.lemmas.Option.{IfSome_then}
use Rattle.ob0_frame.proofs.Accepting.{announces}
use Rattle.ob0_frame.proofs.head.announced_content_length.Goals as goal

pub returns-in_ok-content_length_span-in-Ok-Complete-clause-accepted :
    goal.returns-in_ok-content_length_span-in-Ok-Complete-clause-accepted
returns-in_ok-content_length_span-in-Ok-Complete-clause-accepted c =
    let section = rw c.in-Ok-Complete.field-0-is at c.in-Ok-Complete.ensures.complete in
    IfSome_then c.parse_content_length.result c.parse_content_length.ensures.size (λ size text_is_size.
    announces c.args.head.now c.parse_headers.new.headers c.in-Ok-Complete.len c.in-Ok-Complete.count c.of.result.now size
    c.requires.whole c.requires.short (omega (arith, c.parse_headers.auto.headers)) section c.if-len-head.true
    (rw c.of.ensures c.in_ok-content_length_span-in-Ok-Complete.ensures.found) text_is_size)
