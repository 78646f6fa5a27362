use Rattle.std.proofs.Common.{◌≡◌, length, map, take, IfSome}
use Rattle.std.specs.Option.{option_to_list}
use Rattle.httparse.specs.Spans.{IsWithin, header_bytes, span_bytes}
use Rattle.ob0_frame.specs.Head.{content_length_values_in}
use Rattle.ob0_frame.proofs.head.content_length_span.Given as goal

-- The loop's invariant: the value that was found, if any, is the only one so far.
abbrev pub invariant-loop-field : goal.invariant-loop-field
invariant-loop-field l = record {
  within : IfSome l.found (IsWithin (length l.head));
  found : content_length_values_in (map (header_bytes l.head) (take l.field-index l.fields)) ≡ map (span_bytes l.head) (option_to_list l.found);
}
