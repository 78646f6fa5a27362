use Rattle.std.proofs.Common.{sym, ap, ◌∙◌}
use Rattle.ob0_tree.specs.Module.{terminals_of_text}
use Rattle.ob0_scan.proofs.Spans.{scan_is_unique}
use Rattle.ob0_inline.proofs.nesting_limit.text_can_be_parsed.Goals as goal

pub returns-in-Ok-clause-shallow : goal.returns-in-Ok-clause-shallow
returns-in-Ok-clause-shallow c = λ s t scan text spelled.
    let one = scan_is_unique s c.in-Ok.tokens scan c.in-Ok.ensures.ok.scan (text ∙ sym c.in-Ok.ensures.ok.of) in
    c.tokens_can_be_parsed.ensures.shallow t (ap terminals_of_text (sym one) ∙ spelled)
