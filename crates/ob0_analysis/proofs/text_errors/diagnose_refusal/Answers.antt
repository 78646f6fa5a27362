use Rattle.std.proofs.Common.{inr}
use Rattle.ob0_analysis.proofs.Scanning.{finds_parser}
use Rattle.ob0_analysis.proofs.text_errors.diagnose_refusal.Goals as goal

pub returns : goal.returns
returns c =
    rw (c.in_ok-push.ensures.items, c.new-reported.ensures.items)
    (inr (finds_parser c.args.tokens.now c.args.refusal.now _ c.scan_is_unique.ensures c.text-text.ensures.scan c.requires c.in_ok-diagnosis_of_refusal.ensures))
