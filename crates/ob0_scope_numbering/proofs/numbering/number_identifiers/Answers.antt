use Rattle.std.proofs.Common.{◌∙◌, subst}
use Rattle.std.proofs.lemmas.Result.{MatchResult-weaker}
use Rattle.ob0_scan.specs.TextWithTokens.{IsScan}
use Rattle.ob0_scope_numbering.proofs.Tabled.{module_tabled}
use Rattle.ob0_scope_numbering.proofs.numbering.number_identifiers.Goals as goal

pub returns : goal.returns
returns c =
    let m = c.args.read.now in
    let scan = subst IsScan c.tokens.ensures.source c.text-scanned.ensures.scan in
    MatchResult-weaker c.visit_module.result c.visit_module.ensures (λ n e. e ∙ module_tabled m c.args.spellings c.tokens.ensures.parsed scan) (λ y h. h)
