use Rattle.std.proofs.Common.{◌∙◌, ap, subst}
use Rattle.ob0_scan.specs.TextWithTokens.{IsScan}
use Rattle.ob0_scope_table.specs.Resolution.{Resolution}
use Rattle.ob0_rename.proofs.Spelled.{field_spelled}
use Rattle.ob0_rename.proofs.identifier_tokens.resolved_identifier_at.Goals as goal

pub returns-clause-spelled : goal.returns-clause-spelled
returns-clause-spelled c =
    let r = c.args.well_typed.now in
    let source = c.tokens.ensures ∙ ap (λ (r : Resolution). r.module_read.source) c.resolved.ensures.value in
    let scan = subst IsScan source c.text-text.ensures.scan in
    field_spelled r.module_read c.identifier_meaning_at_offset.result scan c.identifier_meaning_at_offset.ensures.are_identifiers
