use Rattle.std.proofs.Common.{map, ap}
use Rattle.ob0_types_check.specs.CheckerViews.{composite_type_of}
use Rattle.ob0_types_check.proofs.SameFacts.{declared_within}
use Rattle.ob0_types_check.proofs.reporting.checker_state.CheckerState.set_meaning_of_ordinal.Goals as goal

pub returns-then-ordinal-len : goal.returns-then-ordinal-len
returns-then-ordinal-len c =
    let s = c.args.self.now in
    ap (λ d. record { source = s.resolved.now.module_read.source; ordinals = s.resolved.now.ordinals; declared = d; made = map composite_type_of s.composites.items }) (declared_within s.meanings.items c.args.ordinal c.args.meaning)
