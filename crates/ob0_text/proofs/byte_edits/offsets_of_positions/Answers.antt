use Rattle.std.proofs.Common.{◌≡◌, List, map, IfOk, subst}
use Rattle.ob0_text.specs.declared.position_types.Position.{Position}
use Rattle.ob0_text.specs.Texts.{offset_of}
use Rattle.ob0_text.specs.Units.{width_of}
use Rattle.ob0_text.proofs.byte_edits.offsets_of_positions.Goals as goal

pub returns : goal.returns
returns g c =
    let place = offset_of (width_of (g.T.TextStore.unit_of c.args.store.now)) (g.T.TextStore.content c.args.store.now) in
    subst (λ (ps : List Position). IfOk c.offsets.result (λ offsets. offsets.items ≡ map place ps)) c.deref.ensures.value c.offsets.ensures
