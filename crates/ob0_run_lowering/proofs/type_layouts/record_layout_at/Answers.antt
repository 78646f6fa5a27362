use Rattle.std.proofs.Common.{◌≡◌, Some, None, slice_get, slice_index_or, ap, ◌∙◌, subst}
use Rattle.ob0_types_table.specs.DeclarationTableView.{faulty_shape, record_shape_or_faulty}
use Rattle.ob0_run_lowering.proofs.LaidOut.{HasRecord, read-past, read-there, record-there}
use Rattle.ob0_run_lowering.proofs.type_layouts.record_layout_at.Goals as goal

pub returns-in-None : goal.returns-in-None
returns-in-None c =
    let there : slice_get c.args.layouts.now c.args.place ≡ None = read-past c.args.layouts.now c.args.place c.in-None.ensures.lookup.0 in
    λ shapes laid. subst (λ o. HasRecord o (record_shape_or_faulty (slice_index_or shapes c.args.place faulty_shape))) there (record-there shapes c.args.layouts.now c.args.place laid)

pub returns-in-Record : goal.returns-in-Record
returns-in-Record c =
    let there : slice_get c.args.layouts.now c.args.place ≡ Some c.in-Some.layout.now = read-there c.args.layouts.now c.args.place c.in-Some.layout.now _ c.in-Some.ensures.lookup.0 c.in-Some.ensures.lookup.1 in
    λ shapes laid. subst (λ o. HasRecord o (record_shape_or_faulty (slice_index_or shapes c.args.place faulty_shape))) (there ∙ ap Some c.in-Record.is) (record-there shapes c.args.layouts.now c.args.place laid)

pub returns-in-Array : goal.returns-in-Array
returns-in-Array c =
    let there : slice_get c.args.layouts.now c.args.place ≡ Some c.in-Some.layout.now = read-there c.args.layouts.now c.args.place c.in-Some.layout.now _ c.in-Some.ensures.lookup.0 c.in-Some.ensures.lookup.1 in
    λ shapes laid. subst (λ o. HasRecord o (record_shape_or_faulty (slice_index_or shapes c.args.place faulty_shape))) (there ∙ ap Some c.in-Array.is) (record-there shapes c.args.layouts.now c.args.place laid)
