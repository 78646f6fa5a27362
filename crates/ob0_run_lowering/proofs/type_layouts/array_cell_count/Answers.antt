use Rattle.std.proofs.Common.{◌≡◌, Some, None, slice_get, sym, ap, ◌∙◌}
use Rattle.ob0_run_lowering.proofs.LaidOut.{array_size, array_size-at, read-past, read-there}
use Rattle.ob0_run_lowering.proofs.type_layouts.array_cell_count.Goals as goal

pub returns-in-None : goal.returns-in-None
returns-in-None c =
    let there : slice_get c.args.layouts.now c.args.place ≡ None = read-past c.args.layouts.now c.args.place c.in-None.ensures.lookup.0 in
    λ shapes laid. sym (ap array_size there) ∙ array_size-at shapes c.args.layouts.now c.args.place laid

pub returns-in-Array : goal.returns-in-Array
returns-in-Array c =
    let there : slice_get c.args.layouts.now c.args.place ≡ Some c.in-Some.layout.now = read-there c.args.layouts.now c.args.place c.in-Some.layout.now _ c.in-Some.ensures.lookup.0 c.in-Some.ensures.lookup.1 in
    λ shapes laid. sym (ap array_size (there ∙ ap Some c.in-Array.is)) ∙ array_size-at shapes c.args.layouts.now c.args.place laid

pub returns-in-Record : goal.returns-in-Record
returns-in-Record c =
    let there : slice_get c.args.layouts.now c.args.place ≡ Some c.in-Some.layout.now = read-there c.args.layouts.now c.args.place c.in-Some.layout.now _ c.in-Some.ensures.lookup.0 c.in-Some.ensures.lookup.1 in
    λ shapes laid. sym (ap array_size (there ∙ ap Some c.in-Record.is)) ∙ array_size-at shapes c.args.layouts.now c.args.place laid
