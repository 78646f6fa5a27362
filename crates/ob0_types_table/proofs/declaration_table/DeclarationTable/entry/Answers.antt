use Rattle.std.proofs.Common.{Some, ap, arith, sym, ◌∙◌}
use Rattle.std.proofs.lemmas.Option.{slice_get-get_or, slice_get_past}
use Rattle.ob0_types_table.proofs.DeclarationTableView.{counted_at-table, shape_at-past, shape_at-table}
use Rattle.ob0_types_table.proofs.declaration_table.DeclarationTable.entry.Goals as goal

pub returns-then-place-len : goal.returns-then-place-len
returns-then-place-len c =
    rw (← c.self.view_is) (record {
      found = ap Some c.index.ensures ∙ sym (slice_get-get_or c.self.inside.shapes.items c.args.place c.index.result.now (grind arith));
      shape = (
        shape_at-table c.self.inside.shapes.items c.args.place c.index.result.now c.self.invariant (grind arith) c.index.ensures,
        counted_at-table c.self.inside.shapes.items c.args.place c.index.result.now c.self.invariant (grind arith) c.index.ensures,
      );
    })

pub returns-else-place-len : goal.returns-else-place-len
returns-else-place-len c =
    rw (← c.self.view_is) (record {
      found = sym (slice_get_past c.self.inside.shapes.items c.args.place (grind arith));
      shape = shape_at-past c.self.inside.shapes.items c.args.place (grind arith);
    })
