use Rattle.std.proofs.Common.{◌++◌, ◌∷◌, [], pos, arith, sym, ap, ◌∙◌}
use Rattle.std.proofs.lemmas.List.{append-nil, append_assoc, replicate_more}
use Rattle.ob0_run_machine.specs.Execution.{zeros}
use Rattle.ob0_run_machine.proofs.memory.Memory.push_zeros.Goals as goal

pub loop-cell-init : goal.loop-cell-init
loop-cell-init c = (sym (append-nil c.args.cells.now.items), omega arith)

pub loop-cell-preserved : goal.loop-cell-preserved
loop-cell-preserved c =
    let items = c.in_ok-push.ensures.items ∙ ap (λ xs. xs ++ pos 0 ∷ []) c.loop-cell.invariant.0
    ∙ append_assoc c.args.cells.now.items (zeros c.loop-cell._cell) (pos 0 ∷ [])
    ∙ ap (λ xs. c.args.cells.now.items ++ xs) (replicate_more c.loop-cell._cell (pos 0)) in
    (items, omega (arith, c.loop-cell.invariant.1, c.push.ensures.capacity))

pub returns-clause-items : goal.returns-clause-items
returns-clause-items c = c.loop-cell.invariant.0 ∙ ap (λ n. c.args.cells.now.items ++ zeros n) (omega arith)
