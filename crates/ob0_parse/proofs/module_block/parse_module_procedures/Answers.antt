use Rattle.std.proofs.lemmas.Result.{err_from_is_err_and}
use Rattle.ob0_tree.specs.Tree.{procedure}
use Rattle.ob0_tree.specs.View.{items_of, procedure_of}
use Rattle.ob0_parse_descent.proofs.Items.{taking_none, taking_more, taking_done, taking_fails}
use Rattle.ob0_parse.proofs.FromTree.{spelled_so_far}
use Rattle.ob0_parse.proofs.module_block.parse_module_procedures.Goals as goal

pub loop-procedure-init : goal.loop-procedure-init
loop-procedure-init c = record { taking = rw c.clear.ensures.items (taking_none procedure _ _ _ c.requires.at); kept = c.requires.kept }

pub returns-in_err-procedure-clause-read : goal.returns-in_err-procedure-clause-read
returns-in_err-procedure-clause-read c =
    let p = err_from_is_err_and c.from_residual.result c.from_residual.ensures.1 in
    rw (p.1, p.2) (taking_fails (items_of procedure_of c.loop-procedure.procedures.items) c.loop-procedure.invariant.taking c.in_err-procedure.ensures.read)

pub returns-in_err-procedure-clause-procedures : goal.returns-in_err-procedure-clause-procedures
returns-in_err-procedure-clause-procedures c = spelled_so_far c.loop-procedure.invariant.taking

pub returns-in_err-push_with_doubling-clause-procedures : goal.returns-in_err-push_with_doubling-clause-procedures
returns-in_err-push_with_doubling-clause-procedures c = rw c.in_err-push_with_doubling.ensures.same (spelled_so_far c.loop-procedure.invariant.taking)

pub loop-procedure-preserved : goal.loop-procedure-preserved
loop-procedure-preserved c =
    let item = rw c.in-Some.is at c.in_ok-procedure.ensures.read in
    record {
      taking = rw c.in_ok-push_with_doubling.ensures.added (taking_more procedure_of c.loop-procedure.procedures.items c.in-Some.procedure _ _ _ _ _ c.loop-procedure.invariant.taking item.0);
      kept = c.in_ok-procedure.ensures.kept;
    }

pub returns-clause-read : goal.returns-clause-read
returns-clause-read c =
    let absent = rw c.in_default.is at c.in_ok-procedure.ensures.read in
    taking_done (items_of procedure_of c.loop-procedure.procedures.items) c.loop-procedure.invariant.taking absent

pub returns-clause-procedures : goal.returns-clause-procedures
returns-clause-procedures c = spelled_so_far c.loop-procedure.invariant.taking
