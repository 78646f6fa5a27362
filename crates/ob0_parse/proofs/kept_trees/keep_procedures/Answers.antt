use Rattle.std.proofs.Common.{List, subst}
use Rattle.std.proofs.lemmas.List.Elements.{All-push}
use Rattle.ob0_tree.specs.declared.tree.Procedure.{Procedure}
use Rattle.ob0_parse.specs.KeptTreeTokens.{TokensContainProcedures, KeptTreeMatchesTokens}
use Rattle.ob0_parse.proofs.FromTree.{last_procedure}
use Rattle.ob0_parse.proofs.kept_trees.keep_procedures.Goals as goal

pub loop-procedure-preserved : goal.loop-procedure-preserved
loop-procedure-preserved c = λ ts spelled kept.
    let so_far = c.loop-procedure.invariant ts spelled kept in
    let parts = last_procedure ts c.pop.new.self.items c.in-Some.procedure (subst (λ (l : List Procedure). TokensContainProcedures ts l) c.in-Some.ensures.items so_far.0) in
    (parts.0, rw c.in_ok-push.ensures.items (All-push (KeptTreeMatchesTokens ts) c.loop-procedure.kept.items _ so_far.1 (rw (c.saturating_sub-at.ensures, c.in-Some-checked_add.ensures.1) parts.1)))

pub returns-in_err-push : goal.returns-in_err-push
returns-in_err-push c = λ ts spelled kept. rw c.in_err-push.ensures.items (c.loop-procedure.invariant ts spelled kept).1

pub returns-in_default-checked_add : goal.returns-in_default-checked_add
returns-in_default-checked_add c = λ ts spelled kept. (c.loop-procedure.invariant ts spelled kept).1

pub returns : goal.returns
returns c = λ ts spelled kept. (c.loop-procedure.invariant ts spelled kept).1
