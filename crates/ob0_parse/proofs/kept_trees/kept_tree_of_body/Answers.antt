use Rattle.std.proofs.Common.{List, Option, Some, arith, subst, sym, ◌∙◌}
use Rattle.std.specs.declared.vec.Vec.{Vec}
use Rattle.std.specs.declared.alloc.Global.{Global}
use Rattle.ob0_tree.specs.declared.tree.Procedure.{Procedure}
use Rattle.ob0_tree.specs.declared.tree.Statement.{Statement}
use Rattle.ob0_parse.specs.KeptTreeTokens.{ModuleEndsWithParts}
use Rattle.ob0_parse.proofs.FromTree.{body_there}
use Rattle.ob0_parse.proofs.kept_trees.kept_tree_of_body.Goals as goal

pub returns : goal.returns
returns c = λ ts h.
    let with_body = subst (λ (o : Option (Vec Statement Global)). ModuleEndsWithParts ts c.args.procedures.now.items o c.args.closing) c.in_ok-statements.was h in
    let with_last = subst (λ (ps : List Procedure). ModuleEndsWithParts ts ps (Some c.in_ok-statements.statements) c.args.closing) (sym c.deref.ensures.value ∙ c.in_ok-last.ensures.cases.0) with_body in
    rw c.in_ok-from.ensures.1 (body_there ts _ _ c.in_ok-statements.statements c.args.closing c.in_ok-next.next with_last (omega arith))
