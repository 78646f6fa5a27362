use Rattle.std.proofs.Common.{[], ◌∷◌, refl, ap}
use Rattle.ob0_language_names.specs.ConsistentNames.{procedure_names}
use Rattle.ob0_language_names.specs.BlockParts.{procedure_name}
use Rattle.ob0_tree.specs.declared.tree.Procedure.{out-Procedure}
use Rattle.ob0_tree.specs.View.{items_of, procedure_of}
use Rattle.ob0_tree.proofs.Viewed.{procedure_parts}
use Rattle.ob0_scope.proofs.Checking.{gathered, gathers_on}
use Rattle.ob0_scope.proofs.declaration_checks.append_procedure_names.Goals as goal

pub loop-p-preserved : goal.loop-p-preserved
loop-p-preserved c =
    let p = c.p-item.result in
    gathers_on (λ xs. procedure_names (items_of procedure_of xs)) p ((out-Procedure p).name ∷ []) (λ rest. ap (λ q. procedure_name q ∷ procedure_names (items_of procedure_of rest)) (procedure_parts p)) c.loop-p.invariant c.loop-p-test.true c.p-item.is c.in_ok-push.ensures.items

pub returns : goal.returns
returns c = gathered (λ xs. procedure_names (items_of procedure_of xs)) refl c.loop-p.invariant c.loop-p-test.false
