use Rattle.std.proofs.Common.{Some, ap, subst, arith}
use Rattle.ob0_tree.specs.Tree.{one, begins}
use Rattle.ob0_tree.specs.View.{procedure_of, body_of}
use Rattle.ob0_parse.specs.KeptTreeTokens.{TokenEndsTree, ShiftedTreeMatchesTokens, tree_of_construct}
use Rattle.ob0_parse.proofs.MovedTokens.{moved_tree_fits}
use Rattle.ob0_parse.proofs.TakenOver.{is_read_tree_at}
use Rattle.ob0_parse.proofs.kept_trees.KeptTree.shift_token_indexes.Goals as goal

pub returns-then-from-at : goal.returns-then-from-at
returns-then-from-at c = λ ts h ends.
    let k = c.args.self in
    is_read_tree_at ts k.at k.next (tree_of_construct k.construct) ends (subst (λ i. ShiftedTreeMatchesTokens ts i k.at k.next (tree_of_construct k.construct)) c.if-from-at.true h)

pub returns-in-Procedure : goal.returns-in-Procedure
returns-in-Procedure c = λ ts h ends.
    let k = c.args.self in
    let there = subst (λ p. ShiftedTreeMatchesTokens ts k.from k.at k.next (tree_of_construct p)) c.in-Procedure.is h in
    is_read_tree_at ts k.at k.next (procedure_of c.shift_indexes_in_procedure.new.p) (subst (λ p. TokenEndsTree ts p k.next) c.in-Procedure.is ends)
    (moved_tree_fits ts k.next _ _ (record { from = k.from; to = k.at }) (omega arith) c.shift_indexes_in_procedure.ensures there)

pub returns-in-Body : goal.returns-in-Body
returns-in-Body c = λ ts h ends.
    let k = c.args.self in
    let there = subst (λ b. ShiftedTreeMatchesTokens ts k.from k.at k.next (tree_of_construct b)) c.in-Body.is h in
    is_read_tree_at ts k.at k.next (body_of (Some c.shift_indexes_in_sequence.new.statements)) (subst (λ b. TokenEndsTree ts b k.next) c.in-Body.is ends)
    (moved_tree_fits ts k.next _ _ (record { from = k.from; to = k.at }) (omega arith) (ap (λ t. one (begins t)) c.shift_indexes_in_sequence.ensures) there)
