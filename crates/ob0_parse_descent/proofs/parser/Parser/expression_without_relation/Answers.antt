use Rattle.std.proofs.Common.{sym, ap, arith}
use Rattle.std.specs.Vec.{vec_len}
use Rattle.std.proofs.lemmas.Bool.Decides.{Decides-eqb}
use Rattle.ob0_tree.specs.declared.tree.SimpleExpression.{out-SimpleExpression}
use Rattle.ob0_tree.specs.declared.tree.Term.{out-Term}
use Rattle.ob0_tree.specs.Tree.{compares, none}
use Rattle.ob0_parse_descent.proofs.Lone.{one_factor}
use Rattle.ob0_parse_descent.proofs.parser.Parser.expression_without_relation.Goals as goal

pub returns-then-is_empty-2 : goal.returns-then-is_empty-2
returns-then-is_empty-2 c =
    let side = out-SimpleExpression c.args.side in
    let first = out-Term side.first in
    let factors = (Decides-eqb (vec_len first.more) 0).0 (sym c.if-is_empty.ensures) in
    let terms = (Decides-eqb (vec_len side.more) 0).0 (sym c.if-is_empty-2.ensures) in
    sym (ap (λ s. compares s none) (one_factor c.args.side c.if-is_none.ensures (omega (arith, factors, first.more.ok)) (omega (arith, terms, side.more.ok))))
