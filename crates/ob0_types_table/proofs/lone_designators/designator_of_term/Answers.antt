use Rattle.std.proofs.Common.{◌≡◌, ◌<◌, length, sym, ap, ◌∙◌, arith}
use Rattle.std.proofs.lemmas.Bool.Decides.{nat_tests}
use Rattle.ob0_tree.proofs.Viewed.{term_parts}
use Rattle.ob0_tree.specs.declared.tree.Term.{out-Term}
use Rattle.ob0_types_table.specs.Designators.{designator_of_term}
use Rattle.ob0_types_table.proofs.DesignatedAlone.{factor_designated, multiplied_designated}
use Rattle.ob0_types_table.proofs.lone_designators.designator_of_term.Goals as goal

pub returns-then-not-is_empty : goal.returns-then-not-is_empty
returns-then-not-is_empty c =
    let t = out-Term c.args.t.now in
    let ok = t.more.ok.0 in
    let some : 0 < length t.more.items = grind (arith, nat_tests) in
    sym (multiplied_designated t.first t.more.items some) ∙ sym (ap designator_of_term (term_parts c.args.t.now))

pub returns : goal.returns
returns c =
    let t = out-Term c.args.t.now in
    let ok = t.more.ok.0 in
    let none : length t.more.items ≡ 0 = grind (arith, nat_tests) in
    c.designator_of_factor.ensures ∙ sym (factor_designated t.first t.more.items none) ∙ sym (ap designator_of_term (term_parts c.args.t.now))
