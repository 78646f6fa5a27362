use Rattle.std.proofs.Common.{sym, ap, ◌∙◌, subst, arith}
use Rattle.std.specs.Vec.{vec_len}
use Rattle.ob0_tree.specs.ParsedModule.{named_tree_of}
use Rattle.ob0_types_check.specs.DeclarationFaults.{WalkProgress}
use Rattle.ob0_types_check.specs.ModuleLaws.{TableHasDeclaredObjects}
use Rattle.ob0_types_check.proofs.ResultWithFaults.{declares, in_order, is_nothing, is_something, nothing}
use Rattle.ob0_types_check.proofs.reporting.ReportingWalk.into_report.Goals as goal

pub make_declaration_table-requires : goal.make_declaration_table-requires
make_declaration_table-requires c =
    let t = c.args.self in
    let ok = t.faults.ok.0 in
    in_order c.args.resolved.now t.faults.items t.checker_state c.args.bodies_with_faults.items c.requires c.walk_without_fault_finds_correct_meanings.ensures c.module-module.ensures.resolved
    (is_nothing t.faults.items (vec_len t.faults) c.is_empty.result (omega (arith, ok)) c.is_empty.ensures c.if-is_empty.true)

pub returns-in_ok-known : goal.returns-in_ok-known
returns-in_ok-known c =
    let r = c.args.resolved.now in
    let t = c.args.self in
    let ok = t.faults.ok.0 in
    let none = is_nothing t.faults.items (vec_len t.faults) c.is_empty.result (omega (arith, ok)) c.is_empty.ensures c.if-is_empty.true in
    let table = declares r t.faults.items t.checker_state c.args.bodies_with_faults.items c.requires c.walk_without_fault_finds_correct_meanings.ensures c.module-module.ensures.resolved none in
    record {
      faults = c.requires.faults;
      known = (nothing r t.faults.items t.checker_state c.args.bodies_with_faults.items c.requires c.walk_without_fault_finds_correct_meanings.ensures c.module-module.ensures.resolved none, subst (TableHasDeclaredObjects (named_tree_of r.module_read)) (sym c.in_ok-known.ensures) table);
      bodies_with_faults = ap (λ (w : WalkProgress). w.bodies_with_faults) c.requires.known;
    }

pub returns-else-is_empty : goal.returns-else-is_empty
returns-else-is_empty c =
    let t = c.args.self in
    let ok = t.faults.ok.0 in
    record {
      faults = c.requires.faults;
      known = λ none. is_something t.faults.items (vec_len t.faults) c.is_empty.result (omega (arith, ok)) c.is_empty.ensures c.if-is_empty.false (c.requires.faults ∙ none);
      bodies_with_faults = ap (λ (w : WalkProgress). w.bodies_with_faults) c.requires.known;
    }
