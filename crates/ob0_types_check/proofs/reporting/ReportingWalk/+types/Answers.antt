use Rattle.std.proofs.Common.{◌≡◌, suc, IfOk, ◌∷◌, false, true, refl, sym, ap, ◌∙◌, subst, arith}
use Rattle.std.proofs.lemmas.Result.{IfOk-weaker, on_ok_weaker}
use Rattle.ob0_tree.proofs.Viewed.{made_record_type}
use Rattle.ob0_tree.specs.View.{expression_of, optional_field_group_of, field_group_after_semicolon_of, items_of, names_of, type_of}
use Rattle.ob0_types_check.specs.ExpressionFaults.{report_on_expression}
use Rattle.ob0_types_check.specs.OperandFaults.{ReturnsAndReports, without_fault, ◌>>=◌}
use Rattle.ob0_types_check.specs.KnownDeclarations.{TypeWithFollowingDeclarations, facts_from_declarations}
use Rattle.ob0_types_check.specs.CheckerViews.{operand_of, declarations_in_state}
use Rattle.ob0_types_check.specs.TypeFaults.{length_from_operand, check_type_name}
use Rattle.ob0_types_check.specs.WrittenTypeFaults.{KnownFields, make_array_type, append_field_group, no_known_fields, next_type_ordinal, record_keyword_token, report_on_field_group, report_on_further_field_groups, report_on_written_type}
use Rattle.ob0_types_check.specs.WrittenTypeFaults as spec
use Rattle.ob0_types_check.proofs.Chains.{chain_ends, steps, reports_nothing, reports_same}
use Rattle.ob0_types_check.proofs.GatheredFields.{gathers, groups_begin, groups_go_on}
use Rattle.ob0_types_check.proofs.SameFacts.{facts_same}
use Rattle.ob0_types_check.proofs.ReportedDeclarations.{names_are}
use Rattle.ob0_types_check.proofs.ReportedTypes.{array_reported, fields_reported, groups_chain, named_reported, no_fields_reported, record_reported}
use Rattle.ob0_types_check.proofs.reporting.ReportingWalk.+types.Goals as goal

pub check_nested_type-returns-in-Named : goal.check_nested_type-returns-in-Named
check_nested_type-returns-in-Named t c =
    let s = c.args.self.now.checker_state in
    let p = declarations_in_state s in
    let n = c.args.around in
    let name = c.in-Named.name in
    IfOk-weaker c.check_type_name.result _ _ (λ of h. reports_same
    (steps (λ u. without_fault (record { of = u; following = p })) (reports_same h (ap (λ facts. check_type_name facts name) (facts_same s false))) (reports_nothing c.check_type_name.new.faults.items (record { of = of; following = p })))
    (sym (ap (λ z. report_on_written_type n p (type_of z)) c.in-Named.is ∙ named_reported n p name))) c.check_type_name.ensures

pub check_nested_type-returns-in-Record : goal.check_nested_type-returns-in-Record
check_nested_type-returns-in-Record t c =
    subst (λ z. IfOk c.check_record_type.result (λ of. ReturnsAndReports c.args.self.now.faults.items c.check_record_type.new.self.faults.items (record { of = of; following = declarations_in_state c.check_record_type.new.self.checker_state }) (report_on_written_type c.args.around (declarations_in_state c.args.self.now.checker_state) z)))
    (sym (made_record_type c.in-Record.r) ∙ sym (ap type_of c.in-Record.is)) c.check_record_type.ensures

pub check_array_type-returns : goal.check_array_type-returns
check_array_type-returns t c =
    let s = c.args.self.now.checker_state in
    let p = declarations_in_state s in
    let around = c.args.around in
    let a = c.args.a.now in
    let e = expression_of a.size in
    let u = type_of a.element.value in
    let o = operand_of c.in_ok-size.size in
    let n = c.in_ok-length.length in
    let ordinal = next_type_ordinal around p in
    let deeper : c.in_ok-inside.inside ≡ suc around = omega (arith, c.in_ok-inside.ensures) in
    let size = reports_same c.in_ok-size.ensures (ap (λ facts. report_on_expression facts e) (facts_same s true)) in
    let length = reports_same c.in_ok-length.ensures (ap (λ facts. length_from_operand facts o) (facts_same s false)) in
    let element = reports_same c.in_ok-element.ensures (λ i. report_on_written_type (deeper i) p (ap type_of c.deref.ensures i)) in
    IfOk-weaker c.make_array_type.result _ _ (λ of h. reports_same
    (steps (λ x. length_from_operand (facts_from_declarations p false) x >>= (λ k. report_on_written_type (suc around) p u >>= make_array_type ordinal x k)) size
    (steps (λ k. report_on_written_type (suc around) p u >>= make_array_type ordinal o k) length
    (steps (make_array_type ordinal o n) element (reports_same h (ap (λ k. make_array_type k o n (record { of = c.in_ok-element.element; following = declarations_in_state c.check_nested_type.new.self.checker_state })) c.in_ok-ordinal.ensures)))))
    (sym (array_reported around p e u))) c.make_array_type.ensures

pub check_optional_field_group-returns-in-Empty : goal.check_optional_field_group-returns-in-Empty
check_optional_field_group-returns-in-Empty t c = λ g h.
    let now = c.args.self.now.faults.items in
    let n = c.args.around in
    gathers (reports_same (reports_nothing now g) (sym (ap (λ f. report_on_field_group n g (optional_field_group_of f)) c.in-Empty.is ∙ no_fields_reported n g))) h

pub check_field_group-returns : goal.check_field_group-returns
check_field_group-returns t c =
    let s = c.args.self.now.checker_state in
    let n = c.args.around in
    let l = c.args.list.now in
    let xs = l.names.first ∷ l.names.more.items in
    let following = declarations_in_state c.check_nested_type.new.self.checker_state in
    on_ok_weaker c.add_known_fields.result (λ gathered g h.
    let next : KnownFields = record { fields = g.fields; size = g.size; following = following } in
    let typed : TypeWithFollowingDeclarations = record { of = c.in_ok-of.of; following = following } in
    gathers (reports_same
    (steps (λ u. without_fault (append_field_group g xs u)) (reports_same c.in_ok-of.ensures (ap (λ p. report_on_written_type n p (type_of l.written)) h.following)) (reports_nothing c.check_nested_type.new.self.faults.items (append_field_group g xs typed)))
    (sym (fields_reported n g (names_of l.names) (type_of l.written) ∙ ap (λ ys. report_on_written_type n g.following (type_of l.written) >>= (λ u. without_fault (append_field_group g ys u))) (names_are l.names))))
    (gathered next (record { fields = h.fields; size = h.size; following = refl }))) c.add_known_fields.ensures

pub check_field_groups-loop-group-init : goal.check_field_groups-loop-group-init
check_field_groups-loop-group-init t c = groups_begin c.args.self.now.checker_state c.new-gathered.result c.new-gathered.ensures.fields c.new-gathered.ensures.size

pub check_field_groups-loop-group-preserved : goal.check_field_groups-loop-group-preserved
check_field_groups-loop-group-preserved t c =
    groups_go_on c.group-item.result c.loop-group.invariant c.loop-group-test.true c.group-item.is c.in_ok-check_optional_field_group.ensures

pub check_field_groups-returns : goal.check_field_groups-returns
check_field_groups-returns t c =
    let i = c.loop-group.invariant in
    gathers (chain_ends (groups_chain c.args.around) i.reported c.loop-group-test.false) i.is

pub check_record_type-returns : goal.check_record_type-returns
check_record_type-returns t c =
    let p = declarations_in_state c.args.self.now.checker_state in
    let around = c.args.around in
    let gs = c.args.r.now.groups.items in
    let g = c.in_ok-gathered.ensures in
    let deeper : c.in_ok-inside.inside ≡ suc around = omega (arith, c.in_ok-inside.ensures) in
    let word = c.record_keyword_token-word.ensures ∙ ap (λ fs. record_keyword_token (items_of field_group_after_semicolon_of fs)) c.deref.ensures.value in
    let all = report_on_further_field_groups c.in_ok-inside.inside (no_known_fields p) (items_of field_group_after_semicolon_of c.as_slice.result.now) in
    let whole = (λ j. report_on_further_field_groups (deeper j) (no_known_fields p) (items_of field_group_after_semicolon_of (c.as_slice.ensures.value j)) >>= spec.make_record_type (word j) (c.in_ok-ordinal.ensures j)) ∙ sym (record_reported around p gs) in
    IfOk-weaker c.make_record_type.result _ _ (λ of h. reports_same (steps {x = all.known} (spec.make_record_type c.record_keyword_token-word.result c.in_ok-ordinal.ordinal) (record { reported = g.reported; known = refl }) h) whole)
    (c.make_record_type.ensures all.known g.now)
