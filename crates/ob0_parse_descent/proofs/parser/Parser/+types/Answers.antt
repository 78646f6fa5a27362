use Rattle.std.proofs.Common.{arith}
use Rattle.std.proofs.lemmas.Result.{err_from_is_err_and}
use Rattle.ob0_tree.specs.View.{expression_of, type_of, optional_field_group_of, names_of, field_group_after_semicolon_of}
use Rattle.ob0_tree.proofs.Viewed.{made_record_type}
use Rattle.ob0_parse_descent.proofs.Leads.{fails_in_token}
use Rattle.ob0_parse_descent.proofs.Refusals.{fails_in, fails_pass, fails_pass_token}
use Rattle.ob0_parse_descent.proofs.Lists.{listing_one, listing_more, listing_done, listing_fails, listed_pass}
use Rattle.ob0_parse_descent.proofs.Led.{taken_led, led_fails, leads_then_fields}
use Rattle.ob0_parse_descent.proofs.TypeParts.{taken_named, type_missing, taken_array, array_fails, array_too_deep, taken_record, record_fails, record_too_deep, taken_no_fields, taken_fields, fields_fail}
use Rattle.ob0_parse_descent.proofs.parser.Parser.+types.Goals as goal

pub parse_array_type-returns-in_err-inner : goal.parse_array_type-returns-in_err-inner
parse_array_type-returns-in_err-inner t c =
    let p = err_from_is_err_and c.from_residual.result c.from_residual.ensures.1 in
    rw (p.1, p.2) (array_too_deep c.requires.1 c.in_err-inner.ensures c.requires.0)

pub parse_array_type-returns-in_err-size : goal.parse_array_type-returns-in_err-size
parse_array_type-returns-in_err-size t c =
    let p = err_from_is_err_and c.from_residual-in_err-size.result c.from_residual-in_err-size.ensures.1 in
    rw (p.1, p.2) (array_fails c.in_ok-inner.ensures c.requires.0 (fails_in c.in_err-size.ensures))

pub parse_array_type-returns-in_err-start : goal.parse_array_type-returns-in_err-start
parse_array_type-returns-in_err-start t c =
    let p = err_from_is_err_and c.from_residual-in_err-start.result c.from_residual-in_err-start.ensures.1 in
    rw (p.1, p.2) (array_fails c.in_ok-inner.ensures c.requires.0 (fails_pass (expression_of c.in_ok-size.size) c.in_ok-size.ensures (fails_in_token c.in_err-start.ensures)))

pub parse_array_type-returns-in_err-element : goal.parse_array_type-returns-in_err-element
parse_array_type-returns-in_err-element t c =
    let p = err_from_is_err_and c.from_residual-in_err-element.result c.from_residual-in_err-element.ensures.1 in
    rw (p.1, p.2) (array_fails c.in_ok-inner.ensures c.requires.0 (fails_pass (expression_of c.in_ok-size.size) c.in_ok-size.ensures (fails_pass_token c.in_ok-start.ensures.0 c.in_ok-start.ensures.2 c.in_err-element.ensures)))

pub parse_array_type-returns : goal.parse_array_type-returns
parse_array_type-returns t c =
    rw c.in_ok-element-2.ensures.ok (taken_array (expression_of c.in_ok-size.size) _ c.in_ok-inner.ensures c.requires.0 c.in_ok-size.ensures c.in_ok-start.ensures c.in_ok-element.ensures)

pub parse_optional_field_group-returns-then-not-has_identifier_at : goal.parse_optional_field_group-returns-then-not-has_identifier_at
parse_optional_field_group-returns-then-not-has_identifier_at t c =
    taken_no_fields c.if-not-has_identifier_at.ensures

pub parse_optional_field_group-returns-in_err-names : goal.parse_optional_field_group-returns-in_err-names
parse_optional_field_group-returns-in_err-names t c =
    let p = err_from_is_err_and c.from_residual.result c.from_residual.ensures.1 in
    rw (p.1, p.2) (fields_fail c.if-not-has_identifier_at.ensures.0 (fails_in c.in_err-names.ensures))

pub parse_optional_field_group-returns-in_err-start : goal.parse_optional_field_group-returns-in_err-start
parse_optional_field_group-returns-in_err-start t c =
    let p = err_from_is_err_and c.from_residual-in_err-start.result c.from_residual-in_err-start.ensures.1 in
    rw (p.1, p.2) (fields_fail c.if-not-has_identifier_at.ensures.0 (fails_pass (names_of c.in_ok-names.names) c.in_ok-names.ensures (fails_in_token c.in_err-start.ensures)))

pub parse_optional_field_group-returns-in_err-written : goal.parse_optional_field_group-returns-in_err-written
parse_optional_field_group-returns-in_err-written t c =
    let p = err_from_is_err_and c.from_residual-in_err-written.result c.from_residual-in_err-written.ensures.1 in
    rw (p.1, p.2) (fields_fail c.if-not-has_identifier_at.ensures.0 (fails_pass (names_of c.in_ok-names.names) c.in_ok-names.ensures (fails_pass_token c.in_ok-start.ensures.0 c.in_ok-start.ensures.2 c.in_err-written.ensures)))

pub parse_optional_field_group-returns : goal.parse_optional_field_group-returns
parse_optional_field_group-returns t c =
    rw c.in_ok-boxed.ensures.ok (taken_fields (names_of c.in_ok-names.names) (type_of c.in_ok-written.written) c.in_ok-names.ensures c.in_ok-start.ensures c.in_ok-written.ensures)

pub parse_field_group_after_semicolon-returns-in_err-fields : goal.parse_field_group_after_semicolon-returns-in_err-fields
parse_field_group_after_semicolon-returns-in_err-fields t c =
    let p = err_from_is_err_and c.from_residual.result c.from_residual.ensures.1 in
    rw (p.1, p.2) (led_fails leads_then_fields c.if-not-has_symbol_at.ensures.0 c.in_err-fields.ensures)

pub parse_field_group_after_semicolon-returns : goal.parse_field_group_after_semicolon-returns
parse_field_group_after_semicolon-returns t c =
    (taken_led leads_then_fields (optional_field_group_of c.in_ok-fields.fields) c.if-not-has_symbol_at.ensures.0 c.in_ok-fields.ensures, omega (arith, c.in_ok-fields.ensures.forward))

pub parse_record_type-returns-in_err-inner : goal.parse_record_type-returns-in_err-inner
parse_record_type-returns-in_err-inner t c =
    let p = err_from_is_err_and c.from_residual.result c.from_residual.ensures.1 in
    rw (p.1, p.2) (record_too_deep c.requires.1 c.in_err-inner.ensures c.requires.0)

pub parse_record_type-returns-in_err-first : goal.parse_record_type-returns-in_err-first
parse_record_type-returns-in_err-first t c =
    let p = err_from_is_err_and c.from_residual-in_err-first.result c.from_residual-in_err-first.ensures.1 in
    rw (p.1, p.2) (record_fails c.in_ok-inner.ensures c.requires.0 (fails_in c.in_err-first.ensures))

pub parse_record_type-loop-groups-init : goal.parse_record_type-loop-groups-init
parse_record_type-loop-groups-init t c =
    rw (c.in_ok-push_with_doubling.ensures.added, c.new-groups.ensures.items) (listing_one optional_field_group_of field_group_after_semicolon_of c.in_ok-first.first c.in_ok-first.ensures)

pub parse_record_type-returns-in_err-fields : goal.parse_record_type-returns-in_err-fields
parse_record_type-returns-in_err-fields t c =
    let p = err_from_is_err_and c.from_residual-in_err-fields.result c.from_residual-in_err-fields.ensures.1 in
    rw (p.1, p.2) (record_fails c.in_ok-inner.ensures c.requires.0 (listing_fails c.loop-groups.invariant c.in_err-fields.ensures))

pub parse_record_type-loop-groups-preserved : goal.parse_record_type-loop-groups-preserved
parse_record_type-loop-groups-preserved t c =
    let item = rw c.in-Some.is at c.in_ok-fields.ensures in
    rw c.in_ok-push_with_doubling-2.ensures.added (listing_more optional_field_group_of field_group_after_semicolon_of c.loop-groups.groups.items _ c.loop-groups.invariant item.0)

pub parse_record_type-returns-in_err-end : goal.parse_record_type-returns-in_err-end
parse_record_type-returns-in_err-end t c =
    let p = err_from_is_err_and c.from_residual-in_err-end.result c.from_residual-in_err-end.ensures.1 in
    rw (p.1, p.2) (record_fails c.in_ok-inner.ensures c.requires.0 (listed_pass (listing_done c.loop-groups.invariant (rw c.in_default.is at c.in_ok-fields.ensures)) (fails_in_token c.in_err-end.ensures)))

pub parse_record_type-returns : goal.parse_record_type-returns
parse_record_type-returns t c =
    rw (made_record_type _) (taken_record c.loop-groups.groups.items c.in_ok-inner.ensures c.requires.0 (listing_done c.loop-groups.invariant (rw c.in_default.is at c.in_ok-fields.ensures)) c.in_ok-end.ensures)

pub parse_type-returns-then-has_identifier_at : goal.parse_type-returns-then-has_identifier_at
parse_type-returns-then-has_identifier_at t c =
    taken_named c.if-has_identifier_at.ensures

pub parse_type-returns : goal.parse_type-returns
parse_type-returns t c =
    rw c.syntax_error.ensures (type_missing c.if-has_identifier_at.ensures c.if-has_reserved_word_at.ensures c.if-has_reserved_word_at-2.ensures)
