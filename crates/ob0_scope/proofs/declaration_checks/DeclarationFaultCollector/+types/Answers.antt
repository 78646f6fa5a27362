use Rattle.std.proofs.Common.{◌≡◌, [], ◌++◌, OnOk, refl, sym, ap, ◌∙◌, subst}
use Rattle.ob0_tree.specs.TokenIndexLeaves.{token_text_at}
use Rattle.ob0_tree.specs.View.{optional_field_group_of, field_group_after_semicolon_of, items_of, type_of}
use Rattle.ob0_tree.proofs.Viewed.{made_record_type}
use Rattle.ob0_language_names.specs.ConsistentNames.{group_field_names, field_names_after_first_group}
use Rattle.ob0_scope_table.specs.DuplicatesAndEndNames.{duplicate_faults, duplicate_field_faults, duplicate_field_faults_in_group, duplicate_field_faults_in_further_groups}
use Rattle.ob0_scope.proofs.Checking.{gathered, gathers_on, record_reported}
use Rattle.ob0_scope.proofs.declaration_checks.DeclarationFaultCollector.+types.Goals as goal

pub report_duplicate_fields_in_record-loop-group-preserved : goal.report_duplicate_fields_in_record-loop-group-preserved
report_duplicate_fields_in_record-loop-group-preserved t c =
    let g = c.group-item.result in
    gathers_on (λ xs. field_names_after_first_group (items_of field_group_after_semicolon_of xs)) g (group_field_names (optional_field_group_of g)) (λ rest. refl) c.loop-group.invariant c.loop-group-test.true c.group-item.is c.in_ok-append_field_names.ensures

pub report_duplicate_fields_in_record-loop-group-2-preserved : goal.report_duplicate_fields_in_record-loop-group-2-preserved
report_duplicate_fields_in_record-loop-group-2-preserved t c =
    let text = token_text_at c.args.tokens.now in
    let g = c.group-item-in-loop-group-2.result in
    gathers_on (λ xs. duplicate_field_faults_in_further_groups text (items_of field_group_after_semicolon_of xs)) g (duplicate_field_faults_in_group text (optional_field_group_of g)) (λ rest. refl) c.loop-group-2.invariant c.loop-group-2-test.true c.group-item-in-loop-group-2.is c.in_ok-report_duplicate_fields_in_group.ensures

pub report_duplicate_fields_in_record-returns : goal.report_duplicate_fields_in_record-returns
report_duplicate_fields_in_record-returns t c =
    let text = token_text_at c.args.tokens.now in
    let gs = c.args.r.now.groups.items in
    let found = gathered (λ xs. field_names_after_first_group (items_of field_group_after_semicolon_of xs)) refl c.loop-group.invariant c.loop-group-test.false
    ∙ (λ i. c.in_ok-names.ensures.items i ++ field_names_after_first_group (items_of field_group_after_semicolon_of (c.deref-group-items.ensures.value i))) in
    let named = c.in_ok-report_duplicates.ensures ∙ ap (λ xs. c.args.self.now ++ duplicate_faults text [] xs) c.deref.ensures.value in
    let rest = gathered (λ xs. duplicate_field_faults_in_further_groups text (items_of field_group_after_semicolon_of xs)) refl c.loop-group-2.invariant c.loop-group-2-test.false
    ∙ ap (λ xs. c.report_duplicates.new.self ++ duplicate_field_faults_in_further_groups text (items_of field_group_after_semicolon_of xs)) c.deref-group-items-2.ensures.value in
    record_reported text c.args.self.now c.report_duplicates.new.self c.loop-group-2.self gs c.loop-group.names.items found named rest

pub report_duplicate_fields_in_type-returns-in-Record : goal.report_duplicate_fields_in_type-returns-in-Record
report_duplicate_fields_in_type-returns-in-Record t c =
    subst (λ r. OnOk c.report_duplicate_fields_in_record.result (c.report_duplicate_fields_in_record.new.self ≡ c.args.self.now ++ duplicate_field_faults (token_text_at c.args.tokens.now) r))
    (sym (made_record_type c.in-Record.r) ∙ sym (ap type_of c.in-Record.is)) c.report_duplicate_fields_in_record.ensures
