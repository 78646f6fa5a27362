use Rattle.std.proofs.Common.{◌≡◌, ◌+◌, List, [], ◌∷◌, refl, sym, ap, ◌∙◌}
use Rattle.ob0_tree.proofs.Viewed.{made_record_type}
use Rattle.ob0_tree.specs.declared.tree.OptionalFieldGroup.{OptionalFieldGroup}
use Rattle.ob0_tree.specs.CappedDepth.{capped_to_u32}
use Rattle.ob0_tree.specs.Tree.{nesting}
use Rattle.ob0_tree.specs.View.{field_group_after_semicolon_of, items_of, record_type_of_list, type_of}
use Rattle.ob0_tree.proofs.Deepest.{deeper_on, list_ends, one_deeper}
use Rattle.ob0_tree.proofs.nesting.+types.Goals as goal

groups_nest : (fs : List OptionalFieldGroup) → nesting (items_of field_group_after_semicolon_of fs) + 1 ≡ nesting (record_type_of_list fs)
groups_nest [] = refl
groups_nest (f ∷ fs) = refl

pub record_type_nesting-loop-group-preserved : goal.record_type_nesting-loop-group-preserved
record_type_nesting-loop-group-preserved t c = deeper_on field_group_after_semicolon_of c.group-item.result c.loop-group.invariant c.loop-group-test.true c.group-item.is c.optional_field_group_nesting.ensures c.max-deepest.ensures

pub record_type_nesting-returns : goal.record_type_nesting-returns
record_type_nesting-returns t c =
    let groups = c.args.r.now.groups.items in
    let all = list_ends c.loop-group.invariant c.loop-group-test.false ∙ ap (λ xs. capped_to_u32 (nesting (items_of field_group_after_semicolon_of xs))) c.deref-group-items.ensures.value in
    one_deeper (nesting (items_of field_group_after_semicolon_of groups)) all c.capped_increment.ensures ∙ ap capped_to_u32 (groups_nest groups)

pub type_nesting-returns-in-Record : goal.type_nesting-returns-in-Record
type_nesting-returns-in-Record t c =
    c.record_type_nesting.ensures ∙ ap (λ t. capped_to_u32 (nesting t)) (sym (made_record_type c.in-Record.r) ∙ sym (ap type_of c.in-Record.is))
