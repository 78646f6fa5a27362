use Rattle.std.proofs.Common.{◌≡◌, Some, None, option_map, sym, ap, ◌∙◌}
use Rattle.ob0_tree.specs.TokenIndexLeaves.{token_text_at}
use Rattle.ob0_language_types.specs.Typing.{named_field_shape}
use Rattle.ob0_types_table.specs.DeclarationTables.{shapes_of}
use Rattle.ob0_types_table.specs.DeclarationTableView.{field_shapes, type_shape}
use Rattle.ob0_types_fields.proofs.FieldLookups.{marked_by_type}
use Rattle.ob0_types_fields.proofs.field_walk.FieldWalk.visit_field_selected_in_record.Goals as goal
use Rattle.ob0_types_fields.specs.FieldWalks.{field_walk_meanings, state_after_owner}
use Rattle.ob0_types_fields.proofs.OwnersByToken.{tokens}

pub returns-in-None-clause-visited : goal.returns-in-None-clause-visited
returns-in-None-clause-visited g c =
    let w = c.args.self.now in
    let shapes = shapes_of w.table.now in
    let fs = field_shapes shapes c.args.shape.now.fields in
    let x = (field_walk_meanings w).written c.args.name in
    let text = c.token_text_at.ensures ∙ ap (λ s. token_text_at s c.args.name) c.tokens.ensures in
    let typed : option_map (type_shape shapes) None ≡ named_field_shape fs x = c.in-None.ensures.shape shapes ∙ ap (named_field_shape fs) text in
    ap (λ o. state_after_owner g.V.FieldVisitor.state_after_one_field c.args.name o c.args.visitor.now) (sym (marked_by_type c.args.shape.now.ordinal fs x None typed))

pub returns-in-None-clause-following : goal.returns-in-None-clause-following
returns-in-None-clause-following g c =
    let w = c.args.self.now in
    let shapes = shapes_of w.table.now in
    let fs = field_shapes shapes c.args.shape.now.fields in
    c.in-None.ensures.shape shapes ∙ ap (named_field_shape fs) (c.token_text_at.ensures ∙ ap (λ s. token_text_at s c.args.name) c.tokens.ensures)

pub returns-in_ok-visit_one_field-in-Some-clause-visited : goal.returns-in_ok-visit_one_field-in-Some-clause-visited
returns-in_ok-visit_one_field-in-Some-clause-visited g c =
    let w = c.args.self.now in
    let shapes = shapes_of w.table.now in
    let fs = field_shapes shapes c.args.shape.now.fields in
    let x = (field_walk_meanings w).written c.args.name in
    let text = c.token_text_at.ensures ∙ ap (λ s. token_text_at s c.args.name) c.tokens.ensures in
    let typed : option_map (type_shape shapes) (Some c.in-Some.of) ≡ named_field_shape fs x = c.in-Some.ensures.shape shapes ∙ ap (named_field_shape fs) text in
    c.in_ok-visit_one_field-in-Some.ensures
    ∙ ap (λ o. state_after_owner g.V.FieldVisitor.state_after_one_field c.args.name o c.args.visitor.now) (sym (marked_by_type c.args.shape.now.ordinal fs x (Some (type_shape shapes c.in-Some.of)) typed))

pub returns-in_ok-visit_one_field-in-Some-clause-following : goal.returns-in_ok-visit_one_field-in-Some-clause-following
returns-in_ok-visit_one_field-in-Some-clause-following g c =
    let w = c.args.self.now in
    let shapes = shapes_of w.table.now in
    let fs = field_shapes shapes c.args.shape.now.fields in
    c.in-Some.ensures.shape shapes ∙ ap (named_field_shape fs) (c.token_text_at.ensures ∙ ap (λ s. token_text_at s c.args.name) c.tokens.ensures)
