use Rattle.std.proofs.Common.{ap, ◌∙◌, rules}
use Rattle.std.proofs.lemmas.Result.{IfOk-weaker}
use Rattle.ob0_refs.specs.Hovers.{type_text}
use Rattle.ob0_types_table.specs.DeclarationTables.{shapes_of}
use Rattle.ob0_types_table.specs.DeclarationTableView.{field_shapes, type_shape}
use Rattle.ob0_language_values.specs.Values.{no_field_shape}
use Rattle.ob0_refs.proofs.Counted.{fields_counted}
use Rattle.ob0_refs.proofs.type_texts.+types.Goals as goal

pub array_type_text-returns : goal.array_type_text-returns
array_type_text-returns t c =
    IfOk-weaker c.array_text_from_element_text.result _ _ (λ text h. h c.args.array.ordinal (type_shape (shapes_of c.args.known.now) c.args.array.element) (c.as_str.ensures.value ∙ c.in_ok-element.ensures)) c.array_text_from_element_text.ensures

pub type_text-returns-in-Record : goal.type_text-returns-in-Record
type_text-returns-in-Record t c =
    IfOk-weaker c.record_text.result _ _ (λ text h. h c.in-Record.record.now.ordinal (field_shapes (shapes_of c.args.known.now) c.in-Record.record.now.fields) (search (rules, fields_counted (shapes_of c.args.known.now) c.in-Record.record.now.fields)) ∙ ap type_text c.in-Record.ensures.shape) c.record_text.ensures

pub type_text-returns-in-Faulty : goal.type_text-returns-in-Faulty
type_text-returns-in-Faulty t c =
    IfOk-weaker c.record_text-in-Faulty.result _ _ (λ text h. h 0 no_field_shape (search rules) ∙ ap type_text c.in-Faulty.ensures.shape) c.record_text-in-Faulty.ensures
