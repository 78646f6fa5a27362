use Rattle.std.proofs.Common.{◌++◌, ◌∷◌, [], ap, ◌∙◌}
use Rattle.ob0_types_check.specs.CheckerViews.{capped_size, known_fields_of, size_of}
use Rattle.ob0_types_check.specs.WrittenTypeFaults.{combined_size}
use Rattle.ob0_types_check.specs.declared.reporting.written_types.KnownFields as gathering
use Rattle.ob0_types_check.proofs.GatheredFields.{one_more}
use Rattle.ob0_types_check.proofs.reporting.checker_state.CheckerState.add_known_field.Goals as goal

pub returns : goal.returns
returns c = λ g h.
    let old = c.args.gathered.now in
    let next : gathering.KnownFields = record { fields = c.add.new.self.fields; size = c.combined_size-gathered.result } in
    let w = size_of c.size_of.result in
    one_more g c.args.self.now old next c.args.name c.args.of w h
    (c.in_ok-add.ensures.fields ∙ ap (λ n. known_fields_of old.fields.items ++ record { name = n; of = c.args.of } ∷ []) c.token_text.ensures)
    (c.combined_size-gathered.ensures ∙ ap (λ z. capped_size (combined_size (size_of z) w)) c.in_ok-add.ensures.size)
    c.size_of.ensures
