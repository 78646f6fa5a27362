use Rattle.std.proofs.Common.{◌≡◌, ◌∙◌, sym, ap, subst, inr, true, if◌then◌else◌, None, Some, ℕ, refl}
use Rattle.ob0_scan.specs.TextWithTokens.{IsScan, TextWithTokens}
use Rattle.ob0_text.specs.Units.{width_of}
use Rattle.ob0_text.specs.declared.refusals.EditRefusal.TheVariants as refusal
use Rattle.ob0_tree.specs.ParsedModule.{named_tree_of}
use Rattle.ob0_tree.specs.TokenIndexLeaves.{token_text_at}
use Rattle.ob0_language_names.specs.Names.{Name, same_name}
use Rattle.ob0_scope_table.specs.Resolution.{Resolution, token_span}
use Rattle.ob0_types.specs.CheckedModules.{IsWellTyped}
use Rattle.ob0_edits_tokens.specs.Ranges.{range_of}
use Rattle.ob0_edits_tokens.specs.Replacements.{AreIdentifierIndexes}
use Rattle.ob0_language_fields.specs.SingleFieldRenaming.{IsFreeFieldName}
use Rattle.ob0_types_fields.specs.FieldIdentifiers.{field_declaring_token}
use Rattle.ob0_rename.specs.Answers.{AnswersRenamingOfField, IsFirstRefusalForField}
use Rattle.ob0_rename.specs.Renaming.{field_tokens_to_rename}
use Rattle.ob0_rename.proofs.Outcomes.{Edited}
use Rattle.ob0_rename.proofs.FieldOutcomes.{requested_field, duplicated, field_answered, other_none, own_field_answered}
use Rattle.ob0_rename.proofs.field_edits.rename_field.Goals as goal

pub returns-then-not-is_identifier-clause-own_name : goal.returns-then-not-is_identifier-clause-own_name
returns-then-not-is_identifier-clause-own_name g c = λ id own.
    absurd (let yes : c.is_identifier.result ≡ true = c.is_identifier.ensures.1 id in let no = c.if-not-is_identifier.true in cc)

pub returns-in-Some-clause-answers : goal.returns-in-Some-clause-answers
returns-in-Some-clause-answers g c = λ place.
    let unit = g.T.TextStore.unit_of c.args.store.now in
    let text = g.T.TextStore.content c.args.store.now in
    let new = c.args.new.now in
    let names = c.resolved-names.result.now in
    let f : Name = token_text_at names.module_read.source c.args.token in
    let id = c.is_identifier.ensures.0 c.if-not-is_identifier.false in
    let old = c.token_text_at-old.ensures ∙ ap (λ (s : TextWithTokens). token_text_at s c.args.token) c.tokens-2.ensures in
    let other : (if same_name new f then None else field_declaring_token names.module_read c.args.owner new) ≡ Some c.in-Some.other =
    (λ i. if same_name new (sym old i) then None else field_declaring_token (c.resolved-names.ensures.value i).module_read c.args.owner new) ∙ (sym c.conflicting_field_token.ensures ∙ c.in-Some.is) in
    let range = c.token_range.ensures c.in-Some.other refl ∙ ap (λ (s : TextWithTokens). range_of (width_of unit) text (token_span s c.in-Some.other)) c.tokens-in-Some.ensures in
    let refused = duplicated unit text place new c.args.owner f names id c.duplicate_field_name_has_declaring_token.ensures c.in-Some.other (refusal.Duplicate c.token_range.result) other (ap (λ r. refusal.Duplicate r) range) in
    inr (subst (λ (x : Resolution). IsFirstRefusalForField (requested_field unit text place new c.args.owner (token_text_at x.module_read.source c.args.token) x) c.args.owner (token_text_at x.module_read.source c.args.token) (refusal.Duplicate c.token_range.result)) c.resolved-names.ensures.value refused)

pub returns-in_ok-tokens-in-None : goal.returns-in_ok-tokens-in-None
returns-in_ok-tokens-in-None g c =
    let unit = g.T.TextStore.unit_of c.args.store.now in
    let text = g.T.TextStore.content c.args.store.now in
    let new = c.args.new.now in
    let k : ℕ = c.args.owner in
    let names = c.resolved-names.result.now in
    let f : Name = token_text_at names.module_read.source c.args.token in
    let well = subst IsWellTyped (sym c.resolved-names.ensures.value) c.resolved-names.ensures.well_typed in
    let id = c.is_identifier.ensures.0 c.if-not-is_identifier.false in
    let old = c.token_text_at-old.ensures ∙ ap (λ (s : TextWithTokens). token_text_at s c.args.token) c.tokens-2.ensures in
    let other : (if same_name new f then None else field_declaring_token names.module_read k new) ≡ None =
    (λ i. if same_name new (sym old i) then None else field_declaring_token (c.resolved-names.ensures.value i).module_read k new) ∙ (sym c.conflicting_field_token.ensures ∙ c.in-None.is) in
    let free : IsFreeFieldName (named_tree_of names.module_read) k f new = c.duplicate_field_name_has_declaring_token.ensures names.module_read k f new ∙ other_none (same_name new f) (field_declaring_token names.module_read k new) other in
    let value = c.in_ok-tokens-in-None.ensures.value ∙ (λ i. field_tokens_to_rename (sym c.resolved-names.ensures.value i) k (old i) new) in
    let places = c.deref.ensures.value ∙ value in
    let made : Edited unit text new c.tokens-in-None.result.now c.deref.result.now c.replacement_edits.result =
    record { edits = c.replacement_edits.ensures.edits; short = c.replacement_edits.ensures.short; leaves = c.replacement_edits.ensures.words; too_long = c.replacement_edits.ensures.too_long; refusals = c.replacement_edits.ensures.refusals } in
    let there = subst (λ places. Edited unit text new names.module_read.source places c.replacement_edits.result) places
    (subst (λ (s : TextWithTokens). Edited unit text new s c.deref.result.now c.replacement_edits.result) c.tokens-in-None.ensures made) in
    let found = subst (λ (x : Resolution). AreIdentifierIndexes x.module_read.source.tokens 0 c.in_ok-tokens-in-None.tokens.items) (sym c.resolved-names.ensures.value) c.in_ok-tokens-in-None.ensures.names in
    let are = subst (AreIdentifierIndexes names.module_read.source.tokens 0) value found in
    record {
      answers = λ place. subst (λ (x : Resolution). AnswersRenamingOfField (requested_field unit text place new k (token_text_at x.module_read.source c.args.token) x) k (token_text_at x.module_read.source c.args.token) c.replacement_edits.result) c.resolved-names.ensures.value
          (field_answered unit text place new k f names well id free c.renaming_field_to_free_name_keeps_typing_and_runs.ensures c.renaming_changes_field_tokens.ensures c.renamed_tree_spells_renamed_words.ensures c.identifier_may_replace_identifier.ensures are c.replacement_edits.result there);
      memory = λ refused. id;
      own_name = λ id own.
          let same : new ≡ f = own ∙ ap (λ (x : Resolution). token_text_at x.module_read.source c.args.token) (sym c.resolved-names.ensures.value) in
          own_field_answered unit text (record { line = 0; character = 0 }) new k f names (subst IsScan c.tokens.ensures c.text-text.ensures.scan) same c.replacement_edits.result there;
    }
