use Rattle.std.proofs.Common.{◌≡◌, ◌∙◌, option_map, sym, ap, subst, inr, true}
use Rattle.ob0_scan.specs.TextWithTokens.{IsScan, TextWithTokens}
use Rattle.ob0_tree.specs.ParsedModule.{named_tree_of}
use Rattle.ob0_scope.specs.Renames.{other_declaration_in_conflict, conflict_of}
use Rattle.ob0_scope_table.specs.Resolution.{Resolution}
use Rattle.ob0_types.specs.CheckedModules.{IsWellTyped}
use Rattle.ob0_edits_tokens.specs.Replacements.{AreIdentifierIndexes}
use Rattle.ob0_rename.specs.Answers.{AnswersRenamingOfDeclaration, IsFirstRefusalForDeclaration}
use Rattle.ob0_rename.specs.Renaming.{declaration_has_name}
use Rattle.ob0_rename.proofs.Outcomes.{Edited, answered, requested, captured, once_of, own_answered}
use Rattle.ob0_rename.proofs.Owned.{own_free}
use Rattle.ob0_rename.proofs.Spelled.{own_identifier}
use Rattle.ob0_rename.proofs.declaration_edits.rename_declaration.Goals as goal

pub returns-then-not-is_identifier-clause-own_name : goal.returns-then-not-is_identifier-clause-own_name
returns-then-not-is_identifier-clause-own_name g c =
    let names = c.resolved-names.result.now in
    let well = subst IsWellTyped (sym c.resolved-names.ensures.value) c.resolved-names.ensures.well_typed in
    let scan = subst IsScan c.tokens.ensures c.text-text.ensures.scan in
    λ own.
    let same = subst (λ (x : Resolution). declaration_has_name x.module_read c.args.declaration c.args.new.now ≡ true) (sym c.resolved-names.ensures.value) own in
    let id = own_identifier names.module_read c.args.declaration c.args.new.now well.resolved.parsed scan same in
    absurd (let yes : c.is_identifier.result ≡ true = c.is_identifier.ensures.1 id in let no = c.if-not-is_identifier.true in cc)

pub returns-in-Some : goal.returns-in-Some
returns-in-Some g c =
    let unit = g.T.TextStore.unit_of c.args.store.now in
    let text = g.T.TextStore.content c.args.store.now in
    let names = c.resolved-names.result.now in
    let well = subst IsWellTyped (sym c.resolved-names.ensures.value) c.resolved-names.ensures.well_typed in
    let id = c.is_identifier.ensures.0 c.if-not-is_identifier.false in
    let first = sym (ap (option_map conflict_of) c.in-Some.is) ∙ c.in_ok-capture.ensures.first in
    let other = sym (ap other_declaration_in_conflict c.in-Some.is) ∙ c.in_ok-capture.ensures.other in
    let some = c.in-Some.is in
    record {
      answers = λ place. inr (subst (λ (x : Resolution). IsFirstRefusalForDeclaration (requested unit text place c.args.new.now c.args.declaration x) c.args.declaration c.refusal_of_conflict.result) c.resolved-names.ensures.value
          (captured unit text place c.args.new.now c.args.declaration names well.resolved id c.in-Some.capture c.refusal_of_conflict.result first other c.refusal_of_conflict.ensures.duplicate c.refusal_of_conflict.ensures.occurrence));
      memory = λ refused. id;
      own_name = λ own.
          let same = subst (λ (x : Resolution). declaration_has_name x.module_read c.args.declaration c.args.new.now ≡ true) (sym c.resolved-names.ensures.value) own in
          let none = c.in_ok-capture.ensures.free.1 (own_free names.module_read c.args.declaration c.args.new.now same (once_of (named_tree_of names.module_read) well.well_typed)) in
          absurd (cc);
    }

pub returns-in_ok-tokens-in-None : goal.returns-in_ok-tokens-in-None
returns-in_ok-tokens-in-None g c =
    let unit = g.T.TextStore.unit_of c.args.store.now in
    let text = g.T.TextStore.content c.args.store.now in
    let new = c.args.new.now in
    let d = c.args.declaration in
    let names = c.resolved-names.result.now in
    let well = subst IsWellTyped (sym c.resolved-names.ensures.value) c.resolved-names.ensures.well_typed in
    let id = c.is_identifier.ensures.0 c.if-not-is_identifier.false in
    let free = c.in_ok-capture.ensures.free.0 c.in-None.is in
    let places = c.deref.ensures.value ∙ c.in_ok-tokens-in-None.ensures.value in
    let made : Edited unit text new c.tokens-in-None.result.now c.deref.result.now c.replacement_edits.result =
    record { edits = c.replacement_edits.ensures.edits; short = c.replacement_edits.ensures.short; leaves = c.replacement_edits.ensures.words; too_long = c.replacement_edits.ensures.too_long; refusals = c.replacement_edits.ensures.refusals } in
    let there = subst (λ places. Edited unit text new names.module_read.source places c.replacement_edits.result) places
    (subst (λ (s : TextWithTokens). Edited unit text new s c.deref.result.now c.replacement_edits.result) c.tokens-in-None.ensures made) in
    let are = subst (AreIdentifierIndexes names.module_read.source.tokens 0) c.in_ok-tokens-in-None.ensures.value c.in_ok-tokens-in-None.ensures.names in
    record {
      answers = λ place. subst (λ (x : Resolution). AnswersRenamingOfDeclaration (requested unit text place new d x) d c.replacement_edits.result) c.resolved-names.ensures.value
          (answered unit text place new d names well id free c.renaming_to_free_name_keeps_typing_and_runs.ensures c.renamed_tree_spells_renamed_words.ensures c.identifier_may_replace_identifier.ensures are c.replacement_edits.result there);
      memory = λ refused. id;
      own_name = λ own.
          let same = subst (λ (x : Resolution). declaration_has_name x.module_read d new ≡ true) (sym c.resolved-names.ensures.value) own in
          own_answered unit text new d names.module_read (subst IsScan c.tokens.ensures c.text-text.ensures.scan) same c.replacement_edits.result there;
    }
