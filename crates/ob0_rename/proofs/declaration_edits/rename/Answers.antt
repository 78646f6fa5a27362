use Rattle.std.proofs.Common.{◌≡◌, ◌∙◌, ℕ, Err, None, Some, inl, inr, sym, ap, subst, arith}
use Rattle.ob0_scan.specs.LexemeClasses.{IsIdentifier}
use Rattle.ob0_text.specs.declared.refusals.EditRefusal.TheVariants as refusal
use Rattle.ob0_tree.specs.TokenIndexLeaves.{token_text_at}
use Rattle.ob0_types.specs.IdentifierMeanings.{MeansField}
use Rattle.ob0_rename.specs.Renaming.{declaration, record_field, rename_target_at, nothing, predeclared}
use Rattle.ob0_rename.proofs.FieldOutcomes.{field_answered_there}
use Rattle.ob0_rename.proofs.Outcomes.{answered_there, is_declaration, is_predeclared, requested, takes_declaration, takes_field, takes_none, target_of, target_there}
use Rattle.ob0_rename.proofs.declaration_edits.rename.Goals as goal

pub returns-in-None : goal.returns-in-None
returns-in-None g c =
    let unit = g.T.TextStore.unit_of c.args.store.now in
    let text = g.T.TextStore.content c.args.store.now in
    let r = c.args.well_typed.now in
    let means = ap (rename_target_at r) (sym c.offset-offset.ensures) ∙ target_there r c.offset-offset.result None (sym c.in-None.is ∙ c.resolved_identifier_at.ensures.found) in
    record { answers = inr means; memory = λ refused. absurd (cc); own_name = takes_none (requested unit text c.args.place c.args.new.now 0 r) (Err refusal.NoName) (inl means) }

pub returns-then-ordinal-lt-PREDECLARED_COUNT : goal.returns-then-ordinal-lt-PREDECLARED_COUNT
returns-then-ordinal-lt-PREDECLARED_COUNT g c =
    let unit = g.T.TextStore.unit_of c.args.store.now in
    let text = g.T.TextStore.content c.args.store.now in
    let r = c.args.well_typed.now in
    let d : ℕ = c.in-Name.ordinal in
    let there = target_there r c.offset-offset.result (Some c.in-Some.found) (sym c.in-Some.is ∙ c.resolved_identifier_at.ensures.found) in
    let named = ap (target_of r.module_read.source c.in-Some.found.token) c.in-Name.is in
    let means = ap (rename_target_at r) (sym c.offset-offset.ensures) ∙ (there ∙ (named ∙ is_predeclared d (omega (arith, c.if-ordinal-lt-PREDECLARED_COUNT.true)))) in
    record { answers = inr means; memory = λ refused. absurd (cc); own_name = takes_none (requested unit text c.args.place c.args.new.now d r) (Err refusal.Predeclared) (inr means) }

pub returns-else-ordinal-lt-PREDECLARED_COUNT : goal.returns-else-ordinal-lt-PREDECLARED_COUNT
returns-else-ordinal-lt-PREDECLARED_COUNT g c =
    let unit = g.T.TextStore.unit_of c.args.store.now in
    let text = g.T.TextStore.content c.args.store.now in
    let r = c.args.well_typed.now in
    let d : ℕ = c.in-Name.ordinal in
    let there = target_there r c.offset-offset.result (Some c.in-Some.found) (sym c.in-Some.is ∙ c.resolved_identifier_at.ensures.found) in
    let named = ap (target_of r.module_read.source c.in-Some.found.token) c.in-Name.is in
    let means = ap (rename_target_at r) (sym c.offset-offset.ensures) ∙ (there ∙ (named ∙ is_declaration d (omega (arith, c.if-ordinal-lt-PREDECLARED_COUNT.false)))) in
    record {
      answers = answered_there (requested unit text c.args.place c.args.new.now d r) d means c.rename_declaration.result (c.rename_declaration.ensures.answers c.args.place);
      memory = λ refused. record {
        identifier = c.rename_declaration.ensures.memory refused;
        some = λ e. let both : declaration d ≡ nothing = sym means ∙ e in cc;
        declared = λ e. let both : declaration d ≡ predeclared = sym means ∙ e in cc;
      };
      own_name = takes_declaration (requested unit text c.args.place c.args.new.now d r) d c.rename_declaration.result means c.rename_declaration.ensures.own_name;
    }

pub returns-in-Field : goal.returns-in-Field
returns-in-Field g c =
    let unit = g.T.TextStore.unit_of c.args.store.now in
    let text = g.T.TextStore.content c.args.store.now in
    let r = c.args.well_typed.now in
    let k : ℕ = c.in-Field.owner in
    let f = token_text_at r.module_read.source c.in-Some.found.token in
    let there = target_there r c.offset-offset.result (Some c.in-Some.found) (sym c.in-Some.is ∙ c.resolved_identifier_at.ensures.found) in
    let means = ap (rename_target_at r) (sym c.offset-offset.ensures) ∙ (there ∙ ap (target_of r.module_read.source c.in-Some.found.token) c.in-Field.is) in
    let spelled = rw c.in-Some.is at c.resolved_identifier_at.ensures.spelled in
    let id = spelled (subst MeansField (sym c.in-Field.is) tt) in
    record {
      answers = field_answered_there (requested unit text c.args.place c.args.new.now k r) k f means c.rename_field.result (c.rename_field.ensures.answers c.args.place);
      memory = λ refused. record {
        identifier = c.rename_field.ensures.memory refused;
        some = λ e. let both : record_field k f ≡ nothing = sym means ∙ e in cc;
        declared = λ e. let both : record_field k f ≡ predeclared = sym means ∙ e in cc;
      };
      own_name = takes_field (requested unit text c.args.place c.args.new.now k r) k f c.rename_field.result means (λ own. c.rename_field.ensures.own_name (subst IsIdentifier (sym own) id) own);
    }
