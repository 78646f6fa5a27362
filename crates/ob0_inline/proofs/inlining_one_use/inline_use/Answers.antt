use Rattle.std.proofs.Common.{Err, inl, sym, ap, ◌∙◌, subst}
use Rattle.ob0_tree.specs.ParsedModule.{named_tree_of}
use Rattle.ob0_scope_table.specs.Resolution.{Resolution}
use Rattle.ob0_inline.specs.Uses.{IsConstantUse, value_text_keeps_meaning}
use Rattle.ob0_inline.proofs.AtUses.{IsRefused, Made, answer_ok, answer_refused, answer_shadowed}
use Rattle.ob0_inline.proofs.inlining_one_use.inline_use.Goals as goal

pub edits_to_inline_use-requires-clause-is_use : goal.edits_to_inline_use-requires-clause-is_use
edits_to_inline_use-requires-clause-is_use g c = subst (λ (r : Resolution). IsConstantUse r.module_read c.args.found) (sym c.resolved-names.ensures.value) c.requires.is_use

pub returns-in-Err : goal.returns-in-Err
returns-in-Err g c =
    let u = c.args.found in
    let refusal = c.in-Err.refusal in
    let there : IsRefused c.resolved-names.result.now u refusal =
    record { too_long = λ e. c.in-Err.ensures.too_long (λ i. Err (e i)); too_deep = λ alone e. c.in-Err.ensures.too_deep alone (λ i. Err (e i)); deep_and_short = λ e. c.in-Err.ensures.deep_and_short (λ i. Err (e i)); one_of = c.in-Err.ensures.refusals } in
    answer_refused c.args.«module».now c.resolved-names.ensures.well_typed u c.requires.is_use c.constant_uses_are_factors.ensures c.scalar_fits_in_32_bits.ensures refusal
    (subst (λ (r : Resolution). IsRefused r u refusal) c.resolved-names.ensures.value there)

pub returns-then-branch : goal.returns-then-branch
returns-then-branch g c =
    let u = c.args.found in
    let unit = g.T.TextStore.unit_of c.args.store.now in
    let content = g.T.TextStore.content c.args.store.now in
    let edits = c.in-Ok.edits.items in
    let there : Made c.resolved-names.result.now u unit content edits =
    record { edits_are = c.in-Ok.ensures.edits; make_text = record { leaves = c.in-Ok.ensures.inlined; short = c.in-Ok.ensures.short } } in
    answer_ok c.args.«module».now c.resolved-names.ensures.well_typed u c.requires.is_use c.constant_uses_are_factors.ensures c.scalar_fits_in_32_bits.ensures c.inlining_keeps_typing_and_runs.ensures unit content edits
    (subst (λ (r : Resolution). Made r u unit content edits) c.resolved-names.ensures.value there)
    (ap (λ (r : Resolution). value_text_keeps_meaning (named_tree_of r.module_read) u.occurrence u.value) (sym c.resolved-names.ensures.value) ∙ (sym c.in_ok-value_text_keeps_meaning-in-Ok.ensures ∙ c.if-branch.true))

pub returns-else-branch : goal.returns-else-branch
returns-else-branch g c =
    let u = c.args.found in
    let unit = g.T.TextStore.unit_of c.args.store.now in
    let content = g.T.TextStore.content c.args.store.now in
    let edits = c.in-Ok.edits.items in
    let there : Made c.resolved-names.result.now u unit content edits =
    record { edits_are = c.in-Ok.ensures.edits; make_text = record { leaves = c.in-Ok.ensures.inlined; short = c.in-Ok.ensures.short } } in
    inl (answer_shadowed c.args.«module».now c.resolved-names.ensures.well_typed u c.requires.is_use c.constant_uses_are_factors.ensures c.scalar_fits_in_32_bits.ensures unit content edits
    (subst (λ (r : Resolution). Made r u unit content edits) c.resolved-names.ensures.value there)
    (ap (λ (r : Resolution). value_text_keeps_meaning (named_tree_of r.module_read) u.occurrence u.value) (sym c.resolved-names.ensures.value) ∙ (sym c.in_ok-value_text_keeps_meaning-in-Ok.ensures ∙ c.if-branch.false)))
