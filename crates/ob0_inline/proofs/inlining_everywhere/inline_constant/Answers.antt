use Rattle.std.proofs.Common.{◌<◌, Err, length, inl, sym, ap, ◌∙◌, subst}
use Rattle.ob0_scan.specs.TextWithTokens.{TextWithTokens}
use Rattle.ob0_tree.specs.ParsedModule.{named_tree_of}
use Rattle.ob0_scope_table.specs.Resolution.{Resolution}
use Rattle.ob0_edits_tokens.specs.Removals.{span_of_tokens}
use Rattle.ob0_inline.specs.Declarations.{contains_span}
use Rattle.ob0_inline.specs.Everywhere.{has_shadowed_use}
use Rattle.std.specs.List.{list_any}
use Rattle.ob0_inline.proofs.AtConstants.{IsRefused, Made, answer_comment, answer_hidden, answer_made, answer_not_made}
use Rattle.ob0_inline.proofs.Ended.{is_taken}
use Rattle.ob0_inline.proofs.inlining_everywhere.inline_constant.Goals as goal

pub returns-then-branch : goal.returns-then-branch
returns-then-branch g c =
    let k = c.args.constant in
    let unit = g.T.TextStore.unit_of c.args.store.now in
    let content = g.T.TextStore.content c.args.store.now in
    let edits = c.in-Ok.edits.items in
    let well = c.resolved-names.ensures.well_typed in
    let back = c.resolved-names.ensures.value in
    let there : Made c.resolved-names.result.now k unit content edits =
    record { edits_are = c.in-Ok.ensures.edits; make_text = record { leaves = c.in-Ok.ensures.inlined; short = c.in-Ok.ensures.short } } in
    let made = subst (λ (r : Resolution). Made r k unit content edits) back there in
    let hidden = ap (λ (r : Resolution). has_shadowed_use (named_tree_of r.module_read) k) (sym back) ∙ (sym c.in_ok-has_shadowed_use-in-Ok.ensures ∙ c.if-branch.true) in
    inl (answer_hidden c.args.«module».now well k c.requires.is_constant c.constant_uses_are_factors.ensures c.scalar_fits_in_32_bits.ensures unit content edits made hidden)

pub declaration_has_comment-requires-clause-inside : goal.declaration_has_comment-requires-clause-inside
declaration_has_comment-requires-clause-inside g c =
    let taken = is_taken c.args.«module».now c.resolved-names.ensures.well_typed.resolved c.args.constant c.requires.is_constant in
    subst (λ (s : TextWithTokens). c.args.constant.last < length s.tokens) (sym (c.tokens.ensures ∙ ap (λ (r : Resolution). r.module_read.source) c.resolved-names.ensures.value)) taken.inside

pub declaration_has_comment-requires-clause-order : goal.declaration_has_comment-requires-clause-order
declaration_has_comment-requires-clause-order g c = (is_taken c.args.«module».now c.resolved-names.ensures.well_typed.resolved c.args.constant c.requires.is_constant).order

pub returns-then-declaration_has_comment : goal.returns-then-declaration_has_comment
returns-then-declaration_has_comment g c =
    let k = c.args.constant in
    let unit = g.T.TextStore.unit_of c.args.store.now in
    let content = g.T.TextStore.content c.args.store.now in
    let edits = c.in-Ok.edits.items in
    let well = c.resolved-names.ensures.well_typed in
    let back = c.resolved-names.ensures.value in
    let there : Made c.resolved-names.result.now k unit content edits =
    record { edits_are = c.in-Ok.ensures.edits; make_text = record { leaves = c.in-Ok.ensures.inlined; short = c.in-Ok.ensures.short } } in
    let made = subst (λ (r : Resolution). Made r k unit content edits) back there in
    let shown = ap (λ (r : Resolution). has_shadowed_use (named_tree_of r.module_read) k) (sym back) ∙ (sym c.in_ok-has_shadowed_use-in-Ok.ensures ∙ c.if-branch.false) in
    let source = c.tokens.ensures ∙ ap (λ (r : Resolution). r.module_read.source) back in
    let comment = ap (λ (s : TextWithTokens). list_any (contains_span (span_of_tokens s.tokens k.first k.last)) s.comments) (sym source) ∙ (sym c.declaration_has_comment.ensures ∙ c.if-declaration_has_comment.true) in
    inl (answer_comment c.args.«module».now well k c.requires.is_constant c.constant_uses_are_factors.ensures c.scalar_fits_in_32_bits.ensures unit content edits made shown comment)

pub returns-else-declaration_has_comment : goal.returns-else-declaration_has_comment
returns-else-declaration_has_comment g c =
    let k = c.args.constant in
    let unit = g.T.TextStore.unit_of c.args.store.now in
    let content = g.T.TextStore.content c.args.store.now in
    let edits = c.in-Ok.edits.items in
    let well = c.resolved-names.ensures.well_typed in
    let back = c.resolved-names.ensures.value in
    let there : Made c.resolved-names.result.now k unit content edits =
    record { edits_are = c.in-Ok.ensures.edits; make_text = record { leaves = c.in-Ok.ensures.inlined; short = c.in-Ok.ensures.short } } in
    let made = subst (λ (r : Resolution). Made r k unit content edits) back there in
    let shown = ap (λ (r : Resolution). has_shadowed_use (named_tree_of r.module_read) k) (sym back) ∙ (sym c.in_ok-has_shadowed_use-in-Ok.ensures ∙ c.if-branch.false) in
    let source = c.tokens.ensures ∙ ap (λ (r : Resolution). r.module_read.source) back in
    let bare = ap (λ (s : TextWithTokens). list_any (contains_span (span_of_tokens s.tokens k.first k.last)) s.comments) (sym source) ∙ (sym c.declaration_has_comment.ensures ∙ c.if-declaration_has_comment.false) in
    answer_made c.args.«module».now well k c.requires.is_constant c.constant_uses_are_factors.ensures c.scalar_fits_in_32_bits.ensures c.inlining_everywhere_keeps_typing_and_runs.ensures unit content edits made shown bare

pub returns-in-Err : goal.returns-in-Err
returns-in-Err g c =
    let k = c.args.constant in
    let refusal = c.in-Err.refusal in
    let back = c.resolved-names.ensures.value in
    let there : IsRefused c.resolved-names.result.now k refusal =
    record { too_long = λ e. c.in-Err.ensures.too_long (λ i. Err (e i)); too_deep = λ alone e. c.in-Err.ensures.too_deep alone (λ i. Err (e i)); deep_and_short = λ e. c.in-Err.ensures.deep_and_short (λ i. Err (e i)); one_of = c.in-Err.ensures.refusals } in
    answer_not_made c.args.«module».now c.resolved-names.ensures.well_typed k c.requires.is_constant c.constant_uses_are_factors.ensures c.scalar_fits_in_32_bits.ensures refusal
    (subst (λ (r : Resolution). IsRefused r k refusal) back there)
