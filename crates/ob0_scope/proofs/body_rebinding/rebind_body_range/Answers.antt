use Rattle.std.proofs.Common.{◌≡◌, ◌≤◌, ◌++◌, List, length, not, sym, ap, ◌∙◌, subst, arith}
use Rattle.std.specs.List.{list_any}
use Rattle.std.specs.List.Sorted.{IsNonDecreasing}
use Rattle.ob0_scan.specs.TextWithTokens.{TextWithTokens}
use Rattle.ob0_tree.specs.View.{body_of}
use Rattle.ob0_scope_table.specs.DuplicatesAndEndNames.{declaration_faults}
use Rattle.ob0_scope_table.specs.Resolution.{is_duplicate_or_end_name_fault, undeclared_faults_from_table}
use Rattle.ob0_scope_table.specs.declared.faults.FaultAtTokens.{FaultAtTokens}
use Rattle.ob0_scope_numbering.specs.BodyScope.{scope_from_table, state_before_body}
use Rattle.ob0_scope_numbering.specs.IdentifierWalk.{visit_nondeclaring_tree}
use Rattle.ob0_scope.specs.BindingsOutsideBody.{tokens_in_changed_text, undeclared_tokens}
use Rattle.ob0_scope.proofs.AscendingTokens.{declaration_tokens_ascend, occurrence_tokens_ascend, undeclared_tokens_ascend}
use Rattle.ob0_scope.proofs.NewBody.{new_body_bound}
use Rattle.ob0_scope.proofs.StillOnce.{still_once}
use Rattle.ob0_scope.proofs.body_rebinding.rebind_body_range.Goals as goal

pub recheck_names-requires-clause-known : goal.recheck_names-requires-clause-known
recheck_names-requires-clause-known c =
    let was = c.requires.was_bound in
    ap (list_any is_duplicate_or_end_name_fault) c.deref.ensures.value
    ∙ (was.resolved.reported.declared_twice ∙ ap not (sym (still_once was.old c.args.read.now was.path c.requires.same was.replaced)))

pub recheck_names-requires-clause-ascending : goal.recheck_names-requires-clause-ascending
recheck_names-requires-clause-ascending c =
    let was = c.requires.was_bound in
    subst (λ (fs : List FaultAtTokens). IsNonDecreasing (undeclared_tokens fs)) (sym c.deref.ensures.value) (undeclared_tokens_ascend was.old c.args.old was.resolved)

pub replace_tokens-requires-clause-ascending : goal.replace_tokens-requires-clause-ascending
replace_tokens-requires-clause-ascending c = let was = c.requires.was_bound in declaration_tokens_ascend was.old c.args.old was.resolved

pub replace_tokens-requires-2-clause-ascending : goal.replace_tokens-requires-2-clause-ascending
replace_tokens-requires-2-clause-ascending c = let was = c.requires.was_bound in occurrence_tokens_ascend was.old c.args.old was.resolved

pub returns : goal.returns
returns c =
    let m = c.args.read.now in
    let b = c.args.old in
    let range = c.args.range in
    let table = c.args.table in
    let statements = body_of c.args.statements.now in
    let parts = c.into_tokens_and_ordinals-declared in
    let count : length c.tokens.result.now ≡ length m.source.tokens = ap length (c.tokens.ensures ∙ ap (λ (s : TextWithTokens). s.tokens) c.tokens-tokens.ensures.source) in
    let within : length m.source.tokens ≤ length table.items = omega (arith, c.if-len-tokens.false, c.len.ensures, count, table.ok) in
    let walked = c.in_ok-numbering.ensures
    ∙ (λ i. visit_nondeclaring_tree statements (state_before_body (c.tokens-tokens.ensures.source i) (scope_from_table (c.tokens-tokens.ensures.source i) table.items c.args.names.now) table.items)) in
    let used_are = c.in_ok-replace_tokens-2.ensures ∙ ap (tokens_in_changed_text range b.occurrences.items) c.deref-4.ensures.value in
    let all = c.in_ok-faults.ensures
    ∙ (λ i. declaration_faults m ++ undeclared_faults_from_table (c.deref-2.ensures.value i) (tokens_in_changed_text range (undeclared_tokens (c.deref.ensures.value i)) (c.deref-3.ensures.value i))) in
    new_body_bound m b table.items range c.args.names.now statements c.in_ok-numbering.numbering parts.result.2.items c.replace_tokens.new.tokens.items parts.result.1.items c.replace_tokens-2.new.tokens.items c.in_ok-faults.faults.items
    c.requires within walked parts.ensures.table parts.ensures.uses c.in_ok-replace_tokens.ensures used_are all
