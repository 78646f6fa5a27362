use Rattle.std.proofs.Common.{◌≡◌, ◌≤◌, ◌++◌, ◌==◌, ℕ, false, List, Option, length, not, refl, sym, ap, ◌∙◌, subst, arith}
use Rattle.std.specs.List.{list_any}
use Rattle.std.specs.List.Sorted.{IsNonDecreasing}
use Rattle.ob0_scan.specs.TextWithTokens.{TextWithTokens}
use Rattle.ob0_tree.specs.FirstIdentifier.{first_identifier}
use Rattle.ob0_tree.specs.IdentifierIndexes.{identifier_names}
use Rattle.ob0_tree.specs.ParsedModule.{tree_of}
use Rattle.ob0_tree.specs.Tree.{Tree, body, maybe}
use Rattle.ob0_tree.specs.View.{block_of, body_of}
use Rattle.ob0_tree.specs.declared.tree.Block.{Block}
use Rattle.ob0_scope_table.specs.BodyReplacement.{body_at_path, body_at_path_in_block, closing_name_at_path, closing_name_at_path_in_block, path_to_body_in_block, path_to_body_in_module}
use Rattle.ob0_scope_table.specs.DuplicatesAndEndNames.{declaration_faults}
use Rattle.ob0_scope_table.specs.Resolution.{is_duplicate_or_end_name_fault, ordinal_in, undeclared_faults_from_table}
use Rattle.ob0_scope_table.specs.declared.faults.FaultAtTokens.{FaultAtTokens}
use Rattle.ob0_scope_numbering.specs.BodyScope.{scope_from_table, state_before_body}
use Rattle.ob0_scope_numbering.specs.IdentifierSpellings.{original_spellings}
use Rattle.ob0_scope_numbering.specs.IdentifierWalk.{visit_module, visit_nondeclaring_tree}
use Rattle.ob0_scope_numbering.specs.MarkWalk.{initial_walk_state}
use Rattle.ob0_scope_numbering.specs.TableWalk.{WalkState}
use Rattle.ob0_scope_numbering.proofs.Passing.{HasMarks}
use Rattle.ob0_scope.specs.BindingsOutsideBody.{tokens_in_changed_text, undeclared_tokens}
use Rattle.ob0_scope.specs.NamesVisibleInBody.{names_visible_at_path, names_visible_at_path_in_block}
use Rattle.ob0_scope.proofs.AscendingTokens.{undeclared_tokens_ascend}
use Rattle.ob0_scope.proofs.BodyBound.{body_rebound, in_whole, rebound, rebound_uses}
use Rattle.ob0_scope.proofs.BodyChanges.{changed_outside, changed_undeclared, ordered, unmoved}
use Rattle.ob0_scope.proofs.Made.{resolution_marked}
use Rattle.ob0_scope.proofs.StillOnce.{still_once_written}
use Rattle.ob0_scope.proofs.body_rebinding.rebind_changed_body.Goals as goal

pub recheck_names-requires-clause-known : goal.recheck_names-requires-clause-known
recheck_names-requires-clause-known c =
    let was = c.requires in
    ap (list_any is_duplicate_or_end_name_fault) c.deref-2.ensures.value
    ∙ (was.resolved.reported.declared_twice ∙ ap not (sym (still_once_written was.old c.args.read.now c.args.low c.args._changed_end was.parsed was.change)))

pub recheck_names-requires-clause-ordered : goal.recheck_names-requires-clause-ordered
recheck_names-requires-clause-ordered c =
    let m = c.args.read.now in
    let low = c.args.low in
    let was = c.requires in
    let path = path_to_body_in_module low (tree_of m) in
    let found = c.in_ok-found in
    let statements : body_of found.found.statements.now ≡ body_at_path path (tree_of m) = found.ensures.statements ∙ ap (λ (b : Block). body_at_path_in_block (path_to_body_in_block low (block_of b)) (block_of b)) c.block.ensures in
    let first_is = ap (λ (t : Tree ℕ (maybe body)). first_identifier t) (sym statements) ∙ (sym c.first_identifier.ensures ∙ c.in-Some.is) in
    let closing : found.found.closing ≡ closing_name_at_path path (tree_of m) = found.ensures.closing ∙ (λ i. closing_name_at_path_in_block (path_to_body_in_block low (block_of (c.block.ensures i))) (c.closing_name.ensures i) (block_of (c.block.ensures i))) in
    ordered was.old m low c.args._changed_end was.parsed was.change c.in-Some.first found.found.closing first_is closing was.resolved.parsed

pub recheck_names-requires-clause-ascending : goal.recheck_names-requires-clause-ascending
recheck_names-requires-clause-ascending c =
    let was = c.requires in
    subst (λ (fs : List FaultAtTokens). IsNonDecreasing (undeclared_tokens fs)) (sym c.deref-2.ensures.value) (undeclared_tokens_ascend (record c.args.read.now { source = was.old }) c.args.old was.resolved)

pub returns : goal.returns
returns c =
    let m = c.args.read.now in
    let low = c.args.low in
    let was = c.requires in
    let b = c.args.old in
    let path = path_to_body_in_module low (tree_of m) in
    let found = c.in_ok-found in
    let statements : body_of found.found.statements.now ≡ body_at_path path (tree_of m) = found.ensures.statements ∙ ap (λ (b : Block). body_at_path_in_block (path_to_body_in_block low (block_of b)) (block_of b)) c.block.ensures in
    let names : c.find_body_in_block.new.names.items ≡ names_visible_at_path path (tree_of m) =
    found.ensures.names ∙ (ap (λ (is : List ℕ). is ++ names_visible_at_path_in_block (path_to_body_in_block low (block_of c.block.result.now)) (block_of c.block.result.now)) c.new-names.ensures.items
    ∙ ap (λ (b : Block). names_visible_at_path_in_block (path_to_body_in_block low (block_of b)) (block_of b)) c.block.ensures) in
    let walk : c.in_ok-numbering.numbering ≡ rebound m path was.parsed b.ordinals.items =
    c.in_ok-numbering.ensures
    ∙ (λ i. visit_nondeclaring_tree (statements i) (state_before_body (c.tokens-tokens.ensures.source i) (scope_from_table (c.tokens-tokens.ensures.source i) b.ordinals.items ((c.deref.ensures.value ∙ names) i)) b.ordinals.items)) in
    let parts = c.into_tokens_and_ordinals-declared in
    let made : parts.result.2.items ≡ (rebound m path was.parsed b.ordinals.items).marks = parts.ensures.table ∙ ap (λ (v : WalkState). v.marks) walk in
    let count : length c.tokens.result.now ≡ length m.source.tokens = ap length (c.tokens.ensures ∙ ap (λ (s : TextWithTokens). s.tokens) c.tokens-tokens.ensures.source) in
    let within : length m.source.tokens ≤ length b.ordinals.items = omega (arith, c.if-len-tokens.false, c.len.ensures, count, b.ordinals.ok) in
    let again = body_rebound m path was.parsed b.ordinals.items was.change.new_scan (changed_outside was.old m low c.args._changed_end was.parsed was.change b.ordinals.items was.resolved.binding) within in
    let same : (i : ℕ) → list_any (λ j. j == i) (identifier_names (body_at_path path (tree_of m))) ≡ false → ordinal_in parts.result.2.items i ≡ ordinal_in b.ordinals.items i = λ i e. ap (λ (os : List (Option ℕ)). ordinal_in os i) made ∙ again.elsewhere i e in
    let own = parts.ensures.uses ∙ (ap (λ (v : WalkState). v.uses) walk ∙ rebound_uses m path was.parsed b.ordinals.items) in
    let first_is = ap (λ (t : Tree ℕ (maybe body)). first_identifier t) (sym statements) ∙ (sym c.first_identifier.ensures ∙ c.in-Some.is) in
    let closing : found.found.closing ≡ closing_name_at_path path (tree_of m) = found.ensures.closing ∙ (λ i. closing_name_at_path_in_block (path_to_body_in_block low (block_of (c.block.ensures i))) (c.closing_name.ensures i) (block_of (c.block.ensures i))) in
    let undeclared = changed_undeclared was.old m low c.args._changed_end was.parsed was.change b parts.result.2.items parts.result.1.items c.in-Some.first found.found.closing was.resolved first_is closing own same in
    let all = c.in_ok-faults.ensures
    ∙ ((λ i. declaration_faults m ++ undeclared_faults_from_table (c.deref-3.ensures.value i) (tokens_in_changed_text (unmoved c.in-Some.first found.found.closing) (undeclared_tokens (c.deref-2.ensures.value i)) (c.deref-4.ensures.value i)))
    ∙ ap (λ fs. declaration_faults m ++ fs) (undeclared ∙ ap (undeclared_faults_from_table parts.result.2.items) (sym was.resolved.occurring))) in
    resolution_marked m parts.result.2.items b.declaration_tokens.items b.occurrences.items (declaration_faults m) c.in_ok-faults.faults.items was.parsed
    (subst (λ (os : List (Option ℕ)). HasMarks (ordinal_in os) (visit_module (tree_of m) (initial_walk_state (original_spellings m.source))).marks) (sym made) again.marks)
    (λ token e. same token (in_whole m path token e) ∙ was.resolved.ordinals_only_at_names token e)
    was.resolved.declaring was.resolved.occurring refl all
