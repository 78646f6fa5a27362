use Rattle.std.proofs.Common.{◌++◌, refl, ap, ◌∙◌}
use Rattle.ob0_scope_numbering.specs.IdentifierWalk.{visit_module}
use Rattle.ob0_scope_numbering.specs.MarkWalk as listing
use Rattle.ob0_scope_table.specs.Resolution.{undeclared_faults_from_table}
use Rattle.ob0_tree.specs.ParsedModule.{tree_of}
use Rattle.ob0_scope_numbering.specs.TableWalk.{WalkState, number_module}
use Rattle.ob0_scope_numbering.specs.IdentifierSpellings.{original_spellings}
use Rattle.ob0_scope.proofs.Made.{resolution_made}
use Rattle.ob0_scope.proofs.module_resolution.bindings_of.Goals as goal

pub returns : goal.returns
returns c =
    let m = c.args.«module».now in
    let parts = c.into_tokens_and_ordinals-declaration_tokens in
    let faults = c.report_undeclared_names.new.faults.items in
    let once = c.in_ok-faults.faults.items in
    let written = original_spellings m.source in
    let gone = c.in_ok-numbering.ensures
    ∙ ap (number_module (tree_of m)) (c.original_spellings.ensures ∙ ap original_spellings c.tokens-tokens.ensures.source) in
    let all = c.in_ok-report_undeclared_names.ensures ∙ (λ i. once ++ undeclared_faults_from_table (c.deref.ensures.value i) (c.deref-2.ensures.value i)) in
    resolution_made m (visit_module (tree_of m) (listing.initial_walk_state written)) parts.result.2.items parts.result.0.items parts.result.1.items once faults
    c.tokens-tokens.ensures.parsed refl (parts.ensures.table ∙ ap (λ (v : WalkState). v.marks) gone) (parts.ensures.declaration_tokens ∙ ap (λ (v : WalkState). v.declaration_tokens) gone)
    (parts.ensures.uses ∙ ap (λ (v : WalkState). v.uses) gone) c.in_ok-faults.ensures all
