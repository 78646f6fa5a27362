use Rattle.std.proofs.Common.{◌≡◌, ◌||◌, ◌++◌, ◌+◌, suc, map, not, take, get_or, refl, ap, ◌∙◌, add-one, sym}
use Rattle.ob0_tree.specs.TokenIndexLeaves.{token_text_at}
use Rattle.ob0_language_names.specs.ConsistentNames.{is_among}
use Rattle.ob0_scope_table.specs.DuplicatesAndEndNames.{fault_unless}
use Rattle.ob0_scope_table.specs.declared.faults.FaultAtTokens.{FaultAtTokens}
use Rattle.ob0_language_names.specs.Names.{same_name}
use Rattle.ob0_scope.proofs.Checking.{all_seen, one_further, sees_on}
use Rattle.ob0_scope.proofs.declaration_checks.DeclarationFaultCollector.report_duplicates_pairwise.Goals as goal

pub loop-index-preserved : goal.loop-index-preserved
loop-index-preserved c =
    let text = token_text_at c.args.tokens.now in
    let names = c.args.names.now in
    let done = c.loop-index.index in
    let name = get_or names done 0 in
    let next : done + 1 ≡ suc done = add-one done in
    sees_on text names c.args.self.now done (λ x. is_among x (map text (take done names))) (λ x. is_among x (map text (take (done + 1) names)))
    c.loop-index.self c.report_unless.new.self (not c.contains_spelling-is_second.result) name c.token_text_at.result.now
    c.loop-index.invariant c.loop-index-test.true refl c.token_text_at.ensures (ap not c.contains_spelling-is_second.ensures)
    (λ q. ap (λ n. is_among q (map text (take n names))) next
    ∙ (one_further text names done 0 c.loop-index-test.true q ∙ ap (λ t. same_name q t || is_among q (map text (take done names))) (sym c.token_text_at.ensures)))
    (c.in_ok-report_unless.ensures ∙ ap (λ (f : FaultAtTokens). c.loop-index.self ++ fault_unless (not c.contains_spelling-is_second.result) f) c.fault_at_token.ensures)

pub returns : goal.returns
returns c = all_seen c.loop-index.invariant c.loop-index-test.false
