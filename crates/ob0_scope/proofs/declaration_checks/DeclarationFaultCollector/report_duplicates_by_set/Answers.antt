use Rattle.std.proofs.Common.{◌++◌, refl, ap, ◌∙◌, get_or}
use Rattle.ob0_tree.specs.TokenIndexLeaves.{token_text_at}
use Rattle.ob0_scope_table.specs.DuplicatesAndEndNames.{fault_unless}
use Rattle.ob0_scope_table.specs.declared.faults.FaultAtTokens.{FaultAtTokens}
use Rattle.ob0_scope.proofs.Checking.{all_seen, has, one_more, sees_on}
use Rattle.ob0_scope.proofs.declaration_checks.DeclarationFaultCollector.report_duplicates_by_set.Goals as goal

pub loop-name-preserved : goal.loop-name-preserved
loop-name-preserved c =
    sees_on (token_text_at c.args.tokens.now) c.args.names.now c.args.self.now c.loop-name.name-index (has c.loop-name.seen) (has c.insert.new.self) c.loop-name.self c.report_unless.new.self c.in_ok-added.added (get_or c.args.names.now c.loop-name.name-index 0) c.token_text_at.result.now
    c.loop-name.invariant c.loop-name-test.true refl c.token_text_at.ensures c.in_ok-added.ensures.added (one_more c.token_text_at.result.now c.loop-name.seen c.insert.new.self c.in_ok-added.ensures.updates)
    (c.in_ok-report_unless.ensures ∙ ap (λ (f : FaultAtTokens). c.loop-name.self ++ fault_unless c.in_ok-added.added f) c.fault_at_token.ensures)

pub returns : goal.returns
returns c = all_seen c.loop-name.invariant c.loop-name-test.false
