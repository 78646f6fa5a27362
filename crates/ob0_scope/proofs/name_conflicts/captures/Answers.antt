use Rattle.std.proofs.Common.{Some, sym, ◌∙◌}
use Rattle.std.proofs.lemmas.Result.{MatchResult-weaker}
use Rattle.ob0_tree.specs.ParsedModule.{named_tree_of}
use Rattle.ob0_scope.specs.declared.name_conflicts.FirstConflict.TheVariants as reports
use Rattle.ob0_scope.proofs.Captured.{captured_later, captured_there, free_where_none}
use Rattle.ob0_scope.proofs.Nowhere.{free_nowhere, nowhere_captured, nowhere_namesake}
use Rattle.ob0_scope.proofs.name_conflicts.captures.Goals as goal

pub returns-in-Some-clause-first : goal.returns-in-Some-clause-first
returns-in-Some-clause-first c =
    captured_there (named_tree_of c.args.names.now.module_read) c.args.declaration c.args.new.now c.in-Some.other (sym c.in-Some.is ∙ c.in_ok-other.ensures)

pub returns-in-Some-clause-free : goal.returns-in-Some-clause-free
returns-in-Some-clause-free c =
    let m = named_tree_of c.args.names.now.module_read in
    free_where_none m c.args.declaration c.args.new.now (Some (reports.Duplicate c.in-Some.other))
    (captured_there m c.args.declaration c.args.new.now c.in-Some.other (sym c.in-Some.is ∙ c.in_ok-other.ensures))

pub returns-in-None-clause-first : goal.returns-in-None-clause-first
returns-in-None-clause-first c =
    let m = named_tree_of c.args.names.now.module_read in
    MatchResult-weaker c.first_occurrence_conflict.result c.first_occurrence_conflict.ensures
    (λ found e. captured_later m c.args.declaration c.args.new.now found (sym c.in-None.is ∙ c.in_ok-other.ensures) e) (λ y h. h)

pub returns-in-None-clause-free : goal.returns-in-None-clause-free
returns-in-None-clause-free c =
    let m = named_tree_of c.args.names.now.module_read in
    MatchResult-weaker c.first_occurrence_conflict.result c.first_occurrence_conflict.ensures
    (λ found e. free_where_none m c.args.declaration c.args.new.now found (captured_later m c.args.declaration c.args.new.now found (sym c.in-None.is ∙ c.in_ok-other.ensures) e)) (λ y h. h)

pub returns-then-occurs_nowhere-clause-first : goal.returns-then-occurs_nowhere-clause-first
returns-then-occurs_nowhere-clause-first c =
    nowhere_captured c.args.names.now.module_read c.tokens.result.now c.args.declaration c.args.new.now c.if-declaration-ge-PREDECLARED_COUNT.true c.tokens.ensures
    (c.occurs_nowhere.ensures c.if-occurs_nowhere.true)

pub returns-then-occurs_nowhere-clause-other : goal.returns-then-occurs_nowhere-clause-other
returns-then-occurs_nowhere-clause-other c =
    nowhere_namesake c.args.names.now.module_read c.tokens.result.now c.args.declaration c.args.new.now c.if-declaration-ge-PREDECLARED_COUNT.true c.tokens.ensures
    (c.occurs_nowhere.ensures c.if-occurs_nowhere.true)

pub returns-then-occurs_nowhere-clause-free : goal.returns-then-occurs_nowhere-clause-free
returns-then-occurs_nowhere-clause-free c =
    free_nowhere c.args.names.now.module_read c.tokens.result.now c.args.declaration c.args.new.now c.if-declaration-ge-PREDECLARED_COUNT.true c.tokens.ensures
    (c.occurs_nowhere.ensures c.if-occurs_nowhere.true)
