use Rattle.std.proofs.Common.{true, length, sym, subst}
use Rattle.std.proofs.lemmas.Result.{MatchResult-weaker}
use Rattle.ob0_tree.specs.IdentifierIndexes.{AreIdentifierTokens, AreAscendingWithin}
use Rattle.ob0_scope.specs.NamesAtPlaces.{RenamingChangesExactlyTokens}
use Rattle.ob0_scope.proofs.Written.{bound_ascend, bound_are_identifiers, renamed_there}
use Rattle.ob0_scope.proofs.bound_names.tokens_changed_by_rename.Goals as goal

pub returns-clause-ascend : goal.returns-clause-ascend
returns-clause-ascend c =
    let r = c.args.names.now in
    MatchResult-weaker c.tokens_bound_to_declaration.result c.tokens_bound_to_declaration.ensures
    (λ found e. subst (λ xs. AreAscendingWithin 0 xs (length r.module_read.source.tokens)) (sym e) (bound_ascend r c.args.declaration true c.module.ensures.resolved)) (λ y h. h)

pub returns-clause-are_identifiers : goal.returns-clause-are_identifiers
returns-clause-are_identifiers c =
    let r = c.args.names.now in
    MatchResult-weaker c.tokens_bound_to_declaration.result c.tokens_bound_to_declaration.ensures
    (λ found e. subst (AreIdentifierTokens r.module_read.source.tokens) (sym e) (bound_are_identifiers r c.args.declaration true c.module.ensures.resolved)) (λ y h. h)

pub returns-clause-renamed : goal.returns-clause-renamed
returns-clause-renamed c =
    let r = c.args.names.now in
    MatchResult-weaker c.tokens_bound_to_declaration.result c.tokens_bound_to_declaration.ensures
    (λ found e. subst (RenamingChangesExactlyTokens r.module_read c.args.declaration) (sym e) (renamed_there r c.args.declaration c.module.ensures.resolved)) (λ y h. h)
