use Rattle.std.proofs.Common.{◌≡◌, IsSomeAnd, sym, ap, ◌∙◌, subst}
use Rattle.ob0_scope_table.specs.Resolution.{Resolution}
use Rattle.ob0_scope.specs.NamesAtPlaces.{name_at_offset}
use Rattle.ob0_inline.specs.Everywhere.{IsDeclaredConstant}
use Rattle.ob0_inline.proofs.AtConstants.{constant_named}
use Rattle.ob0_inline.proofs.declared_constants.constant_at.Goals as goal

pub returns-in-Some-constant : goal.returns-in-Some-constant
returns-in-Some-constant c =
    let r = c.args.«module».now in
    let back = c.resolved-names.ensures.value in
    constant_named r.module_read c.args.offset c.in-Some.found
    (sym c.in-Some.is ∙ (c.name_at_offset.ensures ∙ ap (λ (q : Resolution). name_at_offset q.module_read c.args.offset) back)) c.constant_with_declaration_tokens.result
    (subst (λ (q : Resolution). IsSomeAnd c.constant_with_declaration_tokens.result (λ x. (x.ordinal ≡ c.in-Some.found.ordinal) × IsDeclaredConstant q.module_read x)) back c.constant_with_declaration_tokens.ensures)
