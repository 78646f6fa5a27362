use Rattle.std.proofs.Common.{◌==◌, sym, ap, ◌∙◌}
use Rattle.std.specs.List.{position_from}
use Rattle.ob0_scope_table.specs.Resolution.{Resolution}
use Rattle.ob0_scope.specs.NamesAtPlaces.{name_at_offset}
use Rattle.ob0_inline.proofs.AtUses.{no_use, use_found, use_is_one}
use Rattle.ob0_inline.proofs.constant_uses.constant_use_at.Goals as goal

pub returns-in-Some-occurrence_number_of_token-clause-at : goal.returns-in-Some-occurrence_number_of_token-clause-at
returns-in-Some-occurrence_number_of_token-clause-at c =
    let r = c.args.«module».now in
    let back = c.resolved-names.ensures.value in
    use_found r c.resolved-names.ensures.well_typed c.args.offset c.in-Some.found c.in-Some-occurrence_number_of_token.occurrence c.in-Some-constant.value
    (sym c.in-Some.is ∙ (c.name_at_offset.ensures ∙ ap (λ (q : Resolution). name_at_offset q.module_read c.args.offset) back))
    (ap (λ (q : Resolution). position_from (λ i. i == c.in-Some.found.token) 0 q.uses) (sym back) ∙ (sym c.occurrence_number_of_token.ensures ∙ c.in-Some-occurrence_number_of_token.is))
    c.in-Some-constant.ensures

pub returns-in-Some-occurrence_number_of_token-clause-is_use : goal.returns-in-Some-occurrence_number_of_token-clause-is_use
returns-in-Some-occurrence_number_of_token-clause-is_use c =
    let r = c.args.«module».now in
    let back = c.resolved-names.ensures.value in
    λ u e. use_is_one r c.resolved-names.ensures.well_typed c.args.offset _ u
    (use_found r c.resolved-names.ensures.well_typed c.args.offset c.in-Some.found c.in-Some-occurrence_number_of_token.occurrence c.in-Some-constant.value
    (sym c.in-Some.is ∙ (c.name_at_offset.ensures ∙ ap (λ (q : Resolution). name_at_offset q.module_read c.args.offset) back))
    (ap (λ (q : Resolution). position_from (λ i. i == c.in-Some.found.token) 0 q.uses) (sym back) ∙ (sym c.occurrence_number_of_token.ensures ∙ c.in-Some-occurrence_number_of_token.is))
    c.in-Some-constant.ensures) e

pub returns-in-None-occurrence_number_of_token-clause-at : goal.returns-in-None-occurrence_number_of_token-clause-at
returns-in-None-occurrence_number_of_token-clause-at c =
    let r = c.args.«module».now in
    let back = c.resolved-names.ensures.value in
    no_use r c.resolved-names.ensures.well_typed c.args.offset c.in-Some.found
    (sym c.in-Some.is ∙ (c.name_at_offset.ensures ∙ ap (λ (q : Resolution). name_at_offset q.module_read c.args.offset) back))
    (ap (λ (q : Resolution). position_from (λ i. i == c.in-Some.found.token) 0 q.uses) (sym back) ∙ (sym c.occurrence_number_of_token.ensures ∙ c.in-None-occurrence_number_of_token.is))
