use Rattle.std.proofs.Common.{◌<◌, ◌^◌, length, option_map, ap, ◌∙◌, arith}
use Rattle.std.specs.List.{position_from}
use Rattle.ob0_scan.specs.TextWithTokens.{TextWithTokens}
use Rattle.ob0_tree.specs.TokenIndexLeaves.{token_text_at}
use Rattle.ob0_language_names.specs.Names.{same_name}
use Rattle.ob0_types_fields.specs.declared.field_visitors.DeclaredFieldSearch.{DeclaredFieldSearch}
use Rattle.ob0_types_fields.proofs.FieldsVisited.{finds}
use Rattle.ob0_types_fields.proofs.field_lookups.declared_field.Goals as goal
use Rattle.ob0_types_fields.specs.IdentifierOwners.{owner}
use Rattle.ob0_types_fields.specs.FieldIdentifiers.{declared_fields, field_tokens_of_record, first_token, tokens_of_field}
use Rattle.ob0_types_fields.proofs.OwnersByToken.{tokens}
use Rattle.ob0_types_fields.specs.FieldVisitors.{declared_index, declared_token}

pub returns-clause-token : goal.returns-clause-token
returns-clause-token c =
    let fields = declared_fields c.args.resolved.now.module_read in
    let few : length fields < 2 ^ 64 = c.in-Ok.ensures.few in
    ap (λ (s : DeclaredFieldSearch). option_map declared_token s.found) c.in-Ok.ensures.visited ∙ ((finds _ 0 fields (omega (arith, few))).0 ∙ ap (λ (source : TextWithTokens). first_token (tokens_of_field source c.args.owner c.args.name.now fields)) c.tokens.ensures)

pub returns-clause-index : goal.returns-clause-index
returns-clause-index c =
    let fields = declared_fields c.args.resolved.now.module_read in
    let few : length fields < 2 ^ 64 = c.in-Ok.ensures.few in
    ap (λ (s : DeclaredFieldSearch). option_map declared_index s.found) c.in-Ok.ensures.visited ∙ ((finds _ 0 fields (omega (arith, few))).1 ∙ ap (λ (source : TextWithTokens). position_from (λ token. same_name (token_text_at source token) c.args.name.now) 0 (field_tokens_of_record c.args.owner fields)) c.tokens.ensures)
