use Rattle.std.proofs.Common.{option_and_then, option_map, sym, ap, ◌∙◌, subst}
use Rattle.std.specs.List.{position_from}
use Rattle.ob0_tree.specs.ParsedModule.{ParsedModule}
use Rattle.ob0_scope.specs.declared.bound_names.BoundName as named
use Rattle.ob0_scope_table.specs.Spans.{TokensAreDisjoint}
use Rattle.ob0_scope_table.proofs.TokenOrder.{scan_apart}
use Rattle.ob0_scope.specs.BoundTokens.{is_identifier_at_offset}
use Rattle.ob0_scope.proofs.Placed.{name_found, named_so}
use Rattle.ob0_scope.proofs.bound_names.name_at_offset.Goals as goal

pub returns-in-Some-ordinal_at : goal.returns-in-Some-ordinal_at
returns-in-Some-ordinal_at c =
    let r = c.args.names.now in
    let token = c.in-Some.token in
    let tokens = c.tokens.ensures ∙ (λ i. ((c.tokens-tokens.ensures.source ∙ ap (λ (m : ParsedModule). m.source) c.module.ensures.value) i).tokens) in
    let here = sym c.in-Some.is ∙ (c.first_identifier_at_offset.ensures (subst (TokensAreDisjoint 0) (sym c.tokens.ensures) (scan_apart c.tokens-tokens.result.now c.text-scanned.ensures.scan)) ∙ ap (position_from (is_identifier_at_offset c.args.offset) 0) tokens) in
    ap (option_map {U = named.BoundName} (λ ordinal. record { token = token; ordinal = ordinal })) (sym c.in-Some-ordinal_at.is ∙ c.ordinal_at.ensures)
    ∙ (ap (option_and_then (named_so r.ordinals)) here ∙ name_found r c.args.offset c.module.ensures.resolved)

pub returns-in-None-ordinal_at : goal.returns-in-None-ordinal_at
returns-in-None-ordinal_at c =
    let r = c.args.names.now in
    let token = c.in-Some.token in
    let tokens = c.tokens.ensures ∙ (λ i. ((c.tokens-tokens.ensures.source ∙ ap (λ (m : ParsedModule). m.source) c.module.ensures.value) i).tokens) in
    let here = sym c.in-Some.is ∙ (c.first_identifier_at_offset.ensures (subst (TokensAreDisjoint 0) (sym c.tokens.ensures) (scan_apart c.tokens-tokens.result.now c.text-scanned.ensures.scan)) ∙ ap (position_from (is_identifier_at_offset c.args.offset) 0) tokens) in
    ap (option_map {U = named.BoundName} (λ ordinal. record { token = token; ordinal = ordinal })) (sym c.in-None-ordinal_at.is ∙ c.ordinal_at.ensures)
    ∙ (ap (option_and_then (named_so r.ordinals)) here ∙ name_found r c.args.offset c.module.ensures.resolved)

pub returns-in-None : goal.returns-in-None
returns-in-None c =
    let r = c.args.names.now in
    let tokens = c.tokens.ensures ∙ (λ i. ((c.tokens-tokens.ensures.source ∙ ap (λ (m : ParsedModule). m.source) c.module.ensures.value) i).tokens) in
    let here = sym c.in-None.is ∙ (c.first_identifier_at_offset.ensures (subst (TokensAreDisjoint 0) (sym c.tokens.ensures) (scan_apart c.tokens-tokens.result.now c.text-scanned.ensures.scan)) ∙ ap (position_from (is_identifier_at_offset c.args.offset) 0) tokens) in
    ap (option_and_then (named_so r.ordinals)) here ∙ name_found r c.args.offset c.module.ensures.resolved
