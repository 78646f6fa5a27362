use Rattle.std.proofs.Common.{◌≡◌, suc, ◌+◌, Some, sym, ap, ◌∙◌, arith, add-one, subst}
use Rattle.std.specs.Prelude.{slice_index_or, true, false}
use Rattle.ob0_scan.specs.declared.lexeme.Token.{Token}
use Rattle.ob0_scan.specs.declared.lexeme.TokenKind.TheVariants as kind
use Rattle.ob0_scope.specs.BoundTokens.{is_identifier_at_offset}
use Rattle.ob0_scope.proofs.TokensAt.{ends_rise, found_here, found_next, found_none, found_past}
use Rattle.ob0_scope.proofs.bound_names.first_identifier_at_offset.Goals as goal

abbrev nothing : Token
nothing = record { kind = kind.Identifier; span = record { start = 0; end = 0 } }

pub returns-then-place-tokens : goal.returns-then-place-tokens
returns-then-place-tokens c = λ apart.
    sym (found_past c.args.offset 0 c.args.tokens.now c.count_tokens_before_offset-place.result (c.count_tokens_before_offset-place.ensures.point (ends_rise 0 c.args.tokens.now apart)) c.if-place-tokens.true)

pub returns-then-is_identifier_at_offset : goal.returns-then-is_identifier_at_offset
returns-then-is_identifier_at_offset c = λ apart.
    let place = c.count_tokens_before_offset-place.result in
    ap Some (omega arith)
    ∙ sym (found_here c.args.offset 0 c.args.tokens.now place nothing (c.count_tokens_before_offset-place.ensures.point (ends_rise 0 c.args.tokens.now apart)) c.if-place-tokens.false (sym c.is_identifier_at_offset.ensures ∙ c.if-is_identifier_at_offset.true))

pub returns-then-next-tokens : goal.returns-then-next-tokens
returns-then-next-tokens c = λ apart.
    let place = c.count_tokens_before_offset-place.result in
    sym (found_none c.args.offset 0 0 c.args.tokens.now place nothing apart (c.count_tokens_before_offset-place.ensures.point (ends_rise 0 c.args.tokens.now apart)) c.if-place-tokens.false (sym c.is_identifier_at_offset.ensures ∙ c.if-is_identifier_at_offset.false)
    (λ less. absurd (omega (arith, less, c.if-next-tokens.true))))

pub returns-then-is_identifier_at_offset-2 : goal.returns-then-is_identifier_at_offset-2
returns-then-is_identifier_at_offset-2 c = λ apart.
    let place = c.count_tokens_before_offset-place.result in
    let next : place + 1 ≡ suc place = add-one place in
    ap Some (omega arith)
    ∙ sym (found_next c.args.offset 0 c.args.tokens.now place nothing (c.count_tokens_before_offset-place.ensures.point (ends_rise 0 c.args.tokens.now apart)) (omega (arith, c.if-next-tokens.false))
    (sym c.is_identifier_at_offset.ensures ∙ c.if-is_identifier_at_offset.false)
    (subst (λ n. is_identifier_at_offset c.args.offset (slice_index_or c.args.tokens.now n nothing) ≡ true) next (sym c.is_identifier_at_offset-2.ensures ∙ c.if-is_identifier_at_offset-2.true)))

pub returns : goal.returns
returns c = λ apart.
    let place = c.count_tokens_before_offset-place.result in
    let next : place + 1 ≡ suc place = add-one place in
    sym (found_none c.args.offset 0 0 c.args.tokens.now place nothing apart (c.count_tokens_before_offset-place.ensures.point (ends_rise 0 c.args.tokens.now apart)) c.if-place-tokens.false (sym c.is_identifier_at_offset.ensures ∙ c.if-is_identifier_at_offset.false)
    (λ less. subst (λ n. is_identifier_at_offset c.args.offset (slice_index_or c.args.tokens.now n nothing) ≡ false) next (sym c.is_identifier_at_offset-2.ensures ∙ c.if-is_identifier_at_offset-2.false)))
