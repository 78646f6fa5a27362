use Rattle.std.proofs.Common.{◌++◌, [], ◌∷◌, Some, length, map, refl, ap, ◌∙◌, arith, sym}
use Rattle.ob0_scan.specs.declared.lexeme.LexemeKind.TheVariants as lexeme
use Rattle.ob0_layout.specs.declared.line_role.LineRole.{LineRole}
use Rattle.ob0_layout.specs.Cuts.{gap_sites_to_change, gap_before_token_or_comment, gap_cut}
use Rattle.ob0_layout.specs.Gaps.{all_gaps, changed_gaps}
use Rattle.ob0_layout.specs.Layout.{comment_role}
use Rattle.ob0_layout.proofs.Ahead.{at_comment, at_end, at_token, passing_at_start, passing_moved, make_site, make_solid}
use Rattle.ob0_layout.proofs.gap_sites.gap_sites_to_change.Goals as goal

pub loop-next-init : goal.loop-next-init
loop-next-init c = λ scan.
    passing_at_start c.args.indent c.as_bytes-text.result.now c.args.tokens.now scan c.args.roles.now _ _ _ (c.as_bytes-text.ensures.value ∙ c.text.ensures.value) c.tokens-left.ensures c.comments-comments.ensures c.new-gap_sites.ensures.items

pub slice_bounds-comment_begins_line-count : goal.slice_bounds-comment_begins_line-count
slice_bounds-comment_begins_line-count c =
    (at_comment _ _ _ _ _ _ _ _ _ _ (c.loop-next.invariant c.text.ensures.scan) c.in-Comment.span (sym c.next_token_or_comment.ensures ∙ c.in-Some.is ∙ ap Some c.in-Comment.is)).up

pub slice_bounds-comment_begins_line-start : goal.slice_bounds-comment_begins_line-start
slice_bounds-comment_begins_line-start c =
    (at_comment _ _ _ _ _ _ _ _ _ _ (c.loop-next.invariant c.text.ensures.scan) c.in-Comment.span (sym c.next_token_or_comment.ensures ∙ c.in-Some.is ∙ ap Some c.in-Comment.is)).up

pub slice_bounds-comment_begins_line-end : goal.slice_bounds-comment_begins_line-end
slice_bounds-comment_begins_line-end c =
    let next = at_comment _ _ _ _ _ _ _ _ _ _ (c.loop-next.invariant c.text.ensures.scan) c.in-Comment.span (sym c.next_token_or_comment.ensures ∙ c.in-Some.is ∙ ap Some c.in-Comment.is) in
    omega (arith, next.ordered, next.within)

pub add_gap_if_changed-requires : goal.add_gap_if_changed-requires
add_gap_if_changed-requires c =
    let next = at_comment _ _ _ _ _ _ _ _ _ _ (c.loop-next.invariant c.text.ensures.scan) c.in-Comment.span (sym c.next_token_or_comment.ensures ∙ c.in-Some.is ∙ ap Some c.in-Comment.is) in
    record { ordered = next.up; within = omega (arith, next.ordered, next.within) }

pub add_gap_if_changed-requires-in-Token : goal.add_gap_if_changed-requires-in-Token
add_gap_if_changed-requires-in-Token c =
    let next = at_token _ _ _ _ _ _ _ _ _ _ (c.loop-next.invariant c.text.ensures.scan) c.in-Token.token (sym c.next_token_or_comment.ensures ∙ c.in-Some.is ∙ ap Some c.in-Token.is) in
    record { ordered = next.up; within = omega (arith, next.ordered, next.within) }

pub add_gap_if_changed-requires-2 : goal.add_gap_if_changed-requires-2
add_gap_if_changed-requires-2 c =
    let end = at_end _ _ _ _ _ _ _ _ _ _ (c.loop-next.invariant c.text.ensures.scan) (sym c.next_token_or_comment.ensures ∙ c.in_default.is) in
    record { ordered = end.0; within = omega arith }

pub loop-next-preserved-in-Comment : goal.loop-next-preserved-in-Comment
loop-next-preserved-in-Comment c = λ scan.
    let before = c.loop-next.before in
    let next = at_comment _ _ _ _ _ _ _ _ _ _ (c.loop-next.invariant scan) c.in-Comment.span (sym c.next_token_or_comment.ensures ∙ c.in-Some.is ∙ ap Some c.in-Comment.is) in
    let role_is = c.comment_role-role.ensures ∙ (λ i. comment_role (c.comment_begins_line-broken.ensures i) (c.next_token_line_level.ensures i)) in
    let gap_is = c.gap_before_token_or_comment-gap.ensures ∙ ap (gap_before_token_or_comment before lexeme.Comment) role_is in
    passing_moved _ _ next.after refl c.without_first_item-comments.ensures refl (ap (λ (st : LineRole). Some (make_solid lexeme.Comment st)) role_is) refl
    (c.in_ok-add_gap_if_changed-in-Comment.ensures ∙ ap (λ g. c.loop-next.gap_sites.items ++ gap_sites_to_change c.args.indent c.as_bytes-text.result.now (make_site c.loop-next.start c.in-Comment.span.start g ∷ [])) gap_is)

pub loop-next-preserved : goal.loop-next-preserved
loop-next-preserved c = λ scan.
    let before = c.loop-next.before in
    let token = c.in-Token.token in
    let next = at_token _ _ _ _ _ _ _ _ _ _ (c.loop-next.invariant scan) c.in-Token.token (sym c.next_token_or_comment.ensures ∙ c.in-Some.is ∙ ap Some c.in-Token.is) in
    let role_is = c.next_token_role-role.ensures in
    let gap_is = c.gap_before_token_or_comment-gap-in-Token.ensures ∙ ap (gap_before_token_or_comment before (lexeme.Token token.kind)) role_is in
    passing_moved _ _ next.after c.without_first_item-left.ensures refl c.without_first_item-roles.ensures (ap (λ (st : LineRole). Some (make_solid (lexeme.Token token.kind) st)) role_is) c.next_token_line_level-level.ensures
    (c.in_ok-add_gap_if_changed-in-Token.ensures ∙ ap (λ g. c.loop-next.gap_sites.items ++ gap_sites_to_change c.args.indent c.as_bytes-text.result.now (make_site c.loop-next.start token.span.start g ∷ [])) gap_is)

pub returns : goal.returns
returns c = λ scan.
    let bytes = c.as_bytes-text.result.now in
    let end = at_end _ _ _ _ _ _ _ _ _ _ (c.loop-next.invariant scan) (sym c.next_token_or_comment.ensures ∙ c.in_default.is) in
    ap (map (gap_cut c.args.indent)) (c.in_ok-add_gap_if_changed.ensures ∙ ap (λ g. c.loop-next.gap_sites.items ++ gap_sites_to_change c.args.indent bytes (make_site c.loop-next.start (length bytes) g ∷ [])) c.gap_at_text_end-gap.ensures)
    ∙ end.1 ∙ ap (λ t. changed_gaps t (all_gaps c.args.indent t c.args.roles.now scan.lexemes)) (c.as_bytes-text.ensures.value ∙ c.text.ensures.value)
