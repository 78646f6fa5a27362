use Rattle.std.proofs.Common.{◌≡◌, ◌∙◌, ◌++◌, map, map-id, sym, subst}
use Rattle.std.proofs.lemmas.Iterator.{YieldsList-from_slice, items_from_drains}
use Rattle.std.proofs.lemmas.Iterator.Consumers.{YieldsList-from_copied}
use Rattle.ob0_scan.proofs.Kept.{put_between}
use Rattle.ob0_scope.specs.BindingsOutsideBody.{shifted_token}
use Rattle.ob0_scope.proofs.PartitionPoints.{IsPointOf, front_of_point, points_ordered, rest_of_point}
use Rattle.ob0_scope.proofs.body_range.BodyRange.replace_tokens.Goals as goal

pub splice-requires-clause-start_le_end : goal.splice-requires-clause-start_le_end
splice-requires-clause-start_le_end c =
    let range = c.args.self in
    let start = c.count_tokens_before-start in
    let end = c.count_tokens_before-end in
    points_ordered range.first range.old_closing c.args.tokens.now.items start.result end.result c.requires.ordered
    (subst (λ l. IsPointOf range.first l start.result) c.deref.ensures.value (record { inside = start.ensures.bound; splits = start.ensures.point }))
    (subst (λ l. IsPointOf range.old_closing l end.result) c.deref-2.ensures.value (record { inside = end.ensures.bound; splits = end.ensures.point }))

pub returns : goal.returns
returns c =
    let range = c.args.self in
    let xs = c.args.tokens.now.items in
    let own = c.args.own.now in
    let start = c.count_tokens_before-start in
    let end = c.count_tokens_before-end in
    let from : IsPointOf range.first xs start.result = subst (λ l. IsPointOf range.first l start.result) c.deref.ensures.value (record { inside = start.ensures.bound; splits = start.ensures.point }) in
    let to : IsPointOf range.old_closing xs end.result = subst (λ l. IsPointOf range.old_closing l end.result) c.deref-2.ensures.value (record { inside = end.ensures.bound; splits = end.ensures.point }) in
    let e = c.in_ok-splice.ensures.items in
    let gone = e.3 in
    let given : e.1 ≡ own = sym (map-id e.1) ∙ items_from_drains e.1 (gone.1.0, gone.1.1, λ _. (gone.0, gone.1.2)) (YieldsList-from_copied (YieldsList-from_slice own (cc))) in
    put_between xs c.shift_tokens.new.tokens.items _ own e.1 c.splice.new.self.items start.result end.result (points_ordered range.first range.old_closing xs start.result end.result c.requires.ordered from to) to.inside c.shift_tokens.ensures e.4 given
    ∙ (λ i. sym (front_of_point range.first xs start.result from.splits) i ++ (own ++ map (shifted_token range) (sym (rest_of_point range.old_closing xs end.result to.splits) i)))
