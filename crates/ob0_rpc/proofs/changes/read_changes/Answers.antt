use Rattle.std.proofs.Common.{◌∙◌, length, option_and_then, option_map, sym, ap, rules, arith}
use Rattle.std.proofs.lemmas.List.{map-append}
use Rattle.serde_json.specs.View.{items_view}
use Rattle.ob0_text.specs.OpenDocuments.{text_change_of}
use Rattle.ob0_rpc.specs.Notifications.{content_changes_of_items}
use Rattle.ob0_rpc.proofs.Lists.{changes_more, changes_none, changes_all, no_value, Values}
use Rattle.ob0_rpc.proofs.changes.read_changes.Goals as goal

pub loop-entry-init : goal.loop-entry-init
loop-entry-init c = search rules

pub returns-in-None-read_content_change : goal.returns-in-None-read_content_change
returns-in-None-read_content_change c =
    let none = changes_none _ _ _ _ _ c.in-Some-entry.ensures.steps.0 c.loop-entry.invariant.0 (sym c.read_content_change.ensures ∙ ap (option_map text_change_of) c.in-None-read_content_change.is) in
    sym none ∙ (ap (λ (xs : Values). content_changes_of_items (items_view xs)) c.into_iter-entry-iterator.ensures.into_iter_gives.0 ∙ ap (option_and_then content_changes_of_items) c.in-Some.ensures)

pub loop-entry-preserved : goal.loop-entry-preserved
loop-entry-preserved c =
    let steps = c.in-Some-entry.ensures.steps in
    let more = changes_more _ _ _ _ _ _ steps.0 c.loop-entry.invariant.0 (sym c.read_content_change.ensures ∙ ap (option_map text_change_of) c.in-Some-read_content_change.is) in
    (rw (c.in_ok-push-in-Some-read_content_change.ensures.items, map-append) more, let was = c.loop-entry.invariant.1 in let gone = steps.1 in let short = ap length steps.0 in omega arith)

pub returns : goal.returns
returns c =
    let empty = no_value _ (sym c.loop-entry.invariant.1 ∙ c.in-None.ensures.steps.0) in
    let all = changes_all _ _ _ empty c.loop-entry.invariant.0 in
    sym all ∙ (ap (λ (xs : Values). content_changes_of_items (items_view xs)) c.into_iter-entry-iterator.ensures.into_iter_gives.0 ∙ ap (option_and_then content_changes_of_items) c.in-Some.ensures)
