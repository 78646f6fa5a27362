use Rattle.std.proofs.Common.{◌≡◌, ◌++◌, ◌∷◌, [], List, Option, length, map, option_map, rules, sym, ap, ◌∙◌, append_assoc, append-nil, arith}
use Rattle.std.specs.Vec.Iter.{into_iter_items}
use Rattle.ob0_types_table.specs.declared.declaration_table.Object.{Object}
use Rattle.ob0_types_check.specs.declared.reporting.checker_state.Meaning.{Meaning}
use Rattle.ob0_types_check.specs.CheckerViews.{table_object_of_meaning}
use Rattle.ob0_types_check.proofs.Listed.{nothing_left}
use Rattle.ob0_types_check.proofs.reporting.objects.objects_of_meanings.Goals as goal

abbrev all_objects : List (Option Meaning) → List (Option Object)
all_objects ms = map (option_map table_object_of_meaning) ms

pub loop-meaning-init : goal.loop-meaning-init
loop-meaning-init c = (
  sym (ap (λ objects. objects ++ all_objects (into_iter_items c.into_iter-meaning-iterator.result)) c.in_ok-objects.ensures.items),
  search rules,
)

pub loop-meaning-preserved : goal.loop-meaning-preserved
loop-meaning-preserved c =
    let steps = c.in-Some.ensures.steps in
    let objects = c.loop-meaning.objects.items in
    let left = all_objects (into_iter_items c.next.new.self) in
    let one : Option Object = option_map table_object_of_meaning c.in-Some.meaning in
    let next : c.push.new.self.items ≡ objects ++ one ∷ [] = c.in_ok-push.ensures.items ∙ (λ j. objects ++ c.object_of_optional_meaning.ensures j ∷ []) in (
      c.loop-meaning.invariant.0 ∙ (ap (λ xs. objects ++ all_objects xs) steps.0 ∙ (sym (append_assoc objects (one ∷ []) left) ∙ sym (ap (λ z. z ++ left) next))),
      let was = c.loop-meaning.invariant.1 in let gone = steps.1 in let short = ap length steps.0 in omega (arith, was, gone, short),
    )

pub returns : goal.returns
returns c =
    let objects = c.loop-meaning.objects.items in
    let empty = nothing_left (into_iter_items c.loop-meaning.meaning-iterator) (sym c.loop-meaning.invariant.1 ∙ c.in-None.ensures.steps.0) in
    sym (c.loop-meaning.invariant.0 ∙ (ap (λ xs. objects ++ all_objects xs) empty ∙ append-nil objects)) ∙ ap all_objects c.into_iter-meaning-iterator.ensures.into_iter_gives.0
