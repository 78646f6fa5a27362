use Rattle.std.proofs.Common.{◌≡◌, ◌+◌, [], ◌∷◌, ◌++◌, length, length-append, List, min, rules, sym, subst}
use Rattle.std.proofs.lemmas.Slice.Zip.{zip_end, zip_turn}
use Rattle.ob0_run_machine.specs.declared.code.Argument.{Argument}
use Rattle.ob0_run_lowering.proofs.Called.{ArgumentsMade, arguments_begin, arguments_end, arguments_go_on}
use Rattle.ob0_run_lowering.proofs.lowered_calls.lower_argument_list.Goals as goal

pub loop-formal-init : goal.loop-formal-init
loop-formal-init c =
    let P : List Argument → Type 0 = λ made. ArgumentsMade c.args.scene.now c.args.formals.now c.args.given.now.items 0 made in
    subst P (sym c.new-made.ensures.items) (arguments_begin c.args.scene.now c.args.formals.now c.args.given.now.items)

pub loop-formal-preserved : goal.loop-formal-preserved
loop-formal-preserved c =
    let turn = zip_turn c.args.formals.now c.args.given.now.items c.loop-formal.yielded c.into_iter-formal-iterator.result c.loop-formal.formal-iterator c.next.new.self c.next.result (search rules) (search rules) c.loop-formal.yielded_by (c.in-Some.formal, c.in-Some.e) c.in-Some.is c.next.ensures.steps in
    let step = arguments_go_on c.in-Some.formal.now c.in-Some.e.now c.in_ok-argument.argument c.loop-formal.invariant turn.0 turn.1 (turn.2 c.in-Some.formal.now) (turn.3 c.in-Some.e.now) c.in_ok-argument.ensures in
    let size : length (c.loop-formal.yielded ++ (c.in-Some.formal, c.in-Some.e) ∷ []) ≡ length c.loop-formal.yielded + 1 = length-append c.loop-formal.yielded ((c.in-Some.formal, c.in-Some.e) ∷ []) in
    let P : List Argument → Type 0 = λ made. ArgumentsMade c.args.scene.now c.args.formals.now c.args.given.now.items (length c.loop-formal.yielded + 1) made in
    subst (λ n. ArgumentsMade c.args.scene.now c.args.formals.now c.args.given.now.items n c.push.new.self.items) (sym size) (subst P (sym c.in_ok-push.ensures.items) step)

pub returns : goal.returns
returns c =
    let count : length c.loop-formal.yielded ≡ min (length c.args.formals.now) (length c.args.given.now.items) = zip_end c.args.formals.now c.args.given.now.items c.loop-formal.yielded c.into_iter-formal-iterator.result c.loop-formal.formal-iterator c.next.new.self c.next.result (search rules) (search rules) c.loop-formal.yielded_by c.in-None.is c.next.ensures.steps in
    arguments_end c.loop-formal.invariant count
