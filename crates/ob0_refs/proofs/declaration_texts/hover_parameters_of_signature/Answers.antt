use Rattle.std.proofs.Common.{◌≡◌, suc, [], ◌∷◌, ◌++◌, map, length, length-append, rules, ap, ◌∙◌, subst, sym, arith}
use Rattle.std.proofs.lemmas.List.{map-append}
use Rattle.std.proofs.lemmas.Slice.Zip.{zip_end, zip_turn}
use Rattle.ob0_refs.proofs.HoverParameters.{Gathered, gathered_all, gathered_further}
use Rattle.ob0_refs.specs.DeclarationTexts.{hover_parameter_of_formal}
use Rattle.ob0_refs.specs.HoverParameters.{parameter_view}
use Rattle.ob0_tree.specs.TokenIndexLeaves.{token_text_at}
use Rattle.ob0_types_table.specs.DeclarationTables.{shapes_of}
use Rattle.ob0_types_table.specs.DeclarationTableView.{formal_parameter_view}
use Rattle.ob0_refs.proofs.declaration_texts.hover_parameters_of_signature.Goals as goal

pub loop-token-preserved : goal.loop-token-preserved
loop-token-preserved c =
    let name = token_text_at c.args.tokens.now in
    let formal = formal_parameter_view (shapes_of c.args.known.now) in
    let shown = hover_parameter_of_formal (name c.in-Some.token.now) (formal c.in-Some.formal.now) in
    let turn = zip_turn c.args.following.now c.args.formals.now c.loop-token.yielded c.into_iter-token-iterator.result c.loop-token.token-iterator c.next.new.self c.next.result (search rules) (search rules) c.loop-token.yielded_by (c.in-Some.token, c.in-Some.formal) c.in-Some.is c.next.ensures.steps in
    let step = gathered_further name formal c.args.following.now c.args.formals.now (length c.loop-token.yielded) (map parameter_view c.loop-token.found.items) c.in-Some.token.now c.in-Some.formal.now c.loop-token.invariant turn.0 turn.1 turn.2 turn.3 in
    let here : parameter_view c.in_ok-hover_parameter_of_formal.field-0 ≡ shown = c.in_ok-hover_parameter_of_formal.ensures ∙ ap (λ x. hover_parameter_of_formal x (formal c.in-Some.formal.now)) c.token_text_at.ensures in
    let grown : map parameter_view c.push.new.self.items ≡ map parameter_view c.loop-token.found.items ++ shown ∷ [] =
    ap (map parameter_view) c.in_ok-push.ensures.items ∙ map-append parameter_view c.loop-token.found.items (c.in_ok-hover_parameter_of_formal.field-0 ∷ []) ∙ ap (λ z. map parameter_view c.loop-token.found.items ++ z ∷ []) here in
    let size : length (c.loop-token.yielded ++ (c.in-Some.token, c.in-Some.formal) ∷ []) ≡ suc (length c.loop-token.yielded) = length-append c.loop-token.yielded ((c.in-Some.token, c.in-Some.formal) ∷ []) ∙ omega arith in
    subst (λ n. Gathered name formal c.args.following.now c.args.formals.now n (map parameter_view c.push.new.self.items)) (sym size) (subst (Gathered name formal c.args.following.now c.args.formals.now (suc (length c.loop-token.yielded))) (sym grown) step)

pub returns : goal.returns
returns c =
    gathered_all (token_text_at c.args.tokens.now) (formal_parameter_view (shapes_of c.args.known.now)) c.args.following.now c.args.formals.now (length c.loop-token.yielded) (map parameter_view c.loop-token.found.items) c.loop-token.invariant
    (zip_end c.args.following.now c.args.formals.now c.loop-token.yielded c.into_iter-token-iterator.result c.loop-token.token-iterator c.next.new.self c.next.result (search rules) (search rules) c.loop-token.yielded_by c.in-None.is c.next.ensures.steps)
