use Rattle.std.proofs.Common.{◌∙◌, ◌∷◌, ap, option_map, sym}
use Rattle.ob0_world_rules.specs.ClientAndServer.{Editor}
use Rattle.ob0_world_rules.specs.TextEdits.{replacements_of_edits}
use Rattle.ob0_world_editor.specs.ModelValues.{model_message_of}
use Rattle.ob0_world_editor.specs.MessagesToEditor.{message_to_editor_in_content}
use Rattle.ob0_world.proofs.Moved.{first_of, moved_first, taken_says, taken_sound, same_sound, keep_asks}
use Rattle.ob0_world.proofs.connection.Connection.let_editor_take_message.Goals as goal

pub invariant_of-self-in-Published : goal.invariant_of-self-in-Published
invariant_of-self-in-Published g c =
    let i = c.self.inside in
    let first = first_of i.to_editor.items c.in-Some.content.now c.in-Some.ensures.item.3.0 c.in-Some.ensures.item.1 in
    let moved = moved_first i.to_editor.items c.move_first_content.new.waiting.items c.reserve.new.self.items c.move_first_content.new.got.items c.in-Some.content.now first.0 first.1 c.move_first_content.ensures in
    taken_sound i.editor.requested i.to_server.items i.to_editor.items c.move_first_content.new.waiting.items i.session c.in-Some.content.now (first.1 ∙ ap (λ x. c.in-Some.content.now ∷ x) (sym moved.0)) c.self.invariant

pub invariant_of-self-in_err-edits-in-Answered : goal.invariant_of-self-in_err-edits-in-Answered
invariant_of-self-in_err-edits-in-Answered g c =
    same_sound c.self.inside.editor c.keep_answer.new.self c.self.inside.to_server.items c.self.inside.to_editor.items c.self.inside.session
    (ap (λ (e : Editor). e.requested) c.in_err-edits-in-Answered.ensures.err) c.self.invariant

pub invariant_of-self-in-Answered : goal.invariant_of-self-in-Answered
invariant_of-self-in-Answered g c =
    let i = c.self.inside in
    let first = first_of i.to_editor.items c.in-Some.content.now c.in-Some.ensures.item.3.0 c.in-Some.ensures.item.1 in
    let moved = moved_first i.to_editor.items c.move_first_content-in-Answered.new.waiting.items c.reserve.new.self.items c.move_first_content-in-Answered.new.got.items c.in-Some.content.now first.0 first.1 c.move_first_content-in-Answered.ensures in
    same_sound i.editor c.keep_answer.new.self i.to_server.items c.move_first_content-in-Answered.new.waiting.items i.session
    (ap (λ (e : Editor). e.requested) c.in_ok-edits-in-Answered.ensures.kept ∙ keep_asks i.editor c.in-Answered.number (replacements_of_edits c.in-Answered.edits.items))
    (taken_sound i.editor.requested i.to_server.items i.to_editor.items c.move_first_content-in-Answered.new.waiting.items i.session c.in-Some.content.now (first.1 ∙ ap (λ x. c.in-Some.content.now ∷ x) (sym moved.0)) c.self.invariant)

pub unreachable-requires : goal.unreachable-requires
unreachable-requires g c =
    let i = c.self.inside in
    let first = first_of i.to_editor.items c.in-Some.content.now c.in-Some.ensures.item.3.0 c.in-Some.ensures.item.1 in
    taken_says i.editor.requested i.to_server.items i.to_editor.items first.0 i.session c.in-Some.content.now first.1 c.self.invariant
    (sym (ap (message_to_editor_in_content i.editor.requested) c.as_slice.ensures.value) ∙ sym c.in_ok-message.ensures ∙ ap (option_map model_message_of) c.in_default-2.is)
