use Rattle.std.proofs.Common.{◌≡◌, ◌∷◌, [], ◌++◌, ◌∙◌, map, drop}
use Rattle.std.proofs.lemmas.List.{map_push}
use Rattle.ob0_frame.proofs.Cutting.{cut_more, unfinished_content, unfinished_other}
use Rattle.ob0_frame.proofs.framer.split_messages.Goals as goal
use Rattle.ob0_frame.proofs.framer.split_messages.Goals.{in-Content+in_default-content_if_complete, in_default}

pub loop-stage-preserved : goal.loop-stage-preserved
loop-stage-preserved c =
    let pushed : c.push_back.new.self.items ≡ c.loop-stage.contents.items ++ c.in_ok-from_slice.field-0 ∷ [] = c.in_ok-push_back.ensures.items in
    rw (pushed, map_push)
    (cut_more c.args.bytes.now (map (λ v. v.items) c.loop-stage.contents.items) c.in_ok-from_slice.field-0.items c.loop-stage.taken c.in-Content.start c.in-Content.end c.loop-stage.stage c.message_stage-stage.result
    c.loop-stage.invariant c.in-Content.is c.in-Some.ensures.0 (c.in_ok-from_slice.ensures.items ∙ c.in-Some.ensures.1) c.message_stage-stage.ensures)

pub returns-clause-unfinished : goal.returns-clause-unfinished
returns-clause-unfinished c =
    elim c.match-stage.branch [
      | in-Content+in_default-content_if_complete w ↦ unfinished_content c.args.bytes.now c.loop-stage.taken w.in-Content.start w.in-Content.end c.match-stage.stage w.stage-is w.in_default-content_if_complete.ensures
      | in_default w ↦ rw w.stage-is (unfinished_other (drop c.loop-stage.taken c.args.bytes.now) c.loop-stage.stage w.in_default.not-Content)
    ]
