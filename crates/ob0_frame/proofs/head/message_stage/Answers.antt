use Rattle.std.proofs.Common.{ℕ, ◌≡◌, take, subst, inl, inr, arith}
use Rattle.std.proofs.lemmas.List.{length-take}
use Rattle.ob0_frame.specs.Head.{HasNoEmptyLine}
use Rattle.ob0_frame.proofs.Heads.{no_line_within}
use Rattle.ob0_frame.proofs.Messages.{bad_head_to}
use Rattle.ob0_frame.proofs.head.message_stage.Goals as goal

pub head_length-requires : goal.head_length-requires
head_length-requires c = no_line_within c.args.bytes.now c.args.searched c.min.result c.requires

pub returns-in-None-announced_content_length : goal.returns-in-None-announced_content_length
returns-in-None-announced_content_length c =
    inl (bad_head_to c.args.bytes.now c.min.result c.in-Some.start (omega (arith, length-take c.min.result c.args.bytes.now, c.in-Some.ensures.within)) c.in-Some.ensures.head c.in-None-announced_content_length.ensures.refused)

pub returns-in-None : goal.returns-in-None
returns-in-None c =
    let most : c.min.result ≡ 4096 = omega (arith, length-take c.min.result c.args.bytes.now) in
    inr (omega (arith, length-take c.min.result c.args.bytes.now), subst (λ (n : ℕ). HasNoEmptyLine (take n c.args.bytes.now)) most c.in-None.ensures.none)
