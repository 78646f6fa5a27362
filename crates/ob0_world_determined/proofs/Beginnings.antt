-- Proves that the output of each call of `serve` is a prefix of the output of a second call, if
-- neither an allocation nor the writer fails in the second call. The second call has the same
-- input, or the same input with more bytes after it. In the first call anything may fail.
use Rattle.std.proofs.Common.{◌≡◌, ◌∙◌, ℕ, List, [], ◌++◌, Result, Ok, Err, sym, ap, subst, inl, inr, append_assoc, append-nil}
use Rattle.std.specs.List.{flat_map}
use Rattle.std.proofs.lemmas.Grind.{flat_map-append}
use Rattle.std.proofs.lemmas.List.{append_cancel_left}
use Rattle.ob0_frame.specs.Frames.{frame}
use Rattle.ob0_frame.specs.FramerState.{StreamRest, Open, Broken, PieceAdvancesStream}
use Rattle.ob0_session_server.specs.Answers.{ServerState, initial_server_state, IsConversation}
use Rattle.ob0_session.specs.ServeResults.{AnswersAllButWaiting}
use Rattle.ob0_session.specs.declared.serve_loop.ServeFault.{ServeFault}
use Rattle.ob0_session.specs.declared.serve_loop.ServeFault.TheVariants.{BadHead, Truncated, Read, Write, Memory, TooManyReads}
use Rattle.ob0_world_determined.specs.DeterminedOutput.{ServeMayReturn, ConversationIsDetermined, OutputIsDetermined}
use Rattle.ob0_world_determined.proofs.Conversations.{Contents}
use Rattle.ob0_world_determined.proofs.Fronts.{fed_front, front_more}
use Rattle.ob0_world_determined.proofs.Streams.{Cut, cut, begins_other, longer, Ending, at_exit, with_rest, EndsIn, ending_of, all_written, OneFeed}

-- states that the first of the contents are answered, and that the written bytes begin the frames of the answers
record Part (taken put : List ℕ) : Type 0 where
  pub answered : Contents
  pub sent : Contents
  pub after : ServerState
  pub front : (more : List ℕ) (contents : Contents) (rest : StreamRest) → PieceAdvancesStream (Open []) (taken ++ more) contents rest → (others : Contents) × (contents ≡ answered ++ others)
  pub conversation : IsConversation initial_server_state answered sent after
  pub unwritten : List ℕ
  pub frames : flat_map frame sent ≡ put ++ unwritten

module _ (one : ConversationIsDetermined) (feeds : OneFeed) (taken : List ℕ) where
  part_of_served : (waiting : Contents) (rest : StreamRest) (after : ServerState) (put unwritten : List ℕ) → AnswersAllButWaiting taken waiting rest after (put ++ unwritten) → Part taken put
  part_of_served waiting rest after put unwritten h = record {
    answered = h.answered;
    sent = h.sent;
    after = after;
    front = λ more contents other fed. (let parts = fed_front (Open []) rest other taken more (h.answered ++ waiting) contents h.feeds fed in (waiting ++ parts.0, parts.1 ∙ append_assoc h.answered waiting parts.0));
    conversation = h.conversation;
    unwritten = unwritten;
    frames = sym h.frames;
  }

  whole : (waiting : Contents) (rest : StreamRest) (after : ServerState) (put : List ℕ) → AnswersAllButWaiting taken waiting rest after put → Part taken put
  whole waiting rest after put h = part_of_served waiting rest after put [] (subst (λ p. AnswersAllButWaiting taken waiting rest after p) (sym (append-nil put)) h)

  part_of : (result : Result ℕ ServeFault) (put : List ℕ) → ServeMayReturn result taken put → Part taken put
  part_of (Ok status) put (r, w, (inl (ends, over), none)) = whole ends.waiting ends.rest ends.after put ends.served
  part_of (Ok status) put (r, w, (inr (all, at_end, is), none)) = whole [] (Open []) all.after put all.served
  part_of (Err BadHead) put (r, w, (all, none)) = whole [] Broken all.after put all.served
  part_of (Err Truncated) put (r, w, ((left, all, some, at_end), none)) = whole [] (Open left) all.after put all.served
  part_of (Err Read) put (r, w, ((left, all), failed, writes, flushed)) = whole [] (Open left) all.after put all.served
  part_of (Err TooManyReads) put (r, w, ((left, all, long, often), none)) = whole [] (Open left) all.after put all.served
  part_of (Err Write) put (r, w, ((unwritten, some), reads, failed)) = part_of_served some.waiting some.rest some.after put unwritten some.served
  part_of (Err Memory) put (r, w, (some, none)) = record {
    answered = some.answered;
    sent = some.sent;
    after = some.after;
    front = λ more contents other fed. front_more taken more some.answered contents other some.front fed;
    conversation = some.conversation;
    unwritten = [];
    frames = sym some.frames ∙ sym (append-nil put);
  }

  -- If a conversation goes beyond the answered contents, its replies begin with those that were sent.
  further : (put : List ℕ) (p : Part taken put) (contents mid sent : Contents) (after : ServerState) → contents ≡ p.answered ++ mid → IsConversation initial_server_state contents sent after → (later : Contents) × (sent ≡ p.sent ++ later)
  further put p contents mid sent after is h =
      let parts : Cut initial_server_state p.answered mid sent after = cut initial_server_state p.answered mid sent after (subst (λ cs. IsConversation initial_server_state cs sent after) is h) in
      let same : p.sent ≡ parts.first = (one initial_server_state p.answered p.sent parts.first p.after parts.between p.conversation parts.begins).0 in
      (parts.later, parts.is ∙ ap (λ xs. xs ++ parts.later) (sym same))

  further_of : (more_bytes put all : List ℕ) (p : Part taken put) (e : Ending) → (ends : EndsIn e (taken ++ more_bytes) all) → (sent : Contents) × (later : Contents) × (all ≡ flat_map frame sent) × (sent ≡ p.sent ++ later)
  further_of more_bytes put all p (with_rest rest) k =
      let others = p.front more_bytes (k.served.answered ++ []) rest k.served.feeds in
      let more = further put p k.served.answered others.0 k.served.sent k.after (sym (append-nil k.served.answered) ∙ others.1) k.served.conversation in
      (k.served.sent, more.0, k.served.frames, more.1)
  further_of more_bytes put all p (at_exit status) (k, ended) =
      let others = p.front more_bytes (k.served.answered ++ k.waiting) k.rest k.served.feeds in
      elim (begins_other k.served.answered k.waiting p.answered others.0 others.1) [
        | inl (mid, is) ↦ (k.served.sent, [], k.served.frames, (longer one feeds (taken ++ more_bytes) status k.served.answered mid k.served.sent p.sent k.after p.after ended k.served.conversation (subst (λ cs. IsConversation initial_server_state cs p.sent p.after) is p.conversation)).0 ∙ sym (append-nil p.sent))
        | inr (mid, is) ↦ (let more = further put p k.served.answered mid k.served.sent k.after is k.served.conversation in (k.served.sent, more.0, k.served.frames, more.1))
      ]

  begins : (more_bytes put all : List ℕ) (p : Part taken put) (e : Ending) → EndsIn e (taken ++ more_bytes) all → (unwritten : List ℕ) × (all ≡ put ++ unwritten)
  begins more_bytes put all p e ends =
      let more = further_of more_bytes put all p e ends in
      let later : List ℕ = flat_map frame more.1 in (
        p.unwritten ++ later,
        more.2 ∙ (ap (flat_map frame) more.3 ∙ (flat_map-append frame p.sent more.1 ∙ (ap (λ xs. xs ++ later) p.frames ∙ append_assoc put p.unwritten later))),
      )

pub output_is_determined : ConversationIsDetermined → OneFeed → OutputIsDetermined
output_is_determined one feeds taken more put all result end written h k =
    let e = ending_of end (taken ++ more) all written k in
    let b = begins one feeds taken more put all (part_of one feeds taken result put h) e.0 e.1 in (
      b.0,
      b.1,
      λ written_too same. append_cancel_left put b.0 [] (sym b.1 ∙ sym (all_written one feeds taken more put all result end written_too written h k same) ∙ sym (append-nil put)),
    )
