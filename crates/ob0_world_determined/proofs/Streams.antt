-- Proves that the input of `serve` determines its output and its result, no matter how the input is
-- cut into pieces.
-- If one call ended at an `exit`, no other call answers a content after this `exit`: a session that
-- has ended sends nothing, and its state doesn't change.
use Rattle.std.proofs.Common.{◌≡◌, ◌≢◌, ◌≤◌, ◌∙◌, ℕ, ◌⊎◌, List, [], ◌∷◌, ◌++◌, length, Result, Ok, Err, refl, sym, ap, subst, inl, inr, append_assoc, append-nil}
use Rattle.std.specs.Prelude.{⊤, All}
use Rattle.std.specs.List.{flat_map}
use Rattle.std.proofs.lemmas.Grind.{flat_map-append}
use Rattle.ob0_frame.specs.Frames.{Frames, frame}
use Rattle.ob0_frame.specs.Head.{max_content_length}
use Rattle.ob0_frame.specs.FramerState.{StreamRest, Open, Broken, PieceAdvancesStream}
use Rattle.ob0_frame.proofs.InTurn.{fed_in_turn}
use Rattle.ob0_session_server.specs.Answers.{ServerState, initial_server_state, Answers, AnswersInPhase, IsConversation}
use Rattle.ob0_session.specs.ServeResults.{AnswersAllButWaiting, AnswersAllContents, EndsByExit}
use Rattle.ob0_session.specs.StreamSteps.{bytes_written}
use Rattle.ob0_session_server.specs.Steps.{HasNotEnded}
use Rattle.ob0_session_server.specs.declared.session.Phase.TheVariants.{Ended}
use Rattle.ob0_session.specs.declared.serve_loop.ServeFault.{ServeFault}
use Rattle.ob0_session.specs.declared.serve_loop.ServeFault.TheVariants.{BadHead, Truncated, Read, Write, Memory, TooManyReads}
use Rattle.ob0_world_determined.specs.DeterminedOutput.{ServeAnswersLikeSession, ServeAnswersPrefixLikeSession, ServeEndsLikeSession, ServeHasAnsweredAtReads, IsFinalResult, IsDeterminedByBytes, AllOutputIsWritten, ServeMayReturn, ConversationIsDetermined, ResultIsDetermined}
use Rattle.ob0_world_determined.proofs.Conversations.{Contents}
use Rattle.ob0_world_determined.proofs.Fronts.{Framed, fed_front}

-- ---- a conversation that is cut in two

pub record Cut (before : ServerState) (contents more : Contents) (sent : Contents) (after : ServerState) : Type 0 where
  pub between : ServerState
  pub first : Contents
  pub later : Contents
  pub begins : IsConversation before contents first between
  pub goes_on : IsConversation between more later after
  pub is : sent ≡ first ++ later

pub cut : (before : ServerState) (contents more : Contents) (sent : Contents) (after : ServerState) → IsConversation before (contents ++ more) sent after → Cut before contents more sent after
cut before [] more sent after h = record { between = before; first = []; later = sent; begins = (refl, refl); goes_on = h; is = refl }
cut before (content ∷ contents) more sent after h =
    let next : Cut h.between contents more h.later after = cut h.between contents more h.later after h.follows in
    record {
      between = next.between;
      first = h.first ++ next.first;
      later = next.later;
      begins = record { between = h.between; first = h.first; later = next.first; answers = h.answers; follows = next.begins; all = refl };
      goes_on = next.goes_on;
      is = h.all ∙ ap (λ xs. h.first ++ xs) next.is ∙ sym (append_assoc h.first next.first next.later);
    }

-- After its end a server sends nothing and doesn't change.
ended_answer : (status : ℕ) (before : ServerState) (content : List ℕ) (sent : Contents) (after : ServerState) → before.phase ≡ Ended status → Answers before content sent after → (sent ≡ []) × (after ≡ before)
ended_answer status before content sent after over h = subst (λ phase. AnswersInPhase phase before content sent after) over h

silent : (status : ℕ) (before : ServerState) (contents : Contents) (sent : Contents) (after : ServerState) → before.phase ≡ Ended status → IsConversation before contents sent after → (sent ≡ []) × (after ≡ before)
silent status before [] sent after over h = h
silent status before (content ∷ contents) sent after over h =
    let here = ended_answer status before content h.first h.between over h.answers in
    let there = silent status h.between contents h.later after (ap (λ (s : ServerState). s.phase) here.1 ∙ over) h.follows in
    (h.all ∙ (λ i. here.0 i ++ there.0 i), there.1 ∙ here.1)

-- ---- one list begins another

first_of : {x y : List ℕ} {xs ys : Contents} → x ∷ xs ≡ y ∷ ys → x ≡ y
first_of e = cc

rest_of : {x y : List ℕ} {xs ys : Contents} → x ∷ xs ≡ y ∷ ys → xs ≡ ys
rest_of e = cc

pub begins_other : (xs ys zs ws : Contents) → xs ++ ys ≡ zs ++ ws → ((mid : Contents) × (zs ≡ xs ++ mid)) ⊎ ((mid : Contents) × (xs ≡ zs ++ mid))
begins_other [] ys zs ws e = inl (zs, refl)
begins_other (x ∷ xs) ys [] ws e = inr (x ∷ xs, refl)
begins_other (x ∷ xs) ys (z ∷ zs) ws e =
    elim (begins_other xs ys zs ws (rest_of e)) [
      | inl (mid, is) ↦ inl (mid, λ i. first_of (sym e) i ∷ is i)
      | inr (mid, is) ↦ inr (mid, λ i. first_of e i ∷ is i)
    ]

-- ---- the contents read are answered up to an `exit`, or all of them

abbrev pub OneFeed : Type 0
OneFeed = (from r q : StreamRest) (piece : List ℕ) (c d : Contents) → PieceAdvancesStream from piece c r → PieceAdvancesStream from piece d q → (c ≡ d) × (r ≡ q)

-- the ending of a conversation: a status at an `exit`, or the rest of the bytes
pub data Ending : Type 0 where
  at_exit : ℕ → Ending
  with_rest : StreamRest → Ending

abbrev pub EndsIn : Ending → List ℕ → List ℕ → Type 0
EndsIn (at_exit status) taken put = EndsByExit status taken put
EndsIn (with_rest rest) taken put = AnswersAllContents taken rest put

same_status : (s t : ℕ) → Ended s ≡ Ended t → s ≡ t
same_status s t e = cc

module _ (one : ConversationIsDetermined) (feeds : OneFeed) (taken : List ℕ) where
  -- A conversation that ended has the same replies and state as one over more contents.
  pub longer : (status : ℕ) (contents more sent other : Contents) (after end : ServerState) → after.phase ≡ Ended status → IsConversation initial_server_state contents sent after → IsConversation initial_server_state (contents ++ more) other end → (sent ≡ other) × (end ≡ after)
  longer status contents more sent other after end over h k =
      let parts : Cut initial_server_state contents more other end = cut initial_server_state contents more other end k in
      let same = one initial_server_state contents sent parts.first after parts.between h parts.begins in
      let quiet = silent status parts.between more parts.later end (ap (λ (s : ServerState). s.phase) (sym same.1) ∙ over) parts.goes_on in
      (sym (parts.is ∙ (λ i. sym same.0 i ++ quiet.0 i) ∙ append-nil sent), quiet.1 ∙ sym same.1)

  all_one : (r q : StreamRest) (put other : List ℕ) → AnswersAllContents taken r put → AnswersAllContents taken q other → (put ≡ other) × (with_rest r ≡ with_rest q)
  all_one r q put other h k =
      let fed = feeds (Open []) r q taken (h.served.answered ++ []) (k.served.answered ++ []) h.served.feeds k.served.feeds in
      let contents : h.served.answered ≡ k.served.answered = sym (append-nil h.served.answered) ∙ fed.0 ∙ append-nil k.served.answered in
      let same = one initial_server_state k.served.answered h.served.sent k.served.sent h.after k.after (subst (λ cs. IsConversation initial_server_state cs h.served.sent h.after) contents h.served.conversation) k.served.conversation in
      (h.served.frames ∙ ap (flat_map frame) same.0 ∙ sym k.served.frames, ap with_rest fed.1)

  end_one : (status another : ℕ) (put other : List ℕ) → EndsByExit status taken put → EndsByExit another taken other → (put ≡ other) × (at_exit status ≡ at_exit another)
  end_one status another put other (h, h_ended) (k, k_ended) =
      let fed = (feeds (Open []) h.rest k.rest taken (h.served.answered ++ h.waiting) (k.served.answered ++ k.waiting) h.served.feeds k.served.feeds).0 in
      let same : (h.served.sent ≡ k.served.sent) × (k.after ≡ h.after) =
      elim (begins_other h.served.answered h.waiting k.served.answered k.waiting fed) [
        | inl (mid, is) ↦ longer status h.served.answered mid h.served.sent k.served.sent h.after k.after h_ended h.served.conversation (subst (λ cs. IsConversation initial_server_state cs k.served.sent k.after) is k.served.conversation)
        | inr (mid, is) ↦ (let back = longer another k.served.answered mid k.served.sent h.served.sent k.after h.after k_ended k.served.conversation (subst (λ cs. IsConversation initial_server_state cs h.served.sent h.after) is h.served.conversation) in (sym back.0, sym back.1))
      ] in
      let statuses : status ≡ another = same_status status another (sym h_ended ∙ ap (λ (s : ServerState). s.phase) (sym same.1) ∙ k_ended) in
      (h.served.frames ∙ ap (flat_map frame) same.0 ∙ sym k.served.frames, ap at_exit statuses)

  ended_goes_on : (status : ℕ) (s : ServerState) → s.phase ≡ Ended status → HasNotEnded s.phase → ⊥
  ended_goes_on status s over not_ended = let no : HasNotEnded (Ended status) = subst HasNotEnded over not_ended in cc

  -- If one call ended at an `exit`, another over the same bytes can't have served all of them.
  never_both : (status : ℕ) (q : StreamRest) (put other : List ℕ) → EndsByExit status taken put → AnswersAllContents taken q other → ⊥
  never_both status q put other (h, h_ended) k =
      let fed : h.served.answered ++ h.waiting ≡ k.served.answered =
      (feeds (Open []) h.rest q taken (h.served.answered ++ h.waiting) (k.served.answered ++ []) h.served.feeds k.served.feeds).0 ∙ append-nil k.served.answered in
      let end : k.after ≡ h.after = (longer status h.served.answered h.waiting h.served.sent k.served.sent h.after k.after h_ended h.served.conversation (subst (λ cs. IsConversation initial_server_state cs k.served.sent k.after) (sym fed) k.served.conversation)).1 in
      ended_goes_on status k.after (ap (λ (s : ServerState). s.phase) end ∙ h_ended) k.not_ended

  one_ending : (e f : Ending) (put other : List ℕ) → EndsIn e taken put → EndsIn f taken other → (put ≡ other) × (e ≡ f)
  one_ending (at_exit s) (at_exit t) put other h k = end_one s t put other h k
  one_ending (at_exit s) (with_rest q) put other h k = absurd (never_both s q put other h k)
  one_ending (with_rest r) (at_exit t) put other h k = absurd (never_both t r other put k h)
  one_ending (with_rest r) (with_rest q) put other h k = all_one r q put other h k

-- ---- by the result

-- If neither an allocation nor the writer failed, the bytes have an ending.
pub ending_of : (result : Result ℕ ServeFault) (taken put : List ℕ) → AllOutputIsWritten result → ServeMayReturn result taken put → (e : Ending) × EndsIn e taken put
ending_of (Ok status) taken put written (r, w, (inl ends, none)) = (at_exit status, ends)
ending_of (Ok status) taken put written (r, w, (inr (all, at_end, is), none)) = (with_rest (Open []), all)
ending_of (Err BadHead) taken put written (r, w, (all, none)) = (with_rest Broken, all)
ending_of (Err Truncated) taken put written (r, w, ((left, all, some, at_end), none)) = (with_rest (Open left), all)
ending_of (Err Read) taken put written (r, w, ((left, all), failed, writes, flushed)) = (with_rest (Open left), all)
ending_of (Err TooManyReads) taken put written (r, w, ((left, all, long, often), none)) = (with_rest (Open left), all)
ending_of (Err Write) taken put written served = absurd (written.1 refl)
ending_of (Err Memory) taken put written served = absurd (written.0 refl)

-- returns the result of `serve` for an ending
abbrev answer_text : Ending → Result ℕ ServeFault
answer_text (at_exit status) = Ok status
answer_text (with_rest (Open [])) = Ok 1
answer_text (with_rest (Open (x ∷ xs))) = Err Truncated
answer_text (with_rest Broken) = Err BadHead

truncated : (left : List ℕ) → left ≢ [] → answer_text (with_rest (Open left)) ≡ Err Truncated
truncated [] some = absurd (some refl)
truncated (x ∷ xs) some = refl

led_to : (result : Result ℕ ServeFault) (taken put : List ℕ) → IsDeterminedByBytes result → ServeMayReturn result taken put → (e : Ending) × EndsIn e taken put × (answer_text e ≡ result)
led_to (Ok status) taken put of (r, w, (inl ends, none)) = (at_exit status, ends, refl)
led_to (Ok status) taken put of (r, w, (inr (all, at_end, is), none)) = (with_rest (Open []), all, ap Ok (sym is))
led_to (Err BadHead) taken put of (r, w, (all, none)) = (with_rest Broken, all, refl)
led_to (Err Truncated) taken put of (r, w, ((left, all, some, at_end), none)) = (with_rest (Open left), all, truncated left some)
led_to (Err Read) taken put of served = absurd of
led_to (Err TooManyReads) taken put of served = absurd of
led_to (Err Write) taken put of served = absurd of
led_to (Err Memory) taken put of served = absurd of

-- ---- more of the input

-- holds if more bytes can't change an ending
abbrev pub IsClosed : Ending → Type 0
IsClosed (at_exit status) = ⊤
IsClosed (with_rest Broken) = ⊤
IsClosed (with_rest (Open left)) = ⊥

pub framed_by : (e : Ending) (taken put : List ℕ) → EndsIn e taken put → Framed taken
framed_by (at_exit status) taken put (h, ended) = record { contents = h.served.answered ++ h.waiting; rest = h.rest; feeds = h.served.feeds }
framed_by (with_rest rest) taken put h = record { contents = h.served.answered ++ []; rest = rest; feeds = h.served.feeds }

further : (e : Ending) (taken more put : List ℕ) → IsClosed e → Framed (taken ++ more) → EndsIn e taken put → EndsIn e (taken ++ more) put
further (at_exit status) taken more put closed f (h, ended) =
    let s = h.served in
    let parts = fed_front (Open []) h.rest f.rest taken more (s.answered ++ h.waiting) f.contents s.feeds f.feeds in
    let same : f.contents ≡ s.answered ++ (h.waiting ++ parts.0) = parts.1 ∙ append_assoc s.answered h.waiting parts.0 in
    let served : AnswersAllButWaiting (taken ++ more) (h.waiting ++ parts.0) f.rest h.after put =
    record { answered = s.answered; sent = s.sent; feeds = subst (λ cs. PieceAdvancesStream (Open []) (taken ++ more) cs f.rest) same f.feeds; conversation = s.conversation; frames = s.frames } in
    (record { after = h.after; waiting = h.waiting ++ parts.0; rest = f.rest; served = served }, ended)
further (with_rest Broken) taken more put closed f h =
    let s = h.served in
    let fed : PieceAdvancesStream (Open []) (taken ++ more) ((s.answered ++ []) ++ []) Broken = fed_in_turn (Open []) Broken Broken taken more (s.answered ++ []) [] s.feeds refl in
    record {
      after = h.after;
      served = record { answered = s.answered; sent = s.sent; feeds = subst (λ cs. PieceAdvancesStream (Open []) (taken ++ more) cs Broken) (append-nil (s.answered ++ [])) fed; conversation = s.conversation; frames = s.frames };
      not_ended = h.not_ended;
    }
further (with_rest (Open left)) taken more put closed f h = absurd closed

-- A result that the bytes decide has an ending that more bytes can't change.
pub decided : (result : Result ℕ ServeFault) (taken put : List ℕ) → IsFinalResult result taken put → ServeMayReturn result taken put → (e : Ending) × EndsIn e taken put × IsClosed e × (answer_text e ≡ result)
decided (Ok status) taken put is served = (at_exit status, is, tt, refl)
decided (Err BadHead) taken put is (r, w, (all, none)) = (with_rest Broken, all, tt, refl)
decided (Err Truncated) taken put is served = absurd is
decided (Err Read) taken put is served = absurd is
decided (Err TooManyReads) taken put is served = absurd is
decided (Err Write) taken put is served = absurd is
decided (Err Memory) taken put is served = absurd is

nothing_more : (taken more : List ℕ) → more ≡ [] → taken ++ more ≡ taken
nothing_more taken more none = ap (λ xs. taken ++ xs) none ∙ append-nil taken

-- If no more bytes can be written, both calls have written the same.
pub all_written : ConversationIsDetermined → OneFeed → (taken more put all : List ℕ) (result end : Result ℕ ServeFault) → AllOutputIsWritten result → AllOutputIsWritten end → ServeMayReturn result taken put → ServeMayReturn end (taken ++ more) all → IsFinalResult result taken put ⊎ (more ≡ []) → put ≡ all
all_written one feeds taken more put all result end written written_too h k (inl is) =
    let e = decided result taken put is h in
    let f = ending_of end (taken ++ more) all written_too k in
    (one_ending one feeds (taken ++ more) e.0 f.0 put all (further e.0 taken more put e.2 (framed_by f.0 (taken ++ more) all f.1) e.1) f.1).0
all_written one feeds taken more put all result end written written_too h k (inr none) =
    let e = ending_of result taken put written h in
    let f = ending_of end taken all written_too (subst (λ xs. ServeMayReturn end xs all) (nothing_more taken more none) k) in
    (one_ending one feeds taken e.0 f.0 put all e.1 f.1).0

pub result_is_determined : ConversationIsDetermined → OneFeed → ResultIsDetermined
result_is_determined one feeds taken more put all result end of of_too h k (inl is) =
    let e = decided result taken put is h in
    let f = led_to end (taken ++ more) all of_too k in
    sym e.3 ∙ ap answer_text (one_ending one feeds (taken ++ more) e.0 f.0 put all (further e.0 taken more put e.2 (framed_by f.0 (taken ++ more) all f.1) e.1) f.1).1 ∙ f.2
result_is_determined one feeds taken more put all result end of of_too h k (inr none) =
    let e = led_to result taken put of h in
    let f = led_to end taken all of_too (subst (λ xs. ServeMayReturn end xs all) (nothing_more taken more none) k) in
    sym e.2 ∙ ap answer_text (one_ending one feeds taken e.0 f.0 put all e.1 f.1).1 ∙ f.2

-- ---- the frames of a conversation

module _ (one : ConversationIsDetermined) (feeds : OneFeed) (taken sent : Contents) (after : ServerState) (talk : IsConversation initial_server_state taken sent after) (fed : PieceAdvancesStream (Open []) (flat_map frame taken) taken (Open [])) where
  frames_sent : (put : List ℕ) (e : Ending) → EndsIn e (flat_map frame taken) put → put ≡ flat_map frame sent
  frames_sent put (at_exit status) (h, ended) =
      let s = h.served in
      let parts : taken ≡ s.answered ++ h.waiting = (feeds (Open []) (Open []) h.rest (flat_map frame taken) taken (s.answered ++ h.waiting) fed s.feeds).0 in
      s.frames ∙ ap (flat_map frame) (longer one feeds (flat_map frame taken) status s.answered h.waiting s.sent sent h.after after ended s.conversation (subst (λ cs. IsConversation initial_server_state cs sent after) parts talk)).0
  frames_sent put (with_rest rest) h =
      let s = h.served in
      let same : taken ≡ s.answered = (feeds (Open []) (Open []) rest (flat_map frame taken) taken (s.answered ++ []) fed s.feeds).0 ∙ append-nil s.answered in
      s.frames ∙ ap (flat_map frame) (one initial_server_state s.answered s.sent sent h.after after s.conversation (subst (λ cs. IsConversation initial_server_state cs sent after) same talk)).0

-- a conversation with which a longer input begins
module _ (one : ConversationIsDetermined) (feeds : OneFeed) (taken sent : Contents) (after : ServerState) (talk : IsConversation initial_server_state taken sent after) (fed : PieceAdvancesStream (Open []) (flat_map frame taken) taken (Open [])) (more : List ℕ) where
  -- The answers to more contents begin with the answers to these.
  goes_on : (mid answered said : Contents) (end : ServerState) → answered ≡ taken ++ mid → IsConversation initial_server_state answered said end → (later : List ℕ) × (flat_map frame said ≡ flat_map frame sent ++ later)
  goes_on mid answered said end is h =
      let parts : Cut initial_server_state taken mid said end = cut initial_server_state taken mid said end (subst (λ cs. IsConversation initial_server_state cs said end) is h) in
      let same = one initial_server_state taken parts.first sent parts.between after parts.begins talk in
      (flat_map frame parts.later, ap (flat_map frame) (parts.is ∙ ap (λ cs. cs ++ parts.later) same.0) ∙ flat_map-append frame sent parts.later)

  frames_first : (put : List ℕ) (e : Ending) → EndsIn e (flat_map frame taken ++ more) put → (later : List ℕ) × (put ≡ flat_map frame sent ++ later)
  frames_first put (at_exit status) (h, ended) =
      let s = h.served in
      let parts = fed_front (Open []) (Open []) h.rest (flat_map frame taken) more taken (s.answered ++ h.waiting) fed s.feeds in
      elim (begins_other s.answered h.waiting taken parts.0 parts.1) [
        | inl (mid, is) ↦
            let same = longer one feeds (flat_map frame taken) status s.answered mid s.sent sent h.after after ended s.conversation (subst (λ cs. IsConversation initial_server_state cs sent after) is talk) in
            ([], s.frames ∙ ap (flat_map frame) same.0 ∙ sym (append-nil (flat_map frame sent)))
        | inr (mid, is) ↦ (let found = goes_on mid s.answered s.sent h.after is s.conversation in (found.0, s.frames ∙ found.1))
      ]
  frames_first put (with_rest rest) h =
      let s = h.served in
      let parts = fed_front (Open []) (Open []) rest (flat_map frame taken) more taken (s.answered ++ []) fed s.feeds in
      let found = goes_on parts.0 s.answered s.sent h.after (sym (append-nil s.answered) ∙ parts.1) s.conversation in
      (found.0, s.frames ∙ found.1)

pub conversation_is_served_first : ConversationIsDetermined → OneFeed → PieceAdvancesStream (Open []) [] [] (Open []) → ((contents : Contents) → All (λ content. length content ≤ max_content_length) contents → Frames (flat_map frame contents) contents []) → ServeAnswersPrefixLikeSession
conversation_is_served_first one feeds nothing read taken sent after small talk more put result written served =
    let e = ending_of result (flat_map frame taken ++ more) put written served in
    frames_first one feeds taken sent after talk (read taken small, nothing.1) more put e.0 e.1

pub conversation_is_served : ConversationIsDetermined → OneFeed → PieceAdvancesStream (Open []) [] [] (Open []) → ((contents : Contents) → All (λ content. length content ≤ max_content_length) contents → Frames (flat_map frame contents) contents []) → ServeAnswersLikeSession
conversation_is_served one feeds nothing read taken sent after small talk put result written served =
    let e = ending_of result (flat_map frame taken) put written served in
    frames_sent one feeds taken sent after talk (read taken small, nothing.1) put e.0 e.1

pub conversation_is_served_at_reads : ConversationIsDetermined → OneFeed → PieceAdvancesStream (Open []) [] [] (Open []) → ((contents : Contents) → All (λ content. length content ≤ max_content_length) contents → Frames (flat_map frame contents) contents []) → ServeHasAnsweredAtReads
conversation_is_served_at_reads one feeds nothing read taken sent after small talk steps more owes given =
    let rest : StreamRest = Open owes.left in
    let all : AnswersAllContents (flat_map frame taken ++ more) rest (bytes_written steps) = subst (λ bytes. AnswersAllContents bytes rest (bytes_written steps)) given owes.answered in
    frames_first one feeds taken sent after talk (read taken small, nothing.1) more (bytes_written steps) (with_rest rest) all

-- ---- the frames of a conversation that ended

module _ (one : ConversationIsDetermined) (feeds : OneFeed) (taken sent : Contents) (after : ServerState) (status : ℕ) (talk : IsConversation initial_server_state taken sent after) (over : after.phase ≡ Ended status) (fed : PieceAdvancesStream (Open []) (flat_map frame taken) taken (Open [])) (more : List ℕ) where
  -- nothing is answered after it
  nothing_more_said : (mid answered said : Contents) (end : ServerState) → answered ≡ taken ++ mid → IsConversation initial_server_state answered said end → (sent ≡ said) × (end ≡ after)
  nothing_more_said mid answered said end is h =
      longer one feeds (flat_map frame taken) status taken mid sent said after end over talk (subst (λ cs. IsConversation initial_server_state cs said end) is h)

  no_rest : (put : List ℕ) (rest : StreamRest) → AnswersAllContents (flat_map frame taken ++ more) rest put → ⊥
  no_rest put rest h =
      let s = h.served in
      let parts = fed_front (Open []) (Open []) rest (flat_map frame taken) more taken (s.answered ++ []) fed s.feeds in
      let same = nothing_more_said parts.0 s.answered s.sent h.after (sym (append-nil s.answered) ∙ parts.1) s.conversation in
      ended_goes_on one feeds (flat_map frame taken) status h.after (ap (λ (s : ServerState). s.phase) same.1 ∙ over) h.not_ended

  exit_one : (put : List ℕ) (found : ℕ) → EndsByExit found (flat_map frame taken ++ more) put → (put ≡ flat_map frame sent) × (found ≡ status)
  exit_one put found (h, ended) =
      let s = h.served in
      let parts = fed_front (Open []) (Open []) h.rest (flat_map frame taken) more taken (s.answered ++ h.waiting) fed s.feeds in
      let same : (s.sent ≡ sent) × (h.after ≡ after) =
      elim (begins_other s.answered h.waiting taken parts.0 parts.1) [
        | inl (mid, is) ↦ (let back = longer one feeds (flat_map frame taken) found s.answered mid s.sent sent h.after after ended s.conversation (subst (λ cs. IsConversation initial_server_state cs sent after) is talk) in (back.0, sym back.1))
        | inr (mid, is) ↦ (let on = nothing_more_said mid s.answered s.sent h.after is s.conversation in (sym on.0, on.1))
      ] in
      (s.frames ∙ ap (flat_map frame) same.0, same_status found status (sym ended ∙ ap (λ (s : ServerState). s.phase) same.1 ∙ over))

  returned : (put : List ℕ) (result : Result ℕ ServeFault) → AllOutputIsWritten result → ServeMayReturn result (flat_map frame taken ++ more) put → (put ≡ flat_map frame sent) × (result ≡ Ok status)
  returned put (Ok found) written (r, w, (inl ends, none)) = let same = exit_one put found ends in (same.0, ap Ok same.1)
  returned put (Ok found) written (r, w, (inr (all, at_end, is), none)) = absurd (no_rest put (Open []) all)
  returned put (Err BadHead) written (r, w, (all, none)) = absurd (no_rest put Broken all)
  returned put (Err Truncated) written (r, w, ((left, all, some, at_end), none)) = absurd (no_rest put (Open left) all)
  returned put (Err Read) written (r, w, ((left, all), failed, writes, flushed)) = absurd (no_rest put (Open left) all)
  returned put (Err TooManyReads) written (r, w, ((left, all, long, often), none)) = absurd (no_rest put (Open left) all)
  returned put (Err Write) written served = absurd (written.1 refl)
  returned put (Err Memory) written served = absurd (written.0 refl)

pub ended_conversation_is_served : ConversationIsDetermined → OneFeed → PieceAdvancesStream (Open []) [] [] (Open []) → ((contents : Contents) → All (λ content. length content ≤ max_content_length) contents → Frames (flat_map frame contents) contents []) → ServeEndsLikeSession
ended_conversation_is_served one feeds nothing read taken sent after status small talk over more put result written served =
    returned one feeds taken sent after status talk over (read taken small, nothing.1) more put result written served
