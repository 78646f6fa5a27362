-- Proves that an event leads to at most one state, because an ask has at most one answer. So a list
-- of events also leads to at most one state.
use Rattle.std.proofs.Common.{◌≡◌, ◌∙◌, ℕ, Bool, true, false, List, [], ◌∷◌, ◌++◌, refl, sym, ap, subst}
use Rattle.std.specs.Prelude.{◌↔◌, IsTrue, ℤ, Option, Some, None}
use Rattle.ob0_text.specs.declared.position_types.Unit.{Unit}
use Rattle.ob0_text.specs.OpenDocuments.{OpenDocuments, Document, InStep, OutOfStep, DocumentEvent, Opened, Changed, Lost, Closed, documents_after_event, document_at}
use Rattle.ob0_world_rules.specs.WellTypedTexts.{WellTypedText}
use Rattle.ob0_world_rules.specs.TextEdits.{Replacement}
use Rattle.ob0_world_rules.specs.Asks.{Ask}
use Rattle.ob0_world_rules.specs.Answers.{IsAnswerForDocument}
use Rattle.ob0_world_rules.specs.ClientAndServer.{MessageToServer, notifies, requests, MessageToEditor, publishes, answers, PublicationWithText, ClientAndServer, documents_after_message}
use Rattle.ob0_world_rules.specs.ServerReplies.{ServerSendsDiagnostics, ServerRepliesToNotification, ServerRepliesToMessage}
use Rattle.ob0_world_rules.specs.Events.{Event, editor_acts, serve, take_message, ServerTakesFirstMessage, EventLeadsTo, IsCourse}
use Rattle.ob0_world_rules.proofs.AnswerIsDetermined.{answers_are_unique}

same_truth : (a b : Bool) (P : Type 0) → IsTrue a ↔ P → IsTrue b ↔ P → a ≡ b
same_truth true true P p q = refl
same_truth true false P p q = sym (q.1 (p.0 refl))
same_truth false true P p q = p.1 (q.0 refl)
same_truth false false P p q = refl

abbrev made_with : List ℕ → ℤ → List ℕ → Bool → PublicationWithText
made_with uri version text empty = record { uri = uri; version = version; text = text; no_diagnostics = empty }

publishes_one : (uri : List ℕ) (o : Option Document) (said also : List MessageToEditor) (made more : List PublicationWithText) → ServerSendsDiagnostics uri o said made → ServerSendsDiagnostics uri o also more → (said ≡ also) × (made ≡ more)
publishes_one uri (Some (InStep version text)) said also made more (e, right, is_said, is_made) (f, right_too, is_also, is_more) =
    let same : e ≡ f = same_truth e f (WellTypedText text) right right_too in
    (is_said ∙ ap (λ b. publishes uri (Some version) b ∷ []) same ∙ sym is_also, is_made ∙ ap (λ b. made_with uri version text b ∷ []) same ∙ sym is_more)
publishes_one uri (Some OutOfStep) said also made more h k = (h.0 ∙ sym k.0, h.1 ∙ sym k.1)
publishes_one uri None said also made more h k = (h.0 ∙ sym k.0, h.1 ∙ sym k.1)

reports_one : (held : OpenDocuments) (note : DocumentEvent) (said also : List MessageToEditor) (made more : List PublicationWithText) → ServerRepliesToNotification held note said made → ServerRepliesToNotification held note also more → (said ≡ also) × (made ≡ more)
reports_one held (Opened uri version text) said also made more h k = publishes_one uri (document_at (documents_after_event held (Opened uri version text)) uri) said also made more h k
reports_one held (Changed uri version how) said also made more h k = publishes_one uri (document_at (documents_after_event held (Changed uri version how)) uri) said also made more h k
reports_one held (Lost uri) said also made more h k = (h.0 ∙ sym k.0, h.1 ∙ sym k.1)
reports_one held (Closed uri) said also made more h k = (h.0 ∙ sym k.0, h.1 ∙ sym k.1)

answers_one : (unit : Unit) (o : Option Document) (ask : Ask) (given other : List Replacement) → IsAnswerForDocument unit o ask given → IsAnswerForDocument unit o ask other → given ≡ other
answers_one unit (Some (InStep version text)) ask given other h k = answers_are_unique unit text ask given other h k
answers_one unit (Some OutOfStep) ask given other h k = h ∙ sym k
answers_one unit None ask given other h k = h ∙ sym k

sends_one : (held : OpenDocuments) (m : MessageToServer) (said also : List MessageToEditor) (made more : List PublicationWithText) → ServerRepliesToMessage held m said made → ServerRepliesToMessage held m also more → (said ≡ also) × (made ≡ more)
sends_one held (notifies note) said also made more h k = reports_one held note said also made more h k
sends_one held (requests number uri ask) said also made more (given, h, is_said, is_made) (other, k, is_also, is_more) =
    let same : given ≡ other = answers_one held.unit (document_at held uri) ask given other h k in
    (is_said ∙ ap (λ edits. answers number edits ∷ []) same ∙ sym is_also, is_made ∙ sym is_more)

serves_one : (w : ClientAndServer) (queue : List MessageToServer) (new other : ClientAndServer) → ServerTakesFirstMessage w queue new → ServerTakesFirstMessage w queue other → new ≡ other
serves_one w [] new other h k = h ∙ sym k
serves_one w (m ∷ rest) new other (said, made, replies, is) (also, more, replies_too, is_too) =
    let both : (said ≡ also) × (made ≡ more) = sends_one w.held m said also made more replies replies_too in
    is ∙ (λ i. record w { to_server = rest; held = documents_after_message w.held m; to_editor = w.to_editor ++ both.0 i; made = w.made ++ both.1 i }) ∙ sym is_too

pub state_after_event_is_determined : (w : ClientAndServer) (event : Event) (new other : ClientAndServer) → EventLeadsTo w event new → EventLeadsTo w event other → new ≡ other
state_after_event_is_determined w (editor_acts act) new other h k = h ∙ sym k
state_after_event_is_determined w serve new other h k = serves_one w w.to_server new other h k
state_after_event_is_determined w take_message new other h k = h ∙ sym k

pub course_is_determined : (w : ClientAndServer) (events : List Event) (end other : ClientAndServer) → IsCourse w events end → IsCourse w events other → end ≡ other
course_is_determined w [] end other h k = h ∙ sym k
course_is_determined w (event ∷ events) end other (between, happens, course) (middle, happens_too, course_too) =
    let same : between ≡ middle = state_after_event_is_determined w event between middle happens happens_too in
    course_is_determined middle events end other (subst (λ x. IsCourse x events end) same course) course_too

-- A course with one more event at its end is a course.
pub course_push : (w : ClientAndServer) (events : List Event) (between : ClientAndServer) (e : Event) (new : ClientAndServer) → IsCourse w events between → EventLeadsTo between e new → IsCourse w (events ++ e ∷ []) new
course_push w [] between e new run happens = (new, subst (λ x. EventLeadsTo x e new) run happens, refl)
course_push w (x ∷ events) between e new (mid, first, rest) happens = (mid, first, course_push mid events between e new rest happens)
