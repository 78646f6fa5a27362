-- Proves that a step raises each count of the editor by at most one.
use Rattle.std.proofs.Common.{◌≡◌, ◌∙◌, ◌≤◌, ◌<◌, ◌+◌, ◌-◌, ◌^◌, ℕ, List, [], ◌∷◌, ◌++◌, length, Some, sym, ap, subst, arith}
use Rattle.std.specs.Prelude.{pos}
use Rattle.std.specs.FinMap as map_of
use Rattle.std.specs.Ordering.{nat_cmp}
use Rattle.std.specs.Cmp.Lexicographic.{slice_cmp}
use Rattle.std.proofs.lemmas.Option.{none-some}
use Rattle.std.proofs.lemmas.List.{length-append}
use Rattle.ob0_text.specs.OpenDocuments.{TextChange}
use Rattle.ob0_text.specs.declared.position_types.Unit.{Unit}
use Rattle.ob0_world_rules.specs.TextEdits.{whole_text_change}
use Rattle.ob0_world_rules.specs.Asks.{Ask}
use Rattle.ob0_world_rules.specs.ClientAndServer.{OpenDocument, SentAsk, Editor, editor_document_with_uri, MessageToServer, MessageToEditor, publishes, answers, AppliedEdit, ClientAndServer, new_editor}
use Rattle.ob0_world_rules.specs.EditorActs.{EditorAct, version_as_natural, next_version, result_of_opening_document, result_of_changing_text, result_of_closing_document, result_of_sending_ask, editor_without_answer, act_result, editor_after_message}
use Rattle.ob0_world_rules.specs.Events.{Event, editor_acts, serve, take_message, state_after_editor_takes_message, ServerTakesFirstMessage, EventLeadsTo}
use Rattle.ob0_world_rules.proofs.PerformsAct.{edit_of, of_each}
use Rattle.ob0_world_rules.proofs.SameDocument.{found, left}
use Rattle.ob0_world_editor.specs.EditorCalls.{CountsCanGrow}
use Rattle.ob0_world.specs.Queues.{CountsAreAtMost}

pub few : (n : ℕ) (e : Editor) → CountsAreAtMost n e → n < 2 ^ 63 - 1 → CountsCanGrow e
few n e within h =
    record {
      openings = let a : e.openings ≤ n = within.openings in omega arith;
      asks = let a : length e.requested ≤ n = within.asks in omega arith;
      versions = λ uri d at. let a : version_as_natural d.version ≤ n = within.versions uri d at in omega arith;
    }

pub within_start : (unit : Unit) → CountsAreAtMost 0 (new_editor unit)
within_start unit =
    record { openings = omega arith; asks = omega arith; versions = λ uri d at. absurd (none-some d (sym (map_of.get-empty (slice_cmp nat_cmp) uri) ∙ at)) }

more : (n : ℕ) (e : Editor) → CountsAreAtMost n e → CountsAreAtMost (n + 1) e
more n e within =
    record {
      openings = let a : e.openings ≤ n = within.openings in omega arith;
      asks = let a : length e.requested ≤ n = within.asks in omega arith;
      versions = λ uri d at. let a : version_as_natural d.version ≤ n = within.versions uri d at in omega arith;
    }

put : (n : ℕ) (e : Editor) (uri : List ℕ) (new : OpenDocument) (openings : ℕ) → CountsAreAtMost n e → version_as_natural new.version ≤ n + 1 → openings ≤ n + 1 → CountsAreAtMost (n + 1) (record e { documents = map_of.insert e.documents uri new; openings = openings })
put n e uri new openings within version few_openings =
    record {
      openings = few_openings;
      asks = let a : length e.requested ≤ n = within.asks in omega arith;
      versions = λ q d at. found e.documents uri q new d (version_as_natural d.version ≤ n + 1) at (λ same is. subst (λ x. version_as_natural x.version ≤ n + 1) is version)
          (λ was. let a : version_as_natural d.version ≤ n = within.versions q d was in omega arith);
    }

rewritten_within : (n : ℕ) (e : Editor) (uri : List ℕ) (d : OpenDocument) (text : List ℕ) (how : List TextChange) (applied : List AppliedEdit) → editor_document_with_uri e uri ≡ Some d → CountsAreAtMost n e → CountsAreAtMost (n + 1) (result_of_changing_text e uri d text how applied).editor
rewritten_within n e uri d text how applied at within =
    let a : version_as_natural d.version ≤ n = within.versions uri d at in
    let b : e.openings ≤ n = within.openings in
    put n e uri (record d { version = next_version d.version; text = text }) e.openings within (omega arith) (omega arith)

module _ (n : ℕ) (e : Editor) (within : CountsAreAtMost n e) where
  open_within : (uri text : List ℕ) → CountsAreAtMost (n + 1) (result_of_opening_document e uri text).editor
  open_within uri text =
      let b : e.openings ≤ n = within.openings in
      put n e uri (record { version = pos 1; text = text; opening = e.openings + 1 }) (e.openings + 1) within (omega arith) (omega arith)

  close_within : (uri : List ℕ) → CountsAreAtMost (n + 1) (result_of_closing_document e uri).editor
  close_within uri =
      record {
        openings = let a : e.openings ≤ n = within.openings in omega arith;
        asks = let a : length e.requested ≤ n = within.asks in omega arith;
        versions = λ q x at. let a : version_as_natural x.version ≤ n = within.versions q x (left e.documents uri q x at) in omega arith;
      }

  ask_within : (uri : List ℕ) (ask : Ask) (d : OpenDocument) → CountsAreAtMost (n + 1) (result_of_sending_ask e uri ask d).editor
  ask_within uri ask d =
      record {
        openings = let a : e.openings ≤ n = within.openings in omega arith;
        asks = longer e.requested _ within.asks;
        versions = λ q x at. let a : version_as_natural x.version ≤ n = within.versions q x at in omega arith;
      }
    where
      longer : (xs : List SentAsk) (x : SentAsk) → length xs ≤ n → length (xs ++ x ∷ []) ≤ n + 1
      longer xs x h = rw (length-append xs (x ∷ [])) (omega arith)

  without : (k : ℕ) → CountsAreAtMost n (editor_without_answer e k)
  without k = record { openings = within.openings; asks = within.asks; versions = within.versions }

  act_within : (act : EditorAct) → CountsAreAtMost (n + 1) (act_result e act).editor
  act_within = of_each e (λ done. CountsAreAtMost (n + 1) done.editor) (record {
    still = more n e within;
    opened = λ uri text none. open_within uri text;
    changed = λ uri d how text at made. rewritten_within n e uri d text how [] at within;
    closed = λ uri d at. close_within uri;
    asked = λ uri ask d at. ask_within uri ask d;
    made = λ k edits a d text held numbered same makes. rewritten_within n (editor_without_answer e k) a.uri d text (whole_text_change text ∷ []) (edit_of a.uri d text ∷ []) same.at (without k);
    dropped = λ k. more n (editor_without_answer e k) (without k);
  })

  read_within : (m : MessageToEditor) → CountsAreAtMost (n + 1) (editor_after_message e m)
  read_within (publishes uri version empty) = more n e within
  read_within (answers k []) = more n e within
  read_within (answers k (edit ∷ edits)) = let m : CountsAreAtMost (n + 1) e = more n e within in record { openings = m.openings; asks = m.asks; versions = m.versions }

module _ (n : ℕ) (w : ClientAndServer) (within : CountsAreAtMost n w.editor) where
  take_within : (queue : List MessageToEditor) → CountsAreAtMost (n + 1) (state_after_editor_takes_message w queue).editor
  take_within [] = more n w.editor within
  take_within (m ∷ rest) = read_within n w.editor within m

  same_editor : (queue : List MessageToServer) (new : ClientAndServer) → ServerTakesFirstMessage w queue new → new.editor ≡ w.editor
  same_editor [] new h = ap (λ (x : ClientAndServer). x.editor) h
  same_editor (m ∷ rest) new (said, made, may, is) = ap (λ (x : ClientAndServer). x.editor) is

  pub within_step : (event : Event) (new : ClientAndServer) → EventLeadsTo w event new → CountsAreAtMost (n + 1) new.editor
  within_step (editor_acts act) new h = subst (λ (x : ClientAndServer). CountsAreAtMost (n + 1) x.editor) (sym h) (act_within n w.editor within act)
  within_step serve new h = subst (CountsAreAtMost (n + 1)) (sym (same_editor w.to_server new h)) (more n w.editor within)
  within_step take_message new h = subst (λ (x : ClientAndServer). CountsAreAtMost (n + 1) x.editor) (sym h) (take_within w.to_editor)
