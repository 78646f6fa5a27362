-- States the guarantees for every list of events.
-- Rule: docs/PROMISES.md, Client and server.
use Rattle.std.specs.Prelude.{◌≡◌, ℕ, List, [], All, Option, Some, None, MatchOption, fold, if◌then◌else◌}
use Rattle.std.specs.Str.{bytes_eq}
use Rattle.ob0_text.specs.declared.position_types.Unit.{Unit}
use Rattle.ob0_world_rules.specs.WellTypedTexts.{WellTypedText, SameRun}
use Rattle.ob0_world_rules.specs.Answers.{NoDiagnosticsExactlyIfWellTyped}
use Rattle.ob0_world_rules.specs.ClientAndServer.{OpenDocument, Editor, editor_document_with_uri, AppliedEdit, PublicationWithText, ClientAndServer, initial_client_and_server}
use Rattle.ob0_world_rules.specs.Events.{Event, IsCourse}
use Rattle.ob0_world_rules.specs.PublicationsAreInOrder.{PublicationsFollowAnnouncements}

-- ---- an applied edit

-- states that the texts before and after the edit are well-typed modules with the same run: the
-- same output and the same end
pub record PreservesRun (a : AppliedEdit) : Type 0 where
  pub before_is_well_typed : WellTypedText a.before
  pub after_is_well_typed : WellTypedText a.after
  pub same : SameRun a.before a.after

-- ---- a publication with a version

-- states that the list of diagnostics is empty exactly if the text that it was made for is a
-- well-typed module
abbrev pub IsCorrectPublication : PublicationWithText → Type 0
IsCorrectPublication m = NoDiagnosticsExactlyIfWellTyped m.text m.no_diagnostics

-- returns the last publication with a version for the document with this uri, or None if there is
-- no such publication
abbrev pub last_publication : List ℕ → List PublicationWithText → Option PublicationWithText
last_publication uri made =
    fold (λ last m. if bytes_eq m.uri uri then Some m else last) None made

-- States that each open document has a publication, and that its last publication was made for the
-- document's present version and text.
abbrev pub PublicationsAreUpToDate : Editor → List PublicationWithText → Type 0
PublicationsAreUpToDate e made =
    (uri : List ℕ) (d : OpenDocument)
    → editor_document_with_uri e uri ≡ Some d
    → MatchOption (last_publication uri made) ⊥
    (λ m. (m.version ≡ d.version) × (m.text ≡ d.text))

-- ---- the guarantees for a list of events

-- States the guarantees for the state `w`. They hold for each state to which events lead: the law
-- `guarantees_hold_in_every_interleaving`.
pub record GuaranteesHold (w : ClientAndServer) : Type 0 where
  -- each applied edit keeps the module's run
  pub applied : All PreservesRun w.applied
  -- each published list is empty exactly if the text that it was made for is a well-typed module
  pub made : All IsCorrectPublication w.made
  -- If no message waits for the server, the latest diagnostics of each open document were made for
  -- its present text.
  pub latest_are_up_to_date : w.to_server ≡ [] → PublicationsAreUpToDate w.editor w.made

-- States that a list of events leads from the initial state (`initial_client_and_server`) to exactly one state. That
-- state has these applied edits and these publications, in this order. The guarantees
-- (`GuaranteesHold`) hold in that state.
pub record GuaranteesHoldForEvents (unit : Unit) (events : List Event) (applied : List AppliedEdit)
    (made : List PublicationWithText) : Type 0 where
  pub end : ClientAndServer
  -- the events lead to the state `end`, and to no other state
  pub course : IsCourse (initial_client_and_server unit) events end
  pub only : (other : ClientAndServer) → IsCourse (initial_client_and_server unit) events other → other ≡ end
  pub applied_at_end : applied ≡ end.applied
  pub made_at_end : made ≡ end.made
  pub holds : GuaranteesHold end
  -- the n-th publication was made for the n-th document that the editor announced
  pub made_in_order : PublicationsFollowAnnouncements unit events made
