-- Proves facts about the record of a stream's calls: how it grows, and that no answer is owed when a
-- read begins.
use Rattle.std.proofs.Common.{◌≡◌, ◌≢◌, ◌∙◌, ℕ, List, [], ◌∷◌, ◌++◌, Bool, true, Option, None, Some, ◌⊎◌, inl, inr, refl, sym, ap, subst, append_assoc, append-nil}
use Rattle.std.specs.List.{fold}
use Rattle.std.proofs.lemmas.List.Sums.{fold-append}
use Rattle.std.proofs.lemmas.Grind.{flat_map-append}
use Rattle.std.proofs.KnownBytes.{Appends-nil, Appends-trans, Appends-kept}
use Rattle.std.specs.Io.KnownBytes.{Appends, Keeps}
use Rattle.ob0_frame.specs.FramerState.{Open}
use Rattle.ob0_session.specs.ServeResults.{AnswersAllContents}
use Rattle.ob0_session.specs.ServeSteps.{IsOutputStep, AreOutputSteps, WritesAndFlushes, WritesToStream}
use Rattle.ob0_session.specs.StreamSteps.{StreamStep, read_begins, read_gives, read_fails, writes, write_fails, flushes, flush_fails, StreamState, Records, bytes_given_by, bytes_written_by, is_flushed_after, bytes_given, bytes_written, is_all_flushed}
use Rattle.ob0_session.specs.OwedAnswers.{OwesNothing, NeverReadsOwing}

abbrev Steps : Type 0
Steps = List StreamStep

-- ---- a record grows

records_nothing : (a : Option Steps) → Records a a []
records_nothing None = refl
records_nothing (Some x) = sym (append-nil x)

known : (x : Steps) → Some x ≡ None → ⊥
known x e = cc

lost : (a : Option Steps) (xs : Steps) → Records a None xs
lost None xs = refl
lost (Some x) xs = tt

pub records_more : (a b c : Option Steps) (xs ys : Steps) → Records a b xs → Records b c ys → Records a c (xs ++ ys)
records_more a None c xs ys p q = subst (λ (o : Option Steps). Records a o (xs ++ ys)) (sym q) (lost a (xs ++ ys))
records_more a (Some y) None xs ys p q = lost a (xs ++ ys)
records_more None (Some y) (Some z) xs ys p q = absurd (known y p)
records_more (Some x) (Some y) (Some z) xs ys p q = q ∙ (λ i. p i ++ ys) ∙ append_assoc x xs ys

-- ---- writes and flushes

output_then : (xs ys : Steps) → AreOutputSteps xs → AreOutputSteps ys → AreOutputSteps (xs ++ ys)
output_then [] ys h k = k
output_then (x ∷ xs) ys h k = (h.0, output_then xs ys h.1 k)

pub writes_nothing : (a : StreamState) → WritesToStream a a []
writes_nothing a = record {
  appends = Appends-nil a.output.contents;
  input = refl;
  references = refl;
  steps = [];
  recorded = records_nothing a.steps;
  only_output = tt;
  written = refl;
}

pub writes_more : (a b c : StreamState) (xs ys : List ℕ) → WritesToStream a b xs → WritesToStream b c ys → WritesToStream a c (xs ++ ys)
writes_more a b c xs ys p q = record {
  appends = Appends-trans a.output.contents b.output.contents c.output.contents xs ys p.appends q.appends;
  input = q.input ∙ p.input;
  references = q.references ∙ p.references;
  steps = p.steps ++ q.steps;
  recorded = records_more a.steps b.steps c.steps p.steps q.steps p.recorded q.recorded;
  only_output = output_then p.steps q.steps p.only_output q.only_output;
  written = flat_map-append bytes_written_by p.steps q.steps ∙ (λ i. p.written i ++ q.written i);
}

-- A write that takes these bytes.
pub write_writes : (a b : StreamState) (bytes : List ℕ) → Appends a.output.contents b.output.contents bytes → b.input ≡ a.input → b.references ≡ a.references → Records a.steps b.steps (writes bytes ∷ []) → WritesToStream a b bytes
write_writes a b bytes appends input references recorded = record {
  appends = appends;
  input = input;
  references = references;
  steps = writes bytes ∷ [];
  recorded = recorded;
  only_output = (tt, tt);
  written = append-nil bytes;
}

-- A write that fails, or a flush.
pub other_writes : (a b : StreamState) (step : StreamStep) → IsOutputStep step → bytes_written_by step ≡ [] → Keeps a.output.contents b.output.contents → b.input ≡ a.input → b.references ≡ a.references → Records a.steps b.steps (step ∷ []) → WritesToStream a b []
other_writes a b step output none kept input references recorded = record {
  appends = Appends-kept a.output.contents a.output.contents b.output.contents [] (Appends-nil a.output.contents) kept;
  input = input;
  references = references;
  steps = step ∷ [];
  recorded = recorded;
  only_output = (output, tt);
  written = append-nil (bytes_written_by step) ∙ none;
}

pub flushed_more : (xs ys : Steps) → is_all_flushed xs ≡ true → is_all_flushed ys ≡ true → is_all_flushed (xs ++ ys) ≡ true
flushed_more xs ys h k = fold-append is_flushed_after true xs ys ∙ ap (λ (b : Bool). fold is_flushed_after b ys) h ∙ k

-- Nothing more is written: a flush.
pub writes_no_more : (a b c : StreamState) (bytes : List ℕ) → WritesToStream a b bytes → WritesToStream b c [] → WritesToStream a c bytes
writes_no_more a b c bytes p q = subst (λ (xs : List ℕ). WritesToStream a c xs) (append-nil bytes) (writes_more a b c bytes [] p q)

-- After writes, a flush succeeds.
pub writes_flushed : (a b c : StreamState) (bytes : List ℕ) → WritesToStream a b bytes → Keeps b.output.contents c.output.contents → c.input ≡ b.input → c.references ≡ b.references → Records b.steps c.steps (flushes ∷ [])
    → c.output.is_flushed ≡ true → WritesAndFlushes a c bytes
writes_flushed a b c bytes w kept input references recorded flushed = record {
  writes = record {
    appends = Appends-kept a.output.contents b.output.contents c.output.contents bytes w.appends kept;
    input = input ∙ w.input;
    references = references ∙ w.references;
    steps = w.steps ++ flushes ∷ [];
    recorded = records_more a.steps b.steps c.steps w.steps (flushes ∷ []) w.recorded recorded;
    only_output = output_then w.steps (flushes ∷ []) w.only_output (tt, tt);
    written = flat_map-append bytes_written_by w.steps (flushes ∷ []) ∙ append-nil (bytes_written w.steps) ∙ w.written;
  };
  flushed = fold-append is_flushed_after true w.steps (flushes ∷ []);
  is_flushed = flushed;
}

pub nothing_given : (steps : Steps) → AreOutputSteps steps → bytes_given steps ≡ []
nothing_given [] h = refl
nothing_given (read_begins ∷ steps) h = absurd h.0
nothing_given (read_gives bytes ∷ steps) h = absurd h.0
nothing_given (read_fails ∷ steps) h = absurd h.0
nothing_given (writes bytes ∷ steps) h = nothing_given steps h.1
nothing_given (write_fails ∷ steps) h = nothing_given steps h.1
nothing_given (flushes ∷ steps) h = nothing_given steps h.1
nothing_given (flush_fails ∷ steps) h = nothing_given steps h.1

-- ---- no answer is owed when a read begins

first_of : {x y : StreamStep} {xs ys : Steps} → x ∷ xs ≡ y ∷ ys → x ≡ y
first_of e = cc

rest_of : {x y : StreamStep} {xs ys : Steps} → x ∷ xs ≡ y ∷ ys → xs ≡ ys
rest_of e = cc

-- A place in two joined lists is in the first or in the second.
place : (xs ys zs : Steps) (w : StreamStep) (ws : Steps) → xs ++ ys ≡ zs ++ w ∷ ws
    → ((mid : Steps) × (xs ≡ zs ++ w ∷ mid)) ⊎ ((mid : Steps) × (zs ≡ xs ++ mid) × (ys ≡ mid ++ w ∷ ws))
place [] ys zs w ws e = inr (zs, refl, e)
place (x ∷ xs) ys [] w ws e = inl (xs, λ i. first_of e i ∷ xs)
place (x ∷ xs) ys (z ∷ zs) w ws e =
    elim (place xs ys zs w ws (rest_of e)) [
      | inl (mid, is) ↦ inl (mid, λ i. first_of e i ∷ is i)
      | inr (mid, is, rest) ↦ inr (mid, (λ i. sym (first_of e) i ∷ is i), rest)
    ]

pub never_then : (steps more : Steps) → NeverReadsOwing steps → ((mid after : Steps) → more ≡ mid ++ read_begins ∷ after → OwesNothing (steps ++ mid)) → NeverReadsOwing (steps ++ more)
never_then steps more never at before after e =
    elim (place steps more before read_begins after e) [
      | inl (mid, is) ↦ never before mid is
      | inr (mid, is, rest) ↦ subst OwesNothing (sym is) (at mid after rest)
    ]

pub no_read : (mid after : Steps) → AreOutputSteps (mid ++ read_begins ∷ after) → ⊥
no_read [] after h = h.0
no_read (x ∷ mid) after h = no_read mid after h.1

one_read : (steps : Steps) (outcome : StreamStep) → outcome ≢ read_begins → OwesNothing steps → (mid after : Steps) → read_begins ∷ outcome ∷ [] ≡ mid ++ read_begins ∷ after → OwesNothing (steps ++ mid)
one_read steps outcome other nothing [] after e = subst OwesNothing (sym (append-nil steps)) nothing
one_read steps outcome other nothing (x ∷ []) after e = absurd (other (first_of (rest_of e)))
one_read steps outcome other nothing (x ∷ y ∷ []) after e = let no : [] ≡ read_begins ∷ after = rest_of (rest_of e) in cc
one_read steps outcome other nothing (x ∷ y ∷ z ∷ mid) after e = let no : [] ≡ z ∷ (mid ++ read_begins ∷ after) = rest_of (rest_of e) in cc

-- ---- since the call

-- Holds if the calls since the state `call` gave the bytes `taken` and took the bytes `put`, and no
-- answer was owed when one of their reads began.
pub record Recorded (call now : StreamState) (taken put : List ℕ) : Type 0 where
  pub steps : Steps
  pub recorded : Records call.steps now.steps steps
  pub given : bytes_given steps ≡ taken
  pub written : bytes_written steps ≡ put
  pub never : NeverReadsOwing steps
  pub references : now.references ≡ call.references

-- Holds if also everything written is flushed.
pub record RecordedAndFlushed (call now : StreamState) (taken put : List ℕ) : Type 0 where
  pub so_far : Recorded call now taken put
  pub flushed : is_all_flushed so_far.steps ≡ true

no_place : (before after : Steps) → [] ≡ before ++ read_begins ∷ after → ⊥
no_place [] after e = cc
no_place (x ∷ before) after e = cc

pub recorded_start : (call : StreamState) → RecordedAndFlushed call call [] []
recorded_start call = record {
  so_far = record {
    steps = [];
    recorded = records_nothing call.steps;
    given = refl;
    written = refl;
    never = λ before after e. absurd (no_place before after e);
    references = refl;
  };
  flushed = refl;
}

owes_nothing : (call now : StreamState) (taken put left : List ℕ) (h : RecordedAndFlushed call now taken put) → AnswersAllContents taken (Open left) put → OwesNothing h.so_far.steps
owes_nothing call now taken put left h all = record {
  left = left;
  answered =
      let written : AnswersAllContents taken (Open left) (bytes_written h.so_far.steps) = subst (λ (p : List ℕ). AnswersAllContents taken (Open left) p) (sym h.so_far.written) all in
      subst (λ (t : List ℕ). AnswersAllContents t (Open left) (bytes_written h.so_far.steps)) (sym h.so_far.given) written;
  flushed = h.flushed;
}

-- A read gives a piece.
pub read_recorded : (call now new : StreamState) (taken put left piece : List ℕ) → RecordedAndFlushed call now taken put → AnswersAllContents taken (Open left) put
    → Records now.steps new.steps (read_begins ∷ read_gives piece ∷ []) → new.references ≡ now.references → RecordedAndFlushed call new (taken ++ piece) put
read_recorded call now new taken put left piece h all recorded references =
    let s = h.so_far in
    let more : Steps = read_begins ∷ read_gives piece ∷ [] in record {
      so_far = record {
        steps = s.steps ++ more;
        recorded = records_more call.steps now.steps new.steps s.steps more s.recorded recorded;
        given = flat_map-append bytes_given_by s.steps more ∙ (λ i. s.given i ++ append-nil piece i);
        written = flat_map-append bytes_written_by s.steps more ∙ append-nil (bytes_written s.steps) ∙ s.written;
        never = never_then s.steps more s.never (one_read s.steps (read_gives piece) (λ e. cc) (owes_nothing call now taken put left h all));
        references = references ∙ s.references;
      };
      flushed = flushed_more s.steps more h.flushed refl;
    }

-- A read fails.
pub failed_read_recorded : (call now new : StreamState) (taken put left : List ℕ) → RecordedAndFlushed call now taken put → AnswersAllContents taken (Open left) put
    → Records now.steps new.steps (read_begins ∷ read_fails ∷ []) → new.references ≡ now.references → Recorded call new taken put
failed_read_recorded call now new taken put left h all recorded references =
    let s = h.so_far in
    let more : Steps = read_begins ∷ read_fails ∷ [] in record {
      steps = s.steps ++ more;
      recorded = records_more call.steps now.steps new.steps s.steps more s.recorded recorded;
      given = flat_map-append bytes_given_by s.steps more ∙ append-nil (bytes_given s.steps) ∙ s.given;
      written = flat_map-append bytes_written_by s.steps more ∙ append-nil (bytes_written s.steps) ∙ s.written;
      never = never_then s.steps more s.never (one_read s.steps read_fails (λ e. cc) (owes_nothing call now taken put left h all));
      references = references ∙ s.references;
    }

-- Bytes are written.
abbrev pub writes_recorded : (call now new : StreamState) (taken put more : List ℕ) → Recorded call now taken put → WritesToStream now new more → Recorded call new taken (put ++ more)
writes_recorded call now new taken put more s w = record {
  steps = s.steps ++ w.steps;
  recorded = records_more call.steps now.steps new.steps s.steps w.steps s.recorded w.recorded;
  given = flat_map-append bytes_given_by s.steps w.steps ∙ (λ i. s.given i ++ nothing_given w.steps w.only_output i) ∙ append-nil taken;
  written = flat_map-append bytes_written_by s.steps w.steps ∙ (λ i. s.written i ++ w.written i);
  never = never_then s.steps w.steps s.never (λ mid after found. absurd (no_read mid after (subst AreOutputSteps found w.only_output)));
  references = w.references ∙ s.references;
}
