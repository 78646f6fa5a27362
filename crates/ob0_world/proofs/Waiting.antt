-- Proves that waiting contents keep their meaning after further requests, and which messages a queue has after a
-- content is added or removed.
use Rattle.std.proofs.Common.{◌≡◌, ◌∙◌, ℕ, Bool, true, false, cond, List, [], ◌∷◌, ◌++◌, Option, Some, None, refl, sym, ap, subst}
use Rattle.std.specs.Prelude.{All, Vec, is_some, filter_map, option_map, option_and_then, codes}
use Rattle.std.specs.List.{cons_option}
use Rattle.std.specs.Str.{is_utf8}
use Rattle.std.specs.declared.alloc.Global.{Global}
use Rattle.std.proofs.lemmas.Option.{none-some}
use Rattle.std.proofs.lemmas.List.{map-append}
use Rattle.std.proofs.lemmas.List.Elements.{All-append, All-head, All-tail, All-weaker, filter_map-append}
use Rattle.serde_json.specs.Data.{Data}
use Rattle.serde_json.specs.Find.{get}
use Rattle.serde_json.specs.Read.{read}
use Rattle.ob0_world_editor.specs.MessagesToServer.{message_to_server_in_content, IsMessageToServer, request_number_from_id}
use Rattle.ob0_world_editor.specs.MessagesToEditor.{message_to_editor_in_content, publication_of_notification, answer_of_response, message_to_editor_of_value, message_to_editor_given_numbering, answer_to_ask, edits_in_answer}
use Rattle.ob0_world_editor.proofs.Hearing.{says_heard}
use Rattle.ob0_world_rules.specs.ClientAndServer.{SentAsk, sent_ask_with_number, MessageToServer, notifies, requests, MessageToEditor, answers}
use Rattle.ob0_world_rules.proofs.Asked.{numbered_push}
use Rattle.ob0_world.specs.Queues.{Contents, bytes_of_contents, messages_to_server_in_contents, messages_to_editor_in_contents, MeansMessageToServer, MeansMessageToEditor}

-- ---- more asks

-- A content is read the same after further asks, and with other ids for the same asks.
module _ (f g : Data → Option ℕ) (requested more : List SentAsk) (grows : (d : Data) (k : ℕ) (a : SentAsk) → sent_ask_with_number requested k ≡ Some a → f d ≡ Some k → g d ≡ Some k) where
  answer_still : (d : Data) (o : Option Data) (m : MessageToEditor) → option_and_then (answer_to_ask requested d) (option_and_then f o) ≡ Some m → option_and_then (answer_to_ask (requested ++ more) d) (option_and_then g o) ≡ Some m
  answer_still d None m h = absurd (none-some m h)
  answer_still d (Some id) m h = go (f id) refl h
    where
      at : (k : ℕ) (o : Option SentAsk) → f id ≡ Some k → sent_ask_with_number requested k ≡ o → option_map (λ (a : SentAsk). answers k (edits_in_answer a.uri a.ask d)) o ≡ Some m → option_and_then (answer_to_ask (requested ++ more) d) (g id) ≡ Some m
      at k None named is h = absurd (none-some m h)
      at k (Some a) named is h =
          ap (option_and_then (answer_to_ask (requested ++ more) d)) (grows id k a is named)
          ∙ ap (option_map (λ (a : SentAsk). answers k (edits_in_answer a.uri a.ask d))) (numbered_push requested more k a is) ∙ h

      go : (o : Option ℕ) → f id ≡ o → option_and_then (answer_to_ask requested d) o ≡ Some m → option_and_then (answer_to_ask (requested ++ more) d) (g id) ≡ Some m
      go None named h = absurd (none-some m h)
      go (Some k) named h = at k (sent_ask_with_number requested k) named refl h

  value_still : (d : Data) (b : Bool) (m : MessageToEditor) → cond b (publication_of_notification d) (answer_of_response f requested d) ≡ Some m → cond b (publication_of_notification d) (answer_of_response g (requested ++ more) d) ≡ Some m
  value_still d true m h = h
  value_still d false m h = answer_still d (get (codes "id") d) m h

  pub read_still : (content : List ℕ) (m : MessageToEditor) → message_to_editor_given_numbering f requested content ≡ Some m → message_to_editor_given_numbering g (requested ++ more) content ≡ Some m
  unfolding message_to_editor_given_numbering
  read_still content m h = go (is_utf8 content) (read content) h
    where
      go : (b : Bool) (o : Option Data) → cond b (option_and_then (message_to_editor_of_value f requested) o) None ≡ Some m → cond b (option_and_then (message_to_editor_of_value g (requested ++ more)) o) None ≡ Some m
      go false o h = h
      go true None h = h
      go true (Some d) h = value_still d (is_some (get (codes "method") d)) m h

module _ (requested more : List SentAsk) where
  pub says_still : (m : MessageToServer) (content : List ℕ) → IsMessageToServer requested m content → IsMessageToServer (requested ++ more) m content
  says_still (notifies note) content is = is
  says_still (requests k uri ask) content (is, of) = (is, record { sent = of.sent; is = numbered_push requested more k of.sent of.is; about = of.about; same_ask = of.same_ask })

  pub understood_still : (content : List ℕ) (m : MessageToEditor) → message_to_editor_in_content requested content ≡ Some m → message_to_editor_in_content (requested ++ more) content ≡ Some m
  understood_still content m h = read_still request_number_from_id request_number_from_id requested more (λ d k a is named. named) content m h

  pub all_heard_still : (q : Contents) → All (MeansMessageToServer requested) q → All (MeansMessageToServer (requested ++ more)) q
  all_heard_still q all = All-weaker (MeansMessageToServer requested) (MeansMessageToServer (requested ++ more)) (λ c h. (h.0, says_still h.0 c.items h.1)) q all

  pub all_understood_still : (q : Contents) → All (MeansMessageToEditor requested) q → All (MeansMessageToEditor (requested ++ more)) q
  all_understood_still q all = All-weaker (MeansMessageToEditor requested) (MeansMessageToEditor (requested ++ more)) (λ c h. (h.0, understood_still c.items h.0 h.1)) q all

  pub heard_still : (q : Contents) → All (MeansMessageToServer requested) q → messages_to_server_in_contents (requested ++ more) q ≡ messages_to_server_in_contents requested q
  heard_still [] all = refl
  heard_still (c ∷ q) all =
      let h : MeansMessageToServer requested c = All-head (MeansMessageToServer requested) c q all in
      (λ i. cons_option (same i) (heard_still q (All-tail (MeansMessageToServer requested) c q all) i))
    where
      h : MeansMessageToServer requested c
      h = All-head (MeansMessageToServer requested) c q all

      same : message_to_server_in_content (requested ++ more) c.items ≡ message_to_server_in_content requested c.items
      same = says_heard (requested ++ more) h.0 c.items (says_still h.0 c.items h.1) ∙ sym (says_heard requested h.0 c.items h.1)

  pub understood_same : (q : Contents) → All (MeansMessageToEditor requested) q → messages_to_editor_in_contents (requested ++ more) q ≡ messages_to_editor_in_contents requested q
  understood_same [] all = refl
  understood_same (c ∷ q) all = (λ i. cons_option (same i) (understood_same q (All-tail (MeansMessageToEditor requested) c q all) i))
    where
      h : MeansMessageToEditor requested c
      h = All-head (MeansMessageToEditor requested) c q all

      same : message_to_editor_in_content (requested ++ more) c.items ≡ message_to_editor_in_content requested c.items
      same = understood_still c.items h.0 h.1 ∙ sym h.1

-- ---- queues

module _ {M : Type 0} (f : List ℕ → Option M) where
  pub said_push : (old : Contents) (content : Vec ℕ Global) (m : M) → f content.items ≡ Some m → filter_map f (bytes_of_contents (old ++ content ∷ [])) ≡ filter_map f (bytes_of_contents old) ++ m ∷ []
  said_push old content m is =
      ap (filter_map f) (map-append (λ v. v.items) old (content ∷ []))
      ∙ filter_map-append f (bytes_of_contents old) (content.items ∷ [])
      ∙ ap (λ o. filter_map f (bytes_of_contents old) ++ cons_option o []) is

  pub said_append : (xs ys : Contents) → filter_map f (bytes_of_contents (xs ++ ys)) ≡ filter_map f (bytes_of_contents xs) ++ filter_map f (bytes_of_contents ys)
  said_append xs ys = ap (filter_map f) (map-append (λ v. v.items) xs ys) ∙ filter_map-append f (bytes_of_contents xs) (bytes_of_contents ys)

  pub said_first : (content : Vec ℕ Global) (rest : Contents) (m : M) → f content.items ≡ Some m → filter_map f (bytes_of_contents (content ∷ rest)) ≡ m ∷ filter_map f (bytes_of_contents rest)
  said_first content rest m is = ap (λ o. cons_option o (filter_map f (bytes_of_contents rest))) is

pub all_appended : (P : Vec ℕ Global → Type 0) (old new more : Contents) (b : Bool) → new ≡ cond b (old ++ more) old → All P old → All P more → All P new
all_appended P old new more true is all these = subst (All P) (sym is) (All-append P old more all these)
all_appended P old new more false is all these = subst (All P) (sym is) all
