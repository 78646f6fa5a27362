-- Proves that two conversations, one after the other, are one conversation.
use Rattle.std.proofs.Common.{ℕ, List, [], ◌∷◌, ◌++◌, refl, sym, subst}
use Rattle.std.proofs.lemmas.List.{append_assoc, append-nil}
use Rattle.ob0_session_server.specs.Answers.{ServerState, Answers, IsConversation}

abbrev pub Texts : Type 0
Texts = List (List ℕ)

pub conversation_then : (before : ServerState) (contents sent : Texts) (between : ServerState) (more said : Texts) (after : ServerState)
    → IsConversation before contents sent between → IsConversation between more said after → IsConversation before (contents ++ more) (sent ++ said) after
conversation_then before [] sent between more said after first next =
    let P : ServerState → Type 0 = λ s. IsConversation s more said after in
    let Q : Texts → Type 0 = λ xs. IsConversation before more (xs ++ said) after in
    subst Q (sym first.0) (subst P first.1 next)
conversation_then before (c ∷ contents) sent between more said after first next = record {
  between = first.between;
  first = first.first;
  later = first.later ++ said;
  answers = first.answers;
  follows = conversation_then first.between contents first.later between more said after first.follows next;
  all = rw first.all (append_assoc first.first first.later said);
}

-- One content and its answer are a conversation.
pub answered_once : (before : ServerState) (content : List ℕ) (sent : Texts) (after : ServerState) → Answers before content sent after → IsConversation before (content ∷ []) sent after
answered_once before content sent after answers = record { between = after; first = sent; later = []; answers = answers; follows = (refl, refl); all = sym (append-nil sent) }
