-- Proves which publication for a uri is the last after one more publication.
use Rattle.std.proofs.Common.{◌≡◌, ℕ, ℤ, cond, List, [], ◌∷◌, ◌++◌}
use Rattle.std.specs.Prelude.{Option, Some, None, MatchOption}
use Rattle.std.specs.Str.{bytes_eq}
use Rattle.std.proofs.lemmas.List.Sums.{fold-append}
use Rattle.ob0_world_rules.specs.ClientAndServer.{PublicationWithText}
use Rattle.ob0_world_rules.specs.Headline.{last_publication}

-- holds if there is a publication and it was made for this version and this text
abbrev pub IsMadeFor : ℤ → List ℕ → Option PublicationWithText → Type 0
IsMadeFor version text o = MatchOption o ⊥ (λ m. (m.version ≡ version) × (m.text ≡ text))

pub latest_push : (uri : List ℕ) (ms : List PublicationWithText) (m : PublicationWithText) → last_publication uri (ms ++ m ∷ []) ≡ cond (bytes_eq m.uri uri) (Some m) (last_publication uri ms)
latest_push uri ms m = fold-append (λ last x. cond (bytes_eq x.uri uri) (Some x) last) None ms (m ∷ [])
