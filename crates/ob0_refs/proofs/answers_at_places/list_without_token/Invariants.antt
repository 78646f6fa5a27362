use Rattle.std.proofs.Common.{◌≡◌, ◌++◌, drop, Some}
use Rattle.ob0_refs.specs.Questions.{list_without_optional_token}
use Rattle.ob0_refs.proofs.answers_at_places.list_without_token.Given as goal

abbrev pub invariant-loop-other : goal.invariant-loop-other
invariant-loop-other l = l.others.items ++ list_without_optional_token (Some l.token) (drop l.other-index l.tokens) ≡ list_without_optional_token (Some l.token) l.tokens
