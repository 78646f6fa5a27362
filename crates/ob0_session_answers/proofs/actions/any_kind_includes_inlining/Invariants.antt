use Rattle.std.proofs.Common.{◌≡◌, drop, map, string_bytes}
use Rattle.std.specs.List.{list_any}
use Rattle.ob0_session_answers.specs.Actions.{kind_includes_inlining}
use Rattle.ob0_session_answers.proofs.actions.any_kind_includes_inlining.Given as goal

-- The loop's invariant: inlining is of one of the kinds exactly if it is of one of the remaining
-- kinds.
abbrev pub invariant-loop-kind : goal.invariant-loop-kind
invariant-loop-kind l = list_any kind_includes_inlining (map string_bytes l.kinds) ≡ list_any kind_includes_inlining (map string_bytes (drop l.kind-index l.kinds))
