use Rattle.std.proofs.Common.{◌≡◌, drop, map}
use Rattle.ob0_tree.specs.TokenIndexLeaves.{token_text_at}
use Rattle.ob0_language_names.specs.ConsistentNames.{is_among}
use Rattle.ob0_scope.proofs.declaration_checks.contains_spelling.Given as goal

abbrev pub invariant-loop-name : goal.invariant-loop-name
invariant-loop-name l = is_among l.text (map (token_text_at l.tokens) (drop l.name-index l.names)) ≡ is_among l.text (map (token_text_at l.tokens) l.names)
