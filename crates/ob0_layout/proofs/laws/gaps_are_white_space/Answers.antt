use Rattle.ob0_layout.specs.LineRoles.{line_roles}
use Rattle.ob0_layout.proofs.Gaps.{all_are}
use Rattle.ob0_layout.proofs.laws.gaps_are_white_space.Goals as goal

pub returns : goal.returns
returns c = record { before = λ indent s scan tree. (all_are indent s scan (line_roles 0 tree)).old; after = λ indent s scan tree. (all_are indent s scan (line_roles 0 tree)).new }
