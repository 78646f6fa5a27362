use Rattle.ob0_layout.specs.Layout.{formatted_lexemes}
use Rattle.ob0_layout.specs.LineRoles.{line_roles}
use Rattle.ob0_layout.proofs.Gaps as gaps
use Rattle.ob0_layout.proofs.laws.replacing_gaps_gives_formatted_text.Goals as goal

pub returns : goal.returns
unfolding formatted_lexemes
returns c = record {
  utf8 = λ indent s scan tree. gaps.formatted_utf8 indent s scan (line_roles 0 tree);
  made = λ indent s scan tree. gaps.changed_made indent s scan (line_roles 0 tree);
  length = λ indent s scan tree. gaps.all_length indent s scan (line_roles 0 tree);
}
