use Rattle.ob0_layout.proofs.Kept as kept
use Rattle.ob0_layout.proofs.Modules as modules
use Rattle.ob0_layout.proofs.laws.formatting_keeps_tokens_and_comments.Goals as goal

pub returns : goal.returns
returns c = record { lexed = modules.laid_out_lexed; lexemes_without_white_space = λ indent s scan tree m. kept.solid_kept indent tree scan.lexemes }
