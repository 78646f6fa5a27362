use Rattle.ob0_types_check.proofs.WalksOverSomeBodies.{walking_changed_and_faulty_bodies_suffices}
use Rattle.ob0_types_check.proofs.laws.walking_changed_and_faulty_bodies_suffices.Goals as goal

pub returns : goal.returns
returns c = walking_changed_and_faulty_bodies_suffices
