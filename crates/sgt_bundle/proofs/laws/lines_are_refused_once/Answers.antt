use Rattle.std.proofs.Common.{inl, inr}
use Rattle.sgt_bundle.proofs.Answered.{refused_once}
use Rattle.sgt_bundle.proofs.laws.lines_are_refused_once.Goals as goal

pub returns : goal.returns
returns goal_c line e f e-plain f-plain a b = elim (refused_once line e f a b f-plain) [
  | inl same ↦ same
  | inr memory ↦ absurd (e-plain memory)
]
