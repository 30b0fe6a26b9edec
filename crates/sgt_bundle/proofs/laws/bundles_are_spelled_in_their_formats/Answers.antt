use Rattle.sgt_bundle.proofs.OneText.{in_second, in_first, own-first, in_second_alone}
use Rattle.sgt_bundle.proofs.laws.bundles_are_spelled_in_their_formats.Goals as goal

pub returns-clause-second : goal.returns-clause-second
returns-clause-second c = in_second

pub returns-clause-first : goal.returns-clause-first
returns-clause-first c b is none = (in_first b is none, own-first b none)

pub returns-clause-others : goal.returns-clause-others
returns-clause-others c = in_second_alone
