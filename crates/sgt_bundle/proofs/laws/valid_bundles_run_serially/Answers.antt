use Rattle.sgt_bundle.proofs.Headline.{valid-agrees}
use Rattle.sgt_bundle.proofs.laws.valid_bundles_run_serially.Goals as goal

pub returns : goal.returns
returns c = valid-agrees
