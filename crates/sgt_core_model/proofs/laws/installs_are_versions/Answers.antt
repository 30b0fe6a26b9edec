use Rattle.sgt_core_model.proofs.Runs.{runs-kept}
use Rattle.sgt_core_model.proofs.laws.installs_are_versions.Goals as goal

pub returns : goal.returns
returns c items events replies state s x r = (runs-kept items events replies state r).counted.counts s x
