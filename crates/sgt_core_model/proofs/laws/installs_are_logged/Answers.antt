use Rattle.sgt_core_model.proofs.Installs.{logged-committed, logged-inside}
use Rattle.sgt_core_model.proofs.Runs.{runs-kept}
use Rattle.sgt_core_model.proofs.laws.installs_are_logged.Goals as goal

pub returns-clause-noted : goal.returns-clause-noted
returns-clause-noted c items events replies state install r =
    (runs-kept items events replies state r).installs.noted install

pub returns-clause-committed : goal.returns-clause-committed
returns-clause-committed c items events replies state install r m =
    let kept = runs-kept items events replies state r in
    logged-committed state install.site install.tx kept.sound ((kept.installs.noted install).0 m).logged

pub returns-clause-sited : goal.returns-clause-sited
returns-clause-sited c items events replies state install r m =
    let kept = runs-kept items events replies state r in
    logged-inside state install.site install.tx kept.sound ((kept.installs.noted install).0 m).logged

pub returns-clause-once : goal.returns-clause-once
returns-clause-once c items events replies state r = (runs-kept items events replies state r).installs.once
