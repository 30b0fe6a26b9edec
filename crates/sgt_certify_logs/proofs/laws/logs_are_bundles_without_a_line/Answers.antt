use Rattle.sgt_certify_logs.proofs.Inserted.{with-bundle, with-logs}
use Rattle.sgt_certify_logs.proofs.laws.logs_are_bundles_without_a_line.Goals as goal

pub returns-clause-bundle : goal.returns-clause-bundle
returns-clause-bundle c = with-bundle

pub returns-clause-logs : goal.returns-clause-logs
returns-clause-logs c = with-logs
