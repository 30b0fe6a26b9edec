use Rattle.sgt_bundle.proofs.Headline.{valid-agrees}
use Rattle.sgt_serial.proofs.Differences.{says-agrees, says-differs}
use Rattle.sgt_serial.proofs.run.serial_run.Goals as goal

pub returns-clause-ok : goal.returns-clause-ok
returns-clause-ok c agrees = let h = c.run_bundle.ensures in
    says-agrees c.args.bundle.now c.run_bundle.result h.report h.differs agrees

pub returns-clause-valid : goal.returns-clause-valid
returns-clause-valid c valid = let h = c.run_bundle.ensures in
    says-agrees c.args.bundle.now c.run_bundle.result h.report h.differs (valid-agrees c.args.bundle.now valid)

pub returns-clause-first : goal.returns-clause-first
returns-clause-first c tx s x d = let h = c.run_bundle.ensures in
    says-differs c.args.bundle.now c.run_bundle.result h.agrees h.differs tx s x d
