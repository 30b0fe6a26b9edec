use Rattle.sgt_certifier.specs.Certifier.{serial}
use Rattle.sgt_certifier.proofs.Keeping.{sound-acyclic}
use Rattle.sgt_core_model.specs.Runs.{IsLoggedConflict}
use Rattle.sgt_core_model.proofs.Kept.{written}
use Rattle.sgt_core_model.proofs.Conflicting.{in_longer}
use Rattle.sgt_core_model.proofs.Ordered.{topological-fewer, ordered-serial}
use Rattle.sgt_core_model.proofs.Runs.{runs-kept}
use Rattle.sgt_core_model.proofs.Valid.{valid-bundle}
use Rattle.std.proofs.Common.{sym, subst}
use Rattle.sgt_core_model.specs.Core.{fresh}
use Rattle.sgt_core_model.specs.Runs.{AreSites}
use Rattle.sgt_core_model.proofs.Fitting.{bundle-fits, run-same}
use Rattle.sgt_core_model.proofs.laws.runs_are_serializable.Goals as goal

pub returns-clause-acyclic : goal.returns-clause-acyclic
returns-clause-acyclic c items events replies after r =
    sound-acyclic after.certifier (runs-kept items events replies after r).sound.ordered.certifier

pub returns-clause-ranked : goal.returns-clause-ranked
returns-clause-ranked c items events replies after r =
    let ordered = (runs-kept items events replies after r).sound.ordered in
    topological-fewer (IsLoggedConflict (written after)) (IsLoggedConflict after.entries) (serial after.certifier)
    (ordered-serial after ordered)
    (λ a b ca cb k. (k.0, k.1, k.2, in_longer (after.entries k.0) (after.due k.0) k.1 k.2 a b k.3))

pub returns-clause-valid : goal.returns-clause-valid
returns-clause-valid c items events replies after r none =
    valid-bundle after (runs-kept items events replies after r).sound none

pub returns-clause-fits : goal.returns-clause-fits
returns-clause-fits c items events replies after are r =
    bundle-fits after (runs-kept items events replies after r).sound
    (subst AreSites (sym (run-same (fresh items) events replies after r)) are)
