use Rattle.std.proofs.Common.{AllPairs, Contains, sym, subst}
use Rattle.sgt_certifier.specs.Certifier.{opening}
use Rattle.sgt_certifier.specs.Sound.{AreTwice}
use Rattle.sgt_certifier.proofs.Extending.{runs_installs}
use Rattle.sgt_certifier.proofs.Replaying.{replays-good}
use Rattle.sgt_certifier.proofs.laws.installs_are_noted_once.Goals as goal

pub returns-clause-shown : goal.returns-clause-shown
returns-clause-shown c history s r = runs_installs opening history s r

pub returns-clause-committed : goal.returns-clause-committed
returns-clause-committed c history s install r m =
    (replays-good history s r).installed.committed install
    (subst (λ xs. Contains xs install) (sym (runs_installs opening history s r)) m)

pub returns-clause-once : goal.returns-clause-once
returns-clause-once c history s r = subst (AllPairs (λ a b. AreTwice a b → ⊥)) (runs_installs opening history s r)
    (replays-good history s r).installed.once
