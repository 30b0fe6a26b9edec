use Rattle.sgt_serve.proofs.Ways.{loses_told}
use Rattle.sgt_serve.proofs.opening.read_on.Goals as goal

pub returns-in-Err-clause-hears : goal.returns-in-Err-clause-hears
returns-in-Err-clause-hears g c =
    loses_told _ _ _ _ _ _ _ _ c.in-Err.ensures.err.2 c.in-Err.ensures.err.1 c.in-Err.ensures.fault
