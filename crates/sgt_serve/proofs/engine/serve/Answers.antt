use Rattle.std.proofs.Common.{ap, subst, sym}
use Rattle.sgt_serve.proofs.engine.serve.Goals as goal

pub returns-clause-served : goal.returns-clause-served
returns-clause-served g c =
    let e = c.tell_refusals.ensures in
    rw (e.reader, e.history, e.told, ← c.new-refusals.ensures) c.serve_noting-told.ensures.served
