use Rattle.std.proofs.Common.{subst}
use Rattle.sgt_notation.specs.Lines.{coming}
use Rattle.sgt_audit.specs.private.Stops.{Goes}
use Rattle.sgt_audit.proofs.reading.feed_held.Goals as goal

pub returns-in-Reading-clause-goes : goal.returns-in-Reading-clause-goes
returns-in-Reading-clause-goes c all told reads goes =
    c.feed_kept.ensures.goes all told reads
    (subst (λ p. Goes all p (coming c.args.lines.now told) c.args.number.now reads) c.in-Reading.is goes)
