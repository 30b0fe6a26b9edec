use Rattle.std.proofs.Common.{sym, subst, arith}
use Rattle.sgt_site.specs.State.{IsVersionWritten}
use Rattle.sgt_edges.proofs.Slices.{none-last, reads-last}
use Rattle.sgt_edges.proofs.runs.last_readers.Goals as goal

pub returns-then-last-written-clause-last : goal.returns-then-last-written-clause-last
returns-then-last-written-clause-last c = λ s x us are write r. (
  λ has. absurd (omega (arith, has.1)),
  λ is. absurd (none-last s x are.site 0 c.args.readers.now c.args.readers.now are.read c.requires
      c.in-Some.last.now (sym c.in-Some.ensures.value) c.args.written
      (subst (λ ws. IsVersionWritten ws c.args.written) are.wrote.0 write) c.if-last-written.true r is),
)

pub returns-clause-last : goal.returns-clause-last
returns-clause-last c = λ s x us are write.
    reads-last s x are.site 0 c.args.readers.now _ are.read c.requires c.in-Some.last.now
    (sym c.in-Some.ensures.value) c.args.written
    (subst (λ ws. IsVersionWritten ws c.args.written) are.wrote.0 write) c.if-last-written.false
    c.readers_since.ensures.since
