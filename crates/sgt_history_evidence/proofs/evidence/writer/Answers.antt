use Rattle.std.proofs.Common.{Bool, subst, sym, arith}
use Rattle.sgt_history.specs.History.{closed_of}
use Rattle.sgt_history_evidence.specs.Writers.{IsFirstAs, WritesAs}
use Rattle.sgt_history_evidence.proofs.Writing.{committed-as, aborted-as}
use Rattle.sgt_history_evidence.proofs.evidence.writer.Goals as goal

pub returns-in-Some-clause-duplicate : goal.returns-in-Some-clause-duplicate
returns-in-Some-clause-duplicate c line place t same (write, earlier, before, writes) =
    let h = closed_of c.args.history.now in
    let first = subst (λ b. IsFirstAs b h c.args.operation.item c.args.operation.version c.in-Some.line) same
    c.in-Some.ensures.some in (
      omega (
        arith,
        before,
        first.first earlier (committed-as h earlier c.args.operation.item c.args.operation.version writes),
      ),
      first,
    )

pub returns-in-None-clause-duplicate : goal.returns-in-None-clause-duplicate
returns-in-None-clause-duplicate c line place t same (write, earlier, before, writes) =
    let h = closed_of c.args.history.now in
    c.in-None.ensures.none earlier (subst (λ b. WritesAs b h c.args.operation.item c.args.operation.version earlier)
    (sym same)
    (committed-as h earlier c.args.operation.item c.args.operation.version writes))

pub returns-in-None-clause-aborted : goal.returns-in-None-clause-aborted
returns-in-None-clause-aborted c line place t same (foreign, none, by, aborted) =
    let h = closed_of c.args.history.now in
    c.in-None.ensures.none by (subst (λ b. WritesAs b h c.args.operation.item c.args.operation.version by) (sym same)
    (aborted-as h by c.args.operation.item c.args.operation.version aborted))
