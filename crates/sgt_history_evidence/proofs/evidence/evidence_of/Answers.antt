use Rattle.std.proofs.Common.{◌≡◌, ℕ, refl, subst}
use Rattle.std.proofs.lemmas.Option.{slice_get_within}
use Rattle.sgt_history.specs.Flaws.{IsFirstFault}
use Rattle.sgt_history.specs.History.{closed_of}
use Rattle.sgt_history.specs.Transaction.{Transaction}
use Rattle.sgt_history.specs.declared.named.Flaw.TheVariants.{Internal, Duplicate, AbortedRead, IntermediateRead, Value}
use Rattle.sgt_history_evidence.proofs.Cutting.{line-within}
use Rattle.sgt_history_evidence.proofs.Writing.{evidence_there, stands_in}
use Rattle.sgt_history_evidence.proofs.evidence.evidence_of.Goals as goal

pub transaction_of-requires : goal.transaction_of-requires
transaction_of-requires c =
    line-within c.args.history.now.lines.items c.args.history.now.operations.items c.args.line c.requires.faulty.t
    c.requires.faulty.is.committed.0

pub own_evidence-requires : goal.own_evidence-requires
own_evidence-requires c =
    let u : Transaction ℕ ℕ = record {
      commits = c.transaction_of.result.0;
      operations =
          c.transaction_of.result.1.now;
    } in
    slice_get_within u.operations c.args.place c.requires.faulty.o
    (stands_in (closed_of c.args.history.now) c.args.line c.args.place c.requires.faulty.t u c.requires.faulty.o
    c.requires.faulty.is c.transaction_of.ensures.is)

pub returns-in-Duplicate : goal.returns-in-Duplicate
returns-in-Duplicate c t o is =
    evidence_there (closed_of c.args.history.now) c.args.line c.args.flaw Duplicate c.args.place t o
    c.operation_at-operation.result c.writer.result
    c.in-Duplicate.is (c.operation_at-operation.ensures t o is) c.requires is
    (λ there has. c.writer.ensures.duplicate c.args.line c.args.place t refl has)

pub returns-in-AbortedRead : goal.returns-in-AbortedRead
returns-in-AbortedRead c t o is =
    evidence_there (closed_of c.args.history.now) c.args.line c.args.flaw AbortedRead c.args.place t o
    c.operation_at-operation.result
    c.writer-in-AbortedRead.result c.in-AbortedRead.is (c.operation_at-operation.ensures t o is) c.requires is
    (λ there has. c.writer-in-AbortedRead.ensures.aborted c.args.line c.args.place t refl has)

pub returns-in-IntermediateRead : goal.returns-in-IntermediateRead
returns-in-IntermediateRead c t o is =
    evidence_there (closed_of c.args.history.now) c.args.line c.args.flaw IntermediateRead c.args.place t o
    c.operation_at-operation.result
    c.surpassed.result c.in-IntermediateRead.is (c.operation_at-operation.ensures t o is) c.requires is
    (λ there has. c.surpassed.ensures c.args.line c.args.place t has)

pub returns-in-Value : goal.returns-in-Value
returns-in-Value c t o is =
    let h = closed_of c.args.history.now in
    evidence_there h c.args.line c.args.flaw Value c.args.place t o c.operation_at-operation.result c.giver.result
    c.in-Value.is (c.operation_at-operation.ensures t o is) c.requires is
    (λ there has. c.giver.ensures c.args.line c.args.place t
    (subst (λ k. IsFirstFault h c.args.line k c.args.place) c.in-Value.is c.requires) there)
