use Rattle.std.proofs.Common.{◌≡◌, ℕ, None, sym}
use Rattle.std.proofs.lemmas.Option.{get_or_from_slice_get, slice_get_within}
use Rattle.sgt_history.specs.declared.history.Kind.TheVariants.{Read}
use Rattle.sgt_history.specs.History.{closed_of}
use Rattle.sgt_history.specs.Transaction.{Transaction}
use Rattle.sgt_history_evidence.proofs.Cutting.{line-within}
use Rattle.sgt_history_evidence.proofs.Writing.{stands_in}
use Rattle.sgt_history_evidence.proofs.lines.operation_at.Goals as goal

pub transaction_of-requires : goal.transaction_of-requires
transaction_of-requires c =
    line-within c.args.history.now.lines.items c.args.history.now.operations.items c.args.line c.requires.0
    c.requires.2.committed.0

pub bounds-operations-place : goal.bounds-operations-place
bounds-operations-place c =
    let u : Transaction ℕ ℕ = record {
      commits = c.transaction_of.result.0;
      operations =
          c.transaction_of.result.1.now;
    } in
    slice_get_within u.operations c.args.place c.requires.1
    (stands_in (closed_of c.args.history.now) c.args.line c.args.place c.requires.0 u c.requires.1 c.requires.2
    c.transaction_of.ensures.is)

pub returns : goal.returns
returns c t o is =
    let u : Transaction ℕ ℕ = record {
      commits = c.transaction_of.result.0;
      operations =
          c.transaction_of.result.1.now;
    } in
    sym (get_or_from_slice_get u.operations c.args.place o (record { version = 0; item = 0; kind = Read; value = None })
    (stands_in (closed_of c.args.history.now) c.args.line c.args.place t u o is c.transaction_of.ensures.is))
