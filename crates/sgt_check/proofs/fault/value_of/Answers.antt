use Rattle.std.proofs.Common.{◌≡◌, ℕ, sym, arith, get_or, Some, None}
use Rattle.std.proofs.lemmas.Option.{slice_get-get_or, slice_get_past}
use Rattle.sgt_history.specs.History.{closed_of}
use Rattle.sgt_history.specs.Transaction.{Transaction}
use Rattle.sgt_history.specs.declared.history.Kind.TheVariants.{Read}
use Rattle.sgt_history.specs.declared.history.Operation.{Operation}
use Rattle.sgt_check.proofs.Values.{value_past, value_there}
use Rattle.sgt_check.proofs.fault.value_of.Goals as goal

pub returns-then-line-len : goal.returns-then-line-len
returns-then-line-len c =
    sym (value_past c.args.history.now.lines.items c.args.history.now.operations.items c.args.line c.args.place
    (omega (arith, c.if-line-len.true, c.len.ensures)))

pub returns-then-place-operations : goal.returns-then-place-operations
returns-then-place-operations c =
    let t : Transaction ℕ ℕ = record {
      commits = c.transaction_of.result.0;
      operations =
          c.transaction_of.result.1.now;
    } in
    sym (value_there (closed_of c.args.history.now) c.args.line c.args.place t None c.transaction_of.ensures.is
    (slice_get_past t.operations c.args.place (omega (arith, c.if-place-operations.true))))

pub returns : goal.returns
returns c =
    let t : Transaction ℕ ℕ = record {
      commits = c.transaction_of.result.0;
      operations =
          c.transaction_of.result.1.now;
    } in
    let d : Operation ℕ ℕ = record { version = 0; item = 0; kind = Read; value = None } in
    sym (value_there (closed_of c.args.history.now) c.args.line c.args.place t
    (Some (get_or t.operations c.args.place d)) c.transaction_of.ensures.is
    (slice_get-get_or t.operations c.args.place d (omega (arith, c.if-place-operations.false))))
