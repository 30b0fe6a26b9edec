use Rattle.std.proofs.Common.{◌≡◌, ℕ, subst}
use Rattle.sgt_history.specs.Conflicts.{Writes}
use Rattle.sgt_history.specs.History.{closed_of}
use Rattle.sgt_history.specs.Transaction.{Transaction}
use Rattle.sgt_history_evidence.proofs.Cutting.{line-within}
use Rattle.sgt_history_evidence.proofs.Least.{least-none, least-whole}
use Rattle.sgt_history_evidence.proofs.Writing.{committed-as, one-writer, writes-in}
use Rattle.sgt_history_evidence.proofs.evidence.surpassed.Goals as goal

pub returns-in_default : goal.returns-in_default
returns-in_default c line place t (foreign, by, first, greater, above, writes) =
    c.in_default.ensures.none by
    (committed-as (closed_of c.args.history.now) by c.args.operation.item c.args.operation.version first.writes)

pub transaction_of-requires : goal.transaction_of-requires
transaction_of-requires c =
    let first = c.in-Some.ensures.some in
    line-within c.args.history.now.lines.items c.args.history.now.operations.items c.in-Some.line first.writes.t
    first.writes.in_line

pub returns-in-Some-least_greater : goal.returns-in-Some-least_greater
returns-in-Some-least_greater c line place t has = record {
  first = c.in-Some.ensures.some;
  t = record { commits = c.transaction_of.result.0; operations = c.transaction_of.result.1.now };
  in_line = c.transaction_of.ensures.is;
  least = least-whole c.transaction_of.result.1.now c.args.operation.item c.args.operation.version
      c.in-Some-least_greater.version
      c.in-Some-least_greater.ensures;
}

pub returns-in-None : goal.returns-in-None
returns-in-None c line place t (foreign, by, first, greater, above, writes) =
    let h = closed_of c.args.history.now in
    let o = c.args.operation in
    let one : by ≡ c.in-Some.line = one-writer h o.item o.version c.in-Some.line by c.in-Some.ensures.some first in
    let u : Transaction ℕ ℕ = record {
      commits = c.transaction_of.result.0;
      operations =
          c.transaction_of.result.1.now;
    } in
    least-none c.transaction_of.result.1.now o.item o.version c.in-None.ensures greater
    (writes-in h c.in-Some.line o.item greater u c.transaction_of.ensures.is
    (subst (λ n. Writes h n o.item greater) one writes)) above
