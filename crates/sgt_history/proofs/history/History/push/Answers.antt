use Rattle.std.proofs.Common.{length, arith}
use Rattle.std.proofs.lemmas.List.{drop-append-le}
use Rattle.sgt_history.specs.Cut.{end_of}
use Rattle.sgt_history.proofs.Cutting.{cut-append_operations, end_of-within}
use Rattle.sgt_history.proofs.history.History.push.Goals as goal

pub returns-clause-closed : goal.returns-clause-closed
returns-clause-closed c =
    rw c.in_ok-push.ensures.items
    (cut-append_operations 0 c.args.self.now.lines.items c.args.self.now.operations.items _ (omega arith)
    c.args.self.now.within)

pub returns-clause-open : goal.returns-clause-open
returns-clause-open c =
    let h = end_of-within (length c.args.self.now.operations.items) 0 c.args.self.now.lines.items
    (omega arith) c.args.self.now.within in
    rw c.in_ok-push.ensures.items
    (drop-append-le (end_of 0 c.args.self.now.lines.items) c.args.self.now.operations.items _ h)
