use Rattle.std.proofs.Common.{arith, length, take, drop, suc, sym, ◌+◌, ◌-◌}
use Rattle.std.proofs.Math.Seq.{take-length}
use Rattle.sgt_edges.proofs.Accesses.{read-there, unread-there}
use Rattle.sgt_edges.proofs.Once.{writers-take, writers-drop}
use Rattle.sgt_edges.proofs.Slices.{behind-slice}
use Rattle.sgt_edges.proofs.runs.behind.Goals as goal

pub returns-then-run-after-clause-neighbours : goal.returns-then-run-after-clause-neighbours
returns-then-run-after-clause-neighbours c = λ s x are w.
    let us = c.args.writers.now in
    let rs = c.args.readers.now in
    let above = c.read_above-upto.ensures in
    behind-slice s x us are.wrote.0 c.args.version
    c.read_above-upto.result c.run_length-run.result (c.run_length-run.result + 1)
    above.above above.upto (read-there s x us rs are c.read_above-upto.result (length us) above.read)
    (unread-there s x us rs are (suc c.args.version) c.read_above-upto.result above.unread)
    c.run_length-run.ensures (λ k le lt. omega (arith, le))
    (λ k lt. omega (arith, lt)) w

pub returns-then-run-after-clause-apart : goal.returns-then-run-after-clause-apart
returns-then-run-after-clause-apart c =
    λ apart. writers-take _ _ (writers-take _ _ (writers-drop _ c.args.version apart))

pub returns-else-run-after-clause-neighbours : goal.returns-else-run-after-clause-neighbours
returns-else-run-after-clause-neighbours c = λ s x are w.
    let us = c.args.writers.now in
    let rs = c.args.readers.now in
    let above = c.read_above-upto.ensures in
    let all = c.if-run-after.false in
    let after = take (c.read_above-upto.result - c.args.version) (drop c.args.version us) in
    rw (sym (take-length after)) (behind-slice s x us are.wrote.0
    c.args.version c.read_above-upto.result c.run_length-run.result (length after)
    above.above above.upto (read-there s x us rs are c.read_above-upto.result (length us) above.read)
    (unread-there s x us rs are (suc c.args.version) c.read_above-upto.result above.unread)
    c.run_length-run.ensures (λ k le lt. lt)
    (λ k lt. omega (arith, lt, all)) w)
