use mathlib.Core.Bool.{false≢true}
use Rattle.std.proofs.Common.{refl, suc, take, drop}
use Rattle.std.proofs.lemmas.List.{take_rest}
use Rattle.sgt_edges.proofs.Accesses.{read-there, unread-there}
use Rattle.sgt_edges.proofs.Once.{writers-take, writers-drop}
use Rattle.sgt_edges.proofs.Slices.{front-last, front-run}
use Rattle.sgt_edges.proofs.runs.in_front.Goals as goal

pub returns-then-not-ends_with_increment-clause-neighbours :
    goal.returns-then-not-ends_with_increment-clause-neighbours
returns-then-not-ends_with_increment-clause-neighbours c = λ s x are w.
    rw (take_rest, c.saturating_sub.ensures)
    (front-last s x c.args.writers.now are.wrote.0 c.args.version
    c.requires.known (λ adds. false≢true (c.if-not-ends_with_increment.ensures.1 adds)) w)

pub returns-clause-neighbours : goal.returns-clause-neighbours
returns-clause-neighbours c = λ s x are w.
    let last = rw take_rest at c.last_written.ensures in
    let read = read-there s x c.args.writers.now c.args.readers.now are c.read_below.result 0 c.read_below.ensures.read in
    let unread =
    unread-there s x c.args.writers.now c.args.readers.now are (suc c.read_below.result) c.args.version
    c.read_below.ensures.unread in
    rw (take_rest, take_rest) (front-run s x c.args.writers.now are.wrote.0
    c.args.version c.requires.known c.read_below.result c.last_written.result
    (c.if-not-ends_with_increment.ensures.0 refl) c.read_below.ensures.below read unread last w)

pub returns-clause-apart : goal.returns-clause-apart
returns-clause-apart c = λ apart.
    let before = take c.args.version c.args.writers.now in
    rw (take_rest, take_rest) (writers-drop (drop c.read_below.result before) c.last_written.result
    (writers-drop before c.read_below.result (writers-take c.args.writers.now c.args.version apart)))
