use Rattle.sgt_history.specs.History.{closed_of}
use Rattle.sgt_history_evidence.proofs.Giving.{given-otherwise, given-none}
use Rattle.sgt_history_evidence.proofs.evidence.giver.Goals as goal

pub returns-in-Some : goal.returns-in-Some
returns-in-Some c line place t first is =
    given-otherwise (closed_of c.args.history.now) line place t c.args.operation first is c.in-Some.line
    c.in-Some.place c.in-Some.ensures.some

pub returns-in-None : goal.returns-in-None
returns-in-None c line place t first is =
    given-none (closed_of c.args.history.now) line place t c.args.operation first is c.in-None.ensures.none
