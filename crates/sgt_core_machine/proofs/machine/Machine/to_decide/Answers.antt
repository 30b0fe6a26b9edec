use Rattle.std.proofs.Common.{List, ℕ, sym, subst}
use Rattle.sgt_core_machine.specs.Machine.{parts_of}
use Rattle.sgt_core_machine.proofs.WholeGoing.{AreWhole, decision_refused, decision_made}
use Rattle.sgt_core_machine.proofs.machine.Machine.to_decide.Goals as goal

pub decide_whole-requires-clause-whole : goal.decide_whole-requires-clause-whole
decide_whole-requires-clause-whole c = subst (λ (xs : List ℕ). AreWhole (parts_of c.args.self.now) c.args.tx xs)
    (sym c.as_slice.ensures.value) c.in-Ok.ensures.ok

pub returns-in-Ok : goal.returns-in-Ok
returns-in-Ok c =
    decision_made (parts_of c.args.self.now) (parts_of c.decide_whole.new.self) c.args.tx c.as_slice.result.now
    c.decide_whole.result c.decide_whole.ensures.goes

pub returns : goal.returns
returns c = decision_refused (parts_of c.args.self.now) c.args.tx c.in-Err.fault c.refused.result c.refused.ensures
    c.in-Err.ensures.err
