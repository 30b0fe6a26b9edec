use Rattle.std.proofs.Common.{arith}
use Rattle.sgt_names.proofs.Lists.{element_at}
use Rattle.sgt_explain_decisions.proofs.Seeking.{walks-next}
use Rattle.sgt_explain_decisions.proofs.sought.unfound_in.Goals as goal

pub loop-decision-preserved : goal.loop-decision-preserved
loop-decision-preserved c =
    let ds = c.args.decisions.now in
    let i = c.loop-decision.decision-index in
    let d = c.decision-item.result in
    let so_far = c.loop-decision.invariant in
    let seeks = c.in_ok-add_walk_of.ensures.seeks in
    record {
      none = seeks.unfound so_far.none;
      walks = walks-next c.loop-decision.sought c.add_walk_of.new.sought ds i d
          (element_at ds i d (omega arith) c.decision-item.is) seeks.keys c.in_ok-add_walk_of.ensures.walk so_far.walks;
      marked = seeks.marked so_far.marked;
      many = c.add_walk_of.ensures.length;
    }

pub returns : goal.returns
returns c =
    let so_far = c.loop-decision.invariant in
    record {
      none = so_far.none;
      walks = λ number tx walk less at. so_far.walks number tx walk (omega (arith, less, c.loop-decision-test.false))
          at;
      marked = so_far.marked;
      many = so_far.many;
    }
