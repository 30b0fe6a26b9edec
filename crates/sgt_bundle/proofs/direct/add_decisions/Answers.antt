use Rattle.std.proofs.Common.{All}
use Rattle.sgt_names.specs.Limits.{max_sites}
use Rattle.sgt_bundle.specs.Text.{IsDecision, decision_data}
use Rattle.sgt_bundle.proofs.Fronts.{last-in_range, last-read, more-read}
use Rattle.sgt_bundle.proofs.direct.add_decisions.Goals as goal

pub returns-in_default-behind-clause-in_range : goal.returns-in_default-behind-clause-in_range
returns-in_default-behind-clause-in_range c =
    let read = rw c.in-Some.is at c.in_ok-decision.ensures in
    last-in_range (IsDecision max_sites) (All (IsDecision max_sites) c.args.decisions.now.items)
    c.loop.decisions.items c.in-Some.decision c.push.new.self.items c.behind-in_default-behind.result
    c.loop.invariant.1 read.0 c.in_ok-push.ensures.items

pub returns-in_default-behind-clause-text : goal.returns-in_default-behind-clause-text
returns-in_default-behind-clause-text c =
    let read = rw c.in-Some.is at c.in_ok-decision.ensures in
    last-read decision_data c.args.decisions.now.items c.args.bytes.now c.loop.decisions.items c.loop.rest.now
    c.in-Some.decision c.in-Some.after.now c.push.new.self.items c.behind-in_default-behind.result
    c.loop.invariant.0 read.1 c.in_ok-push.ensures.items c.behind-in_default-behind.ensures

pub loop-preserved : goal.loop-preserved
loop-preserved c =
    let read = rw c.in-Some.is at c.in_ok-decision.ensures in
    more-read decision_data (IsDecision max_sites) c.args.decisions.now.items c.args.bytes.now c.loop.decisions.items
    c.loop.rest.now c.in-Some.decision c.in-Some.after.now c.in-Some-behind.more.now c.push.new.self.items
    c.loop.invariant read c.in_ok-push.ensures.items c.in-Some-behind.ensures
