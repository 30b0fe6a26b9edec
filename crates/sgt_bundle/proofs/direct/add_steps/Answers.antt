use Rattle.std.proofs.Common.{All}
use Rattle.sgt_names.specs.Limits.{max_sites}
use Rattle.sgt_bundle.specs.Text.{IsStep, step_data}
use Rattle.sgt_bundle.proofs.Fronts.{last-in_range, last-read, more-read}
use Rattle.sgt_bundle.proofs.direct.add_steps.Goals as goal

pub returns-in_default-behind-clause-in_range : goal.returns-in_default-behind-clause-in_range
returns-in_default-behind-clause-in_range c =
    last-in_range (IsStep max_sites) (All (IsStep max_sites) c.args.walk.now.items) c.loop.walk.items c.in-Some.step
    c.push.new.self.items c.behind-in_default-behind.result
    c.loop.invariant.1 c.in-Some.ensures.0 c.in_ok-push.ensures.items

pub returns-in_default-behind-clause-text : goal.returns-in_default-behind-clause-text
returns-in_default-behind-clause-text c =
    last-read step_data c.args.walk.now.items c.args.bytes.now c.loop.walk.items c.loop.rest.now c.in-Some.step
    c.in-Some.after.now c.push.new.self.items c.behind-in_default-behind.result
    c.loop.invariant.0 c.in-Some.ensures.1 c.in_ok-push.ensures.items c.behind-in_default-behind.ensures

pub loop-preserved : goal.loop-preserved
loop-preserved c =
    more-read step_data (IsStep max_sites) c.args.walk.now.items c.args.bytes.now c.loop.walk.items c.loop.rest.now
    c.in-Some.step c.in-Some.after.now c.in-Some-behind.more.now c.push.new.self.items
    c.loop.invariant c.in-Some.ensures c.in_ok-push.ensures.items c.in-Some-behind.ensures
