use Rattle.std.proofs.Common.{rules}
use Rattle.sgt_names.specs.Limits.{max_sites}
use Rattle.sgt_bundle.specs.Text.{IsStep, step_data}
use Rattle.sgt_bundle.proofs.Fronts.{all-in_range, all-read, refuse-front}
use Rattle.sgt_bundle.proofs.direct.refusal.Goals as goal

pub returns : goal.returns
returns c =
    let steps = all-in_range (IsStep max_sites) c.in_ok-walk.walk.items c.in_ok-rest.field-0 c.in-Some-2.rest
    c.add_steps.new.walk.items c.in_ok-walk-2.walk c.in_ok-walk.ensures.items c.in-Some-2.is
    c.in_ok-rest.ensures.in_range c.in_ok-walk-2.ensures in
    let text =
    all-read step_data c.in_ok-walk.walk.items _ c.in_ok-rest.field-0 c.in-Some-2.rest c.add_steps.new.walk.items
    c.in_ok-walk-2.walk c.in_ok-walk.ensures.items c.in-Some-2.is c.in_ok-rest.ensures.text c.in_ok-walk-2.ensures in
    search (rules, refuse-front, steps, text)
