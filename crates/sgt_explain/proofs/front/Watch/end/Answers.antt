use Rattle.std.proofs.Common.{◌∙◌, drop, ap}
use Rattle.sgt_names.proofs.Devices.{tail_whole}
use Rattle.sgt_explain.proofs.Fronts.{ended}
use Rattle.sgt_explain.proofs.front.Watch.end.Goals as goal

pub returns-clause-verdict : goal.returns-clause-verdict
returns-clause-verdict c =
    (ended c.args.self c.args.text.items _ c.end.result c.verdict_on-verdict.result c.requires
    (tail_whole c.deref.result.now c.args.self.judged ∙ ap (drop c.args.self.judged) c.deref.ensures.value)
    c.end.ensures.ends c.verdict_on-verdict.ensures).0

pub returns-clause-front : goal.returns-clause-front
returns-clause-front c =
    (ended c.args.self c.args.text.items _ c.end.result c.verdict_on-verdict.result c.requires
    (tail_whole c.deref.result.now c.args.self.judged ∙ ap (drop c.args.self.judged) c.deref.ensures.value)
    c.end.ensures.ends c.verdict_on-verdict.ensures).1

pub returns-clause-reach : goal.returns-clause-reach
returns-clause-reach c =
    (ended c.args.self c.args.text.items _ c.end.result c.verdict_on-verdict.result c.requires
    (tail_whole c.deref.result.now c.args.self.judged ∙ ap (drop c.args.self.judged) c.deref.ensures.value)
    c.end.ensures.ends c.verdict_on-verdict.ensures).2
