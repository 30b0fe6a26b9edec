use Rattle.std.proofs.Common.{subst}
use Rattle.sgt_explain_steps.specs.Unmet.{ShowsOwn}
use Rattle.sgt_explain_steps.proofs.steps.with_entries.Goals as goal

pub returns-clause-first : goal.returns-clause-first
returns-clause-first c =
    let unmet = c.args.unmet.now in
    subst (λ b. ShowsOwn c.args.entries.now unmet.from b unmet.step.label.item c.own_in.result)
    c.begins_with_read.ensures c.own_in.ensures
