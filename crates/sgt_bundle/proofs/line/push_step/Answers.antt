use Rattle.std.proofs.Common.{ap, ◌∙◌, ◌++◌}
use Rattle.std.proofs.lemmas.Result.{on_ok_weaker}
use Rattle.sgt_bundle.proofs.Compact.{step-pieces}
use Rattle.sgt_bundle.proofs.line.push_step.Goals as goal

pub returns-clause-text : goal.returns-clause-text
returns-clause-text c =
    on_ok_weaker c.push_step_parts.result
    (λ e. e ∙ ap (λ t. c.args.out.now.items ++ t)
    (step-pieces c.args.step.now _ _ _ _ c.as_bytes.ensures.name c.as_bytes.ensures.bytes c.kind_text.ensures
    c.number.ensures.is c.number-2.ensures.is))
    c.push_step_parts.ensures
