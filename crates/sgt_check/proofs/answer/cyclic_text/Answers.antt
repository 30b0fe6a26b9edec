use Rattle.std.proofs.Common.{ℕ, List, ◌++◌, ap, ◌∙◌}
use Rattle.sgt_history_verdict.specs.declared.step.Step.{Step}
use Rattle.sgt_check.specs.Text.{cycle_text}
use Rattle.sgt_check.specs.Told.{spelled}
use Rattle.sgt_check.proofs.answer.cyclic_text.Goals as goal

pub returns : goal.returns
returns c h is =
    let s = spelled c.args.naming.now in
    record {
      faultless = is.faultless.faultless;
      graph = c.args.cyclic.graph;
      graph_is = is.graph_is;
      steps = c.in_ok-steps.steps.items;
      shown = c.in_ok-steps.ensures h is;
      text_is = c.in_ok-push_cycle.ensures
          ∙ ap (λ (t : List ℕ). t ++ cycle_text s c.as_slice.result.now) c.new-text.ensures.items
          ∙ ap (λ (steps : List Step). cycle_text s steps) c.as_slice.ensures.value;
    }
