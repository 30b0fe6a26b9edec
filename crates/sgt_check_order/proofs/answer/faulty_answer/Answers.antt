use Rattle.std.proofs.Common.{ℕ, List, ◌++◌, refl, ap, ◌∙◌}
use Rattle.sgt_history.specs.History.{closed_of}
use Rattle.sgt_check.specs.Text.{fault_text}
use Rattle.sgt_check.specs.Told.{spelled}
use Rattle.sgt_check_order.proofs.answer.faulty_answer.Goals as goal

pub returns : goal.returns
returns c =
    let f = c.args.fault in
    let pushed = c.in_ok-push_fault.ensures in (
      refl,
      record {
        fault = f;
        first = c.requires;
        told = pushed.0;
        text_is = pushed.1
            ∙ ap (λ (t : List ℕ). t ++ fault_text (spelled c.args.naming.now) (closed_of c.args.history.now) f.line
            f.flaw pushed.0.o pushed.0.evidence) c.new-text.ensures.items;
      },
    )
