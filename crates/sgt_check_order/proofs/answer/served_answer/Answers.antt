use Rattle.std.proofs.Common.{ℕ, ◌-◌, List, ◌++◌, length, refl, ap, ◌∙◌}
use Rattle.std.specs.Prelude.{count_by}
use Rattle.sgt_history.specs.declared.history.Line.{Line}
use Rattle.sgt_check.specs.Text.{counts_text}
use Rattle.sgt_check_order.proofs.Counted.{counts-cut}
use Rattle.sgt_check_order.proofs.answer.served_answer.Goals as goal

pub returns : goal.returns
returns c =
    let lines = c.args.history.now.lines.items in (
      refl,
      c.in_ok-push_counts.ensures
          ∙ ap (λ (ls : List Line). c.new-text.result.items ++ counts_text (count_by (λ (l : Line). l.commits) ls)
          (length ls - count_by (λ (l : Line). l.commits) ls)) c.as_slice.ensures.value
          ∙ ap (λ (t : List ℕ). t ++ counts_text (count_by (λ (l : Line). l.commits) lines)
          (length lines - count_by (λ (l : Line). l.commits) lines)) c.new-text.ensures.items
          ∙ counts-cut lines c.args.history.now.operations.items,
    )
