use Rattle.std.proofs.Common.{take, sym, ap, ◌∙◌, arith, Some}
use Rattle.std.specs.Prelude.{fold}
use Rattle.sgt_names.specs.Log.{value_after}
use Rattle.sgt_names.proofs.Lists.{element_at, take_next}
use Rattle.sgt_explain_lines.specs.Values.{entries_of, latest}
use Rattle.sgt_explain_lines.proofs.Making.{value-next, by-next}
use Rattle.sgt_explain_lines.proofs.values.made_by_all.Goals as goal

pub loop-logged-preserved : goal.loop-logged-preserved
loop-logged-preserved c =
    let l = c.logged-item.result in
    let i = c.loop-logged.logged-index in
    let entries = c.args.entries.now in
    let x = c.args.item.now in
    let first = c.args.first.now in
    let so_far = c.loop-logged.invariant in
    let next = sym (take_next entries i l (element_at entries i l (omega arith) c.logged-item.is)) in
    record {
      value = value-next x (Some first.value) (take i entries) l c.loop-logged.made.value c.made_by-made.result.value
          so_far.value c.made_by-made.ensures.value
          ∙ ap (λ ls. value_after (Some first.value) (entries_of ls) x) next;
      by = by-next x first.by (take i entries) l c.loop-logged.made.by c.made_by-made.result.by so_far.by
          c.made_by-made.ensures.by
          ∙ ap (λ ls. fold (latest x) first.by ls) next;
      kept = λ none. (c.made_by-made.ensures.kept none).1 ∙ so_far.kept (c.made_by-made.ensures.kept none).0;
      listed = c.made_by-made.ensures.listed ∙ so_far.listed;
    }
