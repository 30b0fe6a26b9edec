use Rattle.std.proofs.Common.{take, sym, ap, subst, ◌∙◌, arith, Some, inl, inr, refl, ◌-◌}
use Rattle.std.proofs.lemmas.Bool.{cases_eq}
use Rattle.sgt_names.specs.Log.{value_after}
use Rattle.sgt_names.proofs.Lists.{element_at, take_next}
use Rattle.sgt_explain_lines.specs.Values.{entries_of, HadUntil}
use Rattle.sgt_explain_lines.proofs.Making.{value-next, until-here, until-before}
use Rattle.sgt_explain_lines.proofs.values.last_had.Goals as goal

pub loop-logged-preserved : goal.loop-logged-preserved
loop-logged-preserved c =
    let l = c.logged-item.result in
    let i = c.loop-logged.logged-index in
    let entries = c.args.entries.now in
    let x = c.args.item.now in
    let o = Some c.args.first.now.value in
    let v = c.args.value in
    let so_far = c.loop-logged.invariant in
    let m = c.loop-logged.made.value in
    let n = c.made_by-made.result.value in
    let next = sym (take_next entries i l (element_at entries i l (omega arith) c.logged-item.is)) in
    let value = value-next x o (take i entries) l m n so_far.value c.made_by-made.ensures.value in
    record {
      value = value ∙ ap (λ ls. value_after o (entries_of ls) x) next;
      until = λ other. subst (λ ls. HadUntil o ls x v c.last_behind-last.result) next (elim (cases_eq m v) [
        | inl same ↦ subst (HadUntil o _ x v) (sym (c.last_behind-last.ensures.changed same other))
            (until-here o (take i entries) l x v n (l.line - 1) (sym so_far.value ∙ ap Some same) value other refl)
        | inr differs ↦ subst (HadUntil o _ x v) (sym (c.last_behind-last.ensures.kept differs))
            (until-before o (take i entries) l x v n c.loop-logged.last value other (so_far.until differs))
      ]);
    }
