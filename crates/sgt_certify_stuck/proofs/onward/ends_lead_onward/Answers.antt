use Rattle.std.proofs.Common.{ℕ, ◌+◌, Option, refl, sym, ap, ◌∙◌, subst, arith}
use Rattle.std.specs.BTreeMap.{get}
use Rattle.std.specs.Ordering.{nat_cmp}
use Rattle.std.proofs.lemmas.Bool.{true≢false}
use Rattle.std.proofs.lemmas.Option.{slice_get_within}
use Rattle.sgt_names.proofs.Lists.{element_at}
use Rattle.sgt_certify_stuck.proofs.Orders.{RiseTo, rise-on, rise-past}
use Rattle.sgt_certify_stuck.proofs.onward.ends_lead_onward.Goals as goal
use Rattle.sgt_certify_stuck.proofs.onward.ends_lead_onward.Goals.{then-is_end+in-Some+else-not-is_behind, else-is_end}

pub loop-entry-preserved : goal.loop-entry-preserved
loop-entry-preserved c =
    let at = element_at _ _ _ c.loop-entry-test.true c.entry-item.is in
    let P : Option ℕ
    → Type 0 = λ last. RiseTo c.args.entries.now c.args.places.now (c.loop-entry.entry-index + 1) last in
    elim c.if-is_end.branch [
      | then-is_end+in-Some+else-not-is_behind w ↦
          subst P (sym w.last-is)
          (rise-on c.args.entries.now c.args.places.now c.loop-entry.entry-index c.loop-entry.last c.entry-item.result
          w.in-Some.place c.loop-entry.invariant at (c.is_end.ensures.0 w.if-is_end.true)
          (ap (get nat_cmp c.args.places.now) (sym w.tx.ensures) ∙ sym w.place_of.ensures ∙ w.in-Some.is)
          (w.is_behind.ensures.0 w.if-not-is_behind.false))
      | else-is_end w ↦
          subst P (sym w.last-is)
          (rise-past c.args.entries.now c.args.places.now c.loop-entry.entry-index c.loop-entry.last
          c.entry-item.result c.loop-entry.invariant at
          (λ ends. true≢false (sym (c.is_end.ensures.1 ends) ∙ w.if-is_end.false)))
    ]

pub returns : goal.returns
returns c = (
  λ _. (
    λ p e at ends.
        let within = slice_get_within c.args.entries.now p e at in
        let h = c.loop-entry.invariant.placed p e (omega (arith, within, c.loop-entry-test.false)) at ends in
        (h.0, h.2),
    λ p q e f lt at_p at_q.
        let within = slice_get_within c.args.entries.now q f at_q in
        c.loop-entry.invariant.rising p q e f lt (omega (arith, within, c.loop-entry-test.false)) at_p at_q,
  ),
  λ _. refl,
)
