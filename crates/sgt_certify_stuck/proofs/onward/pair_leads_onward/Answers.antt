use Rattle.std.proofs.Common.{ℕ, ◌+◌, List, BTreeMap, refl, sym, ap, ◌∙◌, subst, arith}
use Rattle.std.specs.BTreeMap.{get}
use Rattle.std.specs.Ordering.{nat_cmp}
use Rattle.std.proofs.lemmas.Option.{slice_get_within}
use Rattle.sgt_names.proofs.Lists.{element_at}
use Rattle.sgt_names.specs.Entry.{tx_of}
use Rattle.sgt_certify_stuck.specs.Onward.{StandsAt}
use Rattle.sgt_certify_stuck.proofs.Orders.{HasTops, tops-on, tops-past}
use Rattle.sgt_certify_stuck.proofs.onward.pair_leads_onward.Goals as goal
use Rattle.sgt_certify_stuck.proofs.onward.pair_leads_onward.Goals.{in-Some+else-falls_behind+in_ok-raise, in_default}

pub loop-entry-preserved : goal.loop-entry-preserved
loop-entry-preserved c =
    let at = element_at _ _ _ c.loop-entry-test.true c.entry-item.is in
    let P : BTreeMap (List ℕ) ℕ
    → Type 0 =
    λ tops. HasTops c.args.entries.now c.args.places.now (c.loop-entry.entry-index + 1) c.args.pair.first
    c.args.pair.second tops in
    let placed = ap (get nat_cmp c.args.places.now) (sym c.tx.ensures) ∙ sym c.place_of.ensures in
    elim c.match-place_of.branch [
      | in-Some+else-falls_behind+in_ok-raise w ↦
          subst P (sym w.tops-is)
          (tops-on c.args.entries.now c.args.places.now c.loop-entry.entry-index c.args.pair.first c.args.pair.second
          c.loop-entry.tops w.raise.new.tops c.entry-item.result
          w.in-Some.place c.loop-entry.invariant at (placed ∙ w.in-Some.is)
          (w.falls_behind.ensures.no w.if-falls_behind.false) w.in_ok-raise.ensures.kept w.in_ok-raise.ensures.raised
          w.in_ok-raise.ensures.only)
      | in_default w ↦
          subst P (sym w.tops-is)
          (tops-past c.args.entries.now c.args.places.now c.loop-entry.entry-index c.args.pair.first
          c.args.pair.second c.loop-entry.tops c.entry-item.result
          c.loop-entry.invariant at (λ i (stands : StandsAt c.args.places.now (tx_of c.entry-item.result) i).
          w.in_default.not-Some i (sym placed ∙ stands)))
    ]

pub returns : goal.returns
returns c = (
  λ _ p q e f x i j lt at_p at_q.
      let within = slice_get_within c.args.entries.now q f at_q in
      c.loop-entry.invariant.rising p q e f x i j lt (omega (arith, within, c.loop-entry-test.false)) at_p at_q,
  λ _. refl,
)
