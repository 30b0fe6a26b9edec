use Rattle.std.proofs.Common.{ℕ, List, inl, inr, sym, ap, ◌∙◌, ◌+◌, subst, length}
use Rattle.std.specs.Prelude.{slice_set}
use Rattle.std.proofs.lemmas.Bool.{cases_lt}
use Rattle.sgt_names.proofs.Lists.{element_at}
use Rattle.sgt_check.proofs.Ranking.{Stands, stands_next, stands_past}
use Rattle.sgt_check.proofs.ranks.places.Goals as goal

pub loop-at-preserved : goal.loop-at-preserved
loop-at-preserved c =
    let ranked = c.args.ranked.now in
    let old = c.loop-at.places.items in
    let one = c.index-ranked-at.result in
    let there = element_at ranked c.loop-at.at one c.loop-at-test.true c.index-ranked-at.is in
    let next : Stands ranked c.set_place.new.places.items c.args.count (c.loop-at.at + 1) =
    elim (cases_lt one.number (length old)) [
      | inl within ↦
          subst (λ (ranks : List ℕ). Stands ranked ranks c.args.count (c.loop-at.at + 1))
          (sym (c.set_place.ensures.within within ∙ ap (slice_set old one.number) c.in-Ok.ensures.1))
          (stands_next ranked old c.args.count c.loop-at.at one there within c.loop-at.invariant)
      | inr past ↦
          subst (λ (ranks : List ℕ). Stands ranked ranks c.args.count (c.loop-at.at + 1))
          (sym (c.set_place.ensures.past past))
          (stands_past ranked old c.args.count c.loop-at.at one there past c.loop-at.invariant)
    ] in
    next
