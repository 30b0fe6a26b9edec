use Rattle.std.proofs.Common.{length, get_or, subst, Some, None, ◌∙◌, sym}
use Rattle.std.proofs.lemmas.Option.{slice_get-get_or}
use Rattle.sgt_history_verdict.specs.Steps.{IsBest, Leads}
use Rattle.sgt_history_verdict.proofs.Stepping.{along-next}
use Rattle.sgt_history_verdict.proofs.Telling.{best-all, best-none}
use Rattle.sgt_history_verdict.proofs.along.steps_along.Goals as goal

pub unreachable-requires : goal.unreachable-requires
unreachable-requires c =
    let lines = c.args.lines.now in
    let touches = c.args.touches.now in
    let pairs = c.args.pairs.now in
    let place = c.loop-place.place in
    let a = get_or lines place 0 in
    let b = c.line_behind.result in
    let lead =
    c.requires.lead place a b (slice_get-get_or lines place 0 c.loop-place-test.true) c.line_behind.ensures in
    best-none touches pairs c.args.ranks.now (λ s. Leads s a b)
    (subst (IsBest touches pairs c.args.ranks.now (λ s. Leads s a b) (length pairs)) c.in_default.is
    c.least_between.ensures) lead.0 lead.1 lead.2

pub loop-place-preserved : goal.loop-place-preserved
loop-place-preserved c =
    let lines = c.args.lines.now in
    let touches = c.args.touches.now in
    let pairs = c.args.pairs.now in
    let ranks = c.args.ranks.now in
    let place = c.loop-place.place in
    let a = get_or lines place 0 in
    let b = c.line_behind.result in
    let step = c.in-Some.step in
    let best = c.in-Some.ensures in
    along-next touches pairs ranks lines place c.loop-place.steps.items c.push.new.self.items step a b
    c.loop-place.invariant c.in_ok-push.ensures.items (slice_get-get_or lines place 0 c.loop-place-test.true)
    c.line_behind.ensures
    best.0 best.1 (λ t of leads. best-all touches pairs ranks (λ s. Leads s a b) step best t of (
      leads.0
          ∙ best.1.0,
      leads.1 ∙ best.1.1,
    ))
