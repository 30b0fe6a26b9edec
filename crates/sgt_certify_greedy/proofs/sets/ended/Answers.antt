use Rattle.std.proofs.Common.{ℕ, arith, subst}
use Rattle.std.proofs.lemmas.Option.{slice_get_within}
use Rattle.sgt_names.proofs.Places.{Contains_at}
use Rattle.sgt_certify_greedy.specs.Decided.{HasEnders}
use Rattle.std.proofs.Common.{Contains}
use Rattle.sgt_certify_greedy.proofs.Pairing.{one-more}
use Rattle.sgt_certify_greedy.proofs.sets.ended.Goals as goal

pub loop-site-preserved : goal.loop-site-preserved
loop-site-preserved c = record {
  only = c.in_ok-add_ended.ensures.only c.loop-site.invariant.only;
  has = one-more (λ (s : ℕ). HasEnders c.add_ended.new.txs.items c.args.sites.now s) c.loop-site.site
      (λ s lt n log e here at end. c.in_ok-add_ended.ensures.kept _
      (c.loop-site.invariant.has s lt n log e here at end))
      c.in_ok-add_ended.ensures.has;
}

pub returns-clause-has : goal.returns-clause-has
returns-clause-has c t (e, (log, here, there), end, is) =
    let site = Contains_at c.args.sites.now log here in
    let place = Contains_at log.entries e there in
    let within = slice_get_within c.args.sites.now site.0 log site.1 in
    subst (Contains c.loop-site.txs.items) is
    (c.loop-site.invariant.has site.0 (omega (arith, within, c.loop-site-test.false)) place.0 log e site.1 place.1 end)
