use Rattle.std.proofs.Common.{ℕ, ◌≢◌, ◌+◌, ◌<◌, take, sym, subst, arith, inl, inr, All}
use Rattle.std.proofs.lemmas.Bool.{cases_eq}
use Rattle.sgt_names.proofs.Lists.{element_at}
use Rattle.sgt_explain_certificate.specs.declared.ranks.Given.{Given}
use Rattle.sgt_explain_certificate.proofs.Giving.{missing-next, missing-kept, met-next}
use Rattle.sgt_explain_certificate.specs.Ranks.{HasRank}
use Rattle.sgt_explain_certificate.proofs.ranks.missing.Goals as goal

pub loop-one-preserved : goal.loop-one-preserved
loop-one-preserved c =
    let g = c.one-item.result in
    let i = c.loop-one.one-index in
    let gs = c.args.given.now in
    let w = c.loop-one.wanted in
    let so_far = c.loop-one.invariant in
    let at = element_at gs i g (omega arith) c.one-item.is in
    elim (cases_eq g.rank w) [
      | inl same ↦ (let e = c.wanted_behind-wanted.ensures.met same in
          record {
            within = omega (arith, e, so_far.within);
            apart = subst (λ k. All (λ (h : Given). h.rank ≢ k) (take (i + 1) gs)) (sym e)
                (missing-next gs i w g c.requires at same);
            met = subst (λ k. (rank : ℕ) → rank < k → HasRank gs rank) (sym e) (met-next gs i w g at same so_far.met);
          })
      | inr other ↦ (let e = c.wanted_behind-wanted.ensures.other other in
          record {
            within = omega (arith, e, so_far.within);
            apart = subst (λ k. All (λ (h : Given). h.rank ≢ k) (take (i + 1) gs)) (sym e)
                (missing-kept gs i w g at other so_far.apart);
            met = subst (λ k. (rank : ℕ) → rank < k → HasRank gs rank) (sym e) so_far.met;
          })
    ]
