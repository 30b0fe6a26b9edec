use Rattle.std.proofs.Common.{[], ◌∷◌, refl, arith}
use Rattle.sgt_names.proofs.Lists.{element_at}
use Rattle.sgt_edges.specs.private.Gathered.{IsNear}
use Rattle.sgt_edges.proofs.Gathers.{each-none, each-next, gathers-near, not-new-next, none-new}
use Rattle.sgt_edges.proofs.Once.{no-edges, once-next, once-all, touches-differ}
use Rattle.sgt_edges.proofs.gathered.to_neighbours.Goals as goal

pub loop-t-init : goal.loop-t-init
loop-t-init c = (
  rw c.clear.ensures (each-none (λ t e. IsNear c.args.site.now (t ∷ []) c.args.me e) c.args.touched.now []),
  λ own apart none. no-edges _ c.clear.ensures,
  λ n t lt. absurd (omega (arith, lt)),
)

pub loop-t-preserved : goal.loop-t-preserved
loop-t-preserved c =
    let at = element_at _ _ _ c.loop-t-test.true c.t-item.is in (
      each-next (λ t e. IsNear c.args.site.now (t ∷ []) c.args.me e) c.args.touched.now _ _
          [] _ _ at c.loop-t.invariant.0 c.in_ok-add_edges.ensures.all,
      λ own. once-next (λ t e. IsNear c.args.site.now (t ∷ []) c.args.me e) c.args.touched.now _ _ [] _ _ at
          (touches-differ c.args.site.now c.args.me _ c.requires.rising) c.loop-t.invariant.0
          (c.loop-t.invariant.1 own) (c.in_ok-add_edges.ensures.once own),
      not-new-next c.args.site.now c.args.touched.now _ _ at c.loop-t.invariant.2 c.in_ok-add_edges.ensures.seen,
    )

pub returns-clause-near : goal.returns-clause-near
returns-clause-near c = gathers-near _ _ _ _ _ c.loop-t-test.false c.loop-t.invariant.0

pub returns-clause-once : goal.returns-clause-once
returns-clause-once c = λ own. once-all (λ t e. IsNear c.args.site.now (t ∷ []) c.args.me e) c.args.touched.now _
    [] _ c.loop-t-test.false (c.loop-t.invariant.1 own) (no-edges [] refl) (λ e has. absurd (omega (arith, has.1)))

pub returns-clause-seen : goal.returns-clause-seen
returns-clause-seen c = none-new c.args.site.now c.args.touched.now _ c.loop-t-test.false c.loop-t.invariant.2
