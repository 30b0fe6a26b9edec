use Rattle.std.proofs.Common.{◌∙◌, subst, inl, inr, Contains}
use Rattle.sgt_service_settle.specs.declared.handed.Handed.{Handed as AHanded}
use Rattle.sgt_service_settle.specs.private.Index.{IsLoggedBy}
use Rattle.sgt_service_settle.proofs.Lists.{push_contains}
use Rattle.sgt_names.proofs.Lists.{element_at, take_next}
use Rattle.sgt_service_settle.proofs.sites.are_logged.Goals as goal

pub loop-one-preserved : goal.loop-one-preserved
loop-one-preserved c = record {
  near = c.is_logged.ensures.near ∙ c.loop-one.invariant.near;
  logged = λ log known are h contains.
      let n = c.loop-one.one-index in
      let one : AHanded = c.one-item.result in
      let here = element_at c.args.edges.now n one c.loop-one-test.true c.one-item.is in
      elim (push_contains _ one h (subst (λ xs. Contains xs h) (take_next c.args.edges.now n one here) contains)) [
        | inl early ↦ c.loop-one.invariant.logged log known are h early
        | inr last ↦
            subst (λ (x : AHanded). IsLoggedBy c.args.windows.now log x.edge) last
            ((c.is_logged.ensures.told log known are).0 c.if-not-is_logged.false)
      ];
}
