use Rattle.std.proofs.Common.{◌≡◌, ◌∙◌, sym, ap, subst, None, Some}
use Rattle.std.specs.Prelude.{slice_get}
use Rattle.std.proofs.lemmas.Bool.{true≢false}
use Rattle.sgt_certifier.specs.Certifier.{State}
use Rattle.sgt_certifier.proofs.Deciding.{leads_back_seen}
use Rattle.sgt_certifier.proofs.judge.Judge.may_decide.Goals as goal

pub returns-clause-ok : goal.returns-clause-ok
returns-clause-ok c =
    let generation = c.generation.ensures ∙ ap (λ (v : State). v.generation) c.self.view_is in
    record {
      active = c.is_active.ensures.0 c.if-not-is_active.false;
      fit = λ n e at. c.has_unfit.ensures.fit c.if-has_unfit.false n e
          (subst (λ xs. slice_get xs n ≡ Some e) (sym c.as_slice.ensures) at);
      idle = subst (λ (v : State). v.step ≡ None) c.self.view_is c.in_default.is;
      forward =
          λ any. true≢false
          (sym (c.leads_back.ensures.1 (leads_back_seen c.args.handle _ _ _ _ any (sym c.as_slice-2.ensures)
          (sym generation))) ∙ c.if-leads_back.false);
    }
