use Rattle.std.proofs.Common.{◌≡◌, sym, subst, Some, Contains}
use Rattle.sgt_certifier.specs.Certifier.{State}
use Rattle.sgt_certifier.specs.History.{IsNoted}
use Rattle.sgt_certifier.proofs.Judging.{parts_of, is_noted}
use Rattle.sgt_certifier.proofs.judge.Judge.is_noted.Goals as goal

pub returns : goal.returns
returns c =
    let p = parts_of c.self.inside in
    let open_tx = subst (λ (v : State). v.step ≡ Some c.args.tx) (sym c.self.view_is) c.requires in
    let noted = is_noted p.step p.noted c.args.tx c.args.site open_tx in (
      λ told. subst (λ (v : State). IsNoted v c.args.tx c.args.site) c.self.view_is
          (noted.0 (subst (λ xs. Contains xs c.args.site) c.as_slice.ensures.value (c.is_among.ensures.0 told))),
      λ is. c.is_among.ensures.1 (subst (λ xs. Contains xs c.args.site) (sym c.as_slice.ensures.value)
          (noted.1 (subst (λ (v : State). IsNoted v c.args.tx c.args.site) (sym c.self.view_is) is))),
    )
