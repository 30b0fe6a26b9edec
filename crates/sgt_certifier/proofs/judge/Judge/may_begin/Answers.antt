use Rattle.std.proofs.Common.{◌≡◌, None, subst, arith}
use Rattle.sgt_certifier.specs.Certifier.{State}
use Rattle.sgt_certifier.specs.History.{begin, IsAllowed}
use Rattle.sgt_certifier.proofs.Judging.{parts_of, state_of, begin_allowed}
use Rattle.sgt_certifier.proofs.judge.Judge.may_begin.Goals as goal

pub returns-in-Ok-clause-ok : goal.returns-in-Ok-clause-ok
returns-in-Ok-clause-ok c =
    let s = state_of (parts_of c.self.inside) in
    let idle : s.step ≡ None = c.in_default.is in
    subst (λ (v : State). IsAllowed v begin) c.self.view_is
    (begin_allowed s (omega (arith, c.self.invariant.window)) idle (omega (arith, c.in-Ok.ensures.0)))
