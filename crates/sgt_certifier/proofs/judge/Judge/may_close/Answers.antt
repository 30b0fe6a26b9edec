use Rattle.std.proofs.Common.{◌≡◌, ◌<◌, length, suc, None, subst, arith}
use Rattle.sgt_certifier.specs.Certifier.{State}
use Rattle.sgt_certifier.specs.History.{close, IsAllowed}
use Rattle.sgt_certifier.proofs.Judging.{parts_of, state_of, close_allowed}
use Rattle.sgt_certifier.proofs.judge.Judge.may_close.Goals as goal

pub returns-clause-ok : goal.returns-clause-ok
returns-clause-ok c =
    let s = state_of (parts_of c.self.inside) in
    let idle : s.step ≡ None = c.in_default.is in
    let none : length s.active ≡ 0 = omega (arith, c.self.invariant.running, c.if-self-gt0.false) in
    let more : suc s.generation < 4294967296 =
    omega (arith, c.generation.type_inv, c.if-generation.false, c.generation.ensures) in
    subst (λ (v : State). IsAllowed v close) c.self.view_is (close_allowed s idle none more)
