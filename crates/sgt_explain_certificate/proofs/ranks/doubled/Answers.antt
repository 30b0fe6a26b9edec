use Rattle.std.proofs.Common.{◌≡◌, ◌∙◌, Some, refl, sym, subst, arith}
use Rattle.std.specs.Prelude.{slice_get}
use Rattle.sgt_names.proofs.Lists.{element_at}
use Rattle.sgt_names.proofs.Places.{Contains-from_at}
use Rattle.sgt_explain_certificate.proofs.Giving.{found-both, none-found, not-found, single-all, single-next, single-none}
use Rattle.sgt_explain_certificate.proofs.ranks.doubled.Goals as goal

pub loop-one-init : goal.loop-one-init
loop-one-init c = record {
  has = tt;
  last = λ less. absurd (omega (arith, less));
  single = single-none c.args.given.now;
}

pub loop-one-preserved : goal.loop-one-preserved
loop-one-preserved c =
    let gs = c.args.given.now in
    let i = c.loop-one.one-index in
    let g = c.one-item.result in
    let at = element_at gs i g (omega arith) c.one-item.is in
    let so_far = c.loop-one.invariant in
    let apart = none-found c.doubled_with-found.result _ (sym c.is_some.ensures
    ∙ c.if-is_some.false) c.doubled_with-found.ensures.none in
    record {
      has = Contains-from_at gs i g at;
      last = λ less. (g, refl, subst (λ n. slice_get gs n ≡ Some g) (omega arith) at);
      single = single-next gs i g c.loop-one.before c.requires at so_far.last apart so_far.single;
    }

pub returns-then-is_some-clause-some : goal.returns-then-is_some-clause-some
returns-then-is_some-clause-some c =
    let gs = c.args.given.now in
    let i = c.loop-one.one-index in
    let g = c.one-item.result in
    let at = element_at gs i g (omega arith) c.one-item.is in
    found-both gs c.doubled_with-found.result (c.doubled_with-found.ensures.both gs c.loop-one.invariant.has
    (Contains-from_at gs i g at)) c.doubled_with-found.ensures.doubled

pub returns-then-is_some-clause-none : goal.returns-then-is_some-clause-none
returns-then-is_some-clause-none c = not-found c.doubled_with-found.result _ (sym c.is_some.ensures ∙ c.if-is_some.true)

pub returns-clause-none : goal.returns-clause-none
returns-clause-none c = single-all c.args.given.now c.loop-one.one-index (omega (arith)) c.loop-one.invariant.single
