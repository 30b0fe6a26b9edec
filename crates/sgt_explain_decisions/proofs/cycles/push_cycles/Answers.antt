use Rattle.std.proofs.Common.{◌≡◌, ◌+◌, ◌++◌, List, length, ap, sym, subst, ◌∙◌, take, take_all, arith, append_assoc}
use Rattle.std.specs.Prelude.{string_bytes}
use Rattle.std.proofs.lemmas.List.{length-take-le}
use Rattle.sgt_names.proofs.Lists.{element_at, take_next}
use Rattle.sgt_bundle.specs.declared.certificate.Decision.{Decision}
use Rattle.sgt_explain_decisions.specs.Cycles.{TellsRefusal, TellsCycles}
use Rattle.sgt_explain_decisions.proofs.Telling.{cycles-next}
use Rattle.sgt_explain_decisions.proofs.cycles.push_cycles.Goals as goal

pub loop-number-preserved : goal.loop-number-preserved
loop-number-preserved c =
    let decisions = c.args.decisions.now in
    let n = c.loop-number.number in
    let d = c.index-decisions-number.result in
    let sought = c.args.sought.now in
    let told = c.loop-number.invariant in
    let one = c.in_ok-push_refusal.ensures in
    let long : length (take n decisions) ≡ n = length-take-le n decisions (omega arith) in
    let e : n ≡ 0 + length (take n decisions) = omega (arith, long) in
    let next = sym (take_next decisions n d (element_at decisions n d (omega arith) c.index-decisions-number.is)) in (
      told.0 ++ one.0,
      subst (λ (ds : List Decision). TellsCycles sought 0 ds (told.0 ++ one.0)) next
          (cycles-next sought 0 (take n decisions) d told.0 one.0 told.1
          (subst (λ k. TellsRefusal sought k d one.0) e one.1)),
      one.2 ∙ ap (λ t. t ++ one.0) told.2 ∙ append_assoc (string_bytes c.args.out.now) told.0 one.0,
    )

pub returns : goal.returns
returns c =
    let told = c.loop-number.invariant in (
      told.0,
      subst (λ (ds : List Decision). TellsCycles c.args.sought.now 0 ds told.0)
          (take_all c.loop-number.number c.args.decisions.now (omega (arith, c.loop-number-test.false))) told.1,
      told.2,
    )
