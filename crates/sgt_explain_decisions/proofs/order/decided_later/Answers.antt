use Rattle.std.proofs.Common.{◌≡◌, sym, subst, arith, Some}
use Rattle.std.specs.Prelude.{slice_get}
use Rattle.sgt_names.proofs.Lists.{element_at, All-next, All-whole}
use Rattle.sgt_explain_lines.specs.declared.section.Logged.{Logged}
use Rattle.sgt_explain_decisions.specs.Decided.{IsNotLater}
use Rattle.sgt_explain_decisions.proofs.order.decided_later.Goals as goal

pub returns-in-Some-clause-some : goal.returns-in-Some-clause-some
returns-in-Some-clause-some c = λ ds placed.
    let entries = c.args.entries.now in
    let i = c.loop-other.other-index in
    let l = c.other-item.result in
    let h = c.in-Some.ensures.some ds placed in
    record {
      place = i;
      there = subst (λ (k : Logged). slice_get entries i ≡ Some k) (sym c.in-Some.ensures.same)
          (element_at entries i l (omega arith) c.other-item.is);
      is = h.0;
      later = h.1;
      before = c.loop-other.invariant ds placed;
    }

pub loop-other-preserved : goal.loop-other-preserved
loop-other-preserved c = λ ds placed.
    let entries = c.args.entries.now in
    let i = c.loop-other.other-index in
    let l = c.other-item.result in
    All-next (IsNotLater ds c.args.own) entries i l (element_at entries i l (omega arith) c.other-item.is)
    (c.in_default.ensures.none ds placed) (c.loop-other.invariant ds placed)

pub returns-clause-none : goal.returns-clause-none
returns-clause-none c = λ ds placed.
    All-whole (IsNotLater ds c.args.own) c.args.entries.now c.loop-other.other-index
    (omega (arith, c.loop-other-test.false)) (c.loop-other.invariant ds placed)
