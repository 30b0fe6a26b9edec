use Rattle.std.proofs.Common.{sym, subst, ◌∙◌, arith, take_all}
use Rattle.std.specs.BTreeMap.{get}
use Rattle.std.specs.Ordering.{nat_cmp}
use Rattle.sgt_names.proofs.Lists.{element_at}
use Rattle.sgt_explain_decisions.specs.Walks.{AreApart}
use Rattle.sgt_explain_decisions.proofs.Walking.{passed-next, again-of, none-of}
use Rattle.sgt_explain_decisions.proofs.walks.again_in.Goals as goal

pub returns-then-is_some-clause-some : goal.returns-then-is_some-clause-some
returns-then-is_some-clause-some c =
    let between = c.args.between.now in
    let i = c.loop-place.place in
    let step = c.index-between-place.result in
    again-of between i step (λ a. get nat_cmp c.loop-place.passed a) c.in_ok-insert.field-0
    (element_at between i step (omega arith) c.index-between-place.is)
    c.in_ok-insert.ensures.old (sym c.is_some.ensures ∙ c.if-is_some.true) c.loop-place.invariant

pub loop-place-preserved : goal.loop-place-preserved
loop-place-preserved c =
    let between = c.args.between.now in
    let i = c.loop-place.place in
    let step = c.index-between-place.result in
    passed-next between i step (λ a. get nat_cmp c.loop-place.passed a) _
    (element_at between i step (omega arith) c.index-between-place.is)
    (sym c.in_ok-insert.ensures.old ∙ none-of c.in_ok-insert.field-0 (sym c.is_some.ensures ∙ c.if-is_some.false))
    c.in_ok-insert.ensures.updates.0 c.loop-place.invariant

pub returns-clause-none : goal.returns-clause-none
returns-clause-none c =
    subst AreApart (take_all c.loop-place.place c.args.between.now (omega (arith, c.loop-place-test.false)))
    c.loop-place.invariant.apart
