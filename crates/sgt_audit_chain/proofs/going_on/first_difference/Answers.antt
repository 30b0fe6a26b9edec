use Rattle.std.proofs.Common.{rules, ◌≡◌, ◌≤◌, length, take, Some, sym, ap, ◌∙◌, subst, arith}
use Rattle.std.proofs.lemmas.Option.{none-some, same_Some, slice_get_past}
use Rattle.sgt_names.proofs.Lists.{element_at, within_at}
use Rattle.sgt_audit_chain.proofs.GoingOn.{front-next, holding-other, holding-same}
use Rattle.sgt_audit_chain.proofs.going_on.first_difference.Goals as goal

pub returns-in_default-clause-some : goal.returns-in_default-clause-some
returns-in_default-clause-some c =
    let items = c.args.items.now in
    let left = c.args.left.now in
    let n = c.loop-n.n in
    let here = element_at items n c.index-items-n.result c.loop-n-test.true c.index-items-n.is in
    let there = element_at left n c.in-Some.other.now c.in-Some.ensures.lookup.3.0 c.in-Some.ensures.lookup.1 in (
      c.loop-n.invariant,
      λ same. holding-other c.in-Some.other.now c.index-items-n.result (sym c.if-eq.ensures)
          (same_Some c.in-Some.other.now c.index-items-n.result (sym there ∙ sym same ∙ here)),
    )

pub returns-in_default-2-clause-some : goal.returns-in_default-2-clause-some
returns-in_default-2-clause-some c =
    let items = c.args.items.now in
    let left = c.args.left.now in
    let n = c.loop-n.n in
    let here = element_at items n c.index-items-n.result c.loop-n-test.true c.index-items-n.is in
    let past : length left ≤ n = search rules in
    (c.loop-n.invariant, λ same. none-some c.index-items-n.result (sym (slice_get_past left n past) ∙ sym same ∙ here))

pub loop-n-preserved : goal.loop-n-preserved
loop-n-preserved c =
    let items = c.args.items.now in
    let left = c.args.left.now in
    let n = c.loop-n.n in
    let here = element_at items n c.index-items-n.result c.loop-n-test.true c.index-items-n.is in
    let there = element_at left n c.in-Some.other.now c.in-Some.ensures.lookup.3.0 c.in-Some.ensures.lookup.1 in
    let same = holding-same c.in-Some.other.now c.index-items-n.result (sym c.if-eq.ensures) in
    front-next items left n c.index-items-n.result c.loop-n.invariant here (there ∙ ap Some same)

pub returns-then-items-left-clause-some : goal.returns-then-items-left-clause-some
returns-then-items-left-clause-some c =
    let items = c.args.items.now in
    let left = c.args.left.now in
    let end : c.loop-n.n ≡ length items = omega arith in
    let more = within_at left (length items) c.if-items-left.true in (
      subst (λ n. take n items ≡ take n left) end c.loop-n.invariant,
      λ same. none-some more.0 (sym (slice_get_past items (length items) (omega arith)) ∙ same ∙ more.1),
    )
