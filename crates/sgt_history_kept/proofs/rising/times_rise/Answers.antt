use Rattle.std.proofs.Common.{◌∙◌, ℕ, None, get_or, subst, sym, arith, slice_index}
use Rattle.std.specs.Prelude.{IfSome}
use Rattle.std.proofs.lemmas.Option.{slice_get-get_or}
use Rattle.sgt_history_kept.specs.Rising.{AreRising, StandsIn}
use Rattle.sgt_history_kept.proofs.Risings.{stand-next, stand-whole}
use Rattle.sgt_history_kept.proofs.rising.times_rise.Goals as goal

pub loop-line-init : goal.loop-line-init
loop-line-init c = λ k x lt. absurd (omega (arith, lt))

pub loop-line-preserved : goal.loop-line-preserved
loop-line-preserved c =
    let times = c.args.times.now in
    let line = c.loop-line.line in
    let entry = get_or times line None in
    let begins = c.in_ok-moments.moments.begins.items in
    let most = c.in_ok-moments.moments.most.items in
    let stands = subst (λ (n : ℕ). IfSome entry (λ x. StandsIn begins most x n (slice_index c.args.right.now line)))
    c.number_of_line-before.ensures
    (subst (λ (n : ℕ). IfSome entry (λ x. StandsIn begins most x c.number_of_line-before.result n))
    c.number_of_line-behind.ensures (c.line_stands_in.ensures c.if-not-line_stands_in.false)) in
    stand-next begins most times c.args.left.now c.args.right.now line entry c.loop-line.invariant
    (slice_get-get_or times line None c.loop-line-test.true) stands

pub returns : goal.returns
returns c = λ yes.
    let moments = c.in_ok-moments.moments in
    stand-whole moments.begins.items moments.most.items c.args.times.now c.args.left.now c.args.right.now
    c.loop-line.line c.loop-line-test.false
    (subst AreRising c.as_slice.ensures.value (c.are_rising.ensures c.if-not-are_rising.false))
    (subst AreRising c.as_slice-else-not-are_rising.ensures.value
    (c.are_rising-else-not-are_rising.ensures c.if-not-are_rising-2.false))
    (sym (c.len.ensures ∙ moments.begins.ok.0) ∙ c.if-len.false ∙ c.len-2.ensures ∙ moments.most.ok.0)
    c.loop-line.invariant
