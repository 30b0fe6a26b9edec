use Rattle.std.proofs.Common.{ℕ, None, get_or, subst, slice_index}
use Rattle.std.proofs.lemmas.Option.{slice_get-get_or}
use Rattle.sgt_history_kept.specs.Rising.{IsNotedLine}
use Rattle.sgt_history_kept.proofs.Risings.{raised-next, raised-none, raised-whole}
use Rattle.sgt_history_kept.proofs.rising.sessions_rise.Goals as goal

pub loop-line-init : goal.loop-line-init
loop-line-init c = raised-none c.args.sessions.now c.args.left.now c.args.right.now _

pub loop-line-preserved : goal.loop-line-preserved
loop-line-preserved c =
    let sessions = c.args.sessions.now in
    let line = c.loop-line.line in
    let entry = get_or sessions line None in
    let old = c.loop-line.most.items in
    let new = c.note_line.new.most.items in
    let noted = subst (λ (n : ℕ). IsNotedLine old entry n (slice_index c.args.right.now line) new)
    c.number_of_line-before.ensures
    (subst (λ (n : ℕ). IsNotedLine old entry c.number_of_line-before.result n new) c.number_of_line-behind.ensures
    (c.note_line.ensures c.if-not-note_line.false)) in
    raised-next sessions c.args.left.now c.args.right.now old line entry new c.loop-line.invariant
    (slice_get-get_or sessions line None c.loop-line-test.true) noted

pub returns : goal.returns
returns c = λ yes.
    raised-whole c.args.sessions.now c.args.left.now c.args.right.now c.loop-line.most.items c.loop-line.line
    c.loop-line-test.false c.loop-line.invariant
