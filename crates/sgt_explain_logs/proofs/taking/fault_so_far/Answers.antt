use Rattle.std.proofs.Common.{◌≡◌, length, take, sym, subst, arith}
use Rattle.std.proofs.lemmas.Bool.{false≢true}
use Rattle.std.proofs.lemmas.List.{length-take-le}
use Rattle.std.proofs.lemmas.Option.{IfSome_then}
use Rattle.std.proofs.lemmas.Result.{IfOk-weaker}
use Rattle.sgt_names.proofs.Elements.{none-weaker}
use Rattle.sgt_certify.specs.Reach.{AreShort}
use Rattle.sgt_explain_logs.proofs.Cuts.{cut-lines}
use Rattle.sgt_explain_logs.proofs.Readings.{fault-long, fault-whole}
use Rattle.sgt_explain_logs.proofs.taking.fault_so_far.Goals as goal

pub returns-in-Some-clause-found : goal.returns-in-Some-clause-found
returns-in-Some-clause-found c =
    let first = c.in-Some.first in
    fault-whole c.args.cut.lines c.args.text.now first.line first.fault (rw c.in-Some.is at c.in_ok-first.ensures.found)

pub returns-then-text-cut-le-MAX_LINE-clause-judged : goal.returns-then-text-cut-le-MAX_LINE-clause-judged
returns-then-text-cut-le-MAX_LINE-clause-judged c before piece all judged =
    rw c.in_default.is at (c.in_ok-first.ensures.judged before piece all judged
    (subst AreShort (sym (cut-lines c.args.cut c.args.text.now c.requires.cut)) c.requires.cut.short))

pub returns-then-text-cut-le-MAX_LINE-clause-room : goal.returns-then-text-cut-le-MAX_LINE-clause-room
returns-then-text-cut-le-MAX_LINE-clause-room c =
    let is = c.requires.cut in
    let room = rw c.in_default.is at c.in_ok-first.ensures.room in
    let size : length (take c.args.cut.lines c.args.text.now) ≡ c.args.cut.lines =
    length-take-le c.args.cut.lines c.args.text.now (omega (arith, is.begun, is.within)) in
    (omega (arith, room, size), omega (arith, c.if-text-cut-le-MAX_LINE.true))

pub returns-clause-found : goal.returns-clause-found
returns-clause-found c =
    IfOk-weaker c.first_fault.result _ _
    (λ found has. IfSome_then found has
    (λ first is. fault-long c.args.cut.lines c.args.text.now first.line first.fault
    (c.requires.long (omega (arith, c.if-text-cut-le-MAX_LINE.false))) is)) c.first_fault.ensures.found

pub returns-clause-judged : goal.returns-clause-judged
returns-clause-judged c before piece all judged =
    IfOk-weaker c.first_fault.result _ _ (λ found none. none-weaker found _ _ (λ both. absurd (false≢true both.0)) none)
    c.first_fault.ensures.none

pub returns-clause-room : goal.returns-clause-room
returns-clause-room c =
    IfOk-weaker c.first_fault.result _ _ (λ found none. none-weaker found _ _ (λ both. absurd (false≢true both.0)) none)
    c.first_fault.ensures.none
