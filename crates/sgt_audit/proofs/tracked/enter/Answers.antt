use Rattle.std.proofs.lemmas.Result.{on_ok_weaker}
use Rattle.sgt_audit.proofs.SiteStates.{suiting-at, suiting-none}
use Rattle.sgt_audit.proofs.tracked.enter.Goals as goal

pub returns-then-plain-clause-tracks : goal.returns-then-plain-clause-tracks
returns-then-plain-clause-tracks c =
    let e = c.args.entry.now in
    let known = c.args.known.now in
    on_ok_weaker c.enter_plain.result (λ tracks ds items entries k once apart listed by t. tracks ds items entries once
    apart listed (k.place items entries t)
    (suiting-at ds e known.ruling.suiting c.in-Some.number c.in-Some.is k.ruling.suiting) k.ruling.rank t)
    c.enter_plain.ensures.tracks

pub returns-else-plain-clause-tracks : goal.returns-else-plain-clause-tracks
returns-else-plain-clause-tracks c =
    let e = c.args.entry.now in
    let known = c.args.known.now in
    on_ok_weaker c.enter.result (λ tracks ds items entries k once apart listed by t. tracks ds items entries once
    apart listed (k.place items entries t)
    (suiting-at ds e known.ruling.suiting c.in-Some.number c.in-Some.is k.ruling.suiting) k.ruling.rank t)
    c.enter.ensures.tracks

pub returns-in-None-clause-tracks : goal.returns-in-None-clause-tracks
returns-in-None-clause-tracks c ds items entries k once apart listed by t =
    absurd (suiting-none ds c.args.entry.now c.args.known.now.ruling.suiting c.in-None.is k.ruling.suiting by.0 by.1)
