use Rattle.std.proofs.Common.{◌∙◌, sym, refl, get_or}
use Rattle.std.proofs.lemmas.Option.{slice_get-get_or}
use Rattle.sgt_history_time.proofs.InSessions.{in_sessions-ahead, in_sessions-next, in_sessions-whole}
use Rattle.sgt_history_time.proofs.order_checks.keeps_sessions.Goals as goal

pub returns-then-not-note : goal.returns-then-not-note
returns-then-not-note c =
    let order = c.args.order.now in
    let at = c.loop-at.at in
    let ahead = c.note.ensures.no (λ yes. let f = sym c.if-not-note.true ∙ yes in cc) in (
      λ yes. absurd cc,
      λ keeps. absurd (in_sessions-ahead order c.args.sessions.now c.loop-at.last.items at (get_or order at 0)
          c.loop-at.invariant
          (slice_get-get_or order at 0 c.loop-at-test.true) ahead keeps),
    )

pub loop-at-preserved : goal.loop-at-preserved
loop-at-preserved c =
    let order = c.args.order.now in
    let at = c.loop-at.at in
    let noted = c.note.ensures.yes c.if-not-note.false in
    in_sessions-next order c.args.sessions.now c.loop-at.last.items c.note.new.last.items at (get_or order at 0)
    c.loop-at.invariant
    (slice_get-get_or order at 0 c.loop-at-test.true) noted.0 noted.1

pub returns : goal.returns
returns c = (
  λ yes. in_sessions-whole c.args.order.now c.args.sessions.now c.loop-at.last.items c.loop-at.at
      c.loop-at-test.false c.loop-at.invariant,
  λ keeps. refl,
)
