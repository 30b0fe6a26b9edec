use Rattle.std.proofs.Common.{◌∙◌, ◌+◌, ◌<◌, ◌≤◌, Err, inr, length, ap, subst, arith, refl}
use Rattle.sgt_notation.specs.Lines.{most_left}
use Rattle.sgt_audit.specs.private.Ending.{limit_of}
use Rattle.sgt_audit.specs.Faults.{bytes_of}
use Rattle.sgt_audit.proofs.Begun.{begun-held, eaten-there, held-fed, last-line, last-long, within-cut, within-end, within-line, within-long}
use Rattle.sgt_audit.proofs.ReaderAtStage.{after-line, fault-line, stops-cut, stops-end, at-long, spends_on}
use Rattle.sgt_notation.proofs.Texts.{fault-met}
use Rattle.sgt_audit.proofs.reading.feed_lines.Goals as goal

pub lines-preserved : goal.lines-preserved
lines-preserved g c =
    let held = rw c.in_default.is at (c.in_ok-fault.ensures.goes _ _ _ c.lines.invariant.0) in
    let gave = rw c.in-Ok-Line.field-0-is at c.in-Ok-Line.ensures.ok in (
      after-line _ _ _ _ _ _ _ _ _ _ held (omega (
        arith,
        c.in_ok-fault.ensures.unread,
        c.in-Ok-Line.ensures.asks,
        c.in-Ok-Line.ensures.few,
      )) gave.gives
          (λ s stands. rw c.in-Ok-None.field-0-is at (c.in-Ok-None.ensures.follows s stands)),
      gave.quiet ∙ c.lines.invariant.1,
      spends_on _ _ _ _ _ _ _ c.lines.invariant.2 c.in_ok-fault.ensures.unread gave.spends,
      omega (arith, gave.falls refl, c.in_ok-fault.ensures.few, c.lines.invariant.3),
      λ keeps kept. c.in-Ok-None.ensures.kept keeps (c.in_ok-fault.ensures.kept keeps (c.lines.invariant.4 keeps kept)),
      omega (arith, c.in_ok-fault.ensures.unread, c.in-Ok-Line.ensures.asks, c.lines.invariant.5),
      inr (last-line _ _ _ _ _ _
          (held-fed _ _ _ _ _ c.lines.invariant.6 c.in_ok-fault.ensures.unread c.in_ok-fault.ensures.bounded)
          c.in-Ok-Line.ensures.reads c.in-Ok-Line.ensures.still
          (λ less. rw c.in-Ok-Line.field-0-is at (c.in-Ok-Line.ensures.fresh less)) (gave.falls refl)),
    )

pub returns-in-Ok-Some-clause-stops : goal.returns-in-Ok-Some-clause-stops
returns-in-Ok-Some-clause-stops g c =
    let held = rw c.in_default.is at (c.in_ok-fault.ensures.goes _ _ _ c.lines.invariant.0) in
    let gave = rw c.in-Ok-Line.field-0-is at c.in-Ok-Line.ensures.ok in
    fault-line _ _ c.line_of.new.self.progress _ _ _ _ _ _ _ _ held
    (omega (arith, c.in_ok-fault.ensures.unread, c.in-Ok-Line.ensures.asks, c.in-Ok-Line.ensures.few)) gave.gives
    (λ s stands. rw c.in-Ok-Some.field-0-is at (c.in-Ok-Some.ensures.follows s stands))

pub returns-in-Ok-Cut-clause-stops : goal.returns-in-Ok-Cut-clause-stops
returns-in-Ok-Cut-clause-stops g c =
    let held = rw c.in_default.is at (c.in_ok-fault.ensures.goes _ _ _ c.lines.invariant.0) in
    let gave = rw c.in-Ok-Cut.field-0-is at c.in-Ok-Cut.ensures.ok in
    stops-cut _ _ _ _ _ _ _ _ _ held (omega (
      arith,
      c.in_ok-fault.ensures.unread,
      c.in-Ok-Cut.ensures.asks,
      c.in-Ok-Cut.ensures.few,
    )) gave.gives (λ s stands. subst (λ n. length c.next.new.line.items ≤ n)
    (c.limit.ensures s stands) c.in-Ok-Cut.ensures.line.1) c.in-Ok-Cut.ensures.line.0

pub returns-in-Ok-End-clause-stops : goal.returns-in-Ok-End-clause-stops
returns-in-Ok-End-clause-stops g c =
    let held = rw c.in_default.is at (c.in_ok-fault.ensures.goes _ _ _ c.lines.invariant.0) in
    let gave = rw c.in-Ok-End.field-0-is at c.in-Ok-End.ensures.ok in
    stops-end _ _ _ _ _ _ _ _ _ held (omega (
      arith,
      c.in_ok-fault.ensures.unread,
      c.in-Ok-End.ensures.asks,
      c.in-Ok-End.ensures.few,
    )) gave.gives (λ s stands. subst (λ n. length c.next.new.line.items ≤ n)
    (c.limit.ensures s stands) c.in-Ok-End.ensures.line.1) c.in-Ok-End.ensures.line.0

pub returns-in-Ok-TooLong-clause-stops : goal.returns-in-Ok-TooLong-clause-stops
returns-in-Ok-TooLong-clause-stops g c =
    let held = rw c.in_default.is at (c.in_ok-fault.ensures.goes _ _ _ c.lines.invariant.0) in
    let gave = rw c.in-Ok-TooLong.field-0-is at c.in-Ok-TooLong.ensures.ok in
    at-long _ _ _ _ _ _ _ _ _ _ held (omega (
      arith,
      c.in_ok-fault.ensures.unread,
      c.in-Ok-TooLong.ensures.asks,
      c.in-Ok-TooLong.ensures.few,
    )) c.in-Ok-TooLong.ensures.line.1 gave.gives
    (λ s stands next long.
    c.too_long.ensures s next stands (λ second here. gave.unlimited (c.limit.ensures s stands ∙ ap limit_of here) refl)
    (subst (λ n. n < length (bytes_of next)) (c.limit.ensures s stands) long))

pub returns-in-Some-clause-stops : goal.returns-in-Some-clause-stops
returns-in-Some-clause-stops g c = rw c.in-Some.is at (c.in_ok-fault.ensures.goes _ _ _ c.lines.invariant.0)

pub lines-smaller : goal.lines-smaller
lines-smaller g c =
    let less : most_left c.next.new.self < most_left c.lines.lines =
    omega (
      arith,
      (rw c.in-Ok-Line.field-0-is at c.in-Ok-Line.ensures.ok).falls refl,
      c.in_ok-fault.ensures.bounded,
    ) in
    less

pub returns-in-Err-ReadFault-clause-reader : goal.returns-in-Err-ReadFault-clause-reader
returns-in-Err-ReadFault-clause-reader g c = record {
  due = λ same. fault-met _ _ _ _ _ _ _ _ c.lines.invariant.1 c.lines.invariant.2 c.in_ok-fault.ensures.unread
      (omega (arith, c.in_ok-fault.ensures.unread, c.in-Err-ReadFault.ensures.asks, c.lines.invariant.5))
      (c.in-Err-ReadFault.ensures.read_fault (ap Err c.in-Err-ReadFault.field-0-is));
  quiet = λ other. absurd (other refl);
}

pub returns-in_err-fault-clause-kept : goal.returns-in_err-fault-clause-kept
returns-in_err-fault-clause-kept g c keeps kept = c.in_err-fault.ensures.kept keeps (c.lines.invariant.4 keeps kept)

pub returns-in-Some-clause-kept : goal.returns-in-Some-clause-kept
returns-in-Some-clause-kept g c keeps kept = c.in_ok-fault.ensures.kept keeps (c.lines.invariant.4 keeps kept)

pub returns-in-Ok-Some-clause-kept : goal.returns-in-Ok-Some-clause-kept
returns-in-Ok-Some-clause-kept g c keeps kept =
    c.in-Ok-Some.ensures.kept keeps (c.in_ok-fault.ensures.kept keeps (c.lines.invariant.4 keeps kept))

pub returns-in-Err-clause-kept : goal.returns-in-Err-clause-kept
returns-in-Err-clause-kept g c keeps kept =
    c.in-Err.ensures.kept keeps (c.in_ok-fault.ensures.kept keeps (c.lines.invariant.4 keeps kept))

pub returns-in-Ok-Cut-clause-kept : goal.returns-in-Ok-Cut-clause-kept
returns-in-Ok-Cut-clause-kept g c keeps kept = c.in_ok-fault.ensures.kept keeps (c.lines.invariant.4 keeps kept)

pub returns-in-Ok-End-clause-kept : goal.returns-in-Ok-End-clause-kept
returns-in-Ok-End-clause-kept g c keeps kept = c.in_ok-fault.ensures.kept keeps (c.lines.invariant.4 keeps kept)

pub returns-in-Ok-TooLong-clause-kept : goal.returns-in-Ok-TooLong-clause-kept
returns-in-Ok-TooLong-clause-kept g c keeps kept = c.in_ok-fault.ensures.kept keeps (c.lines.invariant.4 keeps kept)

pub returns-in-Err-Memory-clause-kept : goal.returns-in-Err-Memory-clause-kept
returns-in-Err-Memory-clause-kept g c keeps kept = c.in_ok-fault.ensures.kept keeps (c.lines.invariant.4 keeps kept)

pub returns-in-Err-ReadFault-clause-kept : goal.returns-in-Err-ReadFault-clause-kept
returns-in-Err-ReadFault-clause-kept g c keeps kept = c.in_ok-fault.ensures.kept keeps (c.lines.invariant.4 keeps kept)

pub returns-in-Some-clause-began : goal.returns-in-Some-clause-began
returns-in-Some-clause-began g c =
    let at = eaten-there _ _ _ _ _ c.lines.invariant.0 in
    begun-held _ _ _ _ _ _ _ c.lines.invariant.6 at.2 (rw c.in-Some.is at (c.in_ok-fault.ensures.goes _ _ _ at.1))

pub returns-in-Ok-Some-clause-began : goal.returns-in-Ok-Some-clause-began
returns-in-Ok-Some-clause-began g c =
    let gave = rw c.in-Ok-Line.field-0-is at c.in-Ok-Line.ensures.ok in
    let at = eaten-there _ _ _ _ _ (rw c.in_default.is at (c.in_ok-fault.ensures.goes _ _ _ c.lines.invariant.0)) in
    let held =
    last-line _ _ _ _ _ _
    (held-fed _ _ _ _ _ c.lines.invariant.6 c.in_ok-fault.ensures.unread c.in_ok-fault.ensures.bounded)
    c.in-Ok-Line.ensures.reads c.in-Ok-Line.ensures.still
    (λ less. rw c.in-Ok-Line.field-0-is at (c.in-Ok-Line.ensures.fresh less)) (gave.falls refl) in (
      at.0 + length c.next.new.line.items + 1,
      fault-line _ _ c.line_of.new.self.progress _ _ _ _ _ _ _ _ at.1 (omega arith) gave.gives
          (λ s stands. rw c.in-Ok-Some.field-0-is at (c.in-Ok-Some.ensures.follows s stands)),
      within-line _ _ _ _ _ _ _ _ at.2 gave.gives held,
    )

pub returns-in-Ok-Cut-clause-began : goal.returns-in-Ok-Cut-clause-began
returns-in-Ok-Cut-clause-began g c =
    let gave = rw c.in-Ok-Cut.field-0-is at c.in-Ok-Cut.ensures.ok in
    let at = eaten-there _ _ _ _ _ (rw c.in_default.is at (c.in_ok-fault.ensures.goes _ _ _ c.lines.invariant.0)) in (
      at.0 + length c.next.new.line.items + 1,
      stops-cut _ _ _ _ _ _ _ _ _ at.1 (omega arith) gave.gives
          (λ s stands. subst (λ n. length c.next.new.line.items ≤ n) (c.limit.ensures s stands)
          c.in-Ok-Cut.ensures.line.1) c.in-Ok-Cut.ensures.line.0,
      within-cut _ _ _ _ _ _ _ _ at.2 gave.gives,
    )

pub returns-in-Ok-End-clause-began : goal.returns-in-Ok-End-clause-began
returns-in-Ok-End-clause-began g c =
    let gave = rw c.in-Ok-End.field-0-is at c.in-Ok-End.ensures.ok in
    let at = eaten-there _ _ _ _ _ (rw c.in_default.is at (c.in_ok-fault.ensures.goes _ _ _ c.lines.invariant.0)) in (
      at.0 + length c.next.new.line.items + 1,
      stops-end _ _ _ _ _ _ _ _ _ at.1 (omega arith) gave.gives
          (λ s stands. subst (λ n. length c.next.new.line.items ≤ n) (c.limit.ensures s stands)
          c.in-Ok-End.ensures.line.1) c.in-Ok-End.ensures.line.0,
      within-end _ _ _ _ _ _ _ _ at.2 gave.gives,
    )

pub returns-in-Ok-TooLong-clause-began : goal.returns-in-Ok-TooLong-clause-began
returns-in-Ok-TooLong-clause-began g c =
    let gave = rw c.in-Ok-TooLong.field-0-is at c.in-Ok-TooLong.ensures.ok in
    let at = eaten-there _ _ _ _ _ (rw c.in_default.is at (c.in_ok-fault.ensures.goes _ _ _ c.lines.invariant.0)) in
    let held =
    last-long _ _ _ _ _ _ _
    (held-fed _ _ _ _ _ c.lines.invariant.6 c.in_ok-fault.ensures.unread c.in_ok-fault.ensures.bounded)
    c.in-Ok-TooLong.ensures.reads c.in-Ok-TooLong.ensures.still
    (λ less. rw c.in-Ok-TooLong.field-0-is at (c.in-Ok-TooLong.ensures.fresh less))
    c.in-Ok-TooLong.ensures.bounded in (
      at.0 + length c.next.new.line.items + 1,
      at-long _ _ _ _ _ _ _ _ _ _ at.1 (omega arith) c.in-Ok-TooLong.ensures.line.1 gave.gives
          (λ s stands next long.
          c.too_long.ensures s next stands (λ second here. gave.unlimited (c.limit.ensures s stands
          ∙ ap limit_of here) refl)
          (subst (λ n. n < length (bytes_of next)) (c.limit.ensures s stands) long)),
      within-long _ _ _ _ _ _ _ _ at.2 gave.gives held,
    )
