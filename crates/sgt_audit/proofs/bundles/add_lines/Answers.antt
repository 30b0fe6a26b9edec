use Rattle.std.proofs.Common.{refl, sym, ap, ◌∙◌, subst, arith, length}
use Rattle.sgt_audit.specs.Kept.{IsPlace}
use Rattle.sgt_audit.specs.Reading.{IsBegun, lines_read}
use Rattle.sgt_audit.proofs.MayFollow.{added-begun, added-lines, begins-follow}
use Rattle.sgt_audit.proofs.Places.{next-sites}
use Rattle.sgt_audit.proofs.SpelledLines.{all-spelled, cut-none, next-line, next-begins, ahead-none, ahead-next}
use Rattle.sgt_audit.proofs.NextStage.{empty-nil}
use Rattle.sgt_audit_decisions.proofs.Loops.{refuted, not-empty, empty}
use Rattle.sgt_audit.proofs.bundles.add_lines.Goals as goal

pub returns-in_default-read_line-clause-all : goal.returns-in_default-read_line-clause-all
returns-in_default-read_line-clause-all c lines s =
    let n = next-line _ _ _ _ _ c.lines.invariant.0 lines s _ _ c.in-Some.ensures.some.0 c.in-Some.ensures.some.1 in
    c.in_default-read_line.ensures n.0 n.3 n.2

pub returns-then-not-may_go_on-clause-all : goal.returns-then-not-may_go_on-clause-all
returns-then-not-may_go_on-clause-all c lines s =
    refuted c.may_go_on.result (c.may_go_on.ensures _ c.lines.invariant.1 c.lines.invariant.2) c.if-not-may_go_on.true
    (next-begins _ _ _ _ _ c.lines.invariant.0 lines s _ _ c.in-Some.ensures.some.0 c.in-Some.ensures.some.1
    c.in-Some-read_line.read c.in-Some-read_line.ensures.0 c.in-Some-read_line.ensures.1)

pub lines-init : goal.lines-init
lines-init c = (ahead-none _ _ _ c.requires.none, c.requires.begun, c.requires.here)

pub lines-preserved : goal.lines-preserved
lines-preserved c =
    let inv = c.lines.invariant in
    let b = c.lines.sections in
    let read = c.in-Some-read_line.read in
    let begins = (c.may_go_on.ensures b inv.1 inv.2).0 c.if-not-may_go_on.false in
    let next = c.in_ok-add.ensures.next in (
      ahead-next _ _ _ _ _ _ _ _ read inv.0 c.in-Some.ensures.some.1 c.in-Some-read_line.ensures.0
          c.in-Some-read_line.ensures.1 (ap (λ b. b.sites) next ∙ next-sites b b.current read) (ap lines_read next
          ∙ added-lines b inv.1 read begins b.current refl),
      subst IsBegun (sym next) (added-begun b inv.1 read begins b.current refl),
      subst (λ a. IsPlace a c.enter.new.self) (sym next)
          (c.in_ok-enter.ensures b inv.1 (begins-follow b read begins) inv.2),
    )

pub returns-then-not-is_empty-clause-all : goal.returns-then-not-is_empty-clause-all
returns-then-not-is_empty-clause-all c lines s =
    let none = cut-none _ _ _ _ _ c.lines.invariant.0 lines s c.in_default.ensures.none in
    let some = not-empty _ _ c.is_empty.ensures c.if-not-is_empty.true in
    absurd (omega (arith, ap length none))

pub returns-clause-all : goal.returns-clause-all
returns-clause-all c =
    let inv = c.lines.invariant in
    all-spelled _ _ _ _ _ inv.0 c.is_complete.result (c.is_complete.ensures _ inv.1 inv.2)
    (empty-nil _ (empty _ _ c.is_empty.ensures c.if-not-is_empty.false))
