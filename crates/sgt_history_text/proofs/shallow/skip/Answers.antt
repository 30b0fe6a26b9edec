use Rattle.std.proofs.Common.{◌∙◌, ◌∷◌, [], ◌++◌, Some, ap, arith, subst, sym}
use Rattle.sgt_history_text.specs.Shallow.{Enters, IsOpened}
use Rattle.sgt_history_text.proofs.Opened.{Skips, skips_bracket, skips_closed, skips_fails, skips_no_value, skips_scalar}
use Rattle.sgt_history_text.proofs.shallow.skip.Goals as goal

pub returns-in_default-enters-clause-skips : goal.returns-in_default-enters-clause-skips
returns-in_default-enters-clause-skips c =
    let s = subst (λ bs. Skips c.args.object c.args.reader.now bs c.open.reader) c.in-Some.ensures.items
    c.open.invariant.0 in
    skips_fails c.args.object c.args.reader.now c.pop.new.self.items c.in-Some.object c.open.reader s
    c.enters.new.reader c.in_default-enters.ensures.enters

pub open-preserved-then-closed : goal.open-preserved-then-closed
open-preserved-then-closed c =
    let s = subst (λ bs. Skips c.args.object c.args.reader.now bs c.open.reader) c.in-Some.ensures.items
    c.open.invariant.0 in
    let enters = subst (λ r. Enters c.in-Some.object c.open.reader c.enters.new.reader (Some r)) c.if-closed.true
    c.in-Some-enters.ensures.enters in (
      skips_closed c.args.object c.args.reader.now c.pop.new.self.items c.in-Some.object c.open.reader s
          c.enters.new.reader enters,
      omega (arith, c.open.invariant.1, c.enters.ensures.fewer),
    )

pub returns-in_default-opened-clause-skips : goal.returns-in_default-opened-clause-skips
returns-in_default-opened-clause-skips c =
    let s = subst (λ bs. Skips c.args.object c.args.reader.now bs c.open.reader) c.in-Some.ensures.items
    c.open.invariant.0 in
    let enters = subst (λ r. Enters c.in-Some.object c.open.reader c.enters.new.reader (Some r)) c.if-closed.false
    c.in-Some-enters.ensures.enters in
    skips_no_value c.args.object c.args.reader.now c.pop.new.self.items c.in-Some.object c.open.reader s
    c.enters.new.reader enters c.in_default-opened.ensures.opened

pub open-preserved-in-Continue-branch-3 : goal.open-preserved-in-Continue-branch-3
open-preserved-in-Continue-branch-3 c =
    let s = subst (λ bs. Skips c.args.object c.args.reader.now bs c.open.reader) c.in-Some.ensures.items
    c.open.invariant.0 in
    let enters = subst (λ r. Enters c.in-Some.object c.open.reader c.enters.new.reader (Some r)) c.if-closed.false
    c.in-Some-enters.ensures.enters in
    let first = subst (λ r. IsOpened c.enters.new.reader (Some r) c.opened.new.reader) c.in-Some-bracket.is
    c.in-Some-opened.ensures.opened in (
      subst (λ bs. Skips c.args.object c.args.reader.now bs c.opened.new.reader)
          (sym (c.in_ok-push-3.ensures.items
          ∙ ap (λ l. l ++ c.in-Some-bracket.object ∷ []) c.in_ok-push-2.ensures.items))
          (skips_bracket c.args.object c.args.reader.now c.pop.new.self.items c.in-Some.object c.open.reader s
          c.enters.new.reader enters
          c.opened.new.reader c.in-Some-bracket.object first),
      omega (arith, c.open.invariant.1, c.enters.ensures.fewer, c.opened.ensures.fewer),
    )

pub open-preserved : goal.open-preserved
open-preserved c =
    let s = subst (λ bs. Skips c.args.object c.args.reader.now bs c.open.reader) c.in-Some.ensures.items
    c.open.invariant.0 in
    let enters = subst (λ r. Enters c.in-Some.object c.open.reader c.enters.new.reader (Some r)) c.if-closed.false
    c.in-Some-enters.ensures.enters in
    let first = subst (λ r. IsOpened c.enters.new.reader (Some r) c.opened.new.reader) c.in_default-bracket.is
    c.in-Some-opened.ensures.opened in (
      subst (λ bs. Skips c.args.object c.args.reader.now bs c.opened.new.reader) (sym c.in_ok-push-2.ensures.items)
          (skips_scalar c.args.object c.args.reader.now c.pop.new.self.items c.in-Some.object c.open.reader s
          c.enters.new.reader enters
          c.opened.new.reader first.0 first.1),
      omega (arith, c.open.invariant.1, c.enters.ensures.fewer, c.opened.ensures.fewer),
    )
