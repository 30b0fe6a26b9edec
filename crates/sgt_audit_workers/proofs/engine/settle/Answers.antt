use Rattle.std.proofs.Common.{arith, subst}
use Rattle.sgt_audit.proofs.NextStage.{empty-nil}
use Rattle.sgt_audit_decisions.proofs.Loops.{empty}
use Rattle.sgt_audit_workers.specs.private.Texts.{IsLeftIn}
use Rattle.sgt_audit_workers.proofs.Left.{settled-read}
use Rattle.sgt_audit_workers.proofs.engine.settle.Goals as goal

pub returns-then-is_empty-clause-read : goal.returns-then-is_empty-clause-read
returns-then-is_empty-clause-read c first now from has =
    let text = c.args.text.now in
    let o = subst (IsLeftIn first text.lines text.most now has.0) c.in-Open.is has.2 in
    let none =
    empty-nil c.in-Open.bytes.items (omega (
      arith,
      empty _ _ c.is_empty.ensures c.if-is_empty.true,
      c.in-Open.bytes.ok.0,
    )) in
    settled-read first now text.lines text.most from has.0 c.in-Open.bytes.items c.in-Open.stop _ has.1 none o
    c.state_behind.ensures
