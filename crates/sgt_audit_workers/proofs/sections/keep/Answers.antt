use Rattle.std.proofs.Common.{List, ℕ, arith, subst, sym}
use Rattle.std.specs.Io.KnownBytes.{Consumes}
use Rattle.sgt_audit.proofs.NextStage.{empty-nil}
use Rattle.sgt_audit_decisions.proofs.Loops.{empty, not-empty}
use Rattle.sgt_audit_workers.specs.declared.sections.Section.{Section}
use Rattle.sgt_audit_workers.specs.private.Texts.{AreAhead}
use Rattle.sgt_audit_workers.proofs.Left.{ahead-more, ahead-on, some-bytes}
use Rattle.sgt_audit_workers.proofs.sections.keep.Goals as goal

pub returns-then-is_empty-clause-kept : goal.returns-then-is_empty-clause-kept
returns-then-is_empty-clause-kept c first now from left next are came is =
    let none =
    empty-nil c.args.section.bytes.items (omega (
      arith,
      empty _ _ c.is_empty.ensures c.if-is_empty.true,
      c.args.section.bytes.ok.0,
    )) in (
      next,
      ahead-on c.args.text.now.most from left next c.args.ahead.now.items are
          (subst (λ (b : List ℕ). Consumes left next b) none came.bytes),
      is,
    )

pub returns-in-Ok-clause-kept : goal.returns-in-Ok-clause-kept
returns-in-Ok-clause-kept c first now from left next are came is =
    let some =
    some-bytes c.args.section.bytes.items (omega (
      arith,
      not-empty _ _ c.is_empty.ensures c.if-is_empty.false,
      c.args.section.bytes.ok.0,
    )) in (
      next,
      subst (λ (ss : List Section). AreAhead c.args.text.now.most from ss next) (sym c.in-Ok.ensures.items)
          (ahead-more c.args.text.now.most from left next c.args.ahead.now.items c.args.section are came some),
      is,
    )
