use Rattle.std.proofs.Common.{ap, length, arith, refl}
use Rattle.sgt_audit.proofs.NextStage.{ends-within, ends-behind, empty-nil}
use Rattle.sgt_audit_decisions.proofs.Loops.{refuted, not-empty, empty}
use Rattle.sgt_audit.proofs.kept.Kept.end.Goals as goal

pub returns-then-not-is_complete-clause-ends : goal.returns-then-not-is_complete-clause-ends
returns-then-not-is_complete-clause-ends k s here short = (
  refl,
  ends-within k.args.self s k.args.rest.now here
      (refuted k.is_complete.result (k.is_complete.ensures s here) k.if-not-is_complete.true) short,
)

pub returns-then-not-is_empty-clause-ends : goal.returns-then-not-is_empty-clause-ends
returns-then-not-is_empty-clause-ends k s here short = (
  refl,
  ends-behind s k.args.rest.now ((k.is_complete.ensures s here).0 k.if-not-is_complete.false)
      (λ none. let some = not-empty _ _ k.is_empty.ensures k.if-not-is_empty.true in
      absurd (omega (arith, ap length none))),
)

pub returns-clause-ends : goal.returns-clause-ends
returns-clause-ends k s here short = (
  here,
  (k.is_complete.ensures s here).0 k.if-not-is_complete.false,
  empty-nil k.args.rest.now (empty _ _ k.is_empty.ensures k.if-not-is_empty.false),
)
