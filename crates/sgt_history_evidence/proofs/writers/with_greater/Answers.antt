use Rattle.std.proofs.Common.{◌≡◌, ℕ, ◌≤◌, Some, None, refl, sym, subst, arith, ◌∙◌}
use Rattle.std.proofs.lemmas.Option.{same_Some}
use Rattle.sgt_history_evidence.specs.Writers.{TellsLeast}
use Rattle.sgt_history_evidence.proofs.Least.{least-skip, least-keep, least-take}
use Rattle.sgt_history_evidence.proofs.writers.with_greater.Goals as goal
use Rattle.sgt_history_evidence.proofs.writers.with_greater.Goals.{then-not-is_write_of-via-then-not-is_write_of, then-not-is_write_of-via-else-not-is_write_of+then-operation-version, in_default-via-in-Some+else-other-operation, in_default-via-in_default}

pub returns-then-not-is_write_of : goal.returns-then-not-is_write_of
returns-then-not-is_write_of c operations n at told =
    let o = c.args.operation.now in
    elim c.then-not-is_write_of.branch [
      | then-not-is_write_of-via-then-not-is_write_of w ↦
          least-skip operations c.args.item c.args.version n o c.args.least at
          (λ writes above. absurd (cc (w.if-not-is_write_of.ensures.1 writes))) told
      | then-not-is_write_of-via-else-not-is_write_of+then-operation-version w ↦
          least-skip operations c.args.item c.args.version n o c.args.least at
          (λ writes above. omega (arith, above, w.if-operation-version.true)) told
    ]

pub returns-in-Some : goal.returns-in-Some
returns-in-Some c operations n at told =
    least-keep operations c.args.item c.args.version n c.args.operation.now c.in-Some.other at c.if-other-operation.true
    (subst (TellsLeast operations c.args.item c.args.version n) c.in-Some.is told)

pub returns-in_default : goal.returns-in_default
returns-in_default c operations n at told =
    let o = c.args.operation.now in
    let writes = c.if-not-is_write_of.ensures.0 refl in
    elim c.in_default.branch [
      | in_default-via-in-Some+else-other-operation w ↦
          least-take operations c.args.item c.args.version n o c.args.least at writes c.if-operation-version.false
          (λ greater is. omega (
            arith,
            w.if-other-operation.false,
            same_Some greater w.in-Some.other (sym is
                ∙ w.in-Some.is),
          )) told
      | in_default-via-in_default w ↦
          least-take operations c.args.item c.args.version n o c.args.least at writes c.if-operation-version.false
          (λ greater is. absurd (w.in_default.not-Some greater is)) told
    ]
