use Rattle.std.proofs.Common.{◌∙◌, Some, sym, ap, arith}
use Rattle.std.proofs.lemmas.Option.{slice_get_within, same_Some}
use Rattle.sgt_bundle.specs.Certificate.{IsCommitted}
use Rattle.sgt_service_settle.proofs.Committing.{noted_next, noted_other}
use Rattle.sgt_service_settle.proofs.committed.note_commits.Goals as goal
use Rattle.sgt_service_settle.proofs.committed.note_commits.Goals.{in-Commit, in_default}
use Rattle.sgt_names.proofs.Lists.{element_at}

pub loop-number-init : goal.loop-number-init
loop-number-init c tx number = (λ is. absurd (c.requires.empty tx number is), λ known. absurd (omega (arith, known.0)))

pub loop-number-preserved : goal.loop-number-preserved
loop-number-preserved c =
    let decisions = c.args.decisions.now in
    let n = c.loop-number.number in
    let here =
    element_at decisions n c.index-decisions-number.result c.loop-number-test.true c.index-decisions-number.is in
    elim c.match-decision.branch [
      | in-Commit w ↦
          let known : IsCommitted decisions n w.in-Commit.tx w.in-Commit.rank = here ∙ ap Some w.in-Commit.is in
          let low = c.requires.room n w.in-Commit.tx w.in-Commit.rank known in
          let next = noted_next decisions n w.in-Commit.tx w.in-Commit.rank c.loop-number.commits c.requires.once
          known (omega (arith, low, c.loop-number.auto.commits)) c.loop-number.invariant in
          rw w.commits-is (rw w.number.ensures.is next)
      | in_default w ↦
          rw w.commits-is
          (noted_other decisions n c.loop-number.commits
          (λ tx rank known. w.in_default.not-Commit tx rank (same_Some _ _ (sym here ∙ known)))
          c.loop-number.invariant)
    ]

pub returns : goal.returns
returns c tx number = (
  λ is. ((c.loop-number.invariant tx number).0 is).1,
  λ committed. (c.loop-number.invariant tx number).1 (
    let low =
        slice_get_within c.args.decisions.now number _ committed.1 in omega (arith, low, c.loop-number-test.false),
    committed,
  ),
)
