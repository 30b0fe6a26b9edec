use Rattle.sgt_audit.proofs.kept.Kept.front.Goals as goal

pub returns-in-Some-2-clause-passes : goal.returns-in-Some-2-clause-passes
returns-in-Some-2-clause-passes c =
    let (is, within, reads) = c.in-Some.ensures in (
      c.in-Some.line,
      c.in-Some.n,
      record { is_line = is; within = within; reads = reads },
      λ s here. rw c.in-Some-2.is at (c.in_ok-fault.ensures.follows is s here),
    )

pub returns-in-None-clause-passes : goal.returns-in-None-clause-passes
returns-in-None-clause-passes c =
    let (is, within, reads) = c.in-Some.ensures in (
      c.in-Some.line,
      record { is_line = is; within = within; reads = reads },
      λ s here. rw c.in-None.is at (c.in_ok-fault.ensures.follows is s here),
    )
