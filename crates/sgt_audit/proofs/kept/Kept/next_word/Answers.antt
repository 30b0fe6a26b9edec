use Rattle.sgt_audit.specs.Faults.{Stage}
use Rattle.sgt_audit.specs.Held.{IsAt}
use Rattle.sgt_audit.specs.declared.machine.Progress.TheVariants.{Reading}
use Rattle.sgt_audit.specs.private.NextLine.{Follows, IsFrontLine}
use Rattle.sgt_notation.specs.Spelling.{line_text}
use Rattle.sgt_audit.proofs.kept.Kept.next_word.Goals as goal
use Rattle.sgt_audit.proofs.kept.Kept.next_word.Goals.{Joined-line, in-Initial+in_ok-found-in-Initial, in-Final+in_ok-found-in-Final, in_default-line+in_ok-found-in_default-line}

front : (c : Joined-line) → IsFrontLine c.args.bytes.now c.in-Some.line c.in-Some.n
front c =
    let (is, within, reads) = c.in-Some.ensures in
    record { is_line = is; within = within; reads = reads }

follows : (c : Joined-line) → (s : Stage) → IsAt c.args.self.now s
    → Follows s (line_text c.in-Some.line) (Reading c.match-line.self) c.match-line.found
follows c s here =
    let is = c.in-Some.ensures.0 in
    elim c.match-line.branch [
      | in-Initial+in_ok-found-in-Initial w ↦
          rw w.self-is (rw w.found-is (rw w.in-Initial.is (w.in_ok-found-in-Initial.ensures.follows
          (rw w.in-Initial.is at is) (λ e same. cc) (λ same. cc) s here)))
      | in-Final+in_ok-found-in-Final w ↦
          rw w.self-is (rw w.found-is (rw w.in-Final.is (w.in_ok-found-in-Final.ensures.follows
          (rw w.in-Final.is at is) (λ e same. cc) (λ same. cc) s here)))
      | in_default-line+in_ok-found-in_default-line w ↦
          rw w.self-is (rw w.found-is (w.in_ok-found-in_default-line.ensures.follows is s here))
    ]

pub returns-in-Some-found-clause-passes : goal.returns-in-Some-found-clause-passes
returns-in-Some-found-clause-passes c =
    let joined = (goal.at.returns-in-Some-found-clause-passes c).Joined-line in
    (c.in-Some.line, c.in-Some.n, front joined, λ s here. rw c.in-Some-found.is at (follows joined s here))

pub returns-in-None-clause-passes : goal.returns-in-None-clause-passes
returns-in-None-clause-passes c =
    let joined = (goal.at.returns-in-None-clause-passes c).Joined-line in
    (c.in-Some.line, front joined, λ s here. rw c.in-None.is at (follows joined s here))
