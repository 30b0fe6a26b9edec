use Rattle.std.specs.Prelude.{is_some}
use Rattle.std.proofs.Common.{◌≡◌, None, ◌∙◌, refl, arith}
use Rattle.sgt_audit.specs.declared.kept.Passed.TheVariants.{Line}
use Rattle.sgt_audit.specs.private.NextLine.{Passes}
use Rattle.sgt_audit.proofs.ReaderAtStage.{front-fault, front-gave, front-goes}
use Rattle.sgt_audit.proofs.reading.feed_kept.Goals as goal
use Rattle.sgt_audit.proofs.reading.feed_kept.Goals.{Joined-front_entry_line, in-Some+in_ok-fault-in-Some+in_default, in-None+in_ok-n-in-None+in-Line}

-- in either way one line was passed
passes : (c : Joined-front_entry_line)
    → Passes c.lines.lines.held c.lines.kept c.match-front_entry_line.kept (Line c.match-front_entry_line.passed)
    × (is_some c.match-front_entry_line.kept.sections ≡ is_some c.lines.kept.sections)
passes c = elim c.match-front_entry_line.branch [
  | in-Some+in_ok-fault-in-Some+in_default w ↦
      let (is, within, reads) = rw c.held.ensures at w.in-Some.ensures in
      rw w.kept-is (rw w.passed-is (
        (
          w.in-Some.line,
          record { is_line = is; within = within; reads = reads },
          λ s here. rw w.in_default.is at (w.in_ok-fault-in-Some.ensures.follows is s here),
        ),
        w.in_ok-fault-in-Some.ensures.sections,
      ))
  | in-None+in_ok-n-in-None+in-Line w ↦
      let told = rw w.held-in-None.ensures at w.in_ok-n-in-None.ensures.passes in
      rw w.kept-is (rw w.passed-is (rw w.in-Line.is at told, w.in_ok-n-in-None.ensures.sections))
]

pub returns-in-Some-2-clause-goes : goal.returns-in-Some-2-clause-goes
returns-in-Some-2-clause-goes c all told reads goes =
    let (is, within, front) = rw c.held.ensures at c.in-Some.ensures in
    front-fault all told c.lines.kept c.next_read.new.self c.lines.lines c.in-Some-2.fault c.lines.number reads (
      c.in-Some.line,
      c.in-Some.n,
      record { is_line = is; within = within; reads = front },
      λ s here. rw c.in-Some-2.is at (c.in_ok-fault-in-Some.ensures.follows is s here),
    ) (c.lines.invariant.0 all told reads goes)

pub returns-in-Faulty-clause-goes : goal.returns-in-Faulty-clause-goes
returns-in-Faulty-clause-goes c all told reads goes =
    let passes = rw c.held-in-None.ensures at c.in_ok-n-in-None.ensures.passes in
    front-fault all told c.lines.kept c.next_word.new.self c.lines.lines c.in-Faulty.fault c.lines.number reads
    (rw c.in-Faulty.is at passes) (c.lines.invariant.0 all told reads goes)

pub returns-in-Unread-clause-goes : goal.returns-in-Unread-clause-goes
returns-in-Unread-clause-goes c all told reads goes =
    let same : c.next_word.new.self ≡ c.lines.kept = rw c.in-Unread.is at c.in_ok-n-in-None.ensures.passes in
    rw same (c.lines.invariant.0 all told reads goes)

pub lines-preserved : goal.lines-preserved
lines-preserved c =
    let lines = c.lines.lines in
    let n = c.match-front_entry_line.passed in
    let (passed, sections) = passes (goal.at.lines-preserved c).Joined-front_entry_line in
    let falls = (front-gave passed.0 n lines None passed.1).falls refl in
    rw c.pass.ensures (
      λ all told reads goes.
          front-goes all told c.lines.kept c.match-front_entry_line.kept lines n c.lines.number reads passed
          (c.lines.invariant.0 all told reads goes),
      c.lines.invariant.1,
      omega (arith, falls, c.lines.invariant.2),
      omega (arith, falls, c.lines.invariant.3),
      sections ∙ c.lines.invariant.4,
    )
