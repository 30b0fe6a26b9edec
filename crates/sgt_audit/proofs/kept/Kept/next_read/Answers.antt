use Rattle.std.proofs.Common.{IfOk, sym, subst}
use Rattle.std.proofs.lemmas.Bool.{false≢true}
use Rattle.sgt_notation.specs.Spelling.{IsLine, line_text}
use Rattle.sgt_notation.specs.declared.SectionLine.{SectionLine}
use Rattle.sgt_notation.specs.declared.SectionLine.TheVariants.{Logged}
use Rattle.sgt_names.specs.declared.entry.Entry.{Entry}
use Rattle.sgt_audit.specs.Faults.{Stage}
use Rattle.sgt_audit.specs.Held.{IsAt}
use Rattle.sgt_audit.specs.declared.machine.Progress.TheVariants.{Reading}
use Rattle.sgt_audit.specs.private.NextLine.{Follows}
use Rattle.sgt_audit.proofs.kept.Kept.next_read.Goals as goal

pub returns-in-Read-clause-follows : goal.returns-in-Read-clause-follows
returns-in-Read-clause-follows c =
    subst (λ (l : SectionLine). IsLine l → (s : Stage) → IsAt c.args.self.now s
    → IfOk c.next_entry.result (Follows s (line_text l) (Reading c.next_entry.new.self))) (sym c.in-Logged.is)
    (subst (λ (e : Entry). IsLine (Logged e) → (s : Stage) → IsAt c.args.self.now s
    → IfOk c.next_entry.result (Follows s (line_text (Logged e)) (Reading c.next_entry.new.self))) (sym c.in-Read.is)
    (λ is. c.next_entry.ensures.follows (is, λ no. absurd (false≢true no))))

pub returns-in-Write-clause-follows : goal.returns-in-Write-clause-follows
returns-in-Write-clause-follows c =
    subst (λ (l : SectionLine). IsLine l → (s : Stage) → IsAt c.args.self.now s
    → IfOk c.next_entry-in-Write.result (Follows s (line_text l) (Reading c.next_entry-in-Write.new.self))) (sym c.in-Logged.is)
    (subst (λ (e : Entry). IsLine (Logged e) → (s : Stage) → IsAt c.args.self.now s
    → IfOk c.next_entry-in-Write.result (Follows s (line_text (Logged e)) (Reading c.next_entry-in-Write.new.self))) (sym c.in-Write.is)
    (λ is. c.next_entry-in-Write.ensures.follows (is, λ no. absurd (false≢true no))))

pub returns-in-Commit-clause-follows : goal.returns-in-Commit-clause-follows
returns-in-Commit-clause-follows c =
    subst (λ (l : SectionLine). IsLine l → (s : Stage) → IsAt c.args.self.now s
    → IfOk c.next_entry-in-Commit.result (Follows s (line_text l) (Reading c.next_entry-in-Commit.new.self))) (sym c.in-Logged.is)
    (subst (λ (e : Entry). IsLine (Logged e) → (s : Stage) → IsAt c.args.self.now s
    → IfOk c.next_entry-in-Commit.result (Follows s (line_text (Logged e)) (Reading c.next_entry-in-Commit.new.self))) (sym c.in-Commit.is)
    (λ is. c.next_entry-in-Commit.ensures.follows (is, λ no. absurd (false≢true no))))
