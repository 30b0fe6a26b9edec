use Rattle.std.proofs.Common.{IfOk, sym, subst}
use Rattle.std.proofs.lemmas.Bool.{false≢true}
use Rattle.sgt_names.specs.declared.entry.Entry.{Entry}
use Rattle.sgt_notation.specs.Spelling.{IsLine, line_text}
use Rattle.sgt_notation.specs.declared.SectionLine.{SectionLine}
use Rattle.sgt_notation.specs.declared.SectionLine.TheVariants.{Logged}
use Rattle.sgt_audit.specs.Alone.{FollowsAlone, StandsAlone}
use Rattle.sgt_audit.specs.Reading.{Begun}
use Rattle.sgt_audit.proofs.alone.Alone.next_read.Goals as goal

pub returns-in-Read-clause-follows : goal.returns-in-Read-clause-follows
returns-in-Read-clause-follows c =
    subst (λ (l : SectionLine). IsLine l → (b : Begun) → StandsAlone c.args.certificate.now b c.args.self.now
    → IfOk c.follow_entry.result (FollowsAlone c.args.certificate.now c.args.edges.now b (line_text l)
    c.follow_entry.new.self)) (sym c.in-Logged.is)
    (subst (λ (e : Entry). IsLine (Logged e) → (b : Begun) → StandsAlone c.args.certificate.now b c.args.self.now
    → IfOk c.follow_entry.result (FollowsAlone c.args.certificate.now c.args.edges.now b (line_text (Logged e))
    c.follow_entry.new.self)) (sym c.in-Read.is)
    (λ is b s. c.follow_entry.ensures.follows (is, λ no. absurd (false≢true no)) c.args.edges.now b s))

pub returns-in-Write-clause-follows : goal.returns-in-Write-clause-follows
returns-in-Write-clause-follows c =
    subst (λ (l : SectionLine). IsLine l → (b : Begun) → StandsAlone c.args.certificate.now b c.args.self.now
    → IfOk c.follow_entry-in-Write.result (FollowsAlone c.args.certificate.now c.args.edges.now b (line_text l)
    c.follow_entry-in-Write.new.self)) (sym c.in-Logged.is)
    (subst (λ (e : Entry). IsLine (Logged e) → (b : Begun) → StandsAlone c.args.certificate.now b c.args.self.now
    → IfOk c.follow_entry-in-Write.result (FollowsAlone c.args.certificate.now c.args.edges.now b (line_text (Logged e))
    c.follow_entry-in-Write.new.self)) (sym c.in-Write.is)
    (λ is b s. c.follow_entry-in-Write.ensures.follows (is, λ no. absurd (false≢true no)) c.args.edges.now b s))

pub returns-in-Commit-clause-follows : goal.returns-in-Commit-clause-follows
returns-in-Commit-clause-follows c =
    subst (λ (l : SectionLine). IsLine l → (b : Begun) → StandsAlone c.args.certificate.now b c.args.self.now
    → IfOk c.follow_entry-in-Commit.result (FollowsAlone c.args.certificate.now c.args.edges.now b (line_text l)
    c.follow_entry-in-Commit.new.self)) (sym c.in-Logged.is)
    (subst (λ (e : Entry). IsLine (Logged e) → (b : Begun) → StandsAlone c.args.certificate.now b c.args.self.now
    → IfOk c.follow_entry-in-Commit.result (FollowsAlone c.args.certificate.now c.args.edges.now b (line_text (Logged e))
    c.follow_entry-in-Commit.new.self)) (sym c.in-Commit.is)
    (λ is b s. c.follow_entry-in-Commit.ensures.follows (is, λ no. absurd (false≢true no)) c.args.edges.now b s))
