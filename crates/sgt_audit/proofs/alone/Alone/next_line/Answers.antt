use Rattle.std.proofs.Common.{true}
use Rattle.sgt_audit.proofs.Lone.{last-meets, plain-meets}
use Rattle.sgt_audit.proofs.SiteStates.{open-tracked}
use Rattle.sgt_audit.proofs.alone.Alone.next_line.Goals as goal

pub returns-in-Some-clause-follows : goal.returns-in-Some-clause-follows
returns-in-Some-clause-follows c =
    let allowed = c.is_allowed.ensures.0 c.if-not-is_allowed.false in
    rw c.in-Logged.is
    (λ is b s. c.follow_known.ensures.follows (is, allowed) c.args.certificate.now c.args.edges.now b c.in-Some.ensures s)

pub returns-in-None-clause-follows : goal.returns-in-None-clause-follows
returns-in-None-clause-follows c =
    let allowed = c.is_allowed.ensures.0 c.if-not-is_allowed.false in
    rw c.in-Logged.is (λ is b s. c.follow.ensures.follows (is, allowed) c.args.edges.now b s)

pub returns-in-Initial-clause-follows : goal.returns-in-Initial-clause-follows
returns-in-Initial-clause-follows c =
    let edges = c.args.edges.now in
    rw c.in-Initial.is (λ is b s. c.follow_other.ensures.follows is (λ e same. cc) c.args.certificate.now edges b s
    (plain-meets edges b.current _ true (λ same. cc)))

pub returns-in-Final-clause-follows : goal.returns-in-Final-clause-follows
returns-in-Final-clause-follows c =
    let edges = c.args.edges.now in
    rw c.in-Final.is (λ is b s. c.follow_other-in-Final.ensures.follows is (λ e same. cc) c.args.certificate.now edges b
    s (plain-meets edges b.current _ true (λ same. cc)))

pub returns-in-Site-clause-follows : goal.returns-in-Site-clause-follows
returns-in-Site-clause-follows c =
    let edges = c.args.edges.now in
    rw c.in-Site.is (λ is b s. c.follow_other-in-Site.ensures.follows is (λ e same. cc) c.args.certificate.now edges b s
    (plain-meets edges b.current _ true (λ same. cc)))

pub returns-in-End-clause-follows : goal.returns-in-End-clause-follows
returns-in-End-clause-follows c =
    let edges = c.args.edges.now in
    rw c.in-End.is (λ is b s. c.follow_other-in-End.ensures.follows is (λ e same. cc) c.args.certificate.now edges b s
    (last-meets edges b.current c.are_met-met.result
    (λ log open_log. c.are_met-met.ensures log.items log.entries
    (open-tracked c.args.certificate.now.decisions b c.args.self.now.state log open_log s.open_site))))
