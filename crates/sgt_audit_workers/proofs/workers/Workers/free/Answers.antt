use Rattle.std.proofs.Common.{ℕ, ◌+◌, ◌*◌, List, arith, ap, length, subst, sym}
use Rattle.std.specs.Arc.{arc_value}
use Rattle.std.proofs.Math.Nat.{suc-mul}
use Rattle.sgt_audit_workers.specs.Cut.{longest}
use Rattle.sgt_audit_workers.specs.declared.running.Running.{Running}
use Rattle.sgt_audit_workers.specs.private.Running.{AreRunning}
use Rattle.sgt_audit_workers.specs.private.Tallied.{second_size}
use Rattle.sgt_audit_workers.proofs.Given.{running-bytes, some-later}
use Rattle.sgt_audit_workers.proofs.Taken.{found-on}
use Rattle.sgt_audit_workers.proofs.workers.Workers.free.Goals as goal

pub returns-in-Ok-clause-goes : goal.returns-in-Ok-clause-goes
returns-in-Ok-clause-goes g c told left works =
    let h = arc_value c.args.self.now.head in
    let most = c.args.self.now.most in
    let are = subst (λ (rs : List Running). AreRunning h most works.middle c.args.self.now.tally.whole rs left)
    c.in-Some.ensures.some works.running in
    let took =
    rw c.in-Ok.is at (c.in_ok-job.ensures.takes h are.0 most told works.middle are.1 works.tallied
    (omega (arith, c.requires.sites, ap length c.in-Some.ensures.some)) are.2 are.3) in
    record {
      middle = are.1;
      tallied = took.0;
      running = subst (λ (k : ℕ). AreRunning h most are.1 k c.first.new.running.items left) (sym took.1) are.4;
    }

pub returns-in-Err-clause-goes : goal.returns-in-Err-clause-goes
returns-in-Err-clause-goes g c told left works =
    let h = arc_value c.args.self.now.head in
    let most = c.args.self.now.most in
    let are = subst (λ (rs : List Running). AreRunning h most works.middle c.args.self.now.tally.whole rs left)
    c.in-Some.ensures.some works.running in
    let found =
    rw c.in-Err.is at (c.in_ok-job.ensures.takes h are.0 most told works.middle are.1 works.tallied
    (omega (arith, c.requires.sites, ap length c.in-Some.ensures.some)) are.2 are.3) in
    let more = running-bytes h most are.1 left (c.args.self.now.tally.whole + 1) c.first.new.running.items are.4 in
    found-on (second_size h) (longest most) (length c.first.new.running.items * longest most)
    (length c.args.self.now.running.items * longest most) told are.1 left more.0 c.in-Err.verdict found more.1
    more.2
    (omega (
      arith,
      suc-mul (length c.first.new.running.items) (longest most),
      ap (λ (rs : List Running). length rs * longest most) c.in-Some.ensures.some,
    ))

pub returns-in-Ok-clause-idle : goal.returns-in-Ok-clause-idle
returns-in-Ok-clause-idle g c =
    let h = arc_value c.args.self.now.head in
    let most = c.args.self.now.most in
    let told = c.requires.works.0 in
    let left = c.requires.works.1 in
    let works = c.requires.works.2 in
    let are = subst (λ (rs : List Running). AreRunning h most works.middle c.args.self.now.tally.whole rs left)
    c.in-Some.ensures.some works.running in
    let took =
    rw c.in-Ok.is at (c.in_ok-job.ensures.takes h are.0 most told works.middle are.1 works.tallied
    (omega (arith, c.requires.sites, ap length c.in-Some.ensures.some)) are.2 are.3) in
    some-later h c.take.new.tally.whole _ c.in-Ok.job.alone (omega arith) took.2

pub returns-in-Ok-clause-given : goal.returns-in-Ok-clause-given
returns-in-Ok-clause-given g c =
    let h = arc_value c.args.self.now.head in
    let most = c.args.self.now.most in
    let told = c.requires.works.0 in
    let left = c.requires.works.1 in
    let works = c.requires.works.2 in
    let are = subst (λ (rs : List Running). AreRunning h most works.middle c.args.self.now.tally.whole rs left)
    c.in-Some.ensures.some works.running in
    let took =
    rw c.in-Ok.is at (c.in_ok-job.ensures.takes h are.0 most told works.middle are.1 works.tallied
    (omega (arith, c.requires.sites, ap length c.in-Some.ensures.some)) are.2 are.3) in
    omega (arith, took.1, ap length c.in-Some.ensures.some)
