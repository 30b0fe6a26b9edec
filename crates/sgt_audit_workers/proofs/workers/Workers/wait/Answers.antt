use Rattle.std.proofs.Common.{ℕ, ◌+◌, ◌*◌, List, Option, arith, ap, length, refl, subst, sym}
use Rattle.std.specs.Arc.{arc_value}
use Rattle.sgt_audit_workers.specs.Cut.{longest}
use Rattle.sgt_audit_workers.specs.declared.running.Running.{Running}
use Rattle.sgt_audit_workers.specs.private.Running.{AreRunning}
use Rattle.sgt_audit_workers.specs.private.Tallied.{second_size}
use Rattle.sgt_audit_workers.specs.private.Working.{Works}
use Rattle.sgt_audit_workers.proofs.Given.{running-bytes}
use Rattle.sgt_audit_workers.proofs.Taken.{found-on, tallied-on, times}
use Rattle.sgt_audit_workers.proofs.workers.Workers.wait.Goals as goal

pub judged-init : goal.judged-init
judged-init g c = record {
  goes = λ told left works. works;
  counted = refl;
  sites = c.requires.sites;
  fewer = omega arith;
  same = record { head = refl; count = refl; most = refl };
}

pub judged-preserved : goal.judged-preserved
judged-preserved g c =
    let inv = c.judged.invariant in
    let h = arc_value c.judged.self.head in
    let most = c.judged.self.most in
    let some = c.in-Some.ensures.some in
    let took = λ (told left : Option (List ℕ)). λ (now : Works told left c.judged.self).
    let are = subst (λ (rs : List Running). AreRunning h most now.middle c.judged.self.tally.whole rs left) some
    now.running in
    rw c.in-Ok.is at (c.in_ok-job.ensures.takes h are.0 most told now.middle are.1 now.tallied
    (omega (arith, inv.sites, ap length some)) are.2 are.3) in
    let unknown =
    took c.requires.works.0 c.requires.works.1
    (inv.goes c.requires.works.0 c.requires.works.1 c.requires.works.2) in
    record {
      goes = λ told left works.
          let now = inv.goes told left works in
          let are = subst (λ (rs : List Running). AreRunning h most now.middle c.judged.self.tally.whole rs left) some
          now.running in
          let taken = took told left now in
          record {
            middle = are.1;
            tallied = taken.0;
            running = subst (λ (k : ℕ). AreRunning h most are.1 k c.first.new.running.items left) (sym taken.1) are.4;
          };
      counted = omega (arith, unknown.1, ap length some, inv.counted);
      sites = omega (arith, unknown.1, ap length some, inv.sites);
      fewer = omega (arith, ap length some, inv.fewer);
      same = record { head = inv.same.head; count = inv.same.count; most = inv.same.most };
    }

pub returns-in-Err-clause-ends : goal.returns-in-Err-clause-ends
returns-in-Err-clause-ends g c told left works =
    let inv = c.judged.invariant in
    let h = arc_value c.judged.self.head in
    let most = c.judged.self.most in
    let some = c.in-Some.ensures.some in
    let now = inv.goes told left works in
    let are = subst (λ (rs : List Running). AreRunning h most now.middle c.judged.self.tally.whole rs left) some
    now.running in
    let found =
    rw c.in-Err.is at (c.in_ok-job.ensures.takes h are.0 most told now.middle are.1 now.tallied
    (omega (arith, inv.sites, ap length some)) are.2 are.3) in
    let more = running-bytes h most are.1 left (c.judged.self.tally.whole + 1) c.first.new.running.items are.4 in
    found-on (second_size h) (longest most) (length c.first.new.running.items * longest most)
    (length c.args.self.now.running.items * longest most) told are.1 left more.0 c.in-Err.verdict found more.1
    more.2
    (times (length c.first.new.running.items) (length c.args.self.now.running.items) (longest most)
    (omega (arith, ap length some, inv.fewer)))

pub returns-clause-ends : goal.returns-clause-ends
returns-clause-ends g c told left works =
    let now = c.judged.invariant.goes told left works in
    let h = arc_value c.judged.self.head in
    let none = rw c.in_default.is at c.first.ensures.none in
    tallied-on h told now.middle left c.judged.self.tally now.tallied
    (subst (λ (rs : List Running). AreRunning h c.judged.self.most now.middle c.judged.self.tally.whole rs left)
    none now.running)
