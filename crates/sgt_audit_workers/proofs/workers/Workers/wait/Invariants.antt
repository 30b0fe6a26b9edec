use Rattle.std.proofs.Common.{◌≡◌, ◌≤◌, ℕ, List, Option, length}
use Rattle.std.specs.Arc.{arc_value}
use Rattle.sgt_audit_workers.specs.private.Working.{SameWorkers, Works, given}
use Rattle.sgt_audit_workers.proofs.workers.Workers.wait.Given as goal

abbrev pub invariant-judged : goal.invariant-judged
invariant-judged g l = record {
  goes : (told left : Option (List ℕ)) → Works told left l.fn.self → Works told left l.self;
  counted : given l.self ≡ given l.fn.self;
  sites : given l.self ≤ (arc_value l.self.head).certificate.sites;
  fewer : length l.self.running.items ≤ length l.fn.self.running.items;
  same : SameWorkers l.fn.self l.self;
}

abbrev pub decreases-judged : goal.decreases-judged
decreases-judged g l = length l.self.running.items
