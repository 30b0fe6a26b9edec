use Rattle.std.proofs.Common.{◌≡◌, ℕ, List, Option}
use Rattle.sgt_audit_workers.specs.Reads.{Reader, reader}
use Rattle.sgt_audit_workers.specs.private.Texts.{HasRead, IsAsked}
use Rattle.sgt_audit_workers.specs.private.Working.{IsWithin, SameWorkers, Works, given}
use Rattle.sgt_audit_workers.proofs.engine.judge_each.Given as goal

abbrev pub invariant-loop-site : goal.invariant-loop-site
invariant-loop-site g l =
    let old = reader (g.R.Source.tells l.fn.source) (g.R.Source.failures l.fn.source) (g.R.Source.asked l.fn.source) in
    let now = reader (g.R.Source.tells l.source) (g.R.Source.failures l.source) (g.R.Source.asked l.source) in
    record {
      goes : (first : Reader) (left : Option (List ℕ)) → Works first.told left l.fn.workers
          → HasRead first left l.initial.ahead.items l.fn.text old → IsAsked first l.fn.text old
          → (from : Option (List ℕ)) × Works first.told from l.workers × HasRead first from l.ahead.items l.text now
          × IsAsked first l.text now;
      counted : given l.workers ≡ l._site;
      same : SameWorkers l.fn.workers l.workers;
      within : IsWithin l.workers l.ahead.items l.text;
      most : l.text.most ≡ l.fn.text.most;
    }
