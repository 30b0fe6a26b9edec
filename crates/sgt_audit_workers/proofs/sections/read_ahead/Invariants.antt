use Rattle.std.proofs.Common.{◌≡◌, ◌≤◌, ℕ, List, Option, vec_len}
use Rattle.sgt_audit_workers.specs.Cut.{KeepsReady}
use Rattle.sgt_audit_workers.specs.Reads.{Reader, reader}
use Rattle.sgt_audit_workers.specs.private.Texts.{HasRead, IsAsked, IsLeft}
use Rattle.sgt_audit_workers.proofs.sections.read_ahead.Given as goal

abbrev pub invariant-loop-section : goal.invariant-loop-section
invariant-loop-section g l =
    let old = reader (g.R.Source.tells l.fn.source) (g.R.Source.failures l.fn.source) (g.R.Source.asked l.fn.source) in
    let now = reader (g.R.Source.tells l.source) (g.R.Source.failures l.source) (g.R.Source.asked l.source) in
    record {
      read : (first : Reader) (left : Option (List ℕ)) → IsLeft first l.fn.text old left
          → HasRead first left l.ahead.items l.text now;
      asked : (first : Reader) (left : Option (List ℕ)) → IsLeft first l.fn.text old left
          → IsAsked first l.fn.text old → IsAsked first l.text now;
      few : vec_len l.ahead ≤ l._section;
      most : l.text.most ≡ l.fn.text.most;
      ready : KeepsReady l.fn.text.latest.is_drained l.text.latest.is_drained (g.R.Source.asked l.fn.source)
          (g.R.Source.asked l.source);
    }
