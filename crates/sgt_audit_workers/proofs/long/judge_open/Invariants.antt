use Rattle.std.proofs.Common.{◌≡◌, ℕ, List, Option}
use Rattle.sgt_audit_sections.specs.Judged.{IsUnderway}
use Rattle.sgt_audit_workers.specs.Reads.{Reader, reader}
use Rattle.sgt_audit_workers.specs.private.Texts.{IsAsked, IsLeft, IsOpened, IsStateBehind}
use Rattle.sgt_audit_workers.proofs.long.judge_open.Given as goal

abbrev pub invariant-loop-piece : goal.invariant-loop-piece
invariant-loop-piece g l =
    let old = reader (g.R.Source.tells l.fn.source) (g.R.Source.failures l.fn.source) (g.R.Source.asked l.fn.source) in
    let now = reader (g.R.Source.tells l.source) (g.R.Source.failures l.source) (g.R.Source.asked l.source) in
    record {
      site : l.next.site ≡ l.tally.whole;
      tally : l.tally ≡ l.fn.tally;
      read : List ℕ;
      under : IsUnderway l.fn.head.second l.fn.head.certificate l.next.site read l.opened.bytes.items l.next.line
          l.alone;
      rest : (first : Reader) (left : Option (List ℕ)) → IsLeft first l.fn.text old left
          → IsOpened first left read l.opened.bytes.items l.opened.stop l.text now;
      behind : IsStateBehind l.opened.stop l.text.state;
      asked : (first : Reader) (left : Option (List ℕ)) → IsLeft first l.fn.text old left
          → IsAsked first l.fn.text old → IsAsked first l.text now;
      most : l.text.most ≡ l.fn.text.most;
    }
