use Rattle.std.proofs.Common.{refl}
use Rattle.sgt_site.proofs.cell.Cell.answer.Goals as goal

pub returns-clause-ok : goal.returns-clause-ok
returns-clause-ok c =
    rw (← c.self.view_is) record {
      same = refl;
      reads =
          rw (c.version.ensures, ← c.self.view_is) at c.in_ok-add.ensures.ok;
    }
