use Rattle.sgt_site.specs.declared.cell.Reader.{Reader}
use Rattle.sgt_site.proofs.Inserts.{point-insert}
use Rattle.sgt_site.proofs.cell.add_reader.Goals as goal

pub returns-clause-by_version : goal.returns-clause-by_version
returns-clause-by_version c =
    rw (c.insert.ensures.items, ← c.as_slice.ensures.value)
    (point-insert (λ (r : Reader). r.version) _ c.behind-at.result c.args.reader c.behind-at.ensures.point
    (rw c.as_slice.ensures.value c.requires.sorted))
