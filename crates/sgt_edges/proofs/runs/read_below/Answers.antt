use Rattle.std.proofs.Common.{refl, sym, inr}
use Rattle.sgt_edges.proofs.Slices.{last-older}
use Rattle.sgt_edges.proofs.runs.read_below.Goals as goal

pub returns-in-Some-clause-read : goal.returns-in-Some-clause-read
returns-in-Some-clause-read c =
    let older = last-older c.args.readers.now c.args.version _ c.requires
    c.older_readers-older.ensures.within c.older_readers-older.ensures.point _ (sym c.in-Some.ensures.value) in
    inr (c.in-Some.r.now, older.0, refl)

pub returns-in-Some-clause-unread : goal.returns-in-Some-clause-unread
returns-in-Some-clause-unread c =
    let older = last-older c.args.readers.now c.args.version _ c.requires
    c.older_readers-older.ensures.within c.older_readers-older.ensures.point _ (sym c.in-Some.ensures.value) in
    older.2
