use Rattle.std.proofs.Common.{refl, sym, inr, arith, ◌+◌}
use Rattle.std.proofs.lemmas.List.{take_rest}
use Rattle.sgt_edges.proofs.Slices.{first-newer}
use Rattle.sgt_edges.proofs.runs.read_above.Goals as goal

pub returns-in-Some-clause-upto : goal.returns-in-Some-clause-upto
returns-in-Some-clause-upto c =
    let first = rw take_rest at c.in-Some.ensures.value in
    let newer =
    first-newer c.args.readers.now (c.args.version + 1) _ c.requires.by_version
    c.older_readers-older.ensures.within c.older_readers-older.ensures.point _ (sym first) in
    c.requires.reached c.in-Some.r.now newer.0

pub returns-in-Some-clause-read : goal.returns-in-Some-clause-read
returns-in-Some-clause-read c =
    let first = rw take_rest at c.in-Some.ensures.value in
    let newer =
    first-newer c.args.readers.now (c.args.version + 1) _ c.requires.by_version
    c.older_readers-older.ensures.within c.older_readers-older.ensures.point _ (sym first) in
    inr (c.in-Some.r.now, newer.0, refl)

pub returns-in-Some-clause-unread : goal.returns-in-Some-clause-unread
returns-in-Some-clause-unread c = λ r is later below.
    let first = rw take_rest at c.in-Some.ensures.value in
    let newer =
    first-newer c.args.readers.now (c.args.version + 1) _ c.requires.by_version
    c.older_readers-older.ensures.within c.older_readers-older.ensures.point _ (sym first) in
    newer.2 r is (omega (arith, later)) below
