use Rattle.std.proofs.Common.{arith}
use Rattle.sgt_names.proofs.Lists.{element_at}
use Rattle.sgt_site.proofs.Touching.{noted-none, noted-next, noted-rise, noted-all, next-room}
use Rattle.sgt_site.proofs.cells.note_all.Goals as goal

pub loop-t-init : goal.loop-t-init
loop-t-init c = record { changed = noted-none _ _ c.requires.once _; versions = c.requires.versions }

pub note_in-requires-clause-rising : goal.note_in-requires-clause-rising
note_in-requires-clause-rising c = noted-rise _ _ c.requires.once _ _ _ c.requires.rising c.loop-t.invariant.changed

pub note_in-requires-clause-room : goal.note_in-requires-clause-room
note_in-requires-clause-room c =
    next-room _ _ c.requires.once _ _ _ _ (element_at _ _ _ c.loop-t-test.true c.t-item.is) c.requires.room
    c.loop-t.invariant.changed

pub loop-t-preserved : goal.loop-t-preserved
loop-t-preserved c = record {
  changed = noted-next _ _ c.requires.once _ _ _ _ _ (element_at _ _ _ c.loop-t-test.true c.t-item.is)
      c.loop-t.invariant.changed c.note_in.ensures.noted;
  versions = c.note_in.ensures.versions;
}

pub note_in-requires-clause-versions : goal.note_in-requires-clause-versions
note_in-requires-clause-versions c = c.loop-t.invariant.versions

pub returns-clause-noted : goal.returns-clause-noted
returns-clause-noted c =
    noted-all _ _ c.requires.once _ _ _ (omega (arith, c.loop-t-test.false)) c.loop-t.invariant.changed

pub returns-clause-versions : goal.returns-clause-versions
returns-clause-versions c = c.loop-t.invariant.versions
