use Rattle.std.proofs.Common.{[], refl, arith}
use Rattle.sgt_names.proofs.Lists.{element_at, All-next, All-whole}
use Rattle.sgt_names.proofs.Places.{All-from_at}
use Rattle.sgt_site.specs.private.Cells.{IsThere}
use Rattle.sgt_site.proofs.Touching.{room-none, room-next, room-twice, room-all, there-before}
use Rattle.sgt_site.proofs.cells.prepare_all.Goals as goal

pub loop-t-init : goal.loop-t-init
loop-t-init c = record {
  room = room-none _ _ c.requires;
  there = All-from_at (IsThere c.args.cells.now.items c.args.tx) [] (λ n t at. absurd cc);
}

pub prepare_for-requires : goal.prepare_for-requires
prepare_for-requires c = c.loop-t.invariant.room.rising

pub returns-then-not-prepare_for-clause-same : goal.returns-then-not-prepare_for-clause-same
returns-then-not-prepare_for-clause-same c =
    room-twice _ _ _ _ _ c.loop-t.invariant.room c.if-not-prepare_for.ensures.same

pub loop-t-preserved : goal.loop-t-preserved
loop-t-preserved c = record {
  room = room-next _ _ _ _ _ _ c.loop-t.invariant.room (element_at _ _ _ c.loop-t-test.true c.t-item.is)
      c.if-not-prepare_for.ensures.same (c.if-not-prepare_for.ensures.room refl);
  there = All-next (IsThere c.args.cells.now.items c.args.tx) _ _ _
      (element_at _ _ _ c.loop-t-test.true c.t-item.is)
      (there-before _ _ c.args.tx c.t-item.result c.loop-t.invariant.room.same
      (c.if-not-prepare_for.ensures.there refl))
      c.loop-t.invariant.there;
}

pub returns-clause-same : goal.returns-clause-same
returns-clause-same c = c.loop-t.invariant.room.same

pub returns-clause-there : goal.returns-clause-there
returns-clause-there c =
    λ _. All-whole (IsThere c.args.cells.now.items c.args.tx) _ _ (omega (arith, c.loop-t-test.false))
    c.loop-t.invariant.there

pub returns-clause-room : goal.returns-clause-room
returns-clause-room c = λ _. room-all _ _ _ _ (omega (arith, c.loop-t-test.false)) c.loop-t.invariant.room
