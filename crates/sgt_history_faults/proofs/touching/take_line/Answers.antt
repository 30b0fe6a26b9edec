use Rattle.std.proofs.Common.{◌≡◌, ◌+◌, refl, arith, subst, length, None}
use Rattle.sgt_history.specs.declared.history.Kind.TheVariants.{Read}
use Rattle.sgt_history_faults.specs.Mine.{AreMine}
use Rattle.sgt_history_faults.specs.Touch.{TellsContradiction}
use Rattle.sgt_history_faults.proofs.Taken.{none-yet, no_touches, stamped-more, step}
use Rattle.sgt_history_faults.proofs.touching.take_line.Goals as goal

pub loop-place-init : goal.loop-place-init
loop-place-init c = record {
  size = refl;
  mine = none-yet c.args.whose.line c.args.operations.now c.args.mine.now c.requires.stamped;
  stamped = stamped-more c.args.whose.line c.args.mine.now c.requires.stamped;
  touches = no_touches c.args.whose c.args.operations.now c.args.touches.now.items;
  contradiction = λ place lt. absurd (omega arith);
}

pub loop-place-preserved : goal.loop-place-preserved
loop-place-preserved c =
    let s = step (c.args.whose.line + 1) c.args.operations.now c.loop-place.place (length c.args.mine.now)
    c.loop-place.mine
    (record { version = 0; item = 0; kind = Read; value = None }) (record { last = 0; greatest = 0; stamp = 0 })
    c.take_up-owned.new.self c.take_up-owned.result c.loop-place-test.true c.loop-place.invariant.size c.requires.items
    c.loop-place.invariant.mine c.loop-place.invariant.stamped c.take_up-owned.ensures.stamp
    c.take_up-owned.ensures.owned in
    record {
      size = s.size_is;
      mine = s.mine_is;
      stamped = s.stamped;
      touches =
          c.in_ok-put_touch.ensures c.args.operations.now c.args.touches.now.items s.at s.owned_is
          c.loop-place.invariant.touches;
      contradiction =
          c.first_contradicted-contradicted.ensures c.args.operations.now _ s.at s.owned_is
          c.loop-place.invariant.contradiction;
    }

pub returns-clause-mine : goal.returns-clause-mine
returns-clause-mine c =
    let end : c.loop-place.place ≡ length c.args.operations.now = omega arith in
    subst (λ n. AreMine (c.args.whose.line + 1) c.args.operations.now n c.loop-place.mine) end
    c.loop-place.invariant.mine

pub returns-clause-contradiction : goal.returns-clause-contradiction
returns-clause-contradiction c =
    let end : c.loop-place.place ≡ length c.args.operations.now = omega arith in
    subst (λ n. TellsContradiction c.args.operations.now n c.loop-place.contradicted) end
    c.loop-place.invariant.contradiction
