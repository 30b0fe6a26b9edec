use Rattle.std.proofs.Common.{◌-◌, length, take, arith}
use Rattle.std.proofs.lemmas.List.{length-take}
use Rattle.sgt_names.proofs.Ranged.{last_inserted, moved_up, put_over}
use Rattle.sgt_names.proofs.touch_list.put_between.Goals as goal

pub loop-place-init : goal.loop-place-init
loop-place-init c = record {
  from = omega (arith, c.requires);
  within = omega (arith, c.requires);
  there = last_inserted c.args.touched.now (length c.args.touched.now - 1) (omega (arith, c.requires));
}

pub loop-place-preserved : goal.loop-place-preserved
loop-place-preserved c =
    let all = c.args.touched.now in
    let l = c.loop-place in
    let front = length-take (length all - 1) all in
    record {
      from = omega (arith, l.invariant.from, c.loop-place-test.true);
      within = omega (arith, l.invariant.within);
      there = (
        c.index-touched-place.result,
        moved_up (take (length all - 1) all) l.touched l.place l.invariant.there.0 c.index-touched-place.result
            l.invariant.there.1 (omega (arith, c.loop-place-test.true))
            (omega (arith, l.invariant.within, front)) c.index-touched-place.is,
      );
    }

pub returns : goal.returns
returns c =
    let all = c.args.touched.now in
    let l = c.loop-place in
    let front = length-take (length all - 1) all in
    put_over (take (length all - 1) all) l.touched l.place c.args.at l.invariant.there.0 c.args.touch.now
    l.invariant.there.1 (omega (arith, l.invariant.from, c.loop-place-test.false)) (omega (arith, c.requires, front))
