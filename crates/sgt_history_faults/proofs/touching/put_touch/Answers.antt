use Rattle.std.proofs.Common.{◌≡◌, IsTrue, sym, refl, ◌∙◌}
use Rattle.sgt_history_faults.proofs.Taken.{taken-skip, taken-more, to-touch-read}
use Rattle.sgt_history_faults.proofs.touching.put_touch.Goals as goal

pub returns-then-not-is_touched : goal.returns-then-not-is_touched
returns-then-not-is_touched c = λ done before at is taken.
    taken-skip c.args.whose done c.args.place before c.args.touches.now.items c.args.operation.now at
    (λ to. let e = sym c.if-not-is_touched.true
    ∙ (c.is_touched.ensures done c.args.place c.args.operation.now refl is).1 to in cc) taken

pub returns : goal.returns
returns c = λ done before at is taken.
    let to = (c.is_touched.ensures done c.args.place c.args.operation.now refl is).0 c.if-not-is_touched.false in
    rw c.in_ok-push.ensures.items (taken-more c.args.whose done c.args.place before c.args.touches.now.items _
    (record {
      o = c.args.operation.now;
      line_is = refl;
      commits_is = refl;
      there = at;
      item_is = refl;
      version_is = refl;
      kind_is = refl;
      read = λ read. to-touch-read c.args.whose.commits done c.args.place c.args.operation.now read to;
    }) refl taken)
