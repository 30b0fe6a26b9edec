use Rattle.sgt_service_settle.specs.private.Course.{IsNoted}
use Rattle.sgt_service_settle.proofs.Coursing.{all_between}
use Rattle.sgt_service_settle.proofs.course.are_back_noted.Goals as goal

pub returns : goal.returns
returns c = λ yes.
    let marks = c.args.marks.now in
    let end = c.back_of-end.result in
    let all = rw c.as_slice.ensures.value at (rw c.deref.ensures.value at (c.are_noted.ensures.0 yes)) in
    record {
      end = end;
      turn = c.back_of-end.ensures.end;
      noted = λ v d low high at. all_between (IsNoted marks.to.items marks.step c.args.tx)
          c.args.course.now.changes.items c.args.version end v d all low high at;
    }
