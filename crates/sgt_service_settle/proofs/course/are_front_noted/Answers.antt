use Rattle.sgt_service_settle.specs.private.Course.{IsNoted}
use Rattle.sgt_service_settle.proofs.Coursing.{all_between}
use Rattle.sgt_service_settle.proofs.course.are_front_noted.Goals as goal

pub returns : goal.returns
returns c = λ yes.
    let marks = c.args.marks.now in
    let first = c.front_of-first.result in
    let all = rw c.as_slice.ensures.value at (rw c.deref.ensures.value at (c.are_noted.ensures.0 yes)) in
    record {
      first = first;
      turn = c.front_of-first.ensures.turn;
      noted = λ v d low high at. all_between (IsNoted marks.from.items marks.step c.args.tx)
          c.args.course.now.changes.items first c.args.version v d all low high at;
    }
