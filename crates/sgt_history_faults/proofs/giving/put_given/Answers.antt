use Rattle.std.proofs.Common.{◌≡◌, refl}
use Rattle.sgt_history_faults.proofs.GivenNext.{given-more}
use Rattle.sgt_history_faults.proofs.giving.put_given.Goals as goal

pub returns : goal.returns
returns c = λ done before at taken.
    rw c.in_ok-push.ensures.items (given-more c.args.line done c.args.place before c.args.given.now.items _
    (record {
      o = c.args.operation.now;
      line_is = refl;
      there = at;
      item_is = refl;
      version_is = refl;
      value_is = c.in-Some.is;
    }) refl taken)
