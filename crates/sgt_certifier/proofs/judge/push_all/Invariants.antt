use Rattle.std.proofs.Common.{◌≡◌, ◌++◌, map, take, vec_capacity}
use Rattle.sgt_certifier.specs.Kept.{tx_at}
use Rattle.sgt_certifier.proofs.judge.push_all.Given as goal

abbrev pub invariant-loop-handle : goal.invariant-loop-handle
invariant-loop-handle l =
    record {
      items : l.past.items ≡ l.fn.past.items ++ map (tx_at l.before) (take l.handle-index l.order);
      capacity : vec_capacity l.past ≡ vec_capacity l.fn.past;
    }
