-- What was collected, with the first fault of values.
use Rattle.std.proofs.Common.{◌≡◌, ℕ, ◌<◌, ◌≤◌, List, Option, length, arith}
use Rattle.std.specs.Prelude.{slice_get}
use Rattle.std.proofs.lemmas.Option.{slice_get_within}
use Rattle.sgt_history.specs.Transaction.{Transaction}
use Rattle.sgt_history_faults.specs.declared.fault.Fault.{Fault}
use Rattle.sgt_history_faults.specs.declared.touch.Touch.{Touch}
use Rattle.sgt_history_faults.specs.Collected.{IsCollected}
use Rattle.sgt_history_faults.specs.Noted.{Covers, IsReal}
use Rattle.sgt_history_faults.specs.Judged.{CoversValues, IsReadyFor}

pub ready : (h : List (Transaction ℕ ℕ)) (n items : ℕ) (touches : List Touch) (first values next : Option Fault)
    → length h ≡ n
    → IsCollected h n items touches first → IsReal h values → CoversValues h values
    → ((line rank place : ℕ) → Covers first line rank place → Covers next line rank place)
    → ((line rank place : ℕ) → Covers values line rank place → Covers next line rank place)
    → ((h : List (Transaction ℕ ℕ)) → IsReal h first → IsReal h values → IsReal h next)
    → IsReadyFor h touches next
ready h n items touches first values next size c real covered one other both = record {
  touches_are = record {
    each = c.each;
    all = λ line place t o in_line there to. c.all line place t o (omega (
      arith,
      slice_get_within h line t in_line,
      size,
    )) in_line there to;
  };
  real = both h c.real real;
  values = λ line place t o is v. other line 5 place (covered line place t o is v);
  own = λ line place t o is own.
      one line 0 place (c.covered line place t o (omega (arith, slice_get_within h line t is.committed.0, size)) is
      own);
}
