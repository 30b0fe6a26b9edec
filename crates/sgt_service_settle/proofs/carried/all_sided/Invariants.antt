use Rattle.std.proofs.Common.{◌≡◌, ℕ, ◌<◌, Some}
use Rattle.std.specs.Prelude.{slice_get}
use Rattle.sgt_names.specs.Entry.{tx_of}
use Rattle.sgt_names.specs.declared.entry.Entry.{Entry as AnEntry}
use Rattle.sgt_service_settle.specs.private.Search.{IsMarked}
use Rattle.sgt_service_settle.specs.private.Index.{IsDue, IsSided}
use Rattle.sgt_service_settle.proofs.carried.all_sided.Given as goal

abbrev pub invariant-loop-at : goal.invariant-loop-at
invariant-loop-at l = (q : ℕ) (f : AnEntry) → q < l.at → slice_get l.log q ≡ Some f
    → IsDue l.commits l.entry f l.cut.last
    → IsSided (IsMarked l.backward (tx_of f)) (IsMarked l.forward (tx_of f)) l.cut.item l.place q l.entry f
