use Rattle.std.proofs.Common.{◌≡◌, ℕ, ◌<◌, Some, length}
use Rattle.std.specs.Prelude.{slice_get}
use Rattle.sgt_names.specs.Name.{Name}
use Rattle.sgt_names.specs.Entry.{tx_of, item_of}
use Rattle.sgt_names.specs.declared.entry.Entry.{Entry as AnEntry}
use Rattle.sgt_service_settle.specs.private.Index.{IsIn, IsPlaceCarried}
use Rattle.sgt_service_settle.proofs.carried.are_carried.Given as goal

abbrev pub invariant-loop-place : goal.invariant-loop-place
invariant-loop-place l = record {
  forward : length l.forward.items ≡ l.all;
  backward : length l.backward.items ≡ l.all;
  carried : (p m : ℕ) (e : AnEntry) (x : Name) → p < l.place → slice_get l.log p ≡ Some e → item_of e ≡ Some x
      → IsIn l.index.commits.items (tx_of e) m
      → IsPlaceCarried l.index l.log (record { site = l.site; item = x; last = m }) p e;
}
