use Rattle.std.proofs.Common.{◌≡◌, ◌<◌, ℕ, Some, All, Contains}
use Rattle.std.specs.Prelude.{slice_get}
use Rattle.sgt_names.specs.Entry.{tx_of, IsEnd}
use Rattle.sgt_names.specs.declared.entry.Entry.{Entry}
use Rattle.sgt_certify_logs.specs.Witness.{HasEnd}
use Rattle.sgt_certify_greedy.proofs.sets.add_ended.Given as goal

abbrev pub invariant-loop-entry : goal.invariant-loop-entry
invariant-loop-entry l = record {
  kept : (t : ℕ) → Contains l.initial.txs.items t → Contains l.txs.items t;
  only : All (HasEnd l.sites) l.initial.txs.items → All (HasEnd l.sites) l.txs.items;
  has : (n : ℕ) → n < l.entry-index → (e : Entry) → slice_get l.entries n ≡ Some e → IsEnd e
      → Contains l.txs.items (tx_of e);
}
