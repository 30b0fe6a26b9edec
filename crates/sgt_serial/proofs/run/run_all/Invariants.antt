use Rattle.std.proofs.Common.{◌≡◌, ℕ, map, take}
use Rattle.sgt_names.specs.Name.{Name}
use Rattle.sgt_serial.specs.Difference.{AllRunOn, store_after_all}
use Rattle.sgt_serial.specs.Report.{run_of}
use Rattle.sgt_serial.specs.private.Values.{store_of}
use Rattle.sgt_serial.specs.private.Grouped.{AreOperationsOf}
use Rattle.sgt_serial.proofs.run.run_all.Given as goal

abbrev pub invariant-loop-tx : goal.invariant-loop-tx
invariant-loop-tx l = record {
  operations : AreOperationsOf l.sites l.operations;
  runs : l.runs.items ≡ map (run_of l.sites) (take l.tx-index l.order);
  as_logged : AllRunOn l.sites (take l.tx-index l.order) (store_of l.fn.store);
  after : (s : ℕ) (x : Name)
      → store_of l.store s x ≡ store_after_all l.sites (take l.tx-index l.order) (store_of l.fn.store) s x;
}
