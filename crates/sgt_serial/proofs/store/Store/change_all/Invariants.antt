use Rattle.std.proofs.Common.{◌≡◌, ℕ, All, take}
use Rattle.sgt_names.specs.Name.{Name}
use Rattle.sgt_serial.specs.Difference.{Knows}
use Rattle.sgt_serial.specs.private.Values.{store_of, with_all}
use Rattle.sgt_serial.proofs.store.Store.change_all.Given as goal

abbrev pub invariant-loop-write : goal.invariant-loop-write
invariant-loop-write l = record {
  known : All (Knows (store_of l.fn.self)) (take l.write-index l.writes);
  after : (s : ℕ) (x : Name) → store_of l.self s x ≡ with_all (take l.write-index l.writes) (store_of l.fn.self) s x;
}
