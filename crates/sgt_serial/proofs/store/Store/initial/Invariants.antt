use Rattle.std.proofs.Common.{◌≡◌, map, take}
use Rattle.sgt_bundle.specs.declared.bundle.SiteLog.{SiteLog}
use Rattle.sgt_serial.proofs.store.Store.initial.Given as goal

abbrev pub invariant-loop-log : goal.invariant-loop-log
invariant-loop-log l = l.stores.items ≡ map (λ (log : SiteLog). log.items) (take l.log-index l.sites)
