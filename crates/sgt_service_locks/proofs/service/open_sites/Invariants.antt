use Rattle.std.proofs.Common.{◌≡◌, true, take}
use Rattle.sgt_service_locks.specs.Opened.{sites_from}
use Rattle.sgt_service_locks.proofs.Items.{AreOpened}
use Rattle.sgt_service_locks.proofs.service.open_sites.Given as goal

abbrev pub invariant-loop-place : goal.invariant-loop-place
invariant-loop-place l = record {
  sites : l.has_room ≡ true → l.all.items ≡ sites_from 0 (take l.place l.sites);
  items : AreOpened l.sites l.place;
}
