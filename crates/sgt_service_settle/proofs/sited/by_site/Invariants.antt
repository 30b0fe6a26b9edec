use Rattle.std.proofs.Common.{◌≡◌, length, take}
use Rattle.sgt_service_settle.specs.Told.{handed_in}
use Rattle.sgt_service_settle.specs.private.Words.{AreBySite}
use Rattle.sgt_service_settle.proofs.sited.by_site.Given as goal

abbrev pub invariant-loop-call : goal.invariant-loop-call
invariant-loop-call l = record {
  long : length l.rows.items ≡ l.sites;
  sited : AreBySite (handed_in (take l.call-index l.history)) l.rows.items;
}
