use Rattle.std.proofs.Common.{◌≡◌, ◌≤◌, ◌+◌, length, map, take}
use Rattle.std.specs.Prelude.{vec_len, vec_capacity}
use Rattle.sgt_core_machine.specs.declared.machine.Place.{Place}
use Rattle.sgt_core_model.specs.Core.{site_log}
use Rattle.sgt_core_machine.proofs.bundling.logs_of.Given as goal

abbrev pub invariant-loop-place : goal.invariant-loop-place
invariant-loop-place l = record {
  logs : l.logs.items ≡ map (λ (p : Place). site_log p.site.items p.site.entries) (take l.place-index l.places);
  room : vec_len l.logs + length l.places ≤ vec_capacity l.logs + l.place-index;
}
