use Rattle.std.proofs.Common.{◌≤◌, ◌+◌, length, take, vec_len, vec_capacity}
use Rattle.std.specs.List.{AllZip}
use Rattle.sgt_service.proofs.Bundling.{IsSiteLog}
use Rattle.sgt_service.proofs.settled.logs_of.Given as goal

abbrev pub invariant-loop-site : goal.invariant-loop-site
invariant-loop-site l = record {
  logs : AllZip IsSiteLog (take l.site-index l.sites) l.logs.items;
  room : vec_len l.logs + length l.sites ≤ vec_capacity l.logs + l.site-index;
}
