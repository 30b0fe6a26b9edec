use Rattle.std.proofs.Common.{All, take}
use Rattle.sgt_site.specs.State.{IsSite}
use Rattle.sgt_service_settle.proofs.check.know_sites.Given as goal

abbrev pub invariant-loop-site : goal.invariant-loop-site
invariant-loop-site l = All IsSite (take l.site-index l.sites)
