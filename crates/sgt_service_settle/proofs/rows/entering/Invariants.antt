use Rattle.std.proofs.Common.{◌≡◌, length, take}
use Rattle.sgt_service_settle.specs.private.Search.{Hold, LinksBy}
use Rattle.sgt_service_settle.proofs.rows.entering.Given as goal

abbrev pub invariant-loop-link : goal.invariant-loop-link
invariant-loop-link l =
    record {
      long : length l.rows.items ≡ l.all;
      hold : Hold l.rows.items (λ cut a b. LinksBy (take l.link-index l.links) cut b a);
    }
