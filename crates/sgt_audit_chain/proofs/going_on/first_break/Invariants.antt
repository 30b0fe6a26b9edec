use Rattle.std.proofs.Common.{◌≡◌, map, take}
use Rattle.sgt_audit_chain.specs.Break.{site_line}
use Rattle.sgt_audit_chain.specs.Chain.{initial_of}
use Rattle.sgt_audit_chain.specs.Sums.{in_64_bits}
use Rattle.sgt_audit_chain.proofs.going_on.first_break.Given as goal

abbrev pub invariant-loop-site : goal.invariant-loop-site
invariant-loop-site l = (l.line ≡ in_64_bits (site_line l.logs l.site))
    × (take l.site (map initial_of l.logs) ≡ take l.site l.left)
