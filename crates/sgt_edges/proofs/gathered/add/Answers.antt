use Rattle.std.proofs.Common.{◌≢◌, refl, rules}
use Rattle.sgt_edges.proofs.Once.{apart-more}
use Rattle.sgt_site.proofs.PendingReads.{ok-then}
use Rattle.sgt_edges.proofs.gathered.add.Goals as goal

pub returns-clause-once : goal.returns-clause-once
returns-clause-once c =
    let far : c.args.from ≢ c.args.to = search rules in
    ok-then c.push.result c.push.ensures.ok
    (λ pushed apart none. rw pushed (apart-more _ _ apart (λ has. none _ has (far, refl))))
