use Rattle.std.proofs.Common.{ℕ}
use Rattle.std.specs.Ordering.{nat_cmp}
use Rattle.std.proofs.lemmas.Cmp.{nat_cmp_total}
use Rattle.sgt_names.proofs.Ranged.{rising-insert}
use Rattle.sgt_names.proofs.Places.{Contains-from_at}
use Rattle.sgt_site.proofs.Found.{has_key}
use Rattle.sgt_site.proofs.Inserts.{Contains-insert}
use Rattle.sgt_site.proofs.site.add_ended.Goals as goal

pub returns-in-Err-clause-rising : goal.returns-in-Err-clause-rising
returns-in-Err-clause-rising c =
    rw c.insert.ensures.items (rising-insert (λ (t : ℕ). t) nat_cmp nat_cmp_total _ _ _
    (rw c.as_slice.ensures.value at c.in-Err.ensures.absent) c.requires.rising)

pub returns-in-Err-clause-each : goal.returns-in-Err-clause-each
returns-in-Err-clause-each c = rw c.insert.ensures.items (λ t. Contains-insert _ _ _ t)

pub returns-in_default-clause-each : goal.returns-in_default-clause-each
returns-in_default-clause-each c =
    let at = has_key (λ (t : ℕ). t) _ _ _ (rw c.as_slice.ensures.value at c.in_default.ensures.found) in
    absurd (c.requires.first (Contains-from_at _ _ _ (rw at.2 at at.1)))
