use Rattle.std.proofs.Common.{◌≤◌}
use Rattle.std.proofs.lemmas.List.{take_rest}
use Rattle.sgt_site.specs.declared.cell.Reader.{Reader}
use Rattle.sgt_site.proofs.Tails.{AllPairs-end, point-end}
use Rattle.sgt_site.proofs.cell.behind.Goals as goal

pub behind_all-requires : goal.behind_all-requires
behind_all-requires c =
    rw (take_rest c.args.readers.now c.near_end-from.result)
    (AllPairs-end (λ (a b : Reader). a.version ≤ b.version) _ _ c.requires)

pub returns-clause-point : goal.returns-clause-point
returns-clause-point c =
    let rest = take_rest c.args.readers.now c.near_end-from.result in
    point-end (λ (r : Reader). r.version) _ _ _ _ c.near_end-from.ensures.within c.near_end-from.ensures.before
    (rw rest at c.behind_all.ensures.point) (rw rest at c.behind_all.ensures.within)
