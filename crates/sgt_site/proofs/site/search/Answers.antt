use Rattle.std.proofs.Common.{◌≡◌, ℕ}
use Rattle.std.specs.Ordering.{nat_cmp}
use Rattle.std.specs.declared.cmp.Ordering.TheVariants.{Less}
use Rattle.std.proofs.lemmas.List.{take_rest}
use Rattle.sgt_site.proofs.Tails.{AllPairs-end, at-end, gap-end}
use Rattle.sgt_site.proofs.site.search.Goals as goal

pub search_all-requires : goal.search_all-requires
search_all-requires c =
    rw (take_rest c.args.ended.now c.near_end-from.result)
    (AllPairs-end (λ (a b : ℕ). nat_cmp a b ≡ Less) _ _ c.requires)

pub returns-in-Ok-clause-found : goal.returns-in-Ok-clause-found
returns-in-Ok-clause-found c =
    at-end _ nat_cmp _ _ _ c.near_end-from.ensures.within _
    (rw (take_rest c.args.ended.now c.near_end-from.result) at c.in-Ok.ensures.found)

pub returns-in-Err-clause-absent : goal.returns-in-Err-clause-absent
returns-in-Err-clause-absent c = gap-end _ _ _ _ _ c.near_end-from.ensures.within _ c.near_end-from.ensures.before
    (rw (take_rest c.args.ended.now c.near_end-from.result) at c.in-Err.ensures.absent)
