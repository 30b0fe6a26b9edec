use Rattle.std.proofs.Common.{◌≡◌, drop}
use Rattle.sgt_names.specs.Draft.{at_site}
use Rattle.sgt_site.proofs.site.blocks.are_same.Given as goal

-- what is left is the same, exactly where the whole is
abbrev pub invariant-loop-t : goal.invariant-loop-t
invariant-loop-t l = (l.rest ≡ at_site l.number (drop l.t-index l.near) → l.part ≡ at_site l.number l.near)
    × (l.part ≡ at_site l.number l.near → l.rest ≡ at_site l.number (drop l.t-index l.near))
