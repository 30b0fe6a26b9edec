use Rattle.std.proofs.Common.{◌≡◌, map, take}
use Rattle.sgt_service.proofs.begun.first_other.Given as goal

abbrev pub invariant-loop-place : goal.invariant-loop-place
invariant-loop-place l = take l.place (map (λ s. s.items) l.sites) ≡ take l.place l.given
