use Rattle.std.proofs.Common.{ℕ, List, ◌++◌, map, take}
use Rattle.sgt_service_settle.specs.declared.handed.Handed.{Handed as AHanded}
use Rattle.sgt_service_settle.specs.private.Words.{with_number}
use Rattle.sgt_service_settle.specs.private.Sites.{IsLeastBeyond}
use Rattle.sgt_service_settle.proofs.beyond.beyond_among.Given as goal

abbrev pub invariant-loop-place : goal.invariant-loop-place
invariant-loop-place l = (before : List AHanded) (number : ℕ) → IsLeastBeyond l.sites before l.fn.first
    → IsLeastBeyond l.sites (before ++ map (with_number number) (take l.place l.edges)) l.least
