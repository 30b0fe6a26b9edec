use Rattle.std.proofs.Common.{ℕ, ◌<◌, ◌≤◌, List, All, Contains, take}
use Rattle.std.specs.Prelude.{IfSome, IsSomeAnd}
use Rattle.sgt_bundle.specs.declared.certificate.Decision.{Decision}
use Rattle.sgt_explain_decisions.specs.Placed.{ArePlaced}
use Rattle.sgt_explain_decisions.proofs.Besides.{IsBesideSoFar}
use Rattle.sgt_explain_decisions.proofs.ends.first_behind.Given as goal

abbrev pub invariant-loop-logged : goal.invariant-loop-logged
invariant-loop-logged l = (ds : List Decision) → ArePlaced ds l.placed
    → IsBesideSoFar (λ n. l.own < n) (λ m n. n ≤ m) ds l.entries l.logged-index l.found
