use Rattle.std.proofs.Common.{◌≡◌, take, All}
use Rattle.sgt_certify_stuck.specs.Circles.{IsCircle}
use Rattle.sgt_certify_stuck.specs.declared.stuck.Circle.{Circle}
use Rattle.sgt_certify_stuck.proofs.stuck.has_circle.Given as goal

abbrev pub invariant-loop-circle : goal.invariant-loop-circle
invariant-loop-circle l = All (λ (circle : Circle). (circle.tx ≡ l.tx) × IsCircle l.sites l.committed circle
    → ⊥) (take l.circle-index l.circles)
