use Rattle.std.proofs.Common.{refl, sym, subst, inl, inr}
use Rattle.sgt_order.specs.private.Search.{IsMarked}
use Rattle.sgt_order.proofs.search.mark_hinted.Goals as goal

pub returns-then-edge-marks-clause-met : goal.returns-then-edge-marks-clause-met
returns-then-edge-marks-clause-met c i has =
    elim (c.set.ensures.none i has) [
      | inl old ↦ let m = c.requires.met i old in (m.0, c.mark.ensures.kept i m.0 m.1)
      | inr same ↦ subst (IsMarked c.mark.new.marks) (sym same) (c.mark.ensures.done c.in-Some.edge.now refl)
    ]
