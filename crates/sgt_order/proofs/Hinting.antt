-- Marks of some targets.
use Rattle.std.proofs.Common.{List, Option, inl, inr}
use Rattle.sgt_edges.specs.declared.edge.Edge.{Edge}
use Rattle.sgt_order.specs.private.Search.{MarkedSome}

pub some_none : (P : Edge → Type 0) (a : List (Option Edge)) → MarkedSome P a a
some_none P a = record {
  kept = λ k e h. h;
  fresh = λ k e h. inl h;
}

pub some_on : (P : Edge → Type 0) (a b d : List (Option Edge)) → MarkedSome P a b → MarkedSome P b d → MarkedSome P a d
some_on P a b d first then = record {
  kept = λ k x h. then.kept k x (first.kept k x h);
  fresh = λ k x h.
      elim (then.fresh k x h) [
        | inl had ↦ first.fresh k x had
        | inr new ↦ inr new
      ];
}
