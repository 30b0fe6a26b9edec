use Rattle.std.proofs.Common.{◌∙◌, ap, arith, List, ℕ, Option}
use Rattle.std.specs.Prelude.{slice_get}
use Rattle.sgt_history_kept.proofs.Placing.{places-next}
use Rattle.sgt_history_kept.proofs.places.keep.Goals as goal

pub returns-in-None-clause-kept : goal.returns-in-None-clause-kept
returns-in-None-clause-kept c = λ order yes here so.
    let none = rw c.in-None.is at c.place_at.ensures in
    places-next order c.args.places.now.items c.args.line c.args.at (omega (
      arith,
      c.if-line-len.false,
      c.len.ensures,
      c.args.places.now.ok.0,
    ))
    (λ p at. none p (ap (λ (l : List (Option ℕ)). slice_get l c.args.line) c.as_slice.ensures.value ∙ at)) here so
