use Rattle.std.proofs.Common.{sym, ◌∙◌, inl, inr}
use Rattle.std.proofs.lemmas.Bool.{true≢false}
use Rattle.sgt_names.proofs.Parts.{Any-touched}
use Rattle.sgt_core_machine.specs.Gathered.{IsMissedAt}
use Rattle.sgt_core_machine.proofs.gathering.misses_any.Goals as goal

pub returns : goal.returns
returns c =
    let both = Any-touched (IsMissedAt c.args.places.now) c.touched.result.0.now c.touched.result.1.now in
    rw (← c.touched.ensures.all) (
      λ hit. both.0 (inr (c.any_missed.ensures.0 hit)),
      λ any. elim (both.1 any) [
        | inl here ↦ absurd (true≢false (sym (c.are_missed.ensures.1 here) ∙ c.if-are_missed.false))
        | inr there ↦ c.any_missed.ensures.1 there
      ],
    )
