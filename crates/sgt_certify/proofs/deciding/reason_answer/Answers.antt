use Rattle.std.proofs.Common.{ℕ, List, ◌++◌, refl, ap₂, ◌∙◌}
use Rattle.sgt_certify.proofs.deciding.reason_answer.Goals as goal

pub returns : goal.returns
returns c = (
  refl,
  c.in_ok-text.ensures ∙ ap₂ (λ (h r : List ℕ). h ++ r) c.line_of.ensures (c.as_slice.ensures.value
      ∙ c.in_ok-lines.ensures),
)
