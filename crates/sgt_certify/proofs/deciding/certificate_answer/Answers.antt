use Rattle.std.proofs.Common.{refl, ◌∙◌}
use Rattle.sgt_certify.proofs.Decided.{certified-by}
use Rattle.sgt_certify.proofs.deciding.certificate_answer.Goals as goal

pub returns : goal.returns
returns c = (
  refl,
  certified-by _ _ _ _ c.requires c.in_ok-line.ensures.in_range (c.as_slice.ensures.value ∙ c.in_ok-line.ensures.text)
      (rw c.in-Some.is at c.in_ok-found.ensures.made),
)
