use Rattle.std.proofs.lemmas.Bool.{false≢true}
use Rattle.sgt_certify_greedy.proofs.greedy.is_unpreceded.Goals as goal

pub returns-in-Some : goal.returns-in-Some
returns-in-Some c = (
  λ h. absurd (false≢true h),
  λ none. absurd (none c.in-Some._before c.in-Some.ensures.some.0 c.in-Some.ensures.some.1),
)
