use Rattle.std.proofs.Common.{sym, ◌∙◌, inl, inr}
use Rattle.sgt_bundle.proofs.Ranks.{of_rank}
use Rattle.sgt_bundle.proofs.laws.ranks_are_distinct.Goals as goal

pub returns : goal.returns
returns goal_c b valid m n a c rank at_m at_n =
    elim (of_rank b.certificate.decisions rank valid.ranks.apart) [
      | inl none ↦ absurd (none.none m a at_m)
      | inr found ↦ found.1.only m a at_m ∙ sym (found.1.only n c at_n)
    ]
