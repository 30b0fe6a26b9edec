use Rattle.std.proofs.Common.{◌≡◌, subst, sym, ◌∙◌, Some, None}
use Rattle.std.specs.Prelude.{Option}
use Rattle.sgt_history_faults.specs.declared.mine.Owned.TheVariants.{Not, Follows, Contradicts}
use Rattle.sgt_history_faults.specs.Touch.{TellsContradiction}
use Rattle.sgt_history_faults.proofs.Taken.{still-none}
use Rattle.sgt_history_faults.proofs.touching.first_contradicted.Goals as goal

pub returns-in-Not : goal.returns-in-Not
returns-in-Not c = λ done o at is none.
    still-none done c.args.place o c.args.owned (λ e. let f = sym c.in-Not.is ∙ e in cc) at is
    (subst (TellsContradiction done c.args.place) c.in-None.is none)

pub returns-in-Follows : goal.returns-in-Follows
returns-in-Follows c = λ done o at is none.
    still-none done c.args.place o c.args.owned (λ e. let f = sym c.in-Follows.is ∙ e in cc) at is
    (subst (TellsContradiction done c.args.place) c.in-None.is none)
