use Rattle.std.proofs.Common.{sym, ◌∙◌, subst, decimal}
use Rattle.sgt_names.specs.Name.{IsName}
use Rattle.sgt_notation.specs.Spelling.{IsSite}
use Rattle.sgt_notation.proofs.EventParts.{site-plain}
use Rattle.sgt_notation.proofs.Numbers.{not_ok}
use Rattle.sgt_notation.proofs.Pairs.{not_first, not_second, uncut}
use Rattle.sgt_notation.proofs.reading_events.find_place.Goals as goal

pub returns-in_err-number : goal.returns-in_err-number
returns-in_err-number c =
    rw c.from_residual.ensures (uncut IsSite decimal 46 IsName (λ x. x) site-plain _ c.in_err-number.ensures.none)

pub returns-in_err-site : goal.returns-in_err-site
returns-in_err-site c =
    rw c.from_residual-in_err-site.ensures
    (not_first IsSite decimal 46 IsName (λ x. x) site-plain _ _ _ c.in_ok-number.ensures.some c.in_err-site.ensures)

pub returns-in_err-item : goal.returns-in_err-item
returns-in_err-item c =
    rw c.from_residual-in_err-item.ensures
    (not_second IsSite decimal 46 IsName (λ x. x) site-plain _ _ _ c.in_ok-number.ensures.some (λ x is same.
    not_ok _ _ c.new.result c.new.ensures (sym c.ok.ensures.value ∙ c.in_err-item.was) (subst IsName (sym same) is)))
