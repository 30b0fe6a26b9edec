use Rattle.std.proofs.Common.{sym, ◌∙◌, subst}
use Rattle.sgt_names.specs.Name.{IsName}
use Rattle.sgt_notation.proofs.Numbers.{not_ok}
use Rattle.sgt_notation.proofs.Unspelled.{sides_of}
use Rattle.sgt_notation.proofs.reading.find_holding.Goals as goal

pub returns-in_err-item : goal.returns-in_err-item
returns-in_err-item c = rw c.from_residual-in_err-item.ensures (λ h is whole.
    let sides = sides_of _ _ _ h c.in_ok-name.ensures.some.0 c.in_ok-name.ensures.some.1 is whole in
    not_ok _ _ c.new.result c.new.ensures (sym c.ok.ensures.value
    ∙ c.in_err-item.was) (subst IsName (sym sides.0) is.0))

pub returns-in_err-value : goal.returns-in_err-value
returns-in_err-value c = rw c.from_residual-in_err-value.ensures (λ h is whole.
    let sides = sides_of _ _ _ h c.in_ok-name.ensures.some.0 c.in_ok-name.ensures.some.1 is whole in
    c.in_err-value.ensures h.value is.1 sides.1)
