use Rattle.std.proofs.Common.{sym, ap, ◌∙◌, length}
use Rattle.std.proofs.lemmas.Bool.{eqb-false}
use Rattle.sgt_notation.proofs.EventParts.{access-not_last, access-not_place, access-not_tx, access-unclosed, access-unopened}
use Rattle.sgt_notation.proofs.reading_events.cut_access.Goals as goal

pub returns-in_err-number : goal.returns-in_err-number
returns-in_err-number c = rw c.from_residual.ensures (access-unopened _ c.in_err-number.ensures.none)

pub returns-in_err-inside : goal.returns-in_err-inside
returns-in_err-inside c =
    rw c.from_residual-in_err-inside.ensures
    (access-unclosed _ _ _ c.in_ok-number.ensures.some c.in_err-inside.ensures.none)

pub returns-then-not-is_empty : goal.returns-then-not-is_empty
returns-then-not-is_empty c =
    access-not_last _ _ _ c.in_ok-number.ensures.some _ _ c.in_ok-inside.ensures.some
    (λ none. eqb-false _ 0 (sym c.is_empty.ensures ∙ c.if-not-is_empty.true) (ap length none))

pub returns-in_err-tx : goal.returns-in_err-tx
returns-in_err-tx c =
    rw c.from_residual-in_err-tx.ensures (access-not_tx _ _ _ c.in_ok-number.ensures.some c.in_err-tx.ensures)

pub returns-in_err-place : goal.returns-in_err-place
returns-in_err-place c =
    rw c.from_residual-in_err-place.ensures
    (access-not_place _ _ _ c.in_ok-number.ensures.some _ _ c.in_ok-inside.ensures.some c.in_err-place.ensures)
