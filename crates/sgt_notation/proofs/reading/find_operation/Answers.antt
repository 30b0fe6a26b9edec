use Rattle.std.proofs.Common.{sym, ◌∙◌, subst}
use Rattle.sgt_names.specs.Name.{IsName}
use Rattle.sgt_names.proofs.Lists.{heads, tails}
use Rattle.sgt_notation.proofs.Numbers.{not_ok}
use Rattle.sgt_notation.proofs.Unspelled.{first_of, never, parts_of, some_byte}
use Rattle.sgt_notation.proofs.reading.find_operation.Goals as goal

pub returns-in_err-name : goal.returns-in_err-name
returns-in_err-name c = rw c.from_residual-in_err-name.ensures (λ o is whole.
    let first = first_of _ _ _ o c.in_ok-tx_text.ensures.some.0 c.in_ok-tx_text.ensures.some.1 is whole in
    never 93 _ o.1 _ c.in_err-name.ensures.none first.1)

pub returns-in_err-equals : goal.returns-in_err-equals
returns-in_err-equals c = rw c.from_residual-in_err-equals.ensures (λ o is whole.
    let parts =
    parts_of _ _ _ _ _ o c.in_ok-tx_text.ensures.some.0 c.in_ok-tx_text.ensures.some.1 c.in_ok-name.ensures.some.0
    c.in_ok-name.ensures.some.1 is whole in
    some_byte _ _ _ c.in_err-equals.ensures.cases parts.2)

pub returns-then-equals-ne61 : goal.returns-then-equals-ne61
returns-then-equals-ne61 c = λ o is whole.
    let parts =
    parts_of _ _ _ _ _ o c.in_ok-tx_text.ensures.some.0 c.in_ok-tx_text.ensures.some.1 c.in_ok-name.ensures.some.0
    c.in_ok-name.ensures.some.1 is whole in
    c.if-equals-ne61.true (heads _ _ _ _ (sym c.in_ok-equals.ensures.cases.0 ∙ parts.2))

pub returns-in_err-tx : goal.returns-in_err-tx
returns-in_err-tx c = rw c.from_residual-in_err-tx.ensures (λ o is whole.
    let parts =
    parts_of _ _ _ _ _ o c.in_ok-tx_text.ensures.some.0 c.in_ok-tx_text.ensures.some.1 c.in_ok-name.ensures.some.0
    c.in_ok-name.ensures.some.1 is whole in
    c.in_err-tx.ensures o.0 is.0 parts.0)

pub returns-in_err-item : goal.returns-in_err-item
returns-in_err-item c = rw c.from_residual-in_err-item.ensures (λ o is whole.
    let parts =
    parts_of _ _ _ _ _ o c.in_ok-tx_text.ensures.some.0 c.in_ok-tx_text.ensures.some.1 c.in_ok-name.ensures.some.0
    c.in_ok-name.ensures.some.1 is whole in
    not_ok _ _ c.new.result c.new.ensures (sym c.ok.ensures.value
    ∙ c.in_err-item.was) (subst IsName (sym parts.1) is.1))

pub returns-in_err-value : goal.returns-in_err-value
returns-in_err-value c = rw c.from_residual-in_err-value.ensures (λ o is whole.
    let parts =
    parts_of _ _ _ _ _ o c.in_ok-tx_text.ensures.some.0 c.in_ok-tx_text.ensures.some.1 c.in_ok-name.ensures.some.0
    c.in_ok-name.ensures.some.1 is whole in
    c.in_err-value.ensures o.2 is.2 (tails _ _ _ _ (sym c.in_ok-equals.ensures.cases.0 ∙ parts.2)))
