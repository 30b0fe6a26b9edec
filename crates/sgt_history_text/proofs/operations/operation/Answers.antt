use Rattle.std.proofs.Common.{◌∙◌, ap, sym, arith, Some}
use Rattle.std.proofs.lemmas.Bool.{false≢true}
use Rattle.json.specs.Value.{value_view}
use Rattle.sgt_history.specs.Transaction.{renamed_value}
use Rattle.sgt_history_text.specs.Parsed.{seen}
use Rattle.sgt_history_text.proofs.Parts.{found_operation, must_have}
use Rattle.sgt_history_text.proofs.operations.operation.Goals as goal

pub returns-then-not-may_have : goal.returns-then-not-may_have
returns-then-not-may_have c = λ o is e.
    false≢true (sym c.if-not-may_have.true ∙ c.may_have.ensures.1
    (must_have (value_view c.args.value.now) c.in_ok-kind.kind c.in_ok-version.version o (sym c.in_ok-at.ensures
    ∙ ap Some c.in_ok-kind.ensures)
    (sym c.in_ok-at-2.ensures ∙ ap Some c.in_ok-version.ensures) (omega arith) is e))

pub returns : goal.returns
returns c =
    found_operation (value_view c.args.value.now) (seen c.in_ok-item.item) c.in_ok-kind.kind c.in_ok-version.version
    (renamed_value seen c.in_ok-value.value)
    (sym c.in_ok-at.ensures ∙ ap Some c.in_ok-kind.ensures) (sym c.in_ok-item.ensures) (sym c.in_ok-at-2.ensures
    ∙ ap Some c.in_ok-version.ensures)
    c.in_ok-value.ensures.0 c.in_ok-value.ensures.1 (c.is_key.ensures.0 c.if-not-is_key.false) (omega arith)
    (c.may_have.ensures.0 c.if-not-may_have.false) c.in_ok-value.ensures.2
