use Rattle.std.proofs.Common.{length, sym, ap, ◌∙◌, eqb-true}
use Rattle.std.specs.Prelude.{◌==◌}
use Rattle.std.proofs.lemmas.List.{nil_from_length}
use Rattle.sgt_explain_transaction.proofs.dealings.has_none.Goals as goal

pub returns : goal.returns
returns c = (
  (λ yes. sym c.as_slice.ensures.value
      ∙ nil_from_length c.as_slice.result.now (eqb-true (length c.as_slice.result.now) 0 (sym c.is_empty.ensures
      ∙ yes))),
  (λ none. c.is_empty.ensures ∙ ap (λ os. length os == 0) (c.as_slice.ensures.value ∙ none)),
)
