use Rattle.std.proofs.Common.{◌∙◌, Some, sym, ap, subst}
use Rattle.std.proofs.lemmas.Option.{same_Some, none-some}
use Rattle.sgt_service_settle.specs.private.Index.{IsIn, IsEnd}
use Rattle.sgt_service_settle.proofs.Linking.{names_same}
use Rattle.sgt_service_settle.proofs.index.end_of.Goals as goal

pub returns-in_default : goal.returns-in_default
returns-in_default c tx =
    (λ e. absurd (none-some tx e), λ k. absurd (none-some tx (sym c.in_default.is ∙ (c.tx_under.ensures tx).1 k.0)))

pub returns-in_default-number_of : goal.returns-in_default-number_of
returns-in_default-number_of c tx =
    let name = (c.tx_under.ensures c.in-Some.tx).0 c.in-Some.is in (
      λ e. absurd (none-some tx e),
      λ k.
          let same = names_same c.args.windows.now c.args.handle tx c.in-Some.tx k.0 name in
          absurd (none-some k.1.0 (sym c.in_default-number_of.is
          ∙ (c.number_of.ensures k.1.0).1 (subst (λ t. IsIn c.args.commits.now t k.1.0) same k.1.1))),
    )

pub returns : goal.returns
returns c tx =
    let name = (c.tx_under.ensures c.in-Some.tx).0 c.in-Some.is in
    let number = c.number.ensures.is in (
      λ e.
          let same = sym number ∙ same_Some c.number.result tx e in
          subst (IsEnd c.args.windows.now c.args.commits.now c.args.handle) same (
            name,
            (_, (c.number_of.ensures _).0 c.in-Some-number_of.is),
          ),
      λ k. ap Some (number ∙ names_same c.args.windows.now c.args.handle c.in-Some.tx tx name k.0),
    )
