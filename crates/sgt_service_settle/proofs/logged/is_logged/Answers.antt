use Rattle.std.proofs.Common.{◌∙◌, sym, subst}
use Rattle.std.proofs.lemmas.Bool.{true≢false}
use Rattle.std.proofs.lemmas.Option.{none-some}
use Rattle.sgt_names.specs.Log.{Conflicts}
use Rattle.sgt_service_settle.proofs.Linking.{names_same}
use Rattle.sgt_service_settle.proofs.logged.is_logged.Goals as goal

pub returns-in_default-clause-told : goal.returns-in_default-clause-told
returns-in_default-clause-told c log known are = (
  λ told. absurd (true≢false (sym told)),
  λ k. absurd (none-some k.0 (sym c.in_default.is ∙ (c.tx_under.ensures k.0).1 k.2)),
)

pub returns-in_default-tx_under-clause-told : goal.returns-in_default-tx_under-clause-told
returns-in_default-tx_under-clause-told c log known are = (
  λ told. absurd (true≢false (sym told)),
  λ k. absurd (none-some k.1 (sym c.in_default-tx_under.is ∙ (c.tx_under-2.ensures k.1).1 k.3)),
)

pub returns-clause-told : goal.returns-clause-told
returns-clause-told c log known are =
    let from = (c.tx_under.ensures c.in-Some.from).0 c.in-Some.is in
    let to = (c.tx_under-2.ensures c.in-Some-tx_under.to).0 c.in-Some-tx_under.is in
    let e = c.args.edge.now in
    let told_by = c.is_between.ensures.told log known are in (
      λ told. (c.in-Some.from, c.in-Some-tx_under.to, from, to, told_by.0 told),
      λ k.
          let a = names_same c.args.windows.now e.from k.0 c.in-Some.from k.2 from in
          let b = names_same c.args.windows.now e.to k.1 c.in-Some-tx_under.to k.3 to in
          told_by.1 (subst (λ x. Conflicts log e.label.kind e.label.item x c.in-Some-tx_under.to) a
          (subst (λ x. Conflicts log e.label.kind e.label.item k.0 x) b k.4)),
    )
