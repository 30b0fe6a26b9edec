use Rattle.std.proofs.Common.{◌≡◌, ◌∙◌, Some, refl, sym, ap, subst}
use Rattle.std.proofs.lemmas.Option.{same_Some, none-some}
use Rattle.sgt_names.specs.Entry.{tx_of, item_of}
use Rattle.sgt_service_settle.specs.declared.link.Cut.{Cut as ACut}
use Rattle.sgt_service_settle.specs.private.Index.{IsIn}
use Rattle.sgt_service_settle.proofs.carried.cut_at.Goals as goal

pub returns-in_default : goal.returns-in_default
returns-in_default c cut =
    (λ e. absurd (none-some cut e), λ k. absurd (none-some cut.item (sym c.in_default.is ∙ (c.item.ensures ∙ k.0))))

pub returns-in_default-number_of : goal.returns-in_default-number_of
returns-in_default-number_of c cut = (
  λ e. absurd (none-some cut e),
  λ k. absurd (none-some cut.last (sym c.in_default-number_of.is
      ∙ (c.number_of.ensures cut.last).1 (subst (λ t. IsIn c.args.commits.now t cut.last) (sym c.tx.ensures) k.1))),
)

pub returns : goal.returns
returns c cut =
    let e = c.args.entry.now in
    let commits = c.args.commits.now in
    let item : item_of e ≡ Some c.in-Some.item = sym c.item.ensures ∙ c.in-Some.is in
    let commit : IsIn commits (tx_of e) c.in-Some-number_of.last =
    subst (λ t. IsIn commits t c.in-Some-number_of.last) c.tx.ensures
    ((c.number_of.ensures c.in-Some-number_of.last).0 c.in-Some-number_of.is) in
    let P : ACut → Type 0 = λ x. (item_of e ≡ Some x.item) × IsIn commits (tx_of e) x.last × (x.site ≡ c.args.site) in (
      λ made. subst P (same_Some _ cut made) (item, commit, refl),
      λ k.
          let x = same_Some c.in-Some.item cut.item (sym item ∙ k.0) in
          let last =
          same_Some c.in-Some-number_of.last cut.last (same_Some (Some c.in-Some-number_of.last) (Some cut.last)
          (sym commit ∙ k.1)) in
          let site = sym k.2 in
          ap Some (λ i. record { site = site i; item = x i; last = last i }),
    )
