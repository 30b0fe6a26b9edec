use Rattle.std.proofs.Common.{◌≡◌, ◌∙◌, ap, refl, sym, subst, length, List, All}
use Rattle.std.specs.Prelude.{IsTrue, ◌↔◌}
use Rattle.std.specs.Ordering.{nat_cmp}
use Rattle.std.specs.Cmp.Lexicographic.{slice_cmp}
use Rattle.std.proofs.lemmas.List.{length-map}
use Rattle.sgt_names.specs.Name.{Name}
use Rattle.sgt_names.specs.Ordered.{IsRisingBy}
use Rattle.sgt_names.specs.declared.entry.Holding.{Holding}
use Rattle.sgt_certifier.specs.History.{counted}
use Rattle.sgt_certifier.specs.Row.{count_in}
use Rattle.sgt_service_agreement.specs.Agreed.{AgreesOn}
use Rattle.sgt_service_agreement.proofs.Counted.{agree-counted}
use Rattle.sgt_service_agreement.proofs.agreed.agrees.Goals as goal

pub are_counted-requires-clause-items : goal.are_counted-requires-clause-items
are_counted-requires-clause-items c =
    subst (IsRisingBy (λ (h : Holding). h.item) (slice_cmp nat_cmp)) (sym c.items.ensures.items)
    c.items.ensures.site.items.rising

pub are_counted-requires-clause-as_many : goal.are_counted-requires-clause-as_many
are_counted-requires-clause-as_many c =
    ap length c.versions.ensures.versions ∙ length-map c.args.site.now.items _ ∙ sym (ap length c.items.ensures.items)

pub returns-then-are_counted : goal.returns-then-are_counted
returns-then-are_counted c =
    let history = c.args.certifier.now.history in
    let exact : (x : Name) → count_in c.counts_at-counts.result.now x ≡ counted history c.args.site.now.number x =
    λ x. c.counts_at-counts.ensures.counted x ∙ ap (λ n. counted history n x) c.number.ensures.number in
    let told = rw (c.items.ensures.items, c.versions.ensures.versions) at c.if-are_counted.ensures refl in
    (λ yes. agree-counted history c.args.site.now c.counts_at-counts.result.now exact told, λ all. refl)

pub returns : goal.returns
returns c =
    let history = c.args.certifier.now.history in
    let site = c.args.site.now in
    subst (λ (hs : List Holding). IsTrue c.all_agree.result ↔ All (λ h. AgreesOn history site h.item) hs)
    c.items-2.ensures.items
    c.all_agree.ensures
