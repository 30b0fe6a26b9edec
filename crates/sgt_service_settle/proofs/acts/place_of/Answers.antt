use Rattle.std.proofs.Common.{rules, ◌≡◌, Some, sym, ap, ◌∙◌}
use Rattle.std.specs.Ordering.{nat_cmp}
use Rattle.std.specs.Cmp.Lexicographic.{slice_cmp}
use Rattle.std.proofs.lemmas.Cmp.{nat_list_cmp_total}
use Rattle.std.proofs.lemmas.Map.Lookups.{exact_bytes}
use Rattle.std.proofs.lemmas.Fn.{always_returns_same}
use Rattle.std.proofs.lemmas.Option.{same_Some, none-some}
use Rattle.sgt_names.specs.declared.entry.Holding.{Holding}
use Rattle.sgt_names.proofs.Ranged.{searched}
use Rattle.sgt_service_settle.specs.private.Words.{IsItemAt}
use Rattle.sgt_service_settle.proofs.Placing.{one_place, not_in_gap}
use Rattle.sgt_service_settle.proofs.acts.place_of.Goals as goal

pub returns-in-Ok : goal.returns-in-Ok
returns-in-Ok c at =
    let items = c.args.items.now in
    let x = c.args.item in
    let facts = c.in-Ok.ensures in
    let found =
    (searched (λ (h : Holding). h.item) (slice_cmp nat_cmp) nat_list_cmp_total (λ y z e. exact_bytes y z e) items
    x c.requires (Rattle.std.proofs.Common.Ok c.in-Ok.place) facts.bound
    (facts.position (λ h. slice_cmp nat_cmp h.item x)
    (always_returns_same _ _ _ (λ a r g called. (search rules, search rules))))).0 in (
      λ is. let same : c.in-Ok.place ≡ at = same_Some c.in-Ok.place at is in
          Rattle.std.proofs.Common.subst (IsItemAt items x) same found,
      λ item. ap Some (one_place items x c.in-Ok.place at c.requires found item),
    )

pub returns-in-Err : goal.returns-in-Err
returns-in-Err c at =
    let items = c.args.items.now in
    let x = c.args.item in
    let facts = c.in-Err.ensures in
    let gap =
    (searched (λ (h : Holding). h.item) (slice_cmp nat_cmp) nat_list_cmp_total (λ y z e. exact_bytes y z e) items
    x c.requires (Rattle.std.proofs.Common.Err c.in-Err.field-0) facts.bound
    (facts.position (λ h. slice_cmp nat_cmp h.item x)
    (always_returns_same _ _ _ (λ a r g called. (search rules, search rules))))).1 in
    (λ is. absurd (none-some at is), λ item. absurd (not_in_gap items x at c.in-Err.field-0 gap item))
