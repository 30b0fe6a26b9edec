-- The sites that an active transaction touches, by its draft, and when it may be committed.
use Rattle.std.proofs.Common.{◌≡◌, ◌≤◌, ◌+◌, ℕ, zero, suc, Bool, true, false, List, [], ◌∷◌, ◌++◌, length, refl, sym, ◌∙◌, arith, inl, inr, Some, None, subst, ap}
use Rattle.std.specs.Prelude.{filter}
use Rattle.std.specs.List.{range_with_len}
use Rattle.std.proofs.lemmas.Bool.{cases_Bool}
use Rattle.std.proofs.lemmas.List.{append-nil, length-map}
use Rattle.std.proofs.lemmas.List.Elements.{filter-append}
use Rattle.sgt_names.specs.Limits.{max_sites}
use Rattle.sgt_names.specs.Draft.{Touches}
use Rattle.sgt_names.specs.declared.draft.Touch.{Touch}
use Rattle.sgt_notation.specs.declared.event.Event.TheVariants.{Commit}
use Rattle.sgt_step.specs.Touched.{is_in, AreSitesOf}
use Rattle.sgt_step.proofs.Listing.{filter_same}
use Rattle.sgt_core_machine.specs.declared.machine.Place.{Place}
use Rattle.sgt_core_model.specs.Core.{CoreState, touches}
use Rattle.sgt_core_model.specs.Step.{IsAllowed}
use Rattle.sgt_core_machine.specs.Machine.{Parts, StandsFor, IsSlotOf}
use Rattle.sgt_core_machine.specs.private.Whole.{AreTouched, IsWhole}
use Rattle.sgt_core_machine.proofs.Standing.{reached_kept, core_closed, certifier_closed}
use Rattle.sgt_core_machine.proofs.Redrafting.{slot_begun, slot_active}
use Rattle.sgt_core_machine.proofs.Touching.{touches_draft, draft_touches, commit_allowed}

-- the sites that are listed by their flags are those that are touched
pub listed_touched : (flags : List Bool) (ts : List Touch) (count : ℕ) (xs : List ℕ) → AreSitesOf flags ts
    → xs ≡ filter (is_in flags) (range_with_len 0 count) → AreTouched ts count xs
listed_touched flags ts count xs of is p each = is ∙ filter_same (is_in flags) p (λ s. (
  λ hit. (each s).1 ((of.touched s).0 hit),
  λ hit. (of.touched s).1 ((each s).0 hit),
)) (range_with_len 0 count)

-- ---- it may be committed

pub few_sites : (m : Parts) (c : CoreState) → StandsFor m c → length m.places ≤ max_sites
few_sites m c s =
    let count : length c.items ≡ length m.places = ap length s.items
    ∙ length-map m.places (λ (p : Place). p.site.items) in
    let few = s.sites.few in
    omega (arith, count, few)

module _ (m : Parts) (c : CoreState) (s : StandsFor m c) (tx slot : ℕ) (h : IsSlotOf m tx slot) (none : m.step ≡ None)
  where
    pub whole_allowed : IsAllowed c (Commit tx)
    whole_allowed = commit_allowed c tx (slot_begun m c tx slot s h) (slot_active m c tx slot s h)
        (core_closed m c s none)

    pub whole_sites : (sites : List ℕ) → AreTouched h.1.0.draft.touched (length m.places) sites → IsWhole c tx sites
    whole_sites sites are =
        let r = s.running slot (Some h.1.0) h.1.1 in
        let k = reached_kept c s.reached in
        let idle : c.certifier.step ≡ Some (suc (m.before + slot))
        → ⊥ = λ e. let f : Some (suc (m.before + slot)) ≡ None = sym e ∙ certifier_closed m c s none in absurd cc in
        let count : length c.items ≡ length m.places = ap length s.items
        ∙ length-map m.places (λ (p : Place). p.site.items) in
        record {
          allowed = whole_allowed;
          all = are (touches c tx) (λ t. (
            λ hit. touches_draft c k m.before slot t h.1.0 r idle (subst (λ i. touches c i t ≡ true) h.0 hit),
            λ any. subst (λ i. touches c i t ≡ true) (sym h.0) (draft_touches c k m.before slot t h.1.0 r any),
          ))
              ∙ ap (λ n. filter (touches c tx) (range_with_len 0 n)) (sym count);
        }
