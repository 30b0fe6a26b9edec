-- The versions of a site beside the counts of its items, one item after another.
use Rattle.std.proofs.Common.{◌≡◌, ◌≢◌, ◌↔◌, ◌<◌, ◌≤◌, ◌+◌, ◌++◌, ◌∷◌, [], ℕ, suc, List, Some, None, length, map, take, refl, sym, ap, ◌∙◌, subst, arith, inl, inr, All}
use Rattle.std.specs.Prelude.{slice_get, option_map}
use Rattle.std.specs.Ordering.{nat_cmp}
use Rattle.std.specs.Cmp.Lexicographic.{slice_cmp}
use Rattle.std.specs.declared.cmp.Ordering.TheVariants.{Less}
use Rattle.std.proofs.lemmas.Bool.{cases_lt}
use Rattle.std.proofs.lemmas.List.{take_all}
use Rattle.std.proofs.lemmas.Option.{same_Some, slice_get_within, slice_get-map}
use Rattle.sgt_names.specs.Name.{Name}
use Rattle.sgt_names.specs.Ordered.{IsRisingBy}
use Rattle.sgt_names.specs.declared.entry.Holding.{Holding}
use Rattle.sgt_names.proofs.Places.{All_at, All-from_at, AllPairs_at, slice_get-take, take-next}
use Rattle.sgt_site.specs.State.{SiteState, version_at}
use Rattle.sgt_certifier.specs.History.{counted}
use Rattle.sgt_certifier.specs.Row.{AreRising, count_in, found_in, or_zero}
use Rattle.sgt_certifier.specs.declared.call.Call.{Call}
use Rattle.sgt_certifier.specs.declared.row.ItemCount.{ItemCount}
use Rattle.sgt_certifier.proofs.CountRows.{before-apart, found-other, found-own, found_nowhere}
use Rattle.sgt_service_agreement.specs.Agreed.{AgreesOn, VersionsAgree}
use Rattle.sgt_service_agreement.specs.private.Counting.{AreCountedTo, Meets}

-- an item before this place is the one that is counted
abbrev pub IsMet : List Holding → ℕ → ItemCount → Type 0
IsMet items n c = (p : ℕ) × (h : Holding) × (p < n) × (slice_get items p ≡ Some h) × (h.item ≡ c.item)

-- so many of the counts were met before this place, and the versions there are what those count
pub record AreMet (counts : List ItemCount) (items : List Holding) (versions : List ℕ) (n met : ℕ) : Type 0 where
  pub within : met ≤ length counts
  pub known : (m : ℕ) (c : ItemCount) → m < met → slice_get counts m ≡ Some c → IsMet items n c
  pub counted : AreCountedTo (take met counts) items versions n

module _ (counts : List ItemCount) (items : List Holding) (versions : List ℕ) (counts_rise : AreRising counts)
    (items_rise : IsRisingBy (λ h. h.item) (slice_cmp nat_cmp) items) where
  pub met-none : AreMet counts items versions 0 0
  met-none = record {
    within = omega arith;
    known = λ m c lt at. absurd (omega (arith, lt));
    counted = λ k h lt at. absurd (omega (arith, lt));
  }

  module _ (n met : ℕ) (h : Holding) (v : ℕ) (at : slice_get items n ≡ Some h) (is : slice_get versions n ≡ Some v)
      (so_far : AreMet counts items versions n met) where
    -- an earlier item is another
    earlier : (k : ℕ) (g : Holding) → k < n → slice_get items k ≡ Some g → g.item ≢ h.item
    earlier k g lt at_g = before-apart g.item h.item
        (AllPairs_at (λ (a b : Holding). slice_cmp nat_cmp a.item b.item ≡ Less) items k n g h items_rise lt at_g at)

    longer : (c : ItemCount) → IsMet items n c → IsMet items (n + 1) c
    longer c m = (m.0, m.1, omega (arith, m.2), m.3, m.4)

    -- one more item, at its place or at an earlier one
    by_place : (cs : List ItemCount) → ((k : ℕ) (g : Holding) → k < n → slice_get items k ≡ Some g
        → count_in cs g.item ≡ count_in (take met counts) g.item)
        → v ≡ count_in cs h.item → AreCountedTo cs items versions (n + 1)
    by_place cs same own k g lt at_g = elim (cases_lt k n) [
      | inl below ↦ so_far.counted k g below at_g ∙ ap Some (sym (same k g below at_g))
      | inr le ↦
          let here : k ≡ n = omega (arith, lt, le) in
          let e : h ≡ g = same_Some h g (sym at ∙ ap (slice_get items) (sym here) ∙ at_g) in
          ap (slice_get versions) here ∙ is ∙ ap Some own ∙ ap (λ (f : Holding). Some (count_in cs f.item)) e
    ]

    -- its version is 0, and none that was met is its count
    passed : v ≡ 0 → AreMet counts items versions (n + 1) met
    passed zero_is = record {
      within = so_far.within;
      known = λ m c lt at_c. longer c (so_far.known m c lt at_c);
      counted = by_place (take met counts) (λ k g lt at_g. refl) (zero_is ∙ sym (ap or_zero none));
    }
      where
        none : found_in (take met counts) h.item ≡ None
        none = found_nowhere (take met counts) h.item (λ m c at_c.
            let there = slice_get-take counts met m c at_c in
            let was = so_far.known m c there.0 there.1 in
            λ same. earlier was.0 was.1 was.2 was.3 (was.4 ∙ same))

    -- it is the next one that is counted
    module _ (next_is : slice_get counts met ≡ Some (record { item = h.item; count = v })) where
      front : take (suc met) counts ≡ take met counts ++ record { item = h.item; count = v } ∷ []
      front = take-next counts met (record { item = h.item; count = v }) next_is

      fresh : found_in (take met counts) h.item ≡ None
      fresh = found_nowhere (take met counts) h.item (λ m c at_c.
          let there = slice_get-take counts met m c at_c in
          before-apart c.item h.item (AllPairs_at (λ (a b : ItemCount). slice_cmp nat_cmp a.item b.item ≡ Less) counts
          m met c
          (record { item = h.item; count = v }) counts_rise there.0 there.1 next_is))

      matched : AreMet counts items versions (n + 1) (suc met)
      matched = record {
        within = let lt = slice_get_within counts met (record { item = h.item; count = v }) next_is in
            omega (arith, lt);
        known = λ m c lt at_c. elim (cases_lt m met) [
          | inl below ↦ longer c (so_far.known m c below at_c)
          | inr le ↦
              let here : m ≡ met = omega (arith, lt, le) in
              let e : record { item = h.item; count = v } ≡ c =
              same_Some (record { item = h.item; count = v }) c (sym next_is ∙ ap (slice_get counts) (sym here)
              ∙ at_c) in
              (n, h, omega arith, at, ap (λ (d : ItemCount). d.item) e)
        ];
        counted = by_place (take (suc met) counts)
            (λ k g lt at_g. ap (λ cs. count_in cs g.item) front
            ∙ ap or_zero (found-other (take met counts) (record { item = h.item; count = v }) g.item
            (λ e. earlier k g lt at_g (sym e))))
            (sym (ap (λ cs. count_in cs h.item) front
            ∙ ap or_zero (found-own (take met counts) (record { item = h.item; count = v }) fresh)));
      }

    pub met-next : (next : ℕ) → Meets counts met h.item v next → AreMet counts items versions (n + 1) next
    met-next next (inl here) = subst (AreMet counts items versions (n + 1)) (sym here.0) (matched here.1)
    met-next next (inr other) = subst (AreMet counts items versions (n + 1)) (sym other.0) (passed other.1)

  -- all were met
  pub met-all : (n met : ℕ) → AreMet counts items versions n met → length counts ≤ met → length items ≤ n
      → AreCountedTo counts items versions (length items)
  met-all n met so_far all end k h lt at =
      so_far.counted k h (omega (arith, lt, end)) at ∙ ap (λ cs. Some (count_in cs h.item)) (take_all met counts all)

-- ---- what it says of the site

module _ (history : List Call) (s : SiteState) (counts : List ItemCount)
    (exact : (x : Name) → count_in counts x ≡ counted history s.number x) where
  pub agree-counted : AreCountedTo counts s.items (map (λ (h : Holding). version_at s.entries h.item) s.items)
      (length s.items) → VersionsAgree history s
  agree-counted each = All-from_at (λ (h : Holding). AgreesOn history s h.item) s.items (λ k h at.
      let there = slice_get-map (λ (h : Holding). version_at s.entries h.item) s.items k
      ∙ ap (option_map (λ (h : Holding). version_at s.entries h.item)) at in
      same_Some (version_at s.entries h.item) (count_in counts h.item) (sym there
      ∙ each k h (slice_get_within s.items k h at) at) ∙ exact h.item)
