-- While the places of lines in an order are kept.
use Rattle.std.proofs.Common.{◌≡◌, ℕ, ◌+◌, ◌<◌, ◌≤◌, List, Option, Some, length, set, sym, ap, ◌∙◌, arith, inl, inr}
use Rattle.std.specs.Prelude.{slice_get}
use Rattle.std.proofs.lemmas.Bool.{cases_eq, cases_lt}
use Rattle.std.proofs.lemmas.Option.{same_Some, slice_get_within}
use Rattle.sgt_history_kept.specs.Placed.{AllPlaced, ArePlaces, ArePlacesTo}
use Rattle.sgt_names.proofs.Elements.{get-set_here, get_set_elsewhere}

pub places-next : (order : List ℕ) (places : List (Option ℕ)) (line at : ℕ) → line < length places
    → ((p : ℕ) → slice_get places line ≡ Some (Some p) → ⊥)
    → slice_get order at ≡ Some line → ArePlacesTo order at places
    → ArePlacesTo order (at + 1) (set places line (Some at))
places-next order places line at within none here so = record { there = there; back = back }
  where
    there : (other place : ℕ) → slice_get (set places line (Some at)) other ≡ Some (Some place)
        → (place < at + 1) × (slice_get order place ≡ Some other)
    there other place e = elim (cases_eq other line) [
      | inl same ↦
          let f : slice_get (set places line (Some at)) line ≡ Some (Some place) =
          ap (slice_get (set places line (Some at))) (sym same) ∙ e in
          let place_is : at ≡ place =
          same_Some at place (same_Some (Some at) (Some place) (sym (get-set_here places line (Some at) within)
          ∙ f)) in
          (omega (arith, place_is), ap (slice_get order) (sym place_is) ∙ here ∙ ap Some (sym same))
      | inr apart ↦
          let old = so.there other place (sym (get_set_elsewhere places line other (Some at) apart) ∙ e) in
          (omega (arith, old.0), old.1)
    ]

    back : (other place : ℕ) → place < at + 1 → slice_get order place ≡ Some other
        → slice_get (set places line (Some at)) other ≡ Some (Some place)
    back other place lt e = elim (cases_lt place at) [
      | inl less ↦
          let old = so.back other place less e in
          get_set_elsewhere places line other (Some at) (λ same. none place (ap (slice_get places) (sym same) ∙ old))
          ∙ old
      | inr ge ↦
          let place_is : at ≡ place = omega (arith, lt, ge) in
          let same : line ≡ other = same_Some line other (sym here ∙ ap (slice_get order) place_is ∙ e) in
          ap (slice_get (set places line (Some at))) (sym same) ∙ get-set_here places line (Some at) within
          ∙ ap (λ p. Some (Some p)) place_is
    ]

pub placed-next : (places : List (Option ℕ)) (n p : ℕ)
    → ((line : ℕ) → line < n → (place : ℕ) × (slice_get places line ≡ Some (Some place)))
    → slice_get places n ≡ Some (Some p) → (line : ℕ) → line < n + 1
    → (place : ℕ) × (slice_get places line ≡ Some (Some place))
placed-next places n p so at line lt = elim (cases_lt line n) [
  | inl less ↦ so line less
  | inr ge ↦
      let same : line ≡ n = omega (arith, lt, ge) in
      (p, ap (slice_get places) same ∙ at)
]

pub places-whole : (order : List ℕ) (places : List (Option ℕ)) (lines n : ℕ) → length order ≤ n
    → length places ≡ lines → AllPlaced places → ArePlacesTo order n places
    → ArePlaces order lines places
places-whole order places lines n whole size all so = record {
  size = size;
  all = all;
  there = λ line place at. (so.there line place at).1;
  back = λ line place at. so.back line place (omega (arith, slice_get_within order place line at, whole)) at;
}
