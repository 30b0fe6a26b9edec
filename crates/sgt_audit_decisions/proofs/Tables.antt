-- A table of decisions that is filled one by one.
use Rattle.std.proofs.Common.{◌≡◌, ◌≢◌, inl, inr, ℕ, ◌+◌, ◌<◌, ◌≤◌, cond, List, [], length, Option, Some, None, BTreeMap, get_or, refl, sym, ap, ap₂, ◌∙◌, arith, All, get_or-set_other, get_or-set_same}
use Rattle.std.specs.Prelude.{◌↔◌, slice_get}
use Rattle.std.specs.Ordering.{nat_cmp, is_eq}
use Rattle.std.specs.BTreeMap.{get}
use Rattle.std.specs.Map.{lookup}
use Rattle.std.proofs.Math.ListN.{set}
use Rattle.std.proofs.lemmas.Bool.{cases_eq, cases_order}
use Rattle.std.proofs.lemmas.List.{get_or_past}
use Rattle.std.proofs.lemmas.Option.{same_Some, slice_get_within}
use Rattle.sgt_names.proofs.Places.{AllPairs_at, AllPairs-from_at}
use Rattle.sgt_bundle.specs.Certificate.{decided_tx, IsDecidedOnce}
use Rattle.sgt_bundle.specs.declared.certificate.Decision.{Decision}
use Rattle.sgt_audit_decisions.specs.Decided.{Decides}
use Rattle.sgt_audit_decisions.specs.private.Table.{IsPlacedOf, ArePlacedOf}
use Rattle.sgt_audit_decisions.specs.private.Outcome.{outcome_of}
use Rattle.sgt_audit_decisions.specs.declared.outcome.Outcome.{Outcome}
use Rattle.sgt_audit_decisions.specs.declared.table.Placed.{Placed}
use Rattle.sgt_names.proofs.Elements.{nat_cmp-same, nat_cmp-other}

-- what stands there is told of the first n decisions
abbrev pub HasFirst : List Decision → ℕ → (ℕ → Option (Placed ℕ)) → Type 0
HasFirst ds n f = (tx : ℕ) (p : Placed ℕ) → (f tx ≡ Some p) ↔ ((p.number < n) × IsPlacedOf ds tx p)

pub none-entered : (ds : List Decision) (f : ℕ → Option (Placed ℕ)) → ((tx : ℕ) → f tx ≡ None) → HasFirst ds 0 f
none-entered ds f none = λ tx p. (
  λ found. let missing : f tx ≡ None = none tx in absurd cc,
  λ (lt, by). absurd (omega arith),
)

-- what is told of the decision of this number
abbrev pub placed : ℕ → Decision → Placed ℕ
placed i d = record { number = i; outcome = outcome_of d }

-- what is told of the decision of this number, if it comes to this
abbrev pub told-as : ℕ → Outcome → Option (Placed ℕ)
told-as i o = Some (record { number = i; outcome = o })

placed-same : (i : ℕ) (d e : Decision) (p : Placed ℕ) → p.number ≡ i → e ≡ d → outcome_of e ≡ p.outcome → placed i d ≡ p
placed-same i d e p number one comes = ap₂ (λ (n : ℕ) (o : Outcome). record { number = n; outcome = o }) (sym number)
    (ap outcome_of (sym one) ∙ comes)

-- one more decision, on a transaction of which nothing was told
pub entered : (ds : List Decision) (i : ℕ) (d : Decision) (f g : ℕ → Option (Placed ℕ)) → slice_get ds i ≡ Some d
    → f (decided_tx d) ≡ None
    → g (decided_tx d) ≡ Some (placed i d) → ((q : ℕ) → decided_tx d ≢ q → g q ≡ f q) → HasFirst ds i f
    → HasFirst ds (i + 1) g
entered ds i d f g at none here others first = λ tx p.
    elim (cases_eq (decided_tx d) tx) [
      | inl same ↦
          let now : g tx ≡ Some (placed i d) = ap g (sym same) ∙ here in (
            λ found.
                let e : placed i d ≡ p = same_Some (placed i d) p (sym now ∙ found) in
                let n : i ≡ p.number = ap (λ (q : Placed ℕ). q.number) e in
                (omega arith, (d, ap (slice_get ds) (sym n) ∙ at, same, ap (λ (q : Placed ℕ). q.outcome) e)),
            λ (lt, by).
                elim (cases_eq p.number i) [
                  | inl e ↦ now
                      ∙ ap Some (placed-same i d by.0 p e (same_Some by.0 d (sym by.1 ∙ ap (slice_get ds) e ∙ at)) by.3)
                  | inr ne ↦
                      let had : f tx ≡ Some p = (first tx p).1 (omega arith, by) in
                      let missing : f tx ≡ None = ap f (sym same) ∙ none in
                      absurd cc
                ],
          )
      | inr apart ↦
          let kept : g tx ≡ f tx = others tx apart in (
            λ found. let had = (first tx p).0 (sym kept ∙ found) in (omega (arith, had.0), had.1),
            λ (lt, by).
                elim (cases_eq p.number i) [
                  | inl e ↦
                      let one : by.0 ≡ d = same_Some by.0 d (sym by.1 ∙ ap (slice_get ds) e ∙ at) in
                      absurd (apart (ap decided_tx (sym one) ∙ by.2))
                  | inr ne ↦ kept ∙ (first tx p).1 (omega arith, by)
                ],
          )
    ]

pub table-once : (ds : List Decision) (f : ℕ → Option (Placed ℕ)) → ArePlacedOf ds f → IsDecidedOnce ds
table-once ds f table = AllPairs-from_at (λ a b. decided_tx a ≢ decided_tx b) ds (λ p q a b lt at_p at_q e.
    let x = (table (decided_tx a) (placed p a)).1 (a, at_p, refl, refl) in
    let y = (table (decided_tx a) (placed q b)).1 (b, at_q, sym e, refl) in
    let same : p ≡ q = ap (λ (r : Placed ℕ). r.number) (same_Some (placed p a) (placed q b) (sym x ∙ y)) in
    omega arith)

-- a decision on a transaction of which something is told is its second
pub decided-twice : (ds : List Decision) (i : ℕ) (p : Placed ℕ) (d : Decision) (f : ℕ → Option (Placed ℕ))
    → slice_get ds i ≡ Some d → f (decided_tx d) ≡ Some p
    → HasFirst ds i f → IsDecidedOnce ds → ⊥
decided-twice ds i p d f at found first once =
    let had = (first (decided_tx d) p).0 found in
    AllPairs_at (λ a b. decided_tx a ≢ decided_tx b) ds p.number i had.1.0 d once had.0 had.1.1 at had.1.2

module _ (ds : List Decision) (n : ℕ) (f : ℕ → Option (Placed ℕ)) (all : length ds ≤ n) (first : HasFirst ds n f) where
  pub whole-table : ArePlacedOf ds f
  whole-table tx p = (
    λ found. ((first tx p).0 found).1,
    λ by. let lt = slice_get_within ds p.number by.0 by.1 in (first tx p).1 (omega (arith, lt), by),
  )

  pub whole-once : IsDecidedOnce ds
  whole-once = table-once ds f whole-table

-- ---- the two forms of a table

module _ {A : Type 0} where
  pub empty-map : (m : BTreeMap ℕ A) → m.entries ≡ [] → (tx : ℕ) → get nat_cmp m tx ≡ None
  empty-map m none tx = ap (λ es. lookup (λ k. is_eq (nat_cmp tx k)) es) none

  module _ (m n : BTreeMap ℕ A) (k : ℕ) (v : A) (updated : (q : ℕ)
      → get nat_cmp n q ≡ cond (is_eq (nat_cmp k q)) (Some v) (get nat_cmp m q)) where
    pub map-here : get nat_cmp n k ≡ Some v
    map-here = updated k ∙ ap (λ b. cond b (Some v) (get nat_cmp m k)) (nat_cmp-same k k refl)

    pub map-others : (q : ℕ) → k ≢ q → get nat_cmp n q ≡ get nat_cmp m q
    map-others q apart = updated q ∙ ap (λ b. cond b (Some v) (get nat_cmp m q)) (nat_cmp-other k q apart)

  pub empty-places : (xs : List (Option A)) → All (λ x. x ≡ None) xs → (tx : ℕ) → get_or xs tx None ≡ None
  empty-places xs none tx =
      elim (cases_order tx (length xs)) [
        | inl last ↦ get_or_past xs tx None (omega arith)
        | inr (inl lt) ↦ none tx None lt
        | inr (inr more) ↦ get_or_past xs tx None (omega arith)
      ]

  pub place-here : (xs : List (Option A)) (k : ℕ) (v : A) → k < length xs → get_or (set xs k (Some v)) k None ≡ Some v
  place-here xs k v lt = get_or-set_same xs k (Some v) None lt

  pub place-others : (xs : List (Option A)) (k : ℕ) (v : A) (q : ℕ) → k ≢ q
      → get_or (set xs k (Some v)) q None ≡ get_or xs q None
  place-others xs k v q apart = get_or-set_other xs k q (Some v) None (λ e. apart (sym e))

-- ---- what is found in a table

module _ (ds : List Decision) (f : ℕ → Option (Placed ℕ)) (table : ArePlacedOf ds f) (tx : ℕ) where
  pub missed : f tx ≡ None → (number : ℕ) → Decides ds number tx → ⊥
  missed none number by = let found = (table tx (placed number by.0)).1 (by.0, by.1, by.2, refl) in absurd cc

  module _ (p : Placed ℕ) (found : Some p ≡ f tx) where
    -- the decision of which it is told
    pub found-decision : IsPlacedOf ds tx p
    found-decision = (table tx p).0 (sym found)

    pub only-there : (k : ℕ) → Decides ds k tx → k ≡ p.number
    only-there k by =
        ap (λ (q : Placed ℕ). q.number)
        (same_Some (placed k by.0) p (sym ((table tx (placed k by.0)).1 (by.0, by.1, by.2, refl)) ∙ sym found))
