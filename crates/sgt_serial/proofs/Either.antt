-- A serial run agrees with the record or has a first difference.
use Rattle.std.proofs.Common.{◌≡◌, ℕ, suc, List, [], ◌∷◌, take, Option, Some, None, refl, sym, ap, ◌∙◌, inl, inr, ◌⊎◌, All}
use Rattle.std.specs.Prelude.{is_some}
use Rattle.std.proofs.lemmas.Bool.{cases_Bool, cases_eq, false≢true}
use Rattle.std.proofs.lemmas.List.Elements.{All-nil, All-cons}
use Rattle.std.proofs.lemmas.Option.{same_Some, none-some}
use Rattle.sgt_names.specs.Name.{Name}
use Rattle.sgt_bundle.specs.Parts.{Parts}
use Rattle.sgt_bundle.specs.Certificate.{by_rank}
use Rattle.sgt_bundle.specs.Serial.{Store, initial_store, store_after, SerialAgrees}
use Rattle.sgt_bundle.specs.declared.bundle.SiteLog.{SiteLog}
use Rattle.sgt_serial.specs.Difference.{Has, Knows, IsFirstWithout, DiffersIn, AllRunOn, store_after_all, IsFirstDifference}
use Rattle.sgt_serial.specs.Report.{reads_of, writes_of, finals_of}
use Rattle.sgt_serial.proofs.Logged.{runs-on}
use Rattle.sgt_serial.proofs.Differences.{runs-serially}

abbrev IsDecidable : {A : Type 0} → (A → Type 0) → Type 0
IsDecidable {A} P = (x : A) → P x ⊎ (P x → ⊥)

-- all elements have a property, or there is a first without it
all-or-first : {A : Type 0} (P : A → Type 0) → IsDecidable P → (xs : List A)
    → All P xs ⊎ ((x : A) × IsFirstWithout P xs x)
all-or-first P decide [] = inl (All-nil P)
all-or-first P decide (x ∷ xs) =
    elim (decide x) [
      | inl has ↦
          elim (all-or-first P decide xs) [
            | inl all ↦ inl (All-cons P x xs has all)
            | inr first ↦ inr (
              first.0,
              record {
                place = suc first.1.place;
                at = first.1.at;
                before = All-cons P x (take first.1.place xs) has first.1.before;
                without = first.1.without;
              },
            )
          ]
      | inr not ↦ inr (x, record { place = 0; at = refl; before = All-nil P; without = not })
    ]

is-value : (o : Option ℕ) (v : ℕ) → (o ≡ Some v) ⊎ (o ≡ Some v → ⊥)
is-value None v = inr (none-some v)
is-value (Some u) v =
    elim (cases_eq u v) [ inl same ↦ inl (ap Some same) | inr other ↦ inr (λ e. other (same_Some u v e)) ]

has-decidable : (store : Store) → IsDecidable (Has store)
has-decidable store a = is-value (store a.site a.item) a.value

knows-decidable : (store : Store) → IsDecidable (Knows store)
knows-decidable store a = elim (cases_Bool (is_some (store a.site a.item))) [
  | inl there ↦ inl there
  | inr missing ↦ inr (λ e. false≢true (sym missing ∙ e))
]

-- all transactions run as logged, or there is a first that differs
all-or-differs : (sites : List SiteLog) (txs : List ℕ) (store : Store)
    → AllRunOn sites txs store ⊎ ((tx : ℕ) × (s : ℕ) × (x : Name) × DiffersIn sites txs store tx s x)
all-or-differs sites [] store = inl tt
all-or-differs sites (t ∷ txs) store =
    elim (all-or-first (Has store) (has-decidable store) (reads_of sites t)) [
      | inl has ↦
          elim (all-or-first (Knows store) (knows-decidable store) (writes_of sites t)) [
            | inl knows ↦
                elim (all-or-differs sites txs (store_after sites t store)) [
                  | inl all ↦ inl (runs-on sites t store has knows, all)
                  | inr d ↦ inr (d.0, d.1, d.2, (suc d.3.0, d.3.1, (runs-on sites t store has knows, d.3.2), d.3.3))
                ]
            | inr first ↦ inr (t, first.0.site, first.0.item, (0, refl, tt, inr (has, (first.0.change, first.1))))
          ]
      | inr first ↦ inr (t, first.0.site, first.0.item, (0, refl, tt, inl (first.0.value, first.1)))
    ]

pub agrees-or-differs : (b : Parts)
    → SerialAgrees b ⊎ ((tx : Option ℕ) × (s : ℕ) × (x : Name) × IsFirstDifference b tx s x)
agrees-or-differs b =
    let txs = by_rank b.certificate.decisions in
    let store = initial_store b.sites in
    let last = store_after_all b.sites txs store in
    elim (all-or-differs b.sites txs store) [
      | inl all ↦
          elim (all-or-first (Has last) (has-decidable last) (finals_of b.sites)) [
            | inl finals ↦ inl (runs-serially b.sites txs store all finals)
            | inr first ↦ inr (None, first.0.site, first.0.item, (first.0.value, all, first.1))
          ]
      | inr d ↦ inr (Some d.0, d.1, d.2, d.3)
    ]
