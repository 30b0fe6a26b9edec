-- The reads of an item in two parts: the list, and the map of those that came behind one of a greater transaction.
use Rattle.std.proofs.Common.{◌≡◌, ℕ, zero, suc, List, [], ◌∷◌, Option, Some, None, Result, Ok, Err, cond, is_ok, refl, sym, ap, ◌∙◌, subst, inl, inr, ◌⊎◌, Contains}
use Rattle.std.specs.Prelude.{slice_get, map, ◌↔◌, ◌==◌, OnOk}
use Rattle.std.specs.BTreeMap.{BTreeMap, Updates, IsOrdered, get}
use Rattle.std.specs.List.{insert}
use Rattle.std.specs.Ordering.{nat_cmp}
use Rattle.std.proofs.lemmas.Bool.{cases_Bool, eqb-true, eqb-false}
use Rattle.std.proofs.lemmas.Cmp.{nat_cmp_total}
use Rattle.std.proofs.lemmas.List.Elements.{Contains-append_cases, Contains-append_left, Contains-append_right}
use Rattle.std.proofs.lemmas.Map.Lookups.{exact_unsigned}
use Rattle.std.proofs.lemmas.Map.Views.{btree_map_get_iff}
use Rattle.std.proofs.lemmas.Option.{same_Some}
use Rattle.sgt_names.proofs.Places.{Contains_at, Contains-from_at}
use Rattle.sgt_names.proofs.Ranged.{rising-insert}
use Rattle.sgt_names.specs.Ordered.{IsGapFor}
use Rattle.sgt_names.specs.declared.draft.Seen.{Seen}
use Rattle.sgt_site.specs.declared.readings.Reading.{Reading}
use Rattle.sgt_site.specs.private.Cells.{IsAnswering, ReadsAlso}
use Rattle.sgt_site.specs.private.Readings.{late_reading, all_readings, AreParted}
use Rattle.sgt_site.proofs.Inserts.{Contains-insert}
use Rattle.sgt_site.proofs.PendingReads.{apart}

-- ---- what stands in the map

read_in : (es : List (ℕ × Seen)) (n : ℕ) (m : Reading) → slice_get es n ≡ Some (m.tx, m.seen)
    → slice_get (map late_reading es) n ≡ Some m
read_in [] n m at = absurd cc
read_in (e ∷ es) zero m at = ap (λ (p : ℕ × Seen). Some (late_reading p)) (same_Some e (m.tx, m.seen) at)
read_in (e ∷ es) (suc n) m at = read_in es n m at

read_from : (es : List (ℕ × Seen)) (n : ℕ) (m : Reading) → slice_get (map late_reading es) n ≡ Some m
    → slice_get es n ≡ Some (m.tx, m.seen)
read_from [] n m at = absurd cc
read_from (e ∷ es) zero m at = ap (λ (r : Reading). Some (r.tx, r.seen)) (same_Some (late_reading e) m at)
read_from (e ∷ es) (suc n) m at = read_from es n m at

late_iff : (late : BTreeMap ℕ Seen) → IsOrdered nat_cmp late → (m : Reading)
    → Contains (map late_reading late.entries) m ↔ (get nat_cmp late m.tx ≡ Some m.seen)
late_iff late ordered m = (
  λ has.
      let at = Contains_at (map late_reading late.entries) m has in
      (btree_map_get_iff nat_cmp_total exact_unsigned late ordered m.tx m.seen).1
      (Contains-from_at late.entries at.0 (m.tx, m.seen) (read_from late.entries at.0 m at.1)),
  λ is.
      let at = Contains_at late.entries (
        m.tx,
        m.seen,
      ) ((btree_map_get_iff nat_cmp_total exact_unsigned late ordered m.tx m.seen).0 is) in
      Contains-from_at (map late_reading late.entries) at.0 m (read_in late.entries at.0 m at.1),
)

-- ---- a transaction's read

module _ (front : List Reading) (late : BTreeMap ℕ Seen) (parted : AreParted front late) (tx : ℕ) where
  -- one that the list has
  pub seen-front : (o : Option Seen) → IsAnswering front tx
      → ((seen : Seen) → (o ≡ Some seen) ↔ Contains front (record { tx = tx; seen = seen }))
      → (seen : Seen) → (o ≡ Some seen) ↔ Contains (all_readings front late) (record { tx = tx; seen = seen })
  seen-front o answering here seen = (
    λ is. Contains-append_left front (map late_reading late.entries) (record { tx = tx; seen = seen })
        ((here seen).0 is),
    λ has. elim (Contains-append_cases front (map late_reading late.entries) (record { tx = tx; seen = seen }) has) [
      | inl before ↦ (here seen).1 before
      | inr behind ↦
          let is = (late_iff late parted.ordered (record { tx = tx; seen = seen })).0 behind in
          let none = parted.apart tx answering in
          let both : None ≡ Some seen = sym none ∙ is in
          absurd cc
    ],
  )

  -- one that it has not
  pub seen-late : (o : Option Seen) → o ≡ get nat_cmp late tx
      → ((seen : Seen) → (None ≡ Some seen) ↔ Contains front (record { tx = tx; seen = seen }))
      → (seen : Seen) → (o ≡ Some seen) ↔ Contains (all_readings front late) (record { tx = tx; seen = seen })
  seen-late o found nowhere seen = (
    λ is. Contains-append_right front (map late_reading late.entries) (record { tx = tx; seen = seen })
        ((late_iff late parted.ordered (record { tx = tx; seen = seen })).1 (sym found ∙ is)),
    λ has. elim (Contains-append_cases front (map late_reading late.entries) (record { tx = tx; seen = seen }) has) [
      | inl before ↦ let none = (nowhere seen).1 before in absurd cc
      | inr behind ↦ found ∙ (late_iff late parted.ordered (record { tx = tx; seen = seen })).0 behind
    ],
  )

  -- a transaction that the list answers has been answered
  pub read-front : IsAnswering front tx → IsAnswering (all_readings front late) tx
  read-front has =
      (has.0, Contains-append_left front (map late_reading late.entries) (record { tx = tx; seen = has.0 }) has.1)

  -- ---- one more

  module _ (seen : Seen) (first : IsAnswering (all_readings front late) tx → ⊥) where
    abbrev made : Reading
    made = record { tx = tx; seen = seen }

    not_front : IsAnswering front tx → ⊥
    not_front has =
        first (
          has.0,
          Contains-append_left front (map late_reading late.entries) (record { tx = tx; seen = has.0 })
              has.1,
        )

    none_late : get nat_cmp late tx ≡ None
    none_late = by_case (get nat_cmp late tx) refl
      where
        by_case : (o : Option Seen) → get nat_cmp late tx ≡ o → get nat_cmp late tx ≡ None
        by_case None is = is
        by_case (Some s) is = absurd (first (
          s,
          Contains-append_right front (map late_reading late.entries) (record { tx = tx; seen = s })
              ((late_iff late parted.ordered (record { tx = tx; seen = s })).1 is),
        ))

    -- at its place in the list
    pub parted-insert : (n : ℕ) → IsGapFor (λ m. m.tx) nat_cmp front tx n → AreParted (insert front n made) late
    parted-insert n gap = record {
      rising = rising-insert (λ (m : Reading). m.tx) nat_cmp nat_cmp_total front n made gap parted.rising;
      ordered = parted.ordered;
      apart = λ t has. elim ((Contains-insert front n made (record { tx = t; seen = has.0 })).0 has.1) [
        | inl is ↦
            let own : t ≡ tx = ap (λ (r : Reading). r.tx) is in
            subst (λ u. get nat_cmp late u ≡ None) (sym own) none_late
        | inr before ↦ parted.apart t (has.0, before)
      ];
    }

    -- which may fail
    pub parted-tried : {A E : Type 0} (r : Result A E) (new : List Reading) (n : ℕ)
        → new ≡ cond (is_ok r) (insert front n made) front
        → IsGapFor (λ m. m.tx) nat_cmp front tx n → AreParted new late
    parted-tried (Ok a) new n is gap = subst (λ xs. AreParted xs late) (sym is) (parted-insert n gap)
    parted-tried (Err e) new n is gap = subst (λ xs. AreParted xs late) (sym is) parted

    pub also-insert : (n : ℕ) → ReadsAlso (all_readings front late) (all_readings (insert front n made) late) made
    also-insert n m = (
      λ has. elim (Contains-append_cases (insert front n made) (map late_reading late.entries) m has) [
        | inl before ↦ elim ((Contains-insert front n made m).0 before) [
          | inl is ↦ inl is
          | inr old ↦ inr (Contains-append_left front (map late_reading late.entries) m old)
        ]
        | inr behind ↦ inr (Contains-append_right front (map late_reading late.entries) m behind)
      ],
      λ which. elim which [
        | inl is ↦ Contains-append_left (insert front n made) (map late_reading late.entries) m
            ((Contains-insert front n made m).1 (inl is))
        | inr has ↦ elim (Contains-append_cases front (map late_reading late.entries) m has) [
          | inl old ↦ Contains-append_left (insert front n made) (map late_reading late.entries) m
              ((Contains-insert front n made m).1 (inr old))
          | inr behind ↦ Contains-append_right (insert front n made) (map late_reading late.entries) m behind
        ]
      ],
    )

    pub also-tried : {A E : Type 0} (r : Result A E) (new : List Reading) (n : ℕ)
        → new ≡ cond (is_ok r) (insert front n made) front
        → OnOk r (ReadsAlso (all_readings front late) (all_readings new late) made)
    also-tried (Ok a) new n is = subst (λ xs. ReadsAlso (all_readings front late) (all_readings xs late) made)
        (sym is) (also-insert n)
    also-tried (Err e) new n is = tt

    -- in the map
    module _ (new : BTreeMap ℕ Seen) (ordered : IsOrdered nat_cmp new)
        (updates : Updates nat_cmp late new tx (Some seen)) where
      other : (t : ℕ) → (t ≡ tx → ⊥) → get nat_cmp new t ≡ get nat_cmp late t
      other t differs = updates.2 t (apart tx t differs)

      pub parted-late : AreParted front new
      parted-late = record {
        rising = parted.rising;
        ordered = ordered;
        apart = λ t has. other t (λ own. not_front (subst (IsAnswering front) own has)) ∙ parted.apart t has;
      }

      now_late : (m : Reading) → Contains (map late_reading new.entries) m
          → (m ≡ made) ⊎ Contains (map late_reading late.entries) m
      now_late m has = elim (cases_Bool (m.tx == tx)) [
        | inl hit ↦
            let own : m.tx ≡ tx = eqb-true m.tx tx hit in
            let now : get nat_cmp new tx ≡ Some m.seen =
            subst (λ t. get nat_cmp new t ≡ Some m.seen) own ((late_iff new ordered m).0 has) in
            let same : m.seen ≡ seen = same_Some m.seen seen (sym now ∙ updates.1) in
            inl (λ i. record { tx = own i; seen = same i })
        | inr miss ↦ inr ((late_iff late parted.ordered m).1 (sym (other m.tx (eqb-false m.tx tx miss))
            ∙ (late_iff new ordered m).0 has))
      ]

      was_late : (m : Reading) → Contains (map late_reading late.entries) m → Contains (map late_reading new.entries) m
      was_late m has =
          let is = (late_iff late parted.ordered m).0 has in
          (late_iff new ordered m).1 (other m.tx (λ own.
          let both : None ≡ Some m.seen = sym none_late ∙ subst (λ t. get nat_cmp late t ≡ Some m.seen) own is in
          absurd cc) ∙ is)

      pub also-late : ReadsAlso (all_readings front late) (all_readings front new) made
      also-late m = (
        λ has. elim (Contains-append_cases front (map late_reading new.entries) m has) [
          | inl before ↦ inr (Contains-append_left front (map late_reading late.entries) m before)
          | inr behind ↦ elim (now_late m behind) [
            | inl is ↦ inl is
            | inr old ↦ inr (Contains-append_right front (map late_reading late.entries) m old)
          ]
        ],
        λ which. elim which [
          | inl is ↦ Contains-append_right front (map late_reading new.entries) m
              (subst (Contains (map late_reading new.entries)) (sym is) ((late_iff new ordered made).1 updates.1))
          | inr has ↦ elim (Contains-append_cases front (map late_reading late.entries) m has) [
            | inl before ↦ Contains-append_left front (map late_reading new.entries) m before
            | inr behind ↦ Contains-append_right front (map late_reading new.entries) m (was_late m behind)
          ]
        ],
      )
