-- Where an item stands, and which acts are on it.
use Rattle.std.proofs.Common.{◌≡◌, ℕ, zero, suc, ◌+◌, ◌-◌, ◌<◌, ◌≤◌, nat_lt, true, false, List, [], ◌∷◌, map, length, take, drop, get_or, Some, refl, sym, ap, ◌∙◌, subst, arith, inl, inr, Contains}
use Rattle.std.specs.Prelude.{◌↔◌, slice_get}
use Rattle.std.specs.Ordering.{nat_cmp}
use Rattle.std.specs.List.Sorted.{IsNonDecreasingBy, IsPartitionPoint}
use Rattle.std.specs.Cmp.Lexicographic.{slice_cmp}
use Rattle.std.specs.Option.{ForSome}
use Rattle.std.specs.declared.cmp.Ordering.TheVariants.{Less, Equal, Greater}
use Rattle.std.proofs.lemmas.Bool.{cases_lt, ltb-true, ltb-false, lt-ltb, le-ltb}
use Rattle.std.proofs.lemmas.Cmp.{nat_list_cmp_total, tied_itself}
use Rattle.std.proofs.lemmas.Option.{same_Some, slice_get_within, slice_get-get_or, get_or_from_slice_get}
use Rattle.sgt_names.specs.Name.{Name}
use Rattle.sgt_names.specs.Log.{names}
use Rattle.sgt_names.specs.Entry.{item_of}
use Rattle.sgt_names.specs.Ordered.{IsRisingBy, IsGapFor}
use Rattle.sgt_names.specs.declared.entry.Entry.{Entry}
use Rattle.sgt_names.specs.declared.entry.Holding.{Holding}
use Rattle.sgt_names.proofs.Lists.{within_at, map_at}
use Rattle.sgt_names.proofs.Places.{All_at, AllPairs_at, Contains_at, Contains-from_at, slice_get-take, slice_get-take_at, slice_get-drop}
use Rattle.sgt_service_settle.specs.private.Words.{IsItemAt}
use Rattle.sgt_service_settle.specs.private.Acts.{AreKnown}

-- ---- where an item stands

pub one_item : (items : List Holding) (x y : Name) (n : ℕ) → IsItemAt items x n → IsItemAt items y n → x ≡ y
one_item items x y n first second = let h = within_at items n first.within in sym (first.is h.0 h.1) ∙ second.is h.0 h.1

not_before : (items : List Holding) (x : Name) (m n : ℕ)
    → IsRisingBy (λ (h : Holding). h.item) (slice_cmp nat_cmp) items
    → IsItemAt items x m → IsItemAt items x n → m < n → ⊥
not_before items x m n rising first second lt =
    let g = within_at items m first.within in
    let h = within_at items n second.within in
    let less = AllPairs_at (λ (a b : Holding). slice_cmp nat_cmp a.item b.item ≡ Less) items m n g.0 h.0 rising lt g.1
    h.1 in
    let before = subst (λ z. slice_cmp nat_cmp g.0.item z ≡ Less) (second.is h.0 h.1) less in
    let same : slice_cmp nat_cmp x x ≡ Less = subst (λ z. slice_cmp nat_cmp z x ≡ Less) (first.is g.0 g.1) before in
    let tied : Less ≡ Equal = sym same ∙ tied_itself nat_list_cmp_total x in
    absurd cc

pub one_place : (items : List Holding) (x : Name) (m n : ℕ)
    → IsRisingBy (λ (h : Holding). h.item) (slice_cmp nat_cmp) items
    → IsItemAt items x m → IsItemAt items x n → m ≡ n
one_place items x m n rising first second =
    elim (cases_lt m n) [
      | inl lt ↦ absurd (not_before items x m n rising first second lt)
      | inr le ↦
          elim (cases_lt n m) [
            | inl lt ↦ absurd (not_before items x n m rising second first lt)
            | inr ge ↦ omega (arith, le, ge)
          ]
    ]

-- an item that was found
pub item_here : (items : List Holding) (x : Name) (at : ℕ) (h : Holding) → slice_get items at ≡ Some h → h.item ≡ x
    → IsItemAt items x at
item_here items x at h here is = record {
  within = slice_get_within items at h here;
  is = λ g there. ap (λ (k : Holding). k.item) (same_Some g h (sym there ∙ here)) ∙ is;
}

pub placed : (items : List Holding) (x : Name) (n at : ℕ)
    → IsRisingBy (λ (h : Holding). h.item) (slice_cmp nat_cmp) items
    → IsItemAt items x n → (Some n ≡ Some at) ↔ IsItemAt items x at
placed items x n at rising found = (
  λ same. subst (IsItemAt items x) (same_Some n at same) found,
  λ item. ap Some (one_place items x n at rising found item),
)

pub not_in_gap : (items : List Holding) (x : Name) (m n : ℕ)
    → IsGapFor (λ (h : Holding). h.item) (slice_cmp nat_cmp) items x n
    → IsItemAt items x m → ⊥
not_in_gap items x m n gap is =
    let h = within_at items m is.within in
    let mine : h.0.item ≡ x = is.is h.0 h.1 in
    let own = tied_itself nat_list_cmp_total x in
    elim (cases_lt m n) [
      | inl lt ↦
          let less : slice_cmp nat_cmp x x ≡ Less =
          subst (λ z. slice_cmp nat_cmp z x ≡ Less) mine (gap.before m h.0 lt h.1) in
          let tied : Less ≡ Equal = sym less ∙ own in
          absurd cc
      | inr le ↦
          let more : slice_cmp nat_cmp x x ≡ Greater =
          subst (λ z. slice_cmp nat_cmp z x ≡ Greater) mine (gap.after m h.0 le h.1) in
          let tied : Greater ≡ Equal = sym more ∙ own in
          absurd cc
    ]

-- the item of an operation is there
pub known_place : (items : List Holding) (log : List Entry) (n : ℕ) (e : Entry) (x : Name) → AreKnown items log
    → slice_get log n ≡ Some e → item_of e ≡ Some x → (at : ℕ) × IsItemAt items x at
known_place items log n e x known here item =
    let among =
    Contains_at (names items) x (All_at (λ f. ForSome (item_of f) (Contains (names items))) log n e known here x
    item) in
    let held = map_at (λ (h : Holding). h.item) items among.0 x among.1 in (
      among.0,
      record {
        within = slice_get_within items among.0 held.0 held.1;
        is = λ h at. ap (λ (g : Holding). g.item) (same_Some h held.0 (sym at ∙ held.1)) ∙ held.2;
      },
    )

-- the elements below a number end at a place where that in front is below it, and that behind is not
pub point_here : {A : Type 0} (n : A → ℕ) (xs : List A) (t at : ℕ) → IsNonDecreasingBy n xs → at ≤ length xs
    → ((a : A) → 0 < at → slice_get xs (at - 1) ≡ Some a → n a < t) → ((a : A) → slice_get xs at ≡ Some a → t ≤ n a)
    → IsPartitionPoint (λ y. nat_lt (n y) t ≡ true) (λ y. nat_lt (n y) t ≡ false) xs at
point_here n xs t at sorted within before after = (
  λ i d low lt.
      let le = sorted i (at - 1) d (omega (arith, lt)) (omega (arith, lt, within)) in
      let less =
      before (get_or xs (at - 1) d) (omega (arith, lt))
      (slice_get-get_or xs (at - 1) d (omega (arith, lt, within))) in
      lt-ltb (n (get_or xs i d)) t (omega (arith, le, less)),
  λ i d low lt.
      let le = sorted at i d low lt in
      let more = after (get_or xs at d) (slice_get-get_or xs at d (omega (arith, low, lt))) in
      le-ltb (n (get_or xs i d)) t (omega (arith, le, more)),
)

-- the elements of one number stand between those below it and those from the next one on
pub of_number-between : {A : Type 0} (n : A → ℕ) (xs : List A) (t from to : ℕ)
    → IsPartitionPoint (λ y. nat_lt (n y) t ≡ true) (λ y. nat_lt (n y) t ≡ false) xs from
    → IsPartitionPoint (λ y. nat_lt (n y) (t + 1) ≡ true) (λ y. nat_lt (n y) (t + 1) ≡ false) (drop from xs) to
    → (a : A) → Contains (take to (drop from xs)) a ↔ (Contains xs a × (n a ≡ t))
of_number-between n xs t from to low high a = (
  λ has.
      let at = Contains_at (take to (drop from xs)) a has in
      let front = slice_get-take (drop from xs) to at.0 a at.1 in
      let here : slice_get xs (from + at.0) ≡ Some a = sym (slice_get-drop xs from at.0) ∙ front.1 in
      let late = low.1 (from + at.0) a (omega arith) (slice_get_within xs (from + at.0) a here) in
      let no_less =
      ltb-false (n a) t (ap (λ z. nat_lt (n z) t) (sym (get_or_from_slice_get xs (from + at.0) a a here)) ∙ late) in
      let early = high.0 at.0 a (omega arith) front.0 in
      let no_more =
      ltb-true (n a) (t + 1)
      (ap (λ z. nat_lt (n z) (t + 1)) (sym (get_or_from_slice_get (drop from xs) at.0 a a front.1)) ∙ early) in
      (Contains-from_at xs (from + at.0) a here, omega (arith, no_less, no_more)),
  λ both.
      let at = Contains_at xs a both.0 in
      let after : from ≤ at.0 = elim (cases_lt at.0 from) [
        | inl lt ↦
            let early = low.0 at.0 a (omega arith) lt in
            let less = ltb-true (n a) t (ap (λ z. nat_lt (n z) t) (sym (get_or_from_slice_get xs at.0 a a at.1))
            ∙ early) in
            let same = both.1 in
            absurd (omega (arith, less, same))
        | inr le ↦ le
      ] in
      let place : from + (at.0 - from) ≡ at.0 = omega (arith, after) in
      let there : slice_get (drop from xs) (at.0 - from) ≡ Some a = slice_get-drop xs from (at.0 - from)
      ∙ (ap (slice_get xs) place ∙ at.1) in
      let before : at.0 - from < to = elim (cases_lt (at.0 - from) to) [
        | inl lt ↦ lt
        | inr le ↦
            let late = high.1 (at.0 - from) a le (slice_get_within (drop from xs) (at.0 - from) a there) in
            let is = get_or_from_slice_get (drop from xs) (at.0 - from) a a there in
            let more = ltb-false (n a) (t + 1) (ap (λ z. nat_lt (n z) (t + 1)) (sym is) ∙ late) in
            let same = both.1 in
            absurd (omega (arith, more, same))
      ] in
      Contains-from_at (take to (drop from xs)) (at.0 - from) a
      (slice_get-take_at (drop from xs) to (at.0 - from) a before there),
)
