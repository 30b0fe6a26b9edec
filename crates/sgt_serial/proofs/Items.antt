-- Items by rising name, with their values.
use Rattle.std.proofs.Common.{◌≡◌, ◌≢◌, ℕ, zero, suc, ◌+◌, ◌<◌, false, cond, List, [], ◌∷◌, length, get_or, Some, None, Result, Ok, Err, refl, sym, ap, ◌∙◌, arith, inl, inr}
use Rattle.std.specs.Prelude.{slice_get, MatchOption, slice_set}
use Rattle.std.specs.Option.{option_map}
use Rattle.std.specs.Result.{result_ok}
use Rattle.std.specs.Ordering.{nat_cmp, is_lt, ordering_reverse}
use Rattle.std.specs.Str.{bytes_eq}
use Rattle.std.specs.Cmp.Lexicographic.{slice_cmp}
use Rattle.std.specs.List.Sorted.{IsSearchInRange, IsBinarySearchResult, IsSortedBy}
use Rattle.std.specs.declared.cmp.Ordering.{Ordering}
use Rattle.std.specs.declared.cmp.Ordering.TheVariants.{Less, Equal, Greater}
use Rattle.std.proofs.lemmas.Bool.{cases_Bool, cases_lt}
use Rattle.std.proofs.lemmas.Slice.Eq.{bytes_eq-Decides}
use Rattle.std.proofs.lemmas.Cmp.{nat_list_cmp_total, tied_itself}
use Rattle.std.proofs.lemmas.Map.Lookups.{exact_bytes}
use Rattle.std.proofs.lemmas.List.Sorted.{searchable_from_sorted}
use Rattle.std.proofs.lemmas.Option.{same_Some, slice_get-map, slice_get-get_or, slice_get_within, get_or_from_slice_get}
use Rattle.sgt_names.specs.Name.{Name}
use Rattle.sgt_names.specs.Log.{names, value_in, value_with}
use Rattle.sgt_names.specs.declared.entry.Change.{Change}
use Rattle.sgt_names.specs.declared.entry.Holding.{Holding}
use Rattle.sgt_names.proofs.Places.{AllPairs_at, AllPairs-tail}
use Rattle.sgt_bundle.specs.Parts.{ComesBefore}
use Rattle.sgt_serial.specs.private.Values.{IsRising}
use Rattle.sgt_names.proofs.Elements.{bytes_eq-other}

-- how the bytes of two names compare
abbrev name_cmp : Name → Name → Ordering
name_cmp = slice_cmp nat_cmp

name_at : (hs : List Holding) (i : ℕ) (h : Holding) → slice_get hs i ≡ Some h → slice_get (names hs) i ≡ Some h.item
name_at hs i h at = slice_get-map (λ (g : Holding). g.item) hs i ∙ ap (option_map (λ (g : Holding). g.item)) at

before : (hs : List Holding) → IsRising hs → (i j : ℕ) (g h : Holding) → i < j → slice_get hs i ≡ Some g
    → slice_get hs j ≡ Some h → name_cmp g.item h.item ≡ Less
before hs rising i j g h lt at_i at_j =
    AllPairs_at ComesBefore (names hs) i j g.item h.item rising lt (name_at hs i g at_i) (name_at hs j h at_j)

less-equal : Less ≡ Equal → ⊥
less-equal e = cc

Greater≢Equal : Greater ≡ Equal → ⊥
Greater≢Equal e = cc

-- what comes before a name is another name
apart : (x y : Name) (o : Ordering) → name_cmp x y ≡ o → (o ≡ Equal → ⊥) → x ≢ y
apart x y o e other same = other (sym e ∙ ap (name_cmp x) (sym same) ∙ tied_itself nat_list_cmp_total x)

-- the value at the place of an item
value_in-at : (hs : List Holding) → IsRising hs → (i : ℕ) (h : Holding) → slice_get hs i ≡ Some h
    → value_in hs h.item ≡ Some h.value
value_in-at [] rising i h at = absurd cc
value_in-at (g ∷ hs) rising zero h at =
    let same = same_Some g h at in
    ap (λ b. cond b (Some g.value) (value_in hs h.item))
    ((bytes_eq-Decides g.item h.item).1 (ap (λ (k : Holding). k.item) same))
    ∙ ap (λ (k : Holding). Some k.value) same
value_in-at (g ∷ hs) rising (suc i) h at =
    let other = apart g.item h.item Less (before (g ∷ hs) rising 0 (suc i) g h (omega arith) refl at) less-equal in
    ap (λ b. cond b (Some g.value) (value_in hs h.item)) (bytes_eq-other g.item h.item other)
    ∙ value_in-at hs (AllPairs-tail ComesBefore g.item (names hs) rising) i h at

-- an item that stands nowhere has no value
value_in-none : (hs : List Holding) (x : Name) → ((i : ℕ) (h : Holding) → slice_get hs i ≡ Some h → h.item ≢ x)
    → value_in hs x ≡ None
value_in-none [] x nowhere = refl
value_in-none (g ∷ hs) x nowhere =
    ap (λ b. cond b (Some g.value) (value_in hs x)) (bytes_eq-other g.item x (nowhere 0 g refl))
    ∙ value_in-none hs x (λ i h at. nowhere (suc i) h at)

sorted : (hs : List Holding) → IsRising hs → IsSortedBy (λ (g h : Holding). is_lt (name_cmp g.item h.item)) hs
sorted hs rising k d low within =
    let g = get_or hs k d in
    let h = get_or hs (k + 1) d in
    ap is_lt (nat_list_cmp_total.antisymm h.item g.item
    ∙ ap ordering_reverse (before hs rising k (k + 1) g h (omega arith) (slice_get-get_or hs k d (omega arith))
    (slice_get-get_or hs (k + 1) d within)))

-- what a binary search for the name finds
pub searched : (hs : List Holding) → IsRising hs → (x : Name) (r : Result ℕ ℕ) → IsSearchInRange r (length hs)
    → IsBinarySearchResult (λ (h : Holding). name_cmp h.item x) hs r
    → MatchOption (result_ok r) (value_in hs x ≡ None) (λ i. (v : ℕ)
    × (slice_get hs i ≡ Some (record { item = x; value = v })) × (value_in hs x ≡ Some v))
searched hs rising x (Ok i) within found =
    let d : Holding = record { item = x; value = 0 } in
    let h = get_or hs i d in
    let same : h.item ≡ x = exact_bytes h.item x (found d) in
    let at = slice_get-get_or hs i d within in (
      h.value,
      at ∙ ap (λ y. Some (record { item = y; value = h.value })) same,
      ap (value_in hs) (sym same)
          ∙ value_in-at hs rising i h at,
    )
searched hs rising x (Err i) within found =
    let parts = found (searchable_from_sorted nat_list_cmp_total (λ (h : Holding). h.item) hs x (sorted hs rising)) in
    value_in-none hs x (λ j h at.
    let here = get_or_from_slice_get hs j h h at in
    elim (cases_lt j i) [
      | inl low ↦ apart h.item x Less (ap (λ (k : Holding). name_cmp k.item x) (sym here)
          ∙ parts.0 j h (omega arith) low) less-equal
      | inr high ↦ apart h.item x Greater (ap (λ (k : Holding). name_cmp k.item x) (sym here)
          ∙ parts.1 j h high (slice_get_within hs j h at)) Greater≢Equal
    ])

-- the names stay, whatever value is set
pub names-set : (hs : List Holding) (i : ℕ) (h : Holding) (v : ℕ) → slice_get hs i ≡ Some h
    → names (slice_set hs i (record { item = h.item; value = v })) ≡ names hs
names-set [] i h v at = absurd cc
names-set (g ∷ hs) zero h v at = ap (λ (k : Holding). k.item ∷ names hs) (sym (same_Some g h at))
names-set (g ∷ hs) (suc i) h v at = ap (λ (ys : List Name). g.item ∷ ys) (names-set hs i h v at)

-- the values after one is set
pub value_in-set : (hs : List Holding) → IsRising hs → (i : ℕ) (h : Holding) (v : ℕ) → slice_get hs i ≡ Some h
    → (y : Name)
    → value_in (slice_set hs i (record { item = h.item; value = v })) y ≡ cond (bytes_eq h.item y) (Some v)
    (value_in hs y)
value_in-set [] rising i h v at y = absurd cc
value_in-set (g ∷ hs) rising zero h v at y =
    let same = same_Some g h at in
    elim (cases_Bool (bytes_eq h.item y)) [
      | inl hit ↦ rw hit refl
      | inr miss ↦
          let miss_g : bytes_eq g.item y ≡ false = ap (λ (k : Holding). bytes_eq k.item y) same ∙ miss in
          rw (miss, miss_g) refl
    ]
value_in-set (g ∷ hs) rising (suc i) h v at y =
    let other = apart g.item h.item Less (before (g ∷ hs) rising 0 (suc i) g h (omega arith) refl at) less-equal in
    let rest = value_in-set hs (AllPairs-tail ComesBefore g.item (names hs) rising) i h v at y in
    elim (cases_Bool (bytes_eq g.item y)) [
      | inl hit ↦
          let is = (bytes_eq-Decides g.item y).0 hit in
          let miss : bytes_eq h.item y ≡ false = bytes_eq-other h.item y (λ e. other (is ∙ sym e)) in
          rw (hit, miss) refl
      | inr miss ↦ rw miss rest
    ]

-- a change of an item that has a value
pub change-where : (hs : List Holding) (y x : Name) (v w : ℕ) (c : Change) → value_in hs y ≡ Some v
    → value_with (Some v) c ≡ Some w
    → cond (bytes_eq y x) (Some w) (value_in hs x) ≡ cond (bytes_eq y x) (value_with (value_in hs x) c) (value_in hs x)
change-where hs y x v w c here after =
    elim (cases_Bool (bytes_eq y x)) [
      | inl hit ↦
          let same = ap (value_in hs) (sym ((bytes_eq-Decides y x).0 hit)) ∙ here in
          rw hit (sym (ap (λ o. value_with o c) same ∙ after))
      | inr miss ↦ rw miss refl
    ]

-- what is read at a place where something stands
pub read_at : (hs : List Holding) (i : ℕ) (g h : Holding) → slice_get hs i ≡ Some g → h ≡ get_or hs i h
    → slice_get hs i ≡ Some h
read_at hs i g h at is = slice_get-get_or hs i h (slice_get_within hs i g at) ∙ ap Some (sym is)
