-- Ranks of names whose keys were sorted.
use Rattle.std.proofs.Common.{◌≡◌, ℕ, ◌<◌, ◌≤◌, Bool, true, false, List, [], ◌∷◌, ◌++◌, ◌+◌, Some, length, refl, sym, ap, ◌∙◌, subst, arith, inl, inr, get_or, nat_cmp, Less, Equal}
use Rattle.std.specs.Prelude.{slice_get, slice_set, All}
use Rattle.std.specs.Cmp.{IsStrictWeakOrder}
use Rattle.std.specs.List.Sorted.{IsPermutation, IsSortedBy}
use Rattle.std.specs.declared.cmp.Ordering.{Ordering}
use Rattle.std.specs.Ordering.{bool_cmp, ordering_then}
use Rattle.std.specs.Cmp.{nat_cmp_is}
use Rattle.std.specs.Cmp.Lexicographic.{slice_cmp}
use Rattle.std.proofs.lemmas.Bool.{cases_eq, cases_lt}
use Rattle.std.proofs.lemmas.List.Elements.{Contains-append_left, Contains-push}
use Rattle.std.proofs.lemmas.List.Sorted.{Contains-permutation, sorted_far}
use Rattle.std.proofs.lemmas.Option.{get_or_from_slice_get, same_Some, slice_get_within}
use Rattle.sgt_names.proofs.Elements.{get-slice_set_other, get-slice_set_same, length-slice_set}
use Rattle.sgt_names.proofs.Places.{All_at, Contains_at}
use Rattle.json.specs.Json.{Json}
use Rattle.sgt_history_text.specs.Name.{IsItem, compact}
use Rattle.sgt_history_verdict.specs.Steps.{rank_at}
use Rattle.sgt_check.specs.Key.{ArePlaced, AreRising, HasEach, IsKeyBefore, IsKeyOf, IsPlaced, IsRanked}
use Rattle.sgt_check.specs.Rank.{AreRanks, IsNameBefore}
use Rattle.sgt_check.specs.declared.key.Key.{Key}
use Rattle.sgt_check.specs.declared.ranks.Ranked.{Ranked}
use Rattle.sgt_check.proofs.NameOrder.{bytes_less, keys_before, names_total}

-- of sorted ones none behind is less
pub rising_from : {X : Type 0} (lt : X → X → Bool) → IsStrictWeakOrder lt → (xs : List X) → IsSortedBy lt xs
    → (k l : ℕ) (a b : X) → k ≤ l → slice_get xs k ≡ Some a → slice_get xs l ≡ Some b → lt b a ≡ false
rising_from lt o xs up k l a b le at at' =
    let far = sorted_far lt o xs up k l a le (slice_get_within xs l b at') in
    ap (λ x. lt x a) (sym (get_or_from_slice_get xs l b a at'))
    ∙ ap (λ x. lt (get_or xs l a) x) (sym (get_or_from_slice_get xs k a a at)) ∙ far

-- ---- the order of keys

bool-same : (b : Bool) → bool_cmp b b ≡ Equal
bool-same true = refl
bool-same false = refl

pub key_less : (k l : Key) (later : Ordering) → IsKeyBefore k l
    → ordering_then (ordering_then (bool_cmp k.is_string l.is_string)
    (ordering_then (nat_cmp k.value l.value) (slice_cmp nat_cmp k.bytes.items l.bytes.items))) later
    ≡ Less
key_less k l later before = elim before.here [
  | inl kinds ↦ rw (kinds.0, kinds.1) refl
  | inr (inl values) ↦ rw (values.0, bool-same l.is_string, sym (nat_cmp_is k.value l.value Less values.1)) refl
  | inr (inr bytes) ↦
      rw (
        bytes.0,
        bool-same l.is_string,
        sym (nat_cmp_is k.value l.value Equal bytes.1),
        bytes_less
            k.bytes.items l.bytes.items bytes.2,
      )
      refl
]

module _ (texts : List (List ℕ)) (ranked : List Ranked) (ranks : List ℕ) (rising : AreRising ranked)
    (each : All (IsRanked texts) ranked) (has : HasEach ranked (length texts))
    (placed : ArePlaced ranked ranks (length texts) (length ranked)) where
  place-of : (number : ℕ) → number < length texts → IsPlaced ranked ranks number
  place-of number lt =
      let one = has number lt in
      let at = Contains_at ranked one.0 one.1 in
      subst (IsPlaced ranked ranks) one.2
      (placed at.0 one.0 (slice_get_within ranked at.0 one.0 at.1) at.1 (omega (arith, lt, one.2)))

  key-of : (number : ℕ) (a : Json) (p : IsPlaced ranked ranks number) → slice_get texts number ≡ Some (compact a)
      → IsItem a → IsKeyOf a p.r.key
  key-of number a p at is =
      let one = All_at (IsRanked texts) ranked p.place p.r each p.there in
      one.2 a is (same_Some one.0 (compact a) (sym one.1 ∙ ap (slice_get texts) p.is ∙ at))

  rank-is : (number : ℕ) (p : IsPlaced ranked ranks number) → rank_at ranks number ≡ p.place
  rank-is number p = get_or_from_slice_get ranks number p.place 4294967295 p.rank

  -- where the first stands before the second, the place of the second isn't the lesser, nor the same
  place-less : (i j : ℕ) (a b : Json) (p : IsPlaced ranked ranks i) (q : IsPlaced ranked ranks j)
      → slice_get texts i ≡ Some (compact a)
      → slice_get texts j ≡ Some (compact b) → IsItem a → IsItem b → IsNameBefore a b → p.place < q.place
  place-less i j a b p q at at' is is' before = elim (cases_lt p.place q.place) [
    | inl lt ↦ lt
    | inr le ↦
        let key = keys_before a b p.r.key q.r.key (key-of i a p at is) (key-of j b q at' is') before in
        absurd (rising q.place p.place q.r p.r le q.there p.there key)
  ]

  pub ranks_are : AreRanks texts ranks
  ranks_are i j a b at at' is is' apart =
      let p = place-of i (slice_get_within texts i (compact a) at) in
      let q = place-of j (slice_get_within texts j (compact b) at') in
      let pr = rank-is i p in
      let qr = rank-is j q in (
        λ lt. elim (names_total a b is is') [
          | inl before ↦ before
          | inr (inl same) ↦ absurd (omega (arith, lt, ap (rank_at ranks) (apart same)))
          | inr (inr behind) ↦
              absurd (omega (arith, lt, pr, qr, place-less j i b a q p at' at is' is behind))
        ],
        λ before. omega (arith, pr, qr, place-less i j a b p q at at' is is' before),
      )

-- ---- places

-- one more is placed
pub placed_next : (ranked : List Ranked) (ranks : List ℕ) (count at : ℕ) (one : Ranked) → length ranks ≡ count
    → slice_get ranked at ≡ Some one → one.number < count → ArePlaced ranked ranks count at
    → ArePlaced ranked (slice_set ranks one.number at) count (at + 1)
placed_next ranked ranks count at one size there lt placed k r below at_k small =
    elim (cases_eq r.number one.number) [
      | inl same ↦
          record {
            place = at;
            r = one;
            there = there;
            is = sym same;
            rank = ap (slice_get (slice_set ranks one.number at)) same
                ∙ get-slice_set_same ranks one.number at (omega (arith, size, lt));
          }
      | inr other ↦ elim (cases_eq k at) [
        | inl here ↦
            absurd (other (ap (λ (x : Ranked). x.number)
            (same_Some r one (sym at_k ∙ ap (slice_get ranked) here ∙ there))))
        | inr before ↦
            let p = placed k r (omega (arith, below, before)) at_k small in
            record {
              place = p.place;
              r = p.r;
              there = p.there;
              is = p.is;
              rank = get-slice_set_other ranks one.number r.number at other ∙ p.rank;
            }
      ]
    ]

-- one whose number isn't below the count
pub placed_past : (ranked : List Ranked) (ranks : List ℕ) (count at : ℕ) (one : Ranked)
    → slice_get ranked at ≡ Some one → count ≤ one.number → ArePlaced ranked ranks count at
    → ArePlaced ranked ranks count (at + 1)
placed_past ranked ranks count at one there past placed k r below at_k small = elim (cases_eq k at) [
  | inl here ↦
      absurd (omega (
        arith,
        past,
        small,
        ap (λ (x : Ranked). x.number)
            (same_Some r one (sym at_k ∙ ap (slice_get ranked) here ∙ there)),
      ))
  | inr before ↦ placed k r (omega (arith, below, before)) at_k small
]

-- there are so many ranks, and the first n are placed
abbrev pub Stands : List Ranked → (ranks : List ℕ) → (count n : ℕ) → Type 0
Stands ranked ranks count n = (length ranks ≡ count) × ArePlaced ranked ranks count n

pub stands_next : (ranked : List Ranked) (ranks : List ℕ) (count at : ℕ) (one : Ranked)
    → slice_get ranked at ≡ Some one → one.number < length ranks → Stands ranked ranks count at
    → Stands ranked (slice_set ranks one.number at) count (at + 1)
stands_next ranked ranks count at one there lt (size, placed) = (
  length-slice_set ranks one.number at ∙ size,
  placed_next ranked ranks count at one size there (omega (arith, lt, size)) placed,
)

pub stands_past : (ranked : List Ranked) (ranks : List ℕ) (count at : ℕ) (one : Ranked)
    → slice_get ranked at ≡ Some one → length ranks ≤ one.number → Stands ranked ranks count at
    → Stands ranked ranks count (at + 1)
stands_past ranked ranks count at one there past (size, placed) =
    (size, placed_past ranked ranks count at one there (omega (arith, past, size)) placed)

-- ---- keys

-- one more has its key
pub has_next : (ranked : List Ranked) (r : Ranked) → HasEach ranked r.number
    → HasEach (ranked ++ r ∷ []) (r.number + 1)
has_next ranked r has number lt = elim (cases_lt number r.number) [
  | inl before ↦
      let one = has number before in (one.0, Contains-append_left ranked (r ∷ []) one.0 one.1, one.2)
  | inr last ↦ (r, Contains-push ranked r, omega (arith, lt, last))
]

-- the same of them in another order
pub has_shuffled : (old new : List Ranked) (count : ℕ) → IsPermutation old new → HasEach old count → HasEach new count
has_shuffled old new count shuffled has number lt =
    let one = has number lt in (one.0, Contains-permutation old new one.0 shuffled one.1, one.2)
