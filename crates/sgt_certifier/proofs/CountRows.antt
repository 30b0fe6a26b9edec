-- The counts of one site: what is found in them, and what a change of them leaves.
use Rattle.std.proofs.Common.{◌≡◌, ◌≢◌, ℕ, zero, suc, ◌+◌, ◌++◌, true, List, [], ◌∷◌, set, Some, None, IsSome, Result, Ok, Err, OnOk, OnErr, refl, sym, ◌∙◌, ap, subst, arith, inl, inr}
use Rattle.std.specs.Prelude.{slice_get}
use Rattle.std.specs.List.{insert}
use Rattle.std.specs.Str.{bytes_eq}
use Rattle.std.specs.Ordering.{nat_cmp}
use Rattle.std.specs.Cmp.Lexicographic.{slice_cmp}
use Rattle.std.specs.declared.cmp.Ordering.TheVariants.{Less, Equal, Greater}
use Rattle.std.proofs.lemmas.Bool.{cases_Bool, cases_lt, true≢false}
use Rattle.std.proofs.lemmas.Cmp.{nat_list_cmp_total, tied_itself}
use Rattle.std.proofs.lemmas.Option.{same_Some, slice_get_within}
use Rattle.std.proofs.lemmas.Slice.Eq.{bytes_eq-Decides}
use Rattle.sgt_names.specs.Name.{Name}
use Rattle.sgt_names.specs.Ordered.{IsAt, IsGapFor}
use Rattle.sgt_names.proofs.Lists.{within_at}
use Rattle.sgt_names.proofs.Places.{AllPairs_at, AllPairs-tail}
use Rattle.sgt_names.proofs.Ranged.{rising-insert, rising-set}
use Rattle.sgt_certifier.specs.Row.{AreRising, count_in, found_in, or_zero}
use Rattle.sgt_certifier.specs.declared.row.ItemCount.{ItemCount}
use Rattle.sgt_names.proofs.Elements.{bytes_eq-other, get-set_here}

-- a count of the item at a place is where the item is
pub at_place : (cs : List ItemCount) (x : Name) (n : ℕ) → (c : ItemCount) × (slice_get cs n ≡ Some c) × (c.item ≡ x)
    → IsAt (λ c. c.item) cs x n
at_place cs x n c = record {
  within = slice_get_within cs n c.0 c.1;
  is = λ d here. ap (λ (e : ItemCount). e.item) (same_Some d c.0 (sym here ∙ c.1)) ∙ c.2;
}

is_itself : (x : Name) → bytes_eq x x ≡ true
is_itself x = (bytes_eq-Decides x x).1 refl

-- a name that comes before another, or behind it, is not the same
pub before-apart : (x y : Name) → slice_cmp nat_cmp x y ≡ Less → x ≢ y
before-apart x y less same =
    let tied : slice_cmp nat_cmp x y ≡ Equal =
    subst (λ z. slice_cmp nat_cmp x z ≡ Equal) same (tied_itself nat_list_cmp_total x) in
    absurd cc

pub behind-apart : (x y : Name) → slice_cmp nat_cmp x y ≡ Greater → x ≢ y
behind-apart x y greater same =
    let tied : slice_cmp nat_cmp x y ≡ Equal =
    subst (λ z. slice_cmp nat_cmp x z ≡ Equal) same (tied_itself nat_list_cmp_total x) in
    absurd cc

-- what stands at a place is found
pub found_at : (cs : List ItemCount) (n : ℕ) (c : ItemCount) → AreRising cs → slice_get cs n ≡ Some c
    → found_in cs c.item ≡ Some c.count
found_at [] n c rising at = absurd cc
found_at (d ∷ cs) zero c rising at =
    subst (λ (e : ItemCount). found_in (d ∷ cs) e.item ≡ Some e.count) (same_Some d c at) (rw (is_itself d.item) refl)
found_at (d ∷ cs) (suc n) c rising at =
    let less = AllPairs_at (λ (a b : ItemCount). slice_cmp nat_cmp a.item b.item ≡ Less) (d ∷ cs) 0 (suc n) d c rising
    (omega arith) refl at in
    rw (bytes_eq-other d.item c.item (before-apart d.item c.item less))
    (found_at cs n c (AllPairs-tail (λ (a b : ItemCount). slice_cmp nat_cmp a.item b.item ≡ Less) d cs rising) at)

-- what stands nowhere isn't
pub found_nowhere : (cs : List ItemCount) (x : Name)
    → ((n : ℕ) (c : ItemCount) → slice_get cs n ≡ Some c → c.item ≢ x) → found_in cs x ≡ None
found_nowhere [] x none = refl
found_nowhere (c ∷ cs) x none =
    rw (bytes_eq-other c.item x (none 0 c refl)) (found_nowhere cs x (λ n d at. none (suc n) d at))

module _ (cs : List ItemCount) (x : Name) (n : ℕ) where
  pub found_here : (c : ItemCount) → AreRising cs → IsAt (λ c. c.item) cs x n → slice_get cs n ≡ Some c
      → found_in cs x ≡ Some c.count
  found_here c rising at here = subst (λ y. found_in cs y ≡ Some c.count) (at.is c here) (found_at cs n c rising here)

  pub found_gap : IsGapFor (λ c. c.item) (slice_cmp nat_cmp) cs x n → found_in cs x ≡ None
  found_gap gap = found_nowhere cs x (λ m c at. elim (cases_lt m n) [
    | inl lt ↦ before-apart c.item x (gap.before m c lt at)
    | inr le ↦ behind-apart c.item x (gap.after m c le at)
  ])

-- an item that has no place is put somewhere
insert-own : (cs : List ItemCount) (n : ℕ) (c : ItemCount) → found_in cs c.item ≡ None
    → found_in (insert cs n c) c.item ≡ Some c.count
insert-own cs zero c none = rw (is_itself c.item) refl
insert-own [] (suc n) c none = rw (is_itself c.item) refl
insert-own (d ∷ cs) (suc n) c none = elim (cases_Bool (bytes_eq d.item c.item)) [
  | inl hit ↦ let e : Some d.count ≡ None = rw hit at none in absurd cc
  | inr miss ↦ rw miss (insert-own cs n c (rw miss at none))
]

insert-other : (cs : List ItemCount) (n : ℕ) (c : ItemCount) (x : Name) → c.item ≢ x
    → found_in (insert cs n c) x ≡ found_in cs x
insert-other cs zero c x apart = rw (bytes_eq-other c.item x apart) refl
insert-other [] (suc n) c x apart = rw (bytes_eq-other c.item x apart) refl
insert-other (d ∷ cs) (suc n) c x apart = elim (cases_Bool (bytes_eq d.item x)) [
  | inl hit ↦ rw hit refl
  | inr miss ↦ rw miss (insert-other cs n c x apart)
]

module _ (cs : List ItemCount) (n : ℕ) (x : Name) (none : found_in cs x ≡ None) where
  abbrev pub put : List ItemCount
  put = insert cs n (record { item = x; count = 0 })

  pub put-found : found_in put x ≡ Some 0
  put-found = insert-own cs n (record { item = x; count = 0 }) none

  pub put-same : (y : Name) → count_in put y ≡ count_in cs y
  put-same y = elim (cases_Bool (bytes_eq x y)) [
    | inl hit ↦
        let same : x ≡ y = (bytes_eq-Decides x y).0 hit in
        subst (λ z. count_in put z ≡ count_in cs z) same (ap or_zero put-found ∙ sym (ap or_zero none))
    | inr miss ↦ ap or_zero
        (insert-other cs n (record { item = x; count = 0 }) y (λ e. true≢false (sym ((bytes_eq-Decides x y).1 e)
        ∙ miss)))
  ]

  pub put-kept : (y : Name) → IsSome (found_in cs y) → IsSome (found_in put y)
  put-kept y has = elim (cases_Bool (bytes_eq x y)) [
    | inl hit ↦
        let same : x ≡ y = (bytes_eq-Decides x y).0 hit in
        subst (λ z. IsSome (found_in put z)) same (subst IsSome (sym put-found) refl)
    | inr miss ↦ subst IsSome
        (sym (insert-other cs n (record { item = x; count = 0 }) y (λ e. true≢false (sym ((bytes_eq-Decides x y).1 e)
        ∙ miss)))) has
  ]

-- the count at a place is another one
pub set-other : (cs : List ItemCount) (n : ℕ) (c : ItemCount) (x : Name) → IsAt (λ c. c.item) cs c.item n → x ≢ c.item
    → found_in (set cs n c) x ≡ found_in cs x
set-other [] n c x at apart = refl
set-other (d ∷ cs) zero c x at apart =
    let same : d.item ≡ c.item = at.is d refl in
    rw (bytes_eq-other c.item x (λ e. apart (sym e)), bytes_eq-other d.item x (λ e. apart (sym e ∙ same))) refl
set-other (d ∷ cs) (suc n) c x at apart =
    let below : IsAt (λ c. c.item) cs c.item n =
    record { within = omega (arith, at.within); is = λ e here. at.is e here } in
    elim (cases_Bool (bytes_eq d.item x)) [
      | inl hit ↦ rw hit refl
      | inr miss ↦ rw miss (set-other cs n c x below apart)
    ]

-- a place was put into the gap, or nothing was
module _ {U E : Type 0} (old new : List ItemCount) (x : Name) (n : ℕ)
    (gap : IsGapFor (λ c. c.item) (slice_cmp nat_cmp) old x n) where
  pub tried-rises : (r : Result U E) → OnOk r (new ≡ insert old n (record { item = x; count = 0 }))
      → OnErr r (new ≡ old) → AreRising old
      → AreRising new
  tried-rises (Ok u) ok err rising =
      subst AreRising (sym ok) (rising-insert (λ (c : ItemCount). c.item) (slice_cmp nat_cmp) nat_list_cmp_total old n
      (record { item = x; count = 0 }) gap rising)
  tried-rises (Err e) ok err rising = subst AreRising (sym err) rising

  pub tried-same : (r : Result U E) → OnOk r (new ≡ insert old n (record { item = x; count = 0 }))
      → OnErr r (new ≡ old) → (y : Name)
      → count_in new y ≡ count_in old y
  tried-same (Ok u) ok err y = ap (λ cs. count_in cs y) ok ∙ put-same old n x (found_gap old x n gap) y
  tried-same (Err e) ok err y = ap (λ cs. count_in cs y) err

  pub tried-kept : (r : Result U E) → OnOk r (new ≡ insert old n (record { item = x; count = 0 }))
      → OnErr r (new ≡ old) → (y : Name)
      → IsSome (found_in old y) → IsSome (found_in new y)
  tried-kept (Ok u) ok err y has =
      subst (λ cs. IsSome (found_in cs y)) (sym ok) (put-kept old n x (found_gap old x n gap) y has)
  tried-kept (Err e) ok err y has = subst (λ cs. IsSome (found_in cs y)) (sym err) has

  pub tried-ok : (r : Result U E) → OnOk r (new ≡ insert old n (record { item = x; count = 0 }))
      → OnOk r (IsSome (found_in new x))
  tried-ok (Ok u) ok = subst IsSome (sym (ap (λ cs. found_in cs x) ok ∙ put-found old n x (found_gap old x n gap))) refl
  tried-ok (Err e) ok = tt

  pub tried-err : (r : Result U E) → OnErr r (IsSome (found_in old x) → ⊥)
  tried-err (Ok u) = tt
  tried-err (Err e) = λ has. true≢false (sym (subst IsSome (found_gap old x n gap) has))

-- an item that was found has a place
pub found_some : (cs : List ItemCount) (x : Name) (n : ℕ) → AreRising cs → IsAt (λ c. c.item) cs x n
    → IsSome (found_in cs x)
found_some cs x n rising at =
    let c = within_at cs n at.within in
    subst IsSome (sym (found_here cs x n c.0 rising at c.1)) refl

-- one more install of the item that stands at a place
module _ (cs : List ItemCount) (x : Name) (n : ℕ) (c : ItemCount) (rising : AreRising cs)
    (at : IsAt (λ c. c.item) cs x n)
    (here : slice_get cs n ≡ Some c) where
  abbrev pub more : ItemCount
  more = record { item = c.item; count = c.count + 1 }

  own : IsAt (λ c. c.item) cs more.item n
  own = record { within = at.within; is = λ d there. ap (λ (e : ItemCount). e.item) (same_Some d c (sym there ∙ here)) }

  pub more-rises : AreRising (set cs n more)
  more-rises = rising-set (λ (c : ItemCount). c.item) (slice_cmp nat_cmp) cs n more own rising

  pub count-here : count_in cs x ≡ c.count
  count-here = ap or_zero (found_here cs x n c rising at here)

  pub more-found : found_in (set cs n more) x ≡ Some (suc (count_in cs x))
  more-found =
      let now : found_in (set cs n more) c.item ≡ Some (c.count + 1) =
      found_at (set cs n more) n more more-rises (get-set_here cs n more at.within) in
      let count : c.count + 1 ≡ suc (count_in cs x) = let same = count-here in omega (arith, same) in
      subst (λ y. found_in (set cs n more) y ≡ Some (suc (count_in cs x))) (at.is c here) (now ∙ ap Some count)

  pub more-others : (y : Name) → y ≢ x → found_in (set cs n more) y ≡ found_in cs y
  more-others y apart = set-other cs n more y own (λ e. apart (e ∙ at.is c here))

-- no count is below all
pub none-rises : AreRising []
none-rises i j d lt within = absurd (omega arith)

-- one more count stands behind the others
pub found-own : (cs : List ItemCount) (c : ItemCount) → found_in cs c.item ≡ None
    → found_in (cs ++ c ∷ []) c.item ≡ Some c.count
found-own [] c none = rw (is_itself c.item) refl
found-own (d ∷ cs) c none = elim (cases_Bool (bytes_eq d.item c.item)) [
  | inl hit ↦ let e : Some d.count ≡ None = rw hit at none in absurd cc
  | inr miss ↦ rw miss (found-own cs c (rw miss at none))
]

pub found-other : (cs : List ItemCount) (c : ItemCount) (x : Name) → c.item ≢ x
    → found_in (cs ++ c ∷ []) x ≡ found_in cs x
found-other [] c x apart = rw (bytes_eq-other c.item x apart) refl
found-other (d ∷ cs) c x apart = elim (cases_Bool (bytes_eq d.item x)) [
  | inl hit ↦ rw hit refl
  | inr miss ↦ rw miss (found-other cs c x apart)
]
