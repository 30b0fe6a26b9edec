-- The order after one region of it was moved.
use Rattle.std.proofs.Common.{◌≡◌, ℕ, zero, suc, ◌+◌, ◌-◌, ◌<◌, ◌≤◌, Bool, false, List, [], ◌∷◌, ◌++◌, length, take, drop, Option, Some, None, refl, sym, ap, ◌∙◌, subst, arith, inl, inr, Contains, length-append}
use Rattle.std.specs.Prelude.{slice_get, slice_set, not, filter, ◌↔◌}
use Rattle.std.proofs.lemmas.Bool.{cases_lt, cases_eq, cases_Bool}
use Rattle.std.proofs.lemmas.Option.{same_Some, none-some, slice_get_within}
use Rattle.std.proofs.lemmas.List.Elements.{Contains-append_left, Contains-append_right, Contains-append_cases}
use Rattle.std.proofs.lemmas.List.Filters.{length-filter_both}
use Rattle.std.proofs.lemmas.List.Sorted.{IsPermutation-filter_both, Contains-permutation}
use Rattle.sgt_names.proofs.Places.{Contains-from_at, Contains_at, slice_get-drop}
use Rattle.sgt_arena.specs.declared.handle.Handle.{Handle}
use Rattle.sgt_arena.specs.Arena.{Arena}
use Rattle.sgt_edges.specs.declared.edge.Edge.{Edge}
use Rattle.sgt_order.specs.declared.node.Node.{Node}
use Rattle.sgt_order.specs.Graph.{placed}
use Rattle.sgt_order.specs.private.Parts.{TellsPlaces}
use Rattle.sgt_order.specs.private.Search.{AreAmong, BeginsAt, Has, is_marked}
use Rattle.sgt_order.specs.private.Growth.{Renumbered, Widened}
use Rattle.sgt_order.proofs.Marking.{not-not, marked_from_test}
use Rattle.sgt_names.proofs.Elements.{get-slice_set_same, get-slice_set_other}

-- where no member in front of a place passes, the front stays
pub placed_front : {A : Type 0} (p : A → Bool) (xs : List A) (n : ℕ) (a : A)
    → ((k : ℕ) (x : A) → k < n → slice_get xs k ≡ Some x → p x ≡ false)
    → placed p xs a ≡ take n xs ++ placed p (drop n xs) a
placed_front p xs zero a none = refl
placed_front p [] (suc n) a none = refl
placed_front p (x ∷ xs) (suc n) a none =
    let later = placed_front p xs n a (λ k y lt at. none (suc k) y (omega (arith, lt)) at) in
    let miss : p x ≡ false = none 0 x (omega arith) refl in
    rw miss (ap (λ z. x ∷ z) later)

-- the members stay members
pub placed_has : {A : Type 0} (p : A → Bool) (xs : List A) (a x : A) → Contains xs x → Contains (placed p xs a) x
placed_has p xs a x c =
    let stay = filter (λ y. not (p y)) xs in
    let move = filter p xs in
    let both = IsPermutation-filter_both (λ y. not (p y)) p (λ y. sym (not-not (p y))) xs in
    elim (Contains-append_cases stay move x (Contains-permutation xs (stay ++ move) x both c)) [
      | inl early ↦ Contains-append_left stay (a ∷ move) x early
      | inr late ↦ Contains-append_right stay (a ∷ move) x (suc late.0, omega (arith, late.1), late.2)
    ]

-- a member in front of the first mark has none
pub front_unmarked : (first : ℕ) (order : List Handle) (marks : List (Option Edge)) → BeginsAt first order marks
    → (k : ℕ) (x : Handle) → k < first → slice_get order k ≡ Some x → is_marked marks x ≡ false
front_unmarked first order marks begins k x lt at =
    elim (cases_Bool (is_marked marks x)) [
      | inl hit ↦ absurd (omega (arith, lt, begins k x at (marked_from_test marks x hit)))
      | inr miss ↦ miss
    ]

-- the marks are still those of members of the region
pub among_moved : (first : ℕ) (old new : List Handle) (h : Handle) (marks : List (Option Edge))
    → drop first new ≡ placed (is_marked marks) (drop first old) h → AreAmong (drop first old) marks
    → AreAmong (drop first new) marks
among_moved first old new h marks moved among k e has =
    let x = among k e has in
    (x.0, subst (λ o. Contains o x.0) (sym moved) (placed_has (is_marked marks) (drop first old) h x.0 x.1), x.2)

get_front : {A : Type 0} (xs ys : List A) (n p : ℕ) → p < n → n ≤ length xs
    → slice_get (take n xs ++ ys) p ≡ slice_get xs p
get_front xs ys zero p lt within = absurd (omega (arith, lt))
get_front [] ys (suc n) p lt within = absurd (omega (arith, within))
get_front (x ∷ xs) ys (suc n) zero lt within = refl
get_front (x ∷ xs) ys (suc n) (suc p) lt within = get_front xs ys n p (omega (arith, lt)) (omega (arith, within))

-- the members in front of the region stay where they are
pub front_stays : (first : ℕ) (old new : List Handle) (h : Handle) (marks : List (Option Edge))
    → BeginsAt first old marks → first ≤ length old → new ≡ placed (is_marked marks) old h → (p : ℕ) → p < first
    → slice_get new p ≡ slice_get old p
front_stays first old new h marks begins within is p lt =
    ap (λ o. slice_get o p) (is ∙ placed_front (is_marked marks) old first h (front_unmarked first old marks begins))
    ∙ get_front old (placed (is_marked marks) (drop first old) h) first p lt within

pub tells_widened : (a b : Arena Node) (order : List Handle) → TellsPlaces a order → Widened a b → TellsPlaces b order
tells_widened a b order tells wider h node got p =
    let was = wider.wider h node got in
    subst (λ o. (o ≡ Some p) ↔ (slice_get order p ≡ Some h)) (sym was.3) (tells h was.0 was.1 p)

-- the nodes tell their places in the new order
pub tells_told : (first : ℕ) (old new : List Handle) (a b : Arena Node) → TellsPlaces a old → Renumbered first new a b
    → ((p : ℕ) → p < first → slice_get new p ≡ slice_get old p)
    → ((p q : ℕ) (x : Handle) → slice_get new p ≡ Some x → slice_get new q ≡ Some x → p ≡ q)
    → ((x : Handle) → Contains old x → Contains new x) → TellsPlaces b new
tells_told first old new a b tells told front once members h node got p =
    let was = told.told h node got in
    elim was.3 [
      | inl set ↦ (
        λ at.
            let same = same_Some set.0 p (sym set.3 ∙ at) in
            ap (slice_get new) (sym same) ∙ set.2,
        λ there. set.3 ∙ ap Some (once set.0 p h set.2 there),
      )
      | inr kept ↦ (
        λ at.
            let there = (tells h was.0 was.1 p).0 (sym kept.1 ∙ at) in
            elim (cases_lt p first) [
              | inl early ↦ front p early ∙ there
              | inr late ↦
                  let q = Contains_at new h (members h (Contains-from_at old p h there)) in
                  elim (cases_lt q.0 first) [
                    | inl before ↦
                        let again = (tells h was.0 was.1 q.0).1 (sym (front q.0 before) ∙ q.1) in
                        let now = sym kept.1 ∙ at in
                        let same = same_Some p q.0 (sym now ∙ again) in
                        absurd (omega (arith, same, before, late))
                    | inr behind ↦ absurd (kept.0 q.0 behind q.1)
                  ]
            ],
        λ there.
            elim (cases_lt p first) [
              | inl early ↦ kept.1 ∙ (tells h was.0 was.1 p).1 (sym (front p early) ∙ there)
              | inr late ↦ absurd (kept.0 p late there)
            ],
      )
    ]

-- the marks of the members from the next place on, once the mark of this one was taken away
pub among_next : (members : List Handle) (n : ℕ) (h : Handle) (marks : List (Option Edge))
    → slice_get members n ≡ Some h → h.index < length marks → AreAmong (drop n members) marks
    → AreAmong (drop (n + 1) members) (slice_set marks h.index None)
among_next members n h marks at within among k e has =
    elim (cases_eq k h.index) [
      | inl same ↦ absurd (none-some e (same_Some None (Some e) (sym (get-slice_set_same marks h.index None within)
          ∙ (ap (slice_get (slice_set marks h.index None)) (sym same) ∙ has))))
      | inr other ↦
          let x = among k e (sym (get-slice_set_other marks h.index k None other) ∙ has) in
          let there = Contains_at (drop n members) x.0 x.1 in
          let stands = sym (slice_get-drop members n there.0) ∙ there.1 in
          elim (cases_lt n (n + there.0)) [
            | inl later ↦
                let on : n + 1 + (there.0 - 1) ≡ n + there.0 = omega (arith, later) in (
                  x.0,
                  Contains-from_at (drop (n + 1) members) (there.0 - 1) x.0
                      (slice_get-drop members (n + 1) (there.0 - 1) ∙ (ap (slice_get members) on ∙ stands)),
                  x.2,
                )
            | inr first ↦
                let here : n + there.0 ≡ n = omega (arith, first) in
                let one = same_Some x.0 h (sym stands ∙ (ap (slice_get members) here ∙ at)) in
                absurd (other (sym x.2 ∙ ap (λ (y : Handle). y.index) one))
          ]
    ]

-- behind the last member there are none
pub among_none : (members : List Handle) (n : ℕ) (marks : List (Option Edge)) → length members ≤ n
    → AreAmong (drop n members) marks → (k : ℕ) (e : Edge) → Has marks k e → ⊥
among_none members n marks whole among k e has =
    let x = among k e has in
    let there = Contains_at (drop n members) x.0 x.1 in
    omega (arith, whole, slice_get_within members (n + there.0) x.0 (sym (slice_get-drop members n there.0) ∙ there.1))

pub length-placed : {A : Type 0} (p : A → Bool) (xs : List A) (a : A) → length (placed p xs a) ≡ length xs + 1
length-placed p xs a =
    let both = length-filter_both p (λ y. not (p y)) (λ y. refl) xs in
    omega (arith, both, length-append (filter (λ y. not (p y)) xs) (a ∷ filter p xs))
