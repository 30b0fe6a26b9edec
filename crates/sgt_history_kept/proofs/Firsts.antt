-- What labels tell of cycles: that one is the first of all.
use Rattle.std.proofs.Common.{◌≡◌, ℕ, suc, ◌+◌, ◌^◌, ◌<◌, ◌≤◌, List, [], ◌∷◌, ◌++◌, Some, length, refl, sym, ap, ◌∙◌, subst, arith, inl, inr, ◌⊎◌, slice_index, length-append}
use Rattle.std.specs.Prelude.{slice_get}
use Rattle.std.proofs.lemmas.Bool.{cases_lt, lt-ltb, le-ltb}
use Rattle.std.proofs.lemmas.Option.{same_Some, slice_get_within}
use Rattle.sgt_names.proofs.Lists.{back_at, front_at, within_at}
use Rattle.sgt_history.specs.Conflicts.{IsChain, IsCycle}
use Rattle.sgt_graph.specs.First.{IsShownFirst, IsWordFirst}
use Rattle.sgt_history_kept.specs.FirstCycle.{IsFirstCycleOf}
use Rattle.sgt_history_kept.specs.Labels.{AreLabelsOf, IsLabeled, LeadHome, LeadsHome}
use Rattle.sgt_history_kept.specs.declared.labels.Labels.{Labels}
use Rattle.sgt_history_verdict.specs.Steps.{place_behind}

module _ (R : ℕ → ℕ → Type 0) (lines node : ℕ) (l : Labels) (few : lines ≤ 2 ^ 32)
    (within : (a b : ℕ) → R a b → (a < lines) × (b < lines))
    (are : (u : ℕ) → u < lines → IsLabeled node l u) (rise : AreLabelsOf R l) where
  abbrev far : ℕ → ℕ
  far u = slice_index l.distances.items u

  abbrev key : ℕ → ℕ
  key u = slice_index l.keys.items u

  -- ---- levels: none below the node is on a cycle

  chain-rises : (a : ℕ) (bs : List ℕ) (v : ℕ) → IsChain R a (bs ++ v ∷ [])
      → slice_index l.leaves.items a ≤ slice_index l.enters.items v
  chain-rises a [] v chain = rise.levels a v chain.0
  chain-rises a (b ∷ bs) v chain =
      let here = rise.levels a b chain.0 in
      let level = (are b (within a b chain.0).1).leveled.level in
      let rest = chain-rises b bs v chain.1 in
      omega (arith, here, level, rest)

  none-below : (u : ℕ) (bs : List ℕ) → u < node → IsChain R u (bs ++ u ∷ []) → ⊥
  none-below u [] lt chain =
      let rises = (are u (within u u chain.0).0).leveled.below lt in
      let round = chain-rises u [] u chain in
      absurd (omega (arith, rises, round))
  none-below u (b ∷ bs) lt chain =
      let rises = (are u (within u b chain.0).0).leveled.below lt in
      let round = chain-rises u (b ∷ bs) u chain in
      absurd (omega (arith, rises, round))

  -- ---- distances

  closed : (a b : ℕ) → R a b → far a ≤ far b + 1
  closed a b r =
      let both = within a b r in
      let near = (are a both.0).keyed.near in
      let of_b = (are b both.1).keyed.key in
      let le = rise.keys a b r in
      let b_within = both.1 in
      omega (arith, near, of_b, le, b_within, few)

  -- the first is nearer, or as near and not greater
  abbrev Nearer : ℕ → ℕ → Type 0
  Nearer y t = (far y < far t) ⊎ ((far y ≡ far t) × (y ≤ t))

  nearer : (x y t : ℕ) → y < lines → key y ≤ slice_index l.least.items x → R x t → Nearer y t
  nearer x y t y_within home r =
      let t_within = (within x t r).1 in
      let of_y = (are y y_within).keyed.key in
      let of_t = (are t t_within).keyed.key in
      let le = rise.keys x t r in
      elim (cases_lt (far y) (far t)) [
        | inl lt ↦ inl lt
        | inr ge ↦ inr (omega (arith, ge, of_y, of_t, le, home, t_within, few), omega (arith, ge, of_y, of_t, le, home))
      ]

  -- ---- ways

  -- from the line on each is the nearest of those that stand behind, and as far as there are lines behind it
  abbrev IsHomeward : ℕ → List ℕ → Type 0
  IsHomeward a [] = Unit {0}
  IsHomeward a (b ∷ bs) = R a b × (far b ≡ length bs) × ((t : ℕ) → R a t → Nearer b t) × IsHomeward b bs

  homeward-of : (a : ℕ) (ys : List ℕ) → IsChain R a ys
      → ((i x y : ℕ) → slice_get (a ∷ ys) i ≡ Some x → slice_get (a ∷ ys) (suc i) ≡ Some y
      → (left : ℕ) → left + (i + 1) ≡ length ys → LeadsHome l left x y)
      → IsHomeward a ys
  homeward-of a [] chain leads = tt
  homeward-of a (b ∷ bs) chain leads =
      let one = leads 0 a b refl refl (length bs) (omega arith) in (
        chain.0,
        one.distance,
        λ t r. nearer a b t (within a b chain.0).1 one.nearest r,
        homeward-of b bs chain.1 (λ i x y at at' left size. leads (suc i) x y at at' left (omega (arith, size))),
      )

  module _ (home : far node ≡ 0) where
    chain-far : (a : ℕ) (bs : List ℕ) → IsChain R a (bs ++ node ∷ []) → far a ≤ length bs + 1
    chain-far a [] chain = let here = closed a node chain.0 in omega (arith, here, home)
    chain-far a (b ∷ bs) chain =
        let here = closed a b chain.0 in
        let rest = chain-far b bs chain.1 in
        omega (arith, here, rest)

    first-far : (a : ℕ) (bs : List ℕ) → IsChain R a (bs ++ node ∷ []) → (b : ℕ) × R a b × (far b ≤ length bs)
    first-far a [] chain = (node, chain.0, omega (arith, home))
    first-far a (b ∷ bs) chain = let rest = chain-far b bs chain.1 in (b, chain.0, omega (arith, rest))

    first-home : (a : ℕ) (ns : List ℕ) → IsHomeward a (ns ++ node ∷ [])
        → (n : ℕ) × (far n ≡ length ns) × ((t : ℕ) → R a t → Nearer n t)
    first-home a [] way = (node, way.1, way.2)
    first-home a (n ∷ ns) way = (n, omega (arith, way.1, length-append ns (node ∷ [])), way.2)

    nearer-le : (a b : ℕ) → Nearer a b → far a ≤ far b
    nearer-le a b near = elim near [ inl lt ↦ omega (arith, lt) | inr same ↦ omega (arith, same.0) ]

    shorter : (a : ℕ) (ns bs : List ℕ) → IsHomeward a (ns ++ node ∷ []) → IsChain R a (bs ++ node ∷ [])
        → length ns ≤ length bs
    shorter a ns bs way chain =
        let n = first-home a ns way in
        let b = first-far a bs chain in
        let near = nearer-le n.0 b.0 (n.2 b.0 b.1) in
        omega (arith, n.1, b.2, near)

    word-first : (a : ℕ) (ns bs : List ℕ) → IsHomeward a (ns ++ node ∷ []) → IsChain R a (bs ++ node ∷ [])
        → length ns ≡ length bs → IsWordFirst ns bs
    word-first a [] bs way chain size = tt
    word-first a (n ∷ ns) [] way chain size = absurd (omega (arith, size))
    word-first a (n ∷ ns) (b ∷ bs) way chain size = elim (way.2 b chain.0) [
      | inl less ↦
          let rest = chain-far b bs chain.1 in
          absurd (omega (arith, less, way.1, length-append ns (node ∷ []), rest, size))
      | inr near ↦ elim (cases_lt n b) [
        | inl lt ↦ inl lt
        | inr ge ↦
            let same : b ≡ n = omega (arith, ge, near.1) in
            inr (
              sym same,
              word-first n ns bs way.3 (subst (λ (x : ℕ). IsChain R x (bs ++ node ∷ [])) same chain.1)
                  (omega (arith, size)),
            )
      ]
    ]

  homeward-end : (a : ℕ) (bs : List ℕ) → IsHomeward a (bs ++ node ∷ []) → far node ≡ 0
  homeward-end a [] way = way.1
  homeward-end a (b ∷ bs) way = homeward-end b bs way.3

  shown-first : (between : List ℕ) → IsHomeward node (between ++ node ∷ []) → (other : List ℕ) → IsCycle R other
      → IsShownFirst (node ∷ between) other
  shown-first between way [] o = absurd o
  shown-first between way (b ∷ bs) o = elim (cases_lt node b) [
    | inl lt ↦ inl lt
    | inr ge ↦ elim (cases_lt b node) [
      | inl below ↦ absurd (none-below b bs below o)
      | inr le ↦
          let same : b ≡ node = omega (arith, ge, le) in
          let chain = subst (λ (x : ℕ). IsChain R x (bs ++ x ∷ [])) same o in
          let home = homeward-end node between way in
          inr (
            sym same,
            elim (cases_lt (length between) (length bs)) [
              | inl short ↦ inl short
              | inr long ↦
                  let most = shorter home node between bs way chain in
                  let size : length between ≡ length bs = omega (arith, long, most) in
                  inr (size, word-first home node between bs way chain size)
            ],
          )
    ]
  ]

  -- ---- a cycle whose steps lead home

  module _ (between : List ℕ) (leads : LeadHome l (node ∷ between) (length (node ∷ between))) where
    abbrev cycle : List ℕ
    cycle = node ∷ between

    front-same : (i x : ℕ) → i < length cycle → slice_get (cycle ++ node ∷ []) i ≡ Some x → slice_get cycle i ≡ Some x
    front-same i x lt at =
        let here = within_at cycle i lt in
        here.1 ∙ sym (front_at cycle (node ∷ []) i here.0 here.1) ∙ at

    behind-same : (i y : ℕ) → i < length cycle → slice_get (cycle ++ node ∷ []) (suc i) ≡ Some y
        → slice_get cycle (place_behind i (length cycle)) ≡ Some y
    behind-same i y lt at = elim (cases_lt (i + 1) (length cycle)) [
      | inl less ↦
          let e : place_behind i (length cycle) ≡ i + 1 = rw (lt-ltb (i + 1) (length cycle) less) refl in
          let f : i + 1 ≡ suc i = omega arith in
          ap (slice_get cycle) (e ∙ f) ∙ front-same (suc i) y (omega (arith, less)) at
      | inr last ↦
          let e : place_behind i (length cycle) ≡ 0 = rw (le-ltb (i + 1) (length cycle) last) refl in
          let end : suc i ≡ length cycle + 0 = omega (arith, lt, last) in
          ap (slice_get cycle) e ∙ sym (back_at cycle (node ∷ []) 0)
          ∙ ap (slice_get (cycle ++ node ∷ [])) (sym end) ∙ at
    ]

    way : IsCycle R cycle → IsHomeward node (between ++ node ∷ [])
    way is = homeward-of node (between ++ node ∷ []) is (λ i x y at at' left size.
        let all : length (cycle ++ node ∷ []) ≡ length cycle + 1 = length-append cycle (node ∷ []) in
        let lt : i < length cycle = omega (arith, slice_get_within (cycle ++ node ∷ []) (suc i) y at', all) in
        let rest : length (between ++ node ∷ []) ≡ length between + 1 = length-append between (node ∷ []) in
        leads i x y lt (front-same i x lt at) (behind-same i y lt at') left (omega (arith, size, rest)))

    first-of : IsCycle R cycle → IsFirstCycleOf R cycle
    first-of is = record { is = is; first = shown-first between (way is) }

-- of a cycle whose first line is the node
pub first-told : (R : ℕ → ℕ → Type 0) (lines node : ℕ) (l : Labels) → lines ≤ 2 ^ 32
    → ((a b : ℕ) → R a b → (a < lines) × (b < lines)) → ((u : ℕ) → u < lines → IsLabeled node l u) → AreLabelsOf R l
    → (cycle : List ℕ) → slice_get cycle 0 ≡ Some node → LeadHome l cycle (length cycle) → IsCycle R cycle
    → IsFirstCycleOf R cycle
first-told R lines node l few within are rise [] at leads is = absurd is
first-told R lines node l few within are rise (x ∷ between) at leads is =
    let same : node ≡ x = sym (same_Some x node at) in
    first-of R lines x l few within (subst (λ (n : ℕ). (u : ℕ) → u < lines → IsLabeled n l u) same are) rise between leads is

-- one more place
pub lead-next : (l : Labels) (cycle : List ℕ) (n a b left : ℕ) → LeadHome l cycle n → slice_get cycle n ≡ Some a
    → slice_get cycle (place_behind n (length cycle)) ≡ Some b → left + (n + 1) ≡ length cycle → LeadsHome l left a b
    → LeadHome l cycle (n + 1)
lead-next l cycle n a b left so at at' size leads place x y lt here there left' size' = elim (cases_lt place n) [
  | inl less ↦ so place x y less here there left' size'
  | inr ge ↦
      let same : n ≡ place = omega (arith, lt, ge) in
      let x_is : a ≡ x = same_Some a x (sym at ∙ ap (slice_get cycle) same ∙ here) in
      let y_is : b ≡ y = same_Some b y (sym at' ∙ ap (λ (k : ℕ). slice_get cycle (place_behind k (length cycle))) same
      ∙ there) in
      let left_is : left ≡ left' = omega (arith, size, size', same) in
      subst (λ (k : ℕ). LeadsHome l k x y) left_is
      (subst (λ (z : ℕ). LeadsHome l left x z) y_is (subst (λ (z : ℕ). LeadsHome l left z b) x_is leads))
]
