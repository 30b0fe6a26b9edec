-- How often a number stands in a list, and how many edges lead to a node from one that isn't placed.
use Rattle.std.proofs.Common.{◌≡◌, ◌≢◌, ◌&&◌, ℕ, suc, ◌+◌, ◌<◌, true, false, cond, eqb, List, [], ◌∷◌, ◌++◌, length, get_or, take, refl, sym, ap, ap₂, ◌∙◌, subst, arith, inl, inr, Contains}
use Rattle.std.proofs.lemmas.Bool.{cases_eq, eq-eqb, ne_eqb, cases_Bool}
use Rattle.std.proofs.lemmas.List.Sums.{sum_by-cons, sum_by_push, sum_by_more, get_or-le-sum_by}
use Rattle.sgt_graph.specs.declared.edge.Edge.{Edge}
use Rattle.sgt_graph.specs.Graph.{Goes}
use Rattle.sgt_graph.specs.Rows.{targets_from}
use Rattle.sgt_graph.specs.Sorting.{count_of, waiting}

-- ---- how often a number stands in a list

-- 1 where they are the same, else 0
abbrev pub is_at : ℕ → ℕ → ℕ
is_at v x = cond (eqb x v) 1 0

pub count-cons : (v x : ℕ) (xs : List ℕ) → count_of v (x ∷ xs) ≡ is_at v x + count_of v xs
count-cons v x xs = sum_by-cons (is_at v) x xs

pub count-push : (v x : ℕ) (xs : List ℕ) → count_of v (xs ++ x ∷ []) ≡ count_of v xs + is_at v x
count-push v x xs = sum_by_push (is_at v) xs x

pub at-same : (v x : ℕ) → x ≡ v → is_at v x ≡ 1
at-same v x same = ap (λ b. cond b 1 0) (eq-eqb x v same)

pub at-other : (v x : ℕ) → x ≢ v → is_at v x ≡ 0
at-other v x other = ap (λ b. cond b 1 0) (ne_eqb x v other)

-- what is there is counted, and what is counted is there
pub counted-contains : (v : ℕ) (xs : List ℕ) → 0 < count_of v xs → Contains xs v
counted-contains v [] some = absurd (omega arith)
counted-contains v (x ∷ xs) some = elim (cases_eq x v) [
  | inl same ↦ (0, omega arith, same)
  | inr other ↦
      let more : 0 < count_of v xs = omega (arith, some, count-cons v x xs, at-other v x other) in
      let at = counted-contains v xs more in
      (suc at.0, omega (arith, at.1), at.2)
]

pub contains-counted : (v : ℕ) (xs : List ℕ) → Contains xs v → 0 < count_of v xs
contains-counted v xs at =
    let le = get_or-le-sum_by (is_at v) xs at.0 v at.1 in
    omega (arith, le, at-same v (get_or xs at.0 v) at.2)

pub absent-none : (v : ℕ) (xs : List ℕ) → (Contains xs v → ⊥) → count_of v xs ≡ 0
absent-none v xs absent = elim (cases_eq (count_of v xs) 0) [
  | inl none ↦ none
  | inr some ↦ absurd (absent (counted-contains v xs (omega (arith, some))))
]

-- ---- edges that lead to a node from one that isn't placed

abbrev pub is_waiting : List ℕ → ℕ → Edge → ℕ
is_waiting placed v e = cond (eqb e.to v && eqb (count_of e.from placed) 0) 1 0

pub waiting-cons : (placed : List ℕ) (v : ℕ) (e : Edge) (es : List Edge)
    → waiting placed (e ∷ es) v ≡ is_waiting placed v e + waiting placed es v
waiting-cons placed v e es = sum_by-cons (is_waiting placed v) e es

-- none waits: all edges to the node lead from those that are placed
pub waits-none : (placed : List ℕ) (edges : List Edge) (v : ℕ) → waiting placed edges v ≡ 0 → (a : ℕ) → Goes edges a v
    → Contains placed a
waits-none placed edges v none a goes =
    let e : Edge = record { from = a; to = v } in
    let le = get_or-le-sum_by (is_waiting placed v) edges goes.0 e goes.1 in
    let at : is_waiting placed v e ≡ 0 =
    subst (λ (x : Edge). is_waiting placed v x ≡ 0) goes.2 (omega (arith, le, none)) in
    elim (cases_eq (count_of a placed) 0) [
      | inl absent ↦ let one : is_waiting placed v e ≡ 1 =
          ap₂ (λ b c. cond (b && c) 1 0) (eq-eqb v v refl) (eq-eqb (count_of a placed) 0 absent) in
          absurd (omega (arith, one, at))
      | inr some ↦ counted-contains a placed (omega (arith, some))
    ]

-- and the other way round
pub none-waits : (placed : List ℕ) (edges : List Edge) (v : ℕ) → ((a : ℕ) → Goes edges a v → Contains placed a)
    → waiting placed edges v ≡ 0
none-waits placed [] v all = refl
none-waits placed (e ∷ es) v all =
    let rest = none-waits placed es v (λ a goes. all a (suc goes.0, omega (arith, goes.1), goes.2)) in
    let here : is_waiting placed v e ≡ 0 = elim (cases_eq e.to v) [
      | inl same ↦
          let goes : Goes (e ∷ es) e.from v = (0, omega arith, ap (λ (t : ℕ). record { from = e.from; to = t }) same) in
          let some = contains-counted e.from placed (all e.from goes) in
          let ne : count_of e.from placed ≢ 0 = omega (arith, some) in
          ap₂ (λ b c. cond (b && c) 1 0) (eq-eqb e.to v same) (ne_eqb (count_of e.from placed) 0 ne)
      | inr other ↦ ap (λ b. cond (b && eqb (count_of e.from placed) 0) 1 0) (ne_eqb e.to v other)
    ] in
    omega (arith, waiting-cons placed v e es, here, rest)

-- one waits: an edge leads to the node from one that isn't placed
pub waits-some : (placed : List ℕ) (edges : List Edge) (v : ℕ) → 0 < waiting placed edges v
    → (a : ℕ) × Goes edges a v × (count_of a placed ≡ 0)
waits-some placed [] v some = absurd (omega arith)
waits-some placed (e ∷ es) v some =
    let later : is_waiting placed v e ≡ 0 → (a : ℕ) × Goes (e ∷ es) a v × (count_of a placed ≡ 0) = λ none.
    let more = waits-some placed es v (omega (arith, some, waiting-cons placed v e es, none)) in
    (more.0, (suc more.1.0, omega (arith, more.1.1), more.1.2), more.2) in
    elim (cases_eq e.to v) [
      | inl same ↦ elim (cases_eq (count_of e.from placed) 0) [
        | inl absent ↦ (e.from, (0, omega arith, ap (λ (t : ℕ). record { from = e.from; to = t }) same), absent)
        | inr present ↦ later
            (ap₂ (λ b c. cond (b && c) 1 0) (eq-eqb e.to v same) (ne_eqb (count_of e.from placed) 0 present))
      ]
      | inr other ↦ later (ap (λ b. cond (b && eqb (count_of e.from placed) 0) 1 0) (ne_eqb e.to v other))
    ]

-- ---- one more is placed

-- the edges from it no longer count
one-placed : (placed : List ℕ) (a v : ℕ) (e : Edge) → count_of a placed ≡ 0
    → is_waiting (placed ++ a ∷ []) v e + cond (eqb e.from a) (is_at v e.to) 0 ≡ is_waiting placed v e
one-placed placed a v e new = elim (cases_eq e.from a) [
  | inl same ↦
      let was : eqb (count_of e.from placed) 0 ≡ true = eq-eqb _ 0 (ap (λ x. count_of x placed) same ∙ new) in
      let pushed = count-push e.from a placed in
      let one = at-same e.from a (sym same) in
      let ne : count_of e.from (placed ++ a ∷ []) ≢ 0 = omega (arith, pushed, one) in
      let is : eqb (count_of e.from (placed ++ a ∷ [])) 0 ≡ false = ne_eqb _ 0 ne in
      let from : eqb e.from a ≡ true = eq-eqb e.from a same in
      rw (was, is, from) (elim (cases_Bool (eqb e.to v)) [ inl hit ↦ rw hit refl | inr miss ↦ rw miss refl ])
  | inr other ↦
      let pushed = count-push e.from a placed in
      let off : a ≢ e.from = λ h. other (sym h) in
      let none = at-other e.from a off in
      let is : count_of e.from (placed ++ a ∷ []) ≡ count_of e.from placed = omega (arith, pushed, none) in
      let from : eqb e.from a ≡ false = ne_eqb e.from a other in
      rw (is, from) (omega arith)
]

targets-cons : (a v : ℕ) (e : Edge) (es : List Edge)
    → count_of v (targets_from (e ∷ es) a) ≡ cond (eqb e.from a) (is_at v e.to) 0 + count_of v (targets_from es a)
targets-cons a v e es = elim (cases_Bool (eqb e.from a)) [
  | inl hit ↦ rw hit (count-cons v e.to (targets_from es a))
  | inr miss ↦ rw miss (omega arith)
]

pub waiting-placed : (placed : List ℕ) (edges : List Edge) (a v : ℕ) → count_of a placed ≡ 0
    → waiting (placed ++ a ∷ []) edges v + count_of v (targets_from edges a) ≡ waiting placed edges v
waiting-placed placed [] a v new = refl
waiting-placed placed (e ∷ es) a v new =
    omega (
      arith,
      waiting-cons (placed ++ a ∷ []) v e es,
      waiting-cons placed v e es,
      targets-cons a v e es,
      one-placed placed a v e new,
      waiting-placed placed es a v new,
    )

-- ---- counted at the beginning

pub waiting-more : (edges : List Edge) (k v : ℕ) (d : Edge) → k < length edges
    → waiting [] (take (k + 1) edges) v ≡ waiting [] (take k edges) v + is_at v (get_or edges k d).to
waiting-more edges k v d lt =
    sum_by_more (is_waiting [] v) edges k d lt
    ∙ ap (λ n. waiting [] (take k edges) v + n)
    (elim (cases_Bool (eqb (get_or edges k d).to v)) [ inl hit ↦ rw hit refl | inr miss ↦ rw miss refl ])
