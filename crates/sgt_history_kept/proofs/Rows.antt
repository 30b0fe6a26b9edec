-- While edges are put for what is asked.
use Rattle.std.proofs.Common.{◌≡◌, ℕ, ◌+◌, List, [], ◌∷◌, ◌++◌, length, refl, sym, ap, ◌∙◌, subst, arith, inl, inr, ◌⊎◌, All}
use Rattle.std.specs.Prelude.{slice_get, Contains}
use Rattle.std.proofs.lemmas.Bool.{cases_lt}
use Rattle.std.proofs.lemmas.List.Elements.{Contains-push_cases}
use Rattle.sgt_names.proofs.Lists.{front_at, middle_at, All_in}
use Rattle.sgt_names.proofs.Places.{All-from_at, Contains_at, Contains-from_at}
use Rattle.sgt_graph.specs.declared.edge.Edge.{Edge}
use Rattle.sgt_graph.specs.Graph.{JoinsNodes}
use Rattle.sgt_history_kept.specs.declared.asked.Asked.{Asked}
use Rattle.sgt_history_kept.specs.Decided.{Adds, IsAskedBefore, IsInRow, IsInRows}

pub adds-none : (R : ℕ → ℕ → Type 0) (edges : List Edge) → ((a b : ℕ) → R a b → ⊥) → Adds R edges edges
adds-none R edges none = record {
  kept = λ e in_it. in_it;
  sound = λ e in_it. inl in_it;
  all =
      λ a b r. absurd (none a b r);
}

-- the same edges, of another relation
pub adds-same : (R S : ℕ → ℕ → Type 0) (old new : List Edge) → ((a b : ℕ) → R a b → S a b)
    → ((a b : ℕ) → S a b → R a b) → Adds R old new → Adds S old new
adds-same R S old new on back adds = record {
  kept = adds.kept;
  sound = λ e in_it. elim (adds.sound e in_it) [
    | inl before ↦ inl before
    | inr r ↦ inr (on e.from e.to r)
  ];
  all = λ a b s. adds.all a b (back a b s);
}

pub adds-both : (R S T : ℕ → ℕ → Type 0) (old mid new : List Edge) → ((a b : ℕ) → R a b → T a b)
    → ((a b : ℕ) → S a b → T a b)
    → ((a b : ℕ) → T a b → R a b ⊎ S a b) → Adds R old mid → Adds S mid new → Adds T old new
adds-both R S T old mid new one two either first second = record {
  kept = λ e in_it. second.kept e (first.kept e in_it);
  sound = λ e in_it. elim (second.sound e in_it) [
    | inl before ↦ elim (first.sound e before) [
      | inl earlier ↦ inl earlier
      | inr r ↦ inr (one e.from e.to r)
    ]
    | inr s ↦ inr (two e.from e.to s)
  ];
  all = λ a b t. elim (either a b t) [
    | inl r ↦ second.kept (record { from = a; to = b }) (first.all a b r)
    | inr s ↦ second.all a b s
  ];
}

contains-front : (xs : List Edge) (x y : Edge) → Contains xs y → Contains (xs ++ x ∷ []) y
contains-front xs x y in_it =
    let at = Contains_at xs y in_it in
    Contains-from_at (xs ++ x ∷ []) at.0 y (front_at xs (x ∷ []) at.0 y at.1)

abbrev edge-of : ℕ → ℕ → Edge
edge-of first second = record { from = first; to = second }

-- one edge more
pub adds-push : (R S : ℕ → ℕ → Type 0) (old mid new : List Edge) (first second : ℕ)
    → new ≡ mid ++ record { from = first; to = second } ∷ []
    → ((a b : ℕ) → R a b → S a b) → S first second → ((a b : ℕ) → S a b → R a b ⊎ ((a ≡ first) × (b ≡ second)))
    → Adds R old mid → Adds S old new
adds-push R S old mid new first second is on this either adds = record {
  kept = λ e in_it. subst (λ es. Contains es e) (sym is)
      (contains-front mid (edge-of first second) e (adds.kept e in_it));
  sound = λ e in_it. elim (Contains-push_cases mid (edge-of first second) e (subst (λ es. Contains es e) is in_it)) [
    | inl before ↦ elim (adds.sound e before) [
      | inl earlier ↦ inl earlier
      | inr r ↦ inr (on e.from e.to r)
    ]
    | inr same ↦ inr (subst (λ (f : Edge). S f.from f.to) same this)
  ];
  all = λ a b s. elim (either a b s) [
    | inl r ↦ subst (λ es. Contains es (record { from = a; to = b })) (sym is)
        (contains-front mid (edge-of first second) (record { from = a; to = b }) (adds.all a b r))
    | inr (a_is, b_is) ↦
        subst (λ es. Contains es (record { from = a; to = b })) (sym is)
        (subst (λ (x : ℕ). Contains (mid ++ (edge-of first second) ∷ []) (record { from = x; to = b })) (sym a_is)
        (subst (λ (y : ℕ). Contains (mid ++ (edge-of first second) ∷ []) (record { from = first; to = y })) (sym b_is)
        (Contains-from_at (mid ++ (edge-of first second) ∷ []) (length mid) (edge-of first second)
        (middle_at mid (edge-of first second) []))))
  ];
}

-- ---- a row

pub row-none : (a : Asked) (from : ℕ) (edges : List Edge) → Adds (IsInRow a from 0) edges edges
row-none a from edges = adds-none (IsInRow a from 0) edges (λ x y r. omega (arith, r.below))

pub row-more : (a : Asked) (from to x y : ℕ) → IsInRow a from to x y → IsInRow a from (to + 1) x y
row-more a from to x y r = record { is = r.is; below = omega (arith, r.below); asked = r.asked }

row-cases : (a : Asked) (from to x y : ℕ) → IsInRow a from (to + 1) x y
    → IsInRow a from to x y ⊎ ((x ≡ from) × (y ≡ to))
row-cases a from to x y r = elim (cases_lt y to) [
  | inl lt ↦ inl (record { is = r.is; below = lt; asked = r.asked })
  | inr ge ↦ inr (r.is, omega (arith, ge, r.below))
]

pub row-push : (a : Asked) (from to : ℕ) (old mid new : List Edge) → IsAskedBefore a from to
    → new ≡ mid ++ record { from = from; to = to } ∷ []
    → Adds (IsInRow a from to) old mid → Adds (IsInRow a from (to + 1)) old new
row-push a from to old mid new asked is adds =
    adds-push (IsInRow a from to) (IsInRow a from (to + 1)) old mid new from to is (row-more a from to)
    (record { is = refl; below = omega arith; asked = asked })
    (row-cases a from to) adds

pub row-skip : (a : Asked) (from to : ℕ) (old mid : List Edge) → (IsAskedBefore a from to → ⊥)
    → Adds (IsInRow a from to) old mid → Adds (IsInRow a from (to + 1)) old mid
row-skip a from to old mid not adds =
    adds-same (IsInRow a from to) (IsInRow a from (to + 1)) old mid (row-more a from to)
    (λ x y r. elim (row-cases a from to x y r) [
      | inl before ↦ before
      | inr (x_is, y_is) ↦ absurd
          (not (subst (λ (z : ℕ). IsAskedBefore a z to) x_is (subst (λ (z : ℕ). IsAskedBefore a x z) y_is r.asked)))
    ]) adds

-- ---- rows

pub rows-none : (a : Asked) (limit : ℕ) (edges : List Edge) → Adds (IsInRows a 0 limit) edges edges
rows-none a limit edges = adds-none (IsInRows a 0 limit) edges (λ x y r. omega (arith, r.first_below))

pub rows-next : (a : Asked) (from limit : ℕ) (old mid new : List Edge) → Adds (IsInRows a from limit) old mid
    → Adds (IsInRow a from limit) mid new
    → Adds (IsInRows a (from + 1) limit) old new
rows-next a from limit old mid new =
    adds-both (IsInRows a from limit) (IsInRow a from limit) (IsInRows a (from + 1) limit) old mid new
    (λ x y r. record { first_below = omega (arith, r.first_below); second_below = r.second_below; asked = r.asked })
    (λ x y r. record { first_below = omega (arith, r.is); second_below = r.below; asked = r.asked })
    (λ x y r. elim (cases_lt x from) [
      | inl lt ↦ inl (record { first_below = lt; second_below = r.second_below; asked = r.asked })
      | inr ge ↦ inr (record { is = omega (arith, ge, r.first_below); below = r.second_below; asked = r.asked })
    ])

pub rows-join : (a : Asked) (lines : ℕ) (old new : List Edge) → Adds (IsInRows a lines lines) old new
    → All (JoinsNodes lines) old → All (JoinsNodes lines) new
rows-join a lines old new adds all =
    All-from_at (JoinsNodes lines) new (λ k e at. elim (adds.sound e (Contains-from_at new k e at)) [
      | inl before ↦ All_in (JoinsNodes lines) old e all before
      | inr r ↦ (r.first_below, r.second_below)
    ])

pub none-join : (nodes : ℕ) (edges : List Edge) → edges ≡ [] → All (JoinsNodes nodes) edges
none-join nodes edges is = All-from_at (JoinsNodes nodes) edges (λ k e at. let f =
    ap (λ (l : List Edge). slice_get l k) (sym is) ∙ at in absurd cc)
