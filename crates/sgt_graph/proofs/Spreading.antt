-- While the lengths of walks are found round by round.
use Rattle.std.proofs.Common.{◌≡◌, ◌≢◌, ℕ, suc, ◌+◌, ◌<◌, ◌≤◌, eqb, cond, Bool, true, false, List, length, get_or, set, Some, refl, sym, ap, ◌∙◌, subst, arith, inl, inr, slice_index, All}
use Rattle.std.specs.Bool.{MatchBool}
use Rattle.std.specs.Prelude.{slice_get}
use Rattle.std.proofs.lemmas.Bool.{cases_eq, cases_lt, eq-eqb, ne_eqb}
use Rattle.std.proofs.lemmas.List.{get_or-set_same, get_or-set_other, length-set}
use Rattle.std.proofs.lemmas.List.Sums.{sum_by-set}
use Rattle.std.proofs.lemmas.Option.{same_Some, slice_get_within, slice_get-get_or}
use Rattle.sgt_names.proofs.Places.{Contains_at, Contains-from_at}
use Rattle.sgt_graph.specs.declared.edge.Edge.{Edge}
use Rattle.sgt_graph.specs.Graph.{Goes, JoinsNodes}
use Rattle.sgt_graph.specs.Nearest.{AreMeasured, AreSpread, Reaches, far_of}

module _ (edges : List Edge) (far v round k : ℕ) (distances : List ℕ) (d : Edge)
    (so : AreSpread edges far v round k (round + 1) distances)
    (lt : k < length edges) where
  abbrev e : Edge
  e = get_or edges k d

  here : slice_get edges k ≡ Some e
  here = slice_get-get_or edges k d lt

  pub spread-misses : (slice_index distances e.to ≡ round → slice_index distances e.from ≢ far)
      → AreSpread edges far v round (k + 1) (round + 1) distances
  spread-misses unlike = record {
    home = so.home;
    small = so.small;
    near = so.near;
    closed = so.closed;
    done = λ i u below there same. elim (cases_lt i k) [
      | inl before ↦ so.done i u before there same
      | inr behind ↦
          let at : i ≡ k = omega (arith, below, behind) in
          let is : e ≡ u = same_Some e u (sym here ∙ ap (slice_get edges) (sym at) ∙ there) in
          subst (λ (x : Edge). slice_index distances x.from ≤ round + 1) is
          (so.near e.from (elim (cases_lt (slice_index distances e.from) far) [
            | inl less ↦ less
            | inr most ↦ absurd (unlike (ap (λ (x : Edge). slice_index distances x.to) is
                ∙ same) (omega (arith, most, so.small e.from)))
          ]))
    ];
    walked = so.walked;
  }

  pub spread-hits : round + 1 < far → slice_index distances e.to ≡ round → slice_index distances e.from ≡ far
      → e.to < length distances → e.from < length distances
      → AreSpread edges far v round (k + 1) (round + 1) (set distances e.from (round + 1))
  spread-hits room to_is from_is to_in from_in = record {
    home = old v (λ same. omega (arith, room, so.home, from_is, ap (λ x. slice_index distances x) same)) ∙ so.home;
    small = λ a. elim (cases_eq a e.from) [
      | inl same ↦ omega (arith, room, at a same)
      | inr other ↦ omega (arith, old a other, so.small a)
    ];
    near = λ a below. elim (cases_eq a e.from) [
      | inl same ↦ omega (arith, at a same)
      | inr other ↦ omega (arith, old a other, so.near a (omega (arith, old a other, below)))
    ];
    closed = λ a b goes below. elim (cases_eq b e.from) [
      | inl same ↦ absurd (omega (arith, below, at b same))
      | inr other ↦
          let one = so.closed a b goes (omega (arith, below, old b other)) in
          elim (cases_eq a e.from) [
            | inl same ↦ absurd (omega (
              arith,
              one,
              room,
              from_is,
              ap (λ x. slice_index distances x) same,
              below,
              old b other,
            ))
            | inr apart ↦ omega (arith, one, old a apart, old b other)
          ]
    ];
    done = λ i u below there same. elim (cases_eq u.from e.from) [
      | inl is ↦ omega (arith, at u.from is)
      | inr apart ↦ elim (cases_lt i k) [
        | inl before ↦ elim (cases_eq u.to e.from) [
          | inl is ↦ absurd (omega (arith, same, at u.to is))
          | inr other ↦ omega (arith, old u.from apart, so.done i u before there (sym (old u.to other) ∙ same))
        ]
        | inr behind ↦
            let place : i ≡ k = omega (arith, below, behind) in
            let is : e ≡ u = same_Some e u (sym here ∙ ap (slice_get edges) (sym place) ∙ there) in
            absurd (apart (ap (λ (x : Edge). x.from) (sym is)))
      ]
    ];
    walked = λ a within below. elim (cases_eq a e.from) [
      | inl same ↦
          let more : Reaches edges round e.to v =
          subst (λ (n : ℕ). Reaches edges n e.to v) to_is (so.walked e.to to_in (omega (arith, to_is, room))) in
          let goes : Goes edges e.from e.to = Contains-from_at edges k e here in
          let walk : Reaches edges (suc round) e.from v = (e.to, goes, more) in
          let size : suc round ≡ slice_index new a = omega (arith, at a same) in
          subst (λ (n : ℕ). Reaches edges n a v) size (subst (λ (x : ℕ). Reaches edges (suc round) x v) (sym same) walk)
      | inr other ↦ subst (λ (n : ℕ). Reaches edges n a v) (sym (old a other))
          (so.walked a (omega (arith, within, length-set distances e.from (round + 1)))
          (omega (arith, below, old a other)))
    ];
  }
    where
      new : List ℕ
      new = set distances e.from (round + 1)

      at : (a : ℕ) → a ≡ e.from → slice_index new a ≡ round + 1
      at a same = ap (λ x. slice_index new x) same ∙ get_or-set_same distances e.from (round + 1) 0 from_in

      old : (a : ℕ) → a ≢ e.from → slice_index new a ≡ slice_index distances a
      old a other = get_or-set_other distances e.from a (round + 1) 0 other

-- one less is too far
pub far-fewer : (far : ℕ) (distances : List ℕ) (a n : ℕ) → a < length distances → slice_index distances a ≡ far
    → n ≢ far → far_of far (set distances a n) + 1 ≡ far_of far distances
far-fewer far distances a n within is other =
    let sums = sum_by-set (λ x. cond (eqb x far) 1 0) distances a n 0 within in
    let P : ℕ → ℕ = λ x. cond (eqb x far) 1 0 in
    let one : P (slice_index distances a) ≡ 1 = ap (λ b. cond b 1 0) (eq-eqb (slice_index distances a) far is) in
    let none : P n ≡ 0 = ap (λ b. cond b 1 0) (ne_eqb n far other) in
    omega (arith, sums, one, none)

-- ---- behind a round

one-more : (edges : List Edge) (far v round k most : ℕ) (distances : List ℕ)
    → AreSpread edges far v round k most distances → length edges ≤ k → (a b : ℕ) → Goes edges a b
    → slice_index distances b < round + 1 → slice_index distances a ≤ slice_index distances b + 1
one-more edges far v round k most distances so all a b goes below = elim (cases_lt (slice_index distances b) round) [
  | inl less ↦ so.closed a b goes less
  | inr same ↦
      let is : slice_index distances b ≡ round = omega (arith, same, below) in
      let at = Contains_at edges (record { from = a; to = b }) goes in
      omega (
        arith,
        is,
        so.done at.0 (record { from = a; to = b })
            (omega (arith, all, slice_get_within edges at.0 (record { from = a; to = b }) at.1)) at.1 is,
      )
]

pub spread-more : (edges : List Edge) (far v round k : ℕ) (distances : List ℕ)
    → AreSpread edges far v round k (round + 1) distances → length edges ≤ k
    → AreSpread edges far v (round + 1) 0 (round + 1) distances
spread-more edges far v round k distances so all = record {
  home = so.home;
  small = so.small;
  near = so.near;
  closed = one-more edges far v round k (round + 1) distances so all;
  done = λ i e below there same. absurd (omega (arith, below));
  walked = so.walked;
}

pub spread-all : (edges : List Edge) (far v round k : ℕ) (old distances : List ℕ)
    → AreSpread edges far v round k (round + 1) distances → length edges ≤ k → round + 1 < far
    → AreSpread edges far v round 0 round old → distances ≡ old → All (JoinsNodes (length distances)) edges
    → AreMeasured edges far distances v
spread-all edges far v round k old distances so all room before same joins = record {
  joins = joins;
  home = so.home;
  closed = λ a b goes. elim (cases_lt (slice_index distances b) far) [
    | inl less ↦ one a b goes less
    | inr most ↦ omega (arith, most, so.small a)
  ];
  reached = λ a b goes less. omega (arith, one a b goes less, room, near b less);
  walked = so.walked;
}
  where
    near : (b : ℕ) → slice_index distances b < far → slice_index distances b ≤ round
    near b less =
        let is : slice_index distances b ≡ slice_index old b = ap (λ (ds : List ℕ). slice_index ds b) same in
        omega (arith, is, before.near b (omega (arith, is, less)))

    one : (a b : ℕ) → Goes edges a b → slice_index distances b < far
        → slice_index distances a ≤ slice_index distances b + 1
    one a b goes less = one-more edges far v round k (round + 1) distances so all a b goes (omega (arith, near b less))

pub spread-told : (edges : List Edge) (far v round k : ℕ) (old distances : List ℕ) (found : Bool)
    → AreSpread edges far v round k (round + 1) distances → length edges ≤ k
    → round + 1 < far → AreSpread edges far v round 0 round old → (found ≡ false → distances ≡ old)
    → All (JoinsNodes (length distances)) edges
    → MatchBool found (AreSpread edges far v (round + 1) 0 (round + 1) distances) (AreMeasured edges far distances v)
spread-told edges far v round k old distances true so all room before same joins =
    spread-more edges far v round k distances so all
spread-told edges far v round k old distances false so all room before same joins =
    spread-all edges far v round k old distances so all room before (same refl) joins
