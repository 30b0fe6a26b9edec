-- While an order is checked for real time.
use Rattle.std.proofs.Common.{◌≡◌, ℕ, ◌+◌, ◌<◌, ◌≤◌, List, Option, Some, length, refl, sym, ap, ◌∙◌, subst, arith, inl, inr}
use Rattle.std.specs.Prelude.{slice_get}
use Rattle.std.proofs.lemmas.Bool.{cases_lt}
use Rattle.std.proofs.lemmas.Option.{same_Some, slice_get_within}
use Rattle.sgt_history_time.specs.declared.times.Times.{Times}
use Rattle.sgt_history_time.specs.Kept.{IsBefore, KeepsRealTime}
use Rattle.sgt_history_time.specs.Checks.{Lags, Passes}

-- the line stands at the place and ran then
pub record RanAt (order : List ℕ) (times : List (Option Times)) (place line : ℕ) (x : Times) : Type 0 where
  pub there : slice_get order place ≡ Some line
  pub at : slice_get times line ≡ Some (Some x)

-- one of the first n began then
pub record Began (order : List ℕ) (times : List (Option Times)) (n latest : ℕ) : Type 0 where
  pub place : ℕ
  pub line : ℕ
  pub x : Times
  pub first : place < n
  pub ran : RanAt order times place line x
  pub is : x.begin ≡ latest

-- of the first n the latest begin is this one, and none was done before one up to it began
pub record InTime (order : List ℕ) (times : List (Option Times)) (n latest : ℕ) : Type 0 where
  pub most : (i line : ℕ) (x : Times) → i < n → RanAt order times i line x → x.begin ≤ latest
  pub met : 0 < latest → Began order times n latest
  pub none : (i j first second : ℕ) → i < n → j ≤ i → slice_get order i ≡ Some first → slice_get order j ≡ Some second
      → IsBefore times first second → ⊥

pub in_time-next : (order : List ℕ) (times : List (Option Times)) (n latest line next : ℕ)
    → InTime order times n latest → slice_get order n ≡ Some line
    → Passes times latest line next → InTime order times (n + 1) next
in_time-next order times n latest line next so there p = record {
  most = most;
  met = met;
  none = none;
}
  where
    last-same : (i other : ℕ) → i < n + 1 → n ≤ i → slice_get order i ≡ Some other → line ≡ other
    last-same i other lt ge at =
        let same : n ≡ i = omega (arith, lt, ge) in
        same_Some line other (sym there ∙ ap (slice_get order) same ∙ at)

    most : (i other : ℕ) (x : Times) → i < n + 1 → RanAt order times i other x → x.begin ≤ next
    most i other x lt ran = elim (cases_lt i n) [
      | inl less ↦ omega (arith, so.most i other x less ran, p.rises)
      | inr ge ↦
          let same = last-same i other lt ge ran.there in
          (p.own x (ap (slice_get times) same ∙ ran.at)).0
    ]

    met : 0 < next → Began order times (n + 1) next
    met some = elim p.met [
      | inl same ↦
          let b = so.met (omega (arith, some, same)) in
          record {
            place = b.place;
            line = b.line;
            x = b.x;
            first = omega (arith, b.first);
            ran = b.ran;
            is = b.is
                ∙ sym same;
          }
      | inr (x, at, is) ↦ record {
        place = n;
        line = line;
        x = x;
        first = omega arith;
        ran =
            record { there = there; at = at };
        is = sym is;
      }
    ]

    none : (i j first second : ℕ) → i < n + 1 → j ≤ i → slice_get order i ≡ Some first → slice_get order j ≡ Some second
        → IsBefore times first second → ⊥
    none i j first second lt le at at' before = elim (cases_lt i n) [
      | inl less ↦ so.none i j first second less le at at' before
      | inr ge ↦
          let same = last-same i first lt ge at in
          let own = p.own before.a (ap (slice_get times) same ∙ before.first_at) in
          let early = most j second before.b (omega (arith, le, lt)) (record { there = at'; at = before.second_at }) in
          absurd (omega (arith, own.1, early, before.before))
    ]

pub in_time-lags : (order : List ℕ) (times : List (Option Times)) (n latest line : ℕ) → InTime order times n latest
    → slice_get order n ≡ Some line
    → Lags times latest line → KeepsRealTime order times → ⊥
in_time-lags order times n latest line so there lags keeps = elim lags.late [
  | inl late ↦
      let b = so.met (omega (arith, late)) in
      let before : IsBefore times line b.line = record {
        a = lags.x;
        b = b.x;
        first_at = lags.at;
        second_at =
            b.ran.at;
        before = omega (arith, late, b.is);
      } in
      absurd (omega (arith, keeps n b.place line b.line there b.ran.there before, b.first))
  | inr late ↦
      let before : IsBefore times line line = record {
        a = lags.x;
        b = lags.x;
        first_at = lags.at;
        second_at =
            lags.at;
        before = late;
      } in
      absurd (omega (arith, keeps n n line line there there before))
]

pub in_time-whole : (order : List ℕ) (times : List (Option Times)) (n latest : ℕ) → length order ≤ n
    → InTime order times n latest → KeepsRealTime order times
in_time-whole order times n latest all so = λ i j first second at at' before. elim (cases_lt i j) [
  | inl lt ↦ lt
  | inr ge ↦ absurd (so.none i j first second (omega (arith, slice_get_within order i first at, all)) ge at at' before)
]
