-- While an order is checked for sessions.
use Rattle.std.proofs.Common.{◌≡◌, ℕ, ◌+◌, ◌<◌, ◌≤◌, ◌⊎◌, List, Option, Some, None, length, replicate, refl, sym, ap, ◌∙◌, subst, arith, inl, inr}
use Rattle.std.specs.Prelude.{slice_get}
use Rattle.std.proofs.lemmas.Bool.{cases_eq, cases_lt}
use Rattle.std.proofs.lemmas.Option.{same_Some, slice_get_within}
use Rattle.sgt_history_time.specs.Kept.{IsEarlier, KeepsSessions}
use Rattle.sgt_history_time.specs.Checks.{AreBelow, IsAhead, IsBehind, IsNoted}

-- the line stands at the place and is of the session
pub record IsAt (order : List ℕ) (sessions : List (Option ℕ)) (place line session : ℕ) : Type 0 where
  pub there : slice_get order place ≡ Some line
  pub of : slice_get sessions line ≡ Some (Some session)

-- not after the last of the session
pub record UpTo (last : List (Option ℕ)) (session line : ℕ) : Type 0 where
  pub end : ℕ
  pub at : slice_get last session ≡ Some (Some end)
  pub most : line ≤ end

-- of the first n lines these came last of their sessions, and none stands behind a later one of its
pub record InSessions (order : List ℕ) (sessions : List (Option ℕ)) (n : ℕ) (last : List (Option ℕ)) : Type 0 where
  pub below : AreBelow (length last) sessions
  pub most : (i line session : ℕ) → i < n → IsAt order sessions i line session → UpTo last session line
  pub met : (session line : ℕ) → slice_get last session ≡ Some (Some line)
      → (i : ℕ) × (i < n) × IsAt order sessions i line session
  pub none : (i j first second : ℕ) → i < n → j ≤ i → slice_get order i ≡ Some first → slice_get order j ≡ Some second
      → IsEarlier sessions first second → ⊥

pub same-session : (o : Option (Option ℕ)) (s : ℕ) → (o ≡ Some (Some s)) ⊎ (o ≡ Some (Some s) → ⊥)
same-session None s = inr (λ e. cc)
same-session (Some None) s = inr (λ e. let f = same_Some None (Some s) e in cc)
same-session (Some (Some t)) s = elim (cases_eq t s) [
  | inl e ↦ inl (ap (λ u. Some (Some u)) e)
  | inr apart ↦ inr (λ e. apart (same_Some t s (same_Some (Some t) (Some s) e)))
]

pub in_sessions-next : (order : List ℕ) (sessions last new : List (Option ℕ)) (n line : ℕ)
    → InSessions order sessions n last → slice_get order n ≡ Some line
    → IsBehind sessions last line → IsNoted sessions last line new → InSessions order sessions (n + 1) new
in_sessions-next order sessions last new n line so there behind noted = record {
  below = subst (λ m. AreBelow m sessions) (sym noted.size) so.below;
  most = most;
  met = met;
  none = none;
}
  where
    last-same : (i other : ℕ) → i < n + 1 → n ≤ i → slice_get order i ≡ Some other → line ≡ other
    last-same i other lt ge at =
        let same : n ≡ i = omega (arith, lt, ge) in
        same_Some line other (sym there ∙ ap (slice_get order) same ∙ at)

    most : (i other session : ℕ) → i < n + 1 → IsAt order sessions i other session → UpTo new session other
    most i other session lt at = elim (cases_lt i n) [
      | inl less ↦
          let old = so.most i other session less at in
          elim (same-session (slice_get sessions line) session) [
            | inl own ↦ record {
              end = line;
              at = noted.own session own;
              most =
                  omega (arith, old.most, behind.behind session old.end own old.at);
            }
            | inr apart ↦ record { end = old.end; at = noted.others session apart ∙ old.at; most = old.most }
          ]
      | inr ge ↦
          let same = last-same i other lt ge at.there in
          record {
            end = line;
            at = noted.own session (ap (slice_get sessions) same ∙ at.of);
            most =
                omega (arith, same);
          }
    ]

    met : (session other : ℕ) → slice_get new session ≡ Some (Some other)
        → (i : ℕ) × (i < n + 1) × IsAt order sessions i other session
    met session other at = elim (same-session (slice_get sessions line) session) [
      | inl own ↦
          let same : line ≡ other =
          same_Some line other (same_Some (Some line) (Some other) (sym (noted.own session own) ∙ at)) in
          (n, omega arith, record { there = there ∙ ap Some same; of = ap (slice_get sessions) (sym same) ∙ own })
      | inr apart ↦
          let old = so.met session other (sym (noted.others session apart) ∙ at) in
          (old.0, omega (arith, old.1), old.2)
    ]

    none : (i j first second : ℕ) → i < n + 1 → j ≤ i → slice_get order i ≡ Some first → slice_get order j ≡ Some second
        → IsEarlier sessions first second → ⊥
    none i j first second lt le at at' before = elim (cases_lt i n) [
      | inl less ↦ so.none i j first second less le at at' before
      | inr ge ↦
          let same = last-same i first lt ge at in
          let own = ap (slice_get sessions) same ∙ before.first_at in
          elim (cases_lt j n) [
            | inl less ↦
                let up = so.most j second before.session less (record { there = at'; of = before.second_at }) in
                absurd (omega (arith, behind.behind before.session up.end own up.at, up.most, before.earlier, same))
            | inr ge' ↦
                let same' = last-same j second (omega (arith, le, lt)) ge' at' in
                absurd (omega (arith, same, same', before.earlier))
          ]
    ]

pub in_sessions-ahead : (order : List ℕ) (sessions last : List (Option ℕ)) (n line : ℕ)
    → InSessions order sessions n last → slice_get order n ≡ Some line
    → IsAhead sessions last line → KeepsSessions order sessions → ⊥
in_sessions-ahead order sessions last n line so there ahead keeps =
    let m = so.met ahead.session ahead.before ahead.last_at in
    let before : IsEarlier sessions line ahead.before =
    record { session = ahead.session; first_at = ahead.at; second_at = m.2.of; earlier = ahead.later } in
    absurd (omega (arith, keeps n m.0 line ahead.before there m.2.there before, m.1))

pub in_sessions-whole : (order : List ℕ) (sessions last : List (Option ℕ)) (n : ℕ) → length order ≤ n
    → InSessions order sessions n last → KeepsSessions order sessions
in_sessions-whole order sessions last n all so = λ i j first second at at' before. elim (cases_lt i j) [
  | inl lt ↦ lt
  | inr ge ↦ absurd (so.none i j first second (omega (arith, slice_get_within order i first at, all)) ge at at' before)
]
