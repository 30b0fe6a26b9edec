-- While numbers of lines are seen to rise along steps.
use Rattle.std.proofs.Common.{◌≡◌, ℕ, ◌+◌, ◌-◌, ◌<◌, ◌≤◌, List, Option, Some, None, length, set, sym, ap, ◌∙◌, subst, arith, inl, inr, ◌⊎◌, slice_index}
use Rattle.std.specs.Prelude.{IfSome, slice_get}
use Rattle.std.proofs.lemmas.Bool.{cases_eq, cases_lt}
use Rattle.std.proofs.lemmas.List.{get_or-set_other, get_or-set_same}
use Rattle.std.proofs.lemmas.Option.{same_Some, slice_get_within}
use Rattle.sgt_graph.specs.declared.edge.Edge.{Edge}
use Rattle.sgt_graph.specs.Graph.{Goes}
use Rattle.sgt_history_kept.specs.Decided.{IsAskedBefore}
use Rattle.sgt_history_kept.specs.Rising.{AreRising, IsNoted, IsNotedLine, Rises, StandsIn}
use Rattle.sgt_history_kept.specs.declared.asked.Asked.{Asked}
use Rattle.sgt_history_time.specs.Kept.{IsBefore, IsEarlier}
use Rattle.sgt_history_time.specs.declared.times.Times.{Times}

-- ---- numbers

-- of the first n
abbrev pub RiseTo : List ℕ → ℕ → Type 0
RiseTo numbers n = (i j : ℕ) → i ≤ j → j < n → slice_index numbers i ≤ slice_index numbers j

pub rise-one : (numbers : List ℕ) → RiseTo numbers 1
rise-one numbers i j le lt =
    let same : i ≡ j = omega (arith, le, lt) in
    let P : ℕ → Type 0 = λ k. slice_index numbers i ≤ slice_index numbers k in
    subst P same (omega arith)

pub rise-next : (numbers : List ℕ) (n : ℕ) → 1 ≤ n → RiseTo numbers n
    → slice_index numbers (n - 1) ≤ slice_index numbers n → RiseTo numbers (n + 1)
rise-next numbers n some so next i j le lt = elim (cases_lt j n) [
  | inl less ↦ so i j le less
  | inr ge ↦
      let here : n ≡ j = omega (arith, ge, lt) in
      let P : ℕ → Type 0 = λ k. slice_index numbers i ≤ slice_index numbers k in
      subst P here (elim (cases_lt i n) [
        | inl less ↦
            let before = so i (n - 1) (omega (arith, less, some)) (omega (arith, some)) in
            omega (arith, before, next)
        | inr ge' ↦
            let same : i ≡ n = omega (arith, ge', le, lt) in
            subst P same (omega arith)
      ])
]

-- ---- sessions

-- of the first n lines
pub record Raised (sessions : List (Option ℕ)) (left right most : List ℕ) (n : ℕ) : Type 0 where
  pub seen : (k s : ℕ) → k < n → slice_get sessions k ≡ Some (Some s) → slice_index left k ≤ slice_index most s
  pub done : (j k s : ℕ) → j < k → k < n → slice_get sessions j ≡ Some (Some s) → slice_get sessions k ≡ Some (Some s)
      → slice_index left j ≤ slice_index right k

pub raised-none : (sessions : List (Option ℕ)) (left right most : List ℕ) → Raised sessions left right most 0
raised-none sessions left right most = record {
  seen = λ k s lt at. absurd (omega (arith, lt));
  done = λ j k s lt lt' at at'. absurd (omega (arith, lt'));
}

raised-of : (sessions : List (Option ℕ)) (left right most : List ℕ) (n session : ℕ) (new : List ℕ)
    → Raised sessions left right most n → slice_get sessions n ≡ Some (Some session)
    → IsNoted most session (slice_index left n) (slice_index right n) new
    → Raised sessions left right new (n + 1)
raised-of sessions left right most n session new so here noted = record { seen = seen; done = done }
  where
    session-same : (k s : ℕ) → n ≡ k → slice_get sessions k ≡ Some (Some s) → session ≡ s
    session-same k s same at =
        same_Some session s (same_Some (Some session) (Some s) (sym here ∙ ap (slice_get sessions) same ∙ at))

    seen : (k s : ℕ) → k < n + 1 → slice_get sessions k ≡ Some (Some s) → slice_index left k ≤ slice_index new s
    seen k s lt at = elim (cases_lt k n) [
      | inl less ↦ omega (arith, so.seen k s less at, noted.grows s)
      | inr ge ↦
          let same : n ≡ k = omega (arith, ge, lt) in
          let P : ℕ → Type 0 = λ x. slice_index left x ≤ slice_index new s in
          let Q : ℕ → Type 0 = λ x. slice_index left n ≤ slice_index new x in
          subst P same (subst Q (session-same k s same at) noted.raised)
    ]

    done : (j k s : ℕ) → j < k → k < n + 1 → slice_get sessions j ≡ Some (Some s)
        → slice_get sessions k ≡ Some (Some s) → slice_index left j ≤ slice_index right k
    done j k s lt lt' at at' = elim (cases_lt k n) [
      | inl less ↦ so.done j k s lt less at at'
      | inr ge ↦
          let same : n ≡ k = omega (arith, ge, lt') in
          let P : ℕ → Type 0 = λ x. slice_index left j ≤ slice_index right x in
          let Q : ℕ → Type 0 = λ x. slice_index left j ≤ slice_index most x in
          let before = subst Q (sym (session-same k s same at')) (so.seen j s (omega (arith, lt, same)) at) in
          subst P same (omega (arith, before, noted.bound))
    ]

raised-skip : (sessions : List (Option ℕ)) (left right most : List ℕ) (n : ℕ)
    → Raised sessions left right most n → ((s : ℕ) → slice_get sessions n ≡ Some (Some s) → ⊥)
    → Raised sessions left right most (n + 1)
raised-skip sessions left right most n so none = record {
  seen = λ k s lt at. elim (cases_lt k n) [
    | inl less ↦ so.seen k s less at
    | inr ge ↦ let same : k ≡ n = omega (arith, ge, lt) in absurd (none s (ap (slice_get sessions) (sym same) ∙ at))
  ];
  done = λ j k s lt lt' at at'. elim (cases_lt k n) [
    | inl less ↦ so.done j k s lt less at at'
    | inr ge ↦ let same : k ≡ n = omega (arith, ge, lt') in absurd (none s (ap (slice_get sessions) (sym same) ∙ at'))
  ];
}

pub raised-next : (sessions : List (Option ℕ)) (left right most : List ℕ) (n : ℕ) (entry : Option ℕ) (new : List ℕ)
    → Raised sessions left right most n → slice_get sessions n ≡ Some entry
    → IsNotedLine most entry (slice_index left n) (slice_index right n) new
    → Raised sessions left right new (n + 1)
raised-next sessions left right most n None new so here noted =
    subst (λ (m : List ℕ). Raised sessions left right m (n + 1)) (sym noted)
    (raised-skip sessions left right most n so (λ s at. let no : None ≡ Some s =
    same_Some None (Some s) (sym here ∙ at) in absurd cc))
raised-next sessions left right most n (Some session) new so here noted =
    raised-of sessions left right most n session new so here noted

pub raised-whole : (sessions : List (Option ℕ)) (left right most : List ℕ) (n : ℕ) → length sessions ≤ n
    → Raised sessions left right most n → Rises (IsEarlier sessions) left right
raised-whole sessions left right most n all so a b e =
    so.done a b e.session e.earlier (omega (arith, slice_get_within sessions b (Some e.session) e.second_at, all))
    e.first_at e.second_at

-- ---- real time

-- of the first n lines
abbrev pub StandTo : (begins most : List ℕ) → List (Option Times) → (left right : List ℕ) → ℕ → Type 0
StandTo begins most times left right n = (k : ℕ) (x : Times) → k < n → slice_get times k ≡ Some (Some x)
    → StandsIn begins most x (slice_index left k) (slice_index right k)

stand-of : (begins most : List ℕ) (times : List (Option Times)) (left right : List ℕ) (n : ℕ) (ran : Times)
    → StandTo begins most times left right n → slice_get times n ≡ Some (Some ran)
    → StandsIn begins most ran (slice_index left n) (slice_index right n)
    → StandTo begins most times left right (n + 1)
stand-of begins most times left right n ran so here stands k x lt at = elim (cases_lt k n) [
  | inl less ↦ so k x less at
  | inr ge ↦
      let same : n ≡ k = omega (arith, ge, lt) in
      let ran_is : ran ≡ x = same_Some ran x (same_Some (Some ran) (Some x)
      (sym here ∙ ap (slice_get times) same ∙ at)) in
      subst (λ (i : ℕ). StandsIn begins most x (slice_index left i) (slice_index right i)) same
      (subst (λ (y : Times). StandsIn begins most y (slice_index left n) (slice_index right n)) ran_is stands)
]

stand-skip : (begins most : List ℕ) (times : List (Option Times)) (left right : List ℕ) (n : ℕ)
    → StandTo begins most times left right n → ((x : Times) → slice_get times n ≡ Some (Some x) → ⊥)
    → StandTo begins most times left right (n + 1)
stand-skip begins most times left right n so none k x lt at = elim (cases_lt k n) [
  | inl less ↦ so k x less at
  | inr ge ↦ let same : k ≡ n = omega (arith, ge, lt) in absurd (none x (ap (slice_get times) (sym same) ∙ at))
]

pub stand-next : (begins most : List ℕ) (times : List (Option Times)) (left right : List ℕ) (n : ℕ)
    (entry : Option Times) → StandTo begins most times left right n → slice_get times n ≡ Some entry
    → IfSome entry (λ x. StandsIn begins most x (slice_index left n) (slice_index right n))
    → StandTo begins most times left right (n + 1)
stand-next begins most times left right n None so here stands =
    stand-skip begins most times left right n so (λ x at. let no : None ≡ Some x =
    same_Some None (Some x) (sym here ∙ at) in absurd cc)
stand-next begins most times left right n (Some ran) so here stands =
    stand-of begins most times left right n ran so here stands

pub stand-whole : (begins most : List ℕ) (times : List (Option Times)) (left right : List ℕ) (n : ℕ)
    → length times ≤ n → AreRising begins → AreRising most → length begins ≡ length most
    → StandTo begins most times left right n → Rises (IsBefore times) left right
stand-whole begins most times left right n all begins_rise most_rise size so a b before =
    let p = so a before.a (omega (arith, slice_get_within times a (Some before.a) before.first_at, all)) before.first_at in
    let q = so b before.b (omega (arith, slice_get_within times b (Some before.b) before.second_at, all))
    before.second_at in
    elim (cases_lt q.begin p.behind) [
      | inl lt ↦
          let rises = begins_rise q.begin (p.behind - 1) (omega (arith, lt)) (omega (arith, lt, p.few)) in
          let ended = p.ended (omega (arith, lt)) in
          absurd (omega (arith, rises, ended, q.began, before.before))
      | inr ge ↦
          let rises = most_rise p.behind q.begin ge (omega (arith, q.within, size)) in
          let left_is = p.left_is (omega (arith, ge, q.within, size)) in
          omega (arith, rises, left_is, q.right_is)
    ]

-- ---- what is noted

pub noted : (old : List ℕ) (session left right most : ℕ) → session < length old → slice_index old session ≤ right
    → slice_index old session ≤ most → left ≤ most → IsNoted old session left right (set old session most)
noted old session left right most within bound more raised = record {
  grows = λ s. elim (cases_eq s session) [
    | inl same ↦
        let P : ℕ → Type 0 = λ k. slice_index old k ≤ slice_index (set old session most) k in
        subst P (sym same) (omega (arith, here, more))
    | inr apart ↦
        let there : slice_index (set old session most) s ≡ slice_index old s = get_or-set_other old session s most 0 apart
        in
        omega (arith, there)
  ];
  bound = bound;
  raised = omega (arith, here, raised);
}
  where
    here : slice_index (set old session most) session ≡ most
    here = get_or-set_same old session most 0 within

-- ---- all steps

pub rises-all : (edges : List Edge) (a : Asked) (left right : List ℕ)
    → ((x y : ℕ) → Goes edges x y → slice_index left x ≤ slice_index right y)
    → ((x y : ℕ) → IsEarlier a.sessions.items x y → slice_index left x ≤ slice_index right y)
    → ((x y : ℕ) → IsBefore a.times.items x y → slice_index left x ≤ slice_index right y)
    → (x y : ℕ) → Goes edges x y ⊎ IsAskedBefore a x y → slice_index left x ≤ slice_index right y
rises-all edges a left right conflicts sessions times x y (inl goes) = conflicts x y goes
rises-all edges a left right conflicts sessions times x y (inr (inl earlier)) = sessions x y earlier
rises-all edges a left right conflicts sessions times x y (inr (inr before)) = times x y before
