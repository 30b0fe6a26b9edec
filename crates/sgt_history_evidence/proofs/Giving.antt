-- The first operation that gives a value of a version gives another value than the first fault of values.
use Rattle.std.proofs.Common.{◌≡◌, ◌≢◌, ℕ, ◌<◌, ◌≤◌, true, List, Some, refl, sym, ap, ◌∙◌, subst, arith, inl, inr, ◌⊎◌}
use Rattle.std.specs.Prelude.{slice_get}
use Rattle.std.proofs.lemmas.Bool.{cases_eq, cases_lt}
use Rattle.std.proofs.lemmas.Option.{same_Some}
use Rattle.sgt_history.specs.declared.history.Operation.{Operation}
use Rattle.sgt_history.specs.declared.named.Flaw.TheVariants.{Value}
use Rattle.sgt_history.specs.Transaction.{Transaction}
use Rattle.sgt_history.specs.Conflicts.{IsOperation}
use Rattle.sgt_history.specs.Flaws.{IsOtherValue, IsFirstFault, IsToldFirst}
use Rattle.sgt_history_evidence.specs.Evidence.{IsGivenOtherwise}
use Rattle.sgt_history_evidence.specs.Values.{GivesAt, IsFirstGiven}
use Rattle.sgt_history_evidence.proofs.Writing.{flaw_there}

-- the one place is before the other
abbrev Before : (line place line' place' : ℕ) → Type 0
Before line place line' place' = (line < line') ⊎ ((line ≡ line') × (place < place'))

gives : (h : List (Transaction ℕ ℕ)) (line place : ℕ) (o : Operation ℕ ℕ) → (a : IsOtherValue h line place o)
    → GivesAt h o.item o.version a.line_of a.place_of
gives h line place o a = record {
  t = a.t;
  committed = a.is.committed;
  is = record {
    o = a.other;
    there = a.is.there;
    gift = record { item_is = a.item_is; version_is = a.version_is; value = a.value_of; given = a.given_of };
  };
}

module _ (h : List (Transaction ℕ ℕ)) (line place : ℕ) (o : Operation ℕ ℕ) (a : IsOtherValue h line place o) (by at : ℕ)
    (f : IsFirstGiven h o.item o.version by at) where
  most : by ≤ a.line_of
  most = f.first a.line_of a.place_of (gives h line place o a)

  most_place : by ≡ a.line_of → at ≤ a.place_of
  most_place e =
      f.here.first a.place_of (subst (λ n. GivesAt h o.item o.version n a.place_of) (sym e) (gives h line place o a))

  before : (by < line) ⊎ ((by ≡ line) × (at < place))
  before = elim a.before [
    | inl lt ↦ inl (omega (arith, lt, most))
    | inr (e, lt) ↦ elim (cases_lt by line) [
      | inl less ↦ inl less
      | inr le ↦
          let here : by ≡ a.line_of = omega (arith, le, e, most) in
          inr (omega (arith, here, e), omega (arith, most_place here, lt))
    ]
  ]

  -- the first one stands before the other, if it gives another value than that
  prior : (f.here.gives.is.gift.value ≡ a.value_of → ⊥) → Before by at a.line_of a.place_of
  prior apart = elim (cases_lt by a.line_of) [
    | inl less ↦ inl less
    | inr le ↦
        let here : by ≡ a.line_of = omega (arith, le, most) in
        elim (cases_lt at a.place_of) [
          | inl less ↦ inr (here, less)
          | inr le' ↦ absurd (apart (same here (omega (arith, le', most_place here))))
        ]
  ]
    where
      same : by ≡ a.line_of → at ≡ a.place_of → f.here.gives.is.gift.value ≡ a.value_of
      same e e' =
          let g = f.here.gives in
          let one : g.t ≡ a.t =
          same_Some g.t a.t (sym g.committed.0 ∙ subst (λ n. slice_get h n ≡ Some a.t) (sym e) a.is.committed.0) in
          let two : g.is.o ≡ a.other =
          same_Some g.is.o a.other
          (sym (subst (λ (k : Transaction ℕ ℕ). slice_get k.operations at ≡ Some g.is.o) one g.is.there)
          ∙ subst (λ n. slice_get a.t.operations n ≡ Some a.other) (sym e') a.is.there) in
          same_Some g.is.gift.value a.value_of (sym g.is.gift.given ∙ ap (λ (k : Operation ℕ ℕ). k.value) two
          ∙ a.given_of)

  pub gives-otherwise : IsFirstFault h line Value place → IsGivenOtherwise h line place o by at
  gives-otherwise first = elim (cases_eq a.value f.here.gives.is.gift.value) [
    | inl same ↦
        let g = f.here.gives in
        let told = first.first a.line_of Value a.place_of (record {
          t = a.t;
          o = a.other;
          is = a.is;
          has = record {
            value = a.value_of;
            given = a.given_of;
            line_of = by;
            place_of = at;
            t = g.t;
            other = g.is.o;
            is = record { committed = g.committed; there = g.is.there };
            before = prior (λ e. a.apart (same ∙ e));
            item_is = g.is.gift.item_is ∙ sym a.item_is;
            version_is = g.is.gift.version_is ∙ sym a.version_is;
            value_of = g.is.gift.value;
            given_of = g.is.gift.given;
            apart = λ e. a.apart (same ∙ sym e);
          };
        }) in
        absurd (never told)
    | inr other ↦ record {
      first = f;
      other = record {
        value = a.value;
        given = a.given;
        line_of = by;
        place_of = at;
        t = f.here.gives.t;
        other = f.here.gives.is.o;
        is = record { committed = f.here.gives.committed; there = f.here.gives.is.there };
        before = before;
        item_is = f.here.gives.is.gift.item_is;
        version_is = f.here.gives.is.gift.version_is;
        value_of = f.here.gives.is.gift.value;
        given_of = f.here.gives.is.gift.given;
        apart = other;
      };
      line_is = refl;
      place_is = refl;
    }
  ]
    where
      never : IsToldFirst line 5 place a.line_of 5 a.place_of → ⊥
      never (inl lt) = elim a.before [
        | inl less ↦ omega (arith, lt, less)
        | inr (e, less) ↦ omega (arith, lt, e)
      ]
      never (inr (e, inl lt)) = omega (arith, lt)
      never (inr (e, inr (same, le))) = elim a.before [
        | inl less ↦ omega (arith, e, less)
        | inr (e', less) ↦ omega (arith, le, less)
      ]

pub given-otherwise : (h : List (Transaction ℕ ℕ)) (line place : ℕ) (t : Transaction ℕ ℕ) (o : Operation ℕ ℕ)
    → IsFirstFault h line Value place
    → IsOperation h line place t o → (by at : ℕ) → IsFirstGiven h o.item o.version by at
    → IsGivenOtherwise h line place o by at
given-otherwise h line place t o first is by at f =
    gives-otherwise h line place o (flaw_there h line Value place t o first.faulty is) by at f first

-- where none gives a value there is no such fault
pub given-none : (h : List (Transaction ℕ ℕ)) (line place : ℕ) (t : Transaction ℕ ℕ) (o : Operation ℕ ℕ)
    → IsFirstFault h line Value place
    → IsOperation h line place t o → ((line' place' : ℕ) → GivesAt h o.item o.version line' place' → ⊥) → ⊥
given-none h line place t o first is none =
    let a = flaw_there h line Value place t o first.faulty is in
    none a.line_of a.place_of (gives h line place o a)
