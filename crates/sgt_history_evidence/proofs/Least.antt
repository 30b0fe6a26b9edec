-- The least version that is greater than another, of one operation more.
use Rattle.std.proofs.Common.{◌≡◌, ℕ, ◌+◌, ◌<◌, ◌≤◌, List, Option, Some, None, refl, sym, ap, ◌∙◌, subst, arith, inl, inr, ◌⊎◌, length}
use Rattle.std.specs.Prelude.{slice_get}
use Rattle.std.proofs.lemmas.Bool.{cases_lt}
use Rattle.std.proofs.lemmas.Option.{same_Some, slice_get_within}
use Rattle.sgt_history.specs.declared.history.Operation.{Operation}
use Rattle.sgt_history.specs.Serial.{IsWriteOf}
use Rattle.sgt_history_evidence.specs.Writers.{WritesUpTo, WritesIn, IsLeastGreater, TellsLeast}

more : (ops : List (Operation ℕ ℕ)) (x n v : ℕ) → WritesUpTo ops x n v → WritesUpTo ops x (n + 1) v
more ops x n v w = record {
  place = w.place;
  o = w.o;
  before = omega (arith, w.before);
  there = w.there;
  writes =
      w.writes;
  version_is = w.version_is;
}

-- what is written up to the next operation is written before, or by it
last : (ops : List (Operation ℕ ℕ)) (x n v : ℕ) (o : Operation ℕ ℕ) → slice_get ops n ≡ Some o
    → WritesUpTo ops x (n + 1) v
    → WritesUpTo ops x n v ⊎ (IsWriteOf o x × (o.version ≡ v))
last ops x n v o at w = elim (cases_lt w.place n) [
  | inl lt ↦ inl (record {
    place = w.place;
    o = w.o;
    before = lt;
    there = w.there;
    writes = w.writes;
    version_is =
        w.version_is;
  })
  | inr le ↦
      let here : n ≡ w.place = omega (arith, le, w.before) in
      let same : w.o ≡ o = same_Some w.o o (sym w.there ∙ subst (λ k. slice_get ops k ≡ Some o) here at) in
      inr (
        subst (λ (k : Operation ℕ ℕ). IsWriteOf k x) same w.writes,
        ap (λ (k : Operation ℕ ℕ). k.version) (sym same) ∙ w.version_is,
      )
]

-- the operation writes no greater version
pub least-skip : (ops : List (Operation ℕ ℕ)) (x version n : ℕ) (o : Operation ℕ ℕ) (least : Option ℕ)
    → slice_get ops n ≡ Some o
    → (IsWriteOf o x → version < o.version → ⊥) → TellsLeast ops x version n least
    → TellsLeast ops x version (n + 1) least
least-skip ops x version n o None at skip none = λ other w above. elim (last ops x n other o at w) [
  | inl before ↦ none other before above
  | inr (writes, is) ↦ skip writes (omega (arith, is, above))
]
least-skip ops x version n o (Some greater) at skip (w, above, least) = (
  more ops x n greater w,
  above,
  λ other w' above'. elim (last ops x n other o at w') [
    | inl before ↦ least other before above'
    | inr (writes, is) ↦ absurd (skip writes (omega (arith, is, above')))
  ],
)

-- it writes one that isn't less than the least so far
pub least-keep : (ops : List (Operation ℕ ℕ)) (x version n : ℕ) (o : Operation ℕ ℕ) (greater : ℕ)
    → slice_get ops n ≡ Some o → greater ≤ o.version
    → TellsLeast ops x version n (Some greater) → TellsLeast ops x version (n + 1) (Some greater)
least-keep ops x version n o greater at most (w, above, least) = (
  more ops x n greater w,
  above,
  λ other w' above'. elim (last ops x n other o at w') [
    | inl before ↦ least other before above'
    | inr (writes, is) ↦ omega (arith, is, most)
  ],
)

-- it writes the least
pub least-take : (ops : List (Operation ℕ ℕ)) (x version n : ℕ) (o : Operation ℕ ℕ) (before : Option ℕ)
    → slice_get ops n ≡ Some o → IsWriteOf o x
    → version < o.version → ((greater : ℕ) → before ≡ Some greater → o.version ≤ greater)
    → TellsLeast ops x version n before
    → TellsLeast ops x version (n + 1) (Some o.version)
least-take ops x version n o before at writes above most told = (
  record { place = n; o = o; before = omega arith; there = at; writes = writes; version_is = refl },
  above,
  λ other w' above'. elim (last ops x n other o at w') [
    | inl earlier ↦ at-most before most told other earlier above'
    | inr (w, is) ↦ omega (arith, is)
  ],
)
  where
    at-most : (before : Option ℕ) → ((greater : ℕ) → before ≡ Some greater → o.version ≤ greater)
        → TellsLeast ops x version n before
        → (other : ℕ) → WritesUpTo ops x n other → version < other → o.version ≤ other
    at-most None most none other w above = absurd (none other w above)
    at-most (Some greater) most (w', above', least) other w above =
        omega (arith, most greater refl, least other w above)

-- of all operations
whole : (ops : List (Operation ℕ ℕ)) (x v : ℕ) → WritesIn ops x v → WritesUpTo ops x (length ops) v
whole ops x v w = record {
  place = w.place;
  o = w.o;
  before = slice_get_within ops w.place w.o w.there;
  there = w.there;
  writes = w.writes;
  version_is = w.version_is;
}

pub least-whole : (ops : List (Operation ℕ ℕ)) (x version greater : ℕ)
    → TellsLeast ops x version (length ops) (Some greater) → IsLeastGreater ops x version greater
least-whole ops x version greater (w, above, least) = record {
  writes = record { place = w.place; o = w.o; there = w.there; writes = w.writes; version_is = w.version_is };
  above = above;
  least = λ other w' above'. least other (whole ops x other w') above';
}

pub least-none : (ops : List (Operation ℕ ℕ)) (x version : ℕ) → TellsLeast ops x version (length ops) None
    → (other : ℕ) → WritesIn ops x other → version < other → ⊥
least-none ops x version none other w above = none other (whole ops x other w) above
