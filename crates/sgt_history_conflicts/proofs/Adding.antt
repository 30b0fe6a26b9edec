-- Pairs, one more at a time.
use Rattle.std.proofs.Common.{◌≡◌, ◌≢◌, ℕ, zero, suc, ◌+◌, ◌-◌, ◌<◌, ◌≤◌, true, List, [], ◌∷◌, ◌++◌, Option, Some, None, length, refl, sym, ap, ◌∙◌, subst, arith, inl, inr, ◌⊎◌, Contains, append_assoc, append-nil}
use Rattle.std.specs.Prelude.{slice_get}
use Rattle.std.proofs.lemmas.Bool.{cases_eq, cases_lt, cases_order}
use Rattle.std.proofs.lemmas.Option.{same_Some, slice_get_within}
use Rattle.sgt_names.proofs.Places.{Contains_at, Contains-from_at}
use Rattle.sgt_names.proofs.Lists.{front_at, middle_at}
use Rattle.sgt_history.specs.declared.named.Conflict.{Conflict}
use Rattle.sgt_history.specs.declared.named.Conflict.TheVariants.{WriteWrite, WriteRead, ReadWrite}
use Rattle.sgt_history_faults.specs.declared.touch.Touch.{Touch}
use Rattle.sgt_graph.specs.declared.edge.Edge.{Edge}
use Rattle.sgt_history_conflicts.specs.Pairs.{IsWritten, Meets, NoneBetween, IsPair, IsLast, IsFirst, AddsPairs}

-- nothing yet, where no places are so
pub nothing_added : (touches : List Touch) (kind : Conflict) (Are : ℕ → ℕ → Type 0) (old : List Edge)
    → ((i k : ℕ) → Are i k → IsPair touches kind i k → ⊥)
    → AddsPairs touches kind Are old old
nothing_added touches kind Are old never = record {
  more = [];
  is = sym (append-nil old);
  sound = λ p in_it. let at = Contains_at [] p in_it in absurd (cc (at.1));
  all = λ i k are pair. absurd (never i k are pair);
}

-- the same pairs are all of other places
pub added-more : (touches : List Touch) (kind : Conflict) (Are May : ℕ → ℕ → Type 0) (old new : List Edge)
    → ((i k : ℕ) → May i k → IsPair touches kind i k → Are i k) → AddsPairs touches kind Are old new
    → AddsPairs touches kind May old new
added-more touches kind Are May old new narrow a = record {
  more = a.more;
  is = a.is;
  sound = a.sound;
  all = λ i k may pair. a.all i k (narrow i k may pair) pair;
}

-- one pair more is all of other places
pub added-one : (touches : List Touch) (kind : Conflict) (Are May : ℕ → ℕ → Type 0) (old new : List Edge) (e : Edge)
    → IsPair touches kind e.from e.to
    → ((i k : ℕ) → May i k → IsPair touches kind i k → Are i k ⊎ ((i ≡ e.from) × (k ≡ e.to)))
    → AddsPairs touches kind Are old new → AddsPairs touches kind May old (new ++ e ∷ [])
added-one touches kind Are May old new e pair narrow a = record {
  more = a.more ++ e ∷ [];
  is = ap (λ xs. xs ++ e ∷ []) a.is ∙ append_assoc old a.more (e ∷ []);
  sound = λ p in_it.
      let at = Contains_at (a.more ++ e ∷ []) p in_it in
      sounds p at.0 at.1;
  all = λ i k may is. elim (narrow i k may is) [
    | inl are ↦
        let at = Contains_at a.more (record { from = i; to = k }) (a.all i k are is) in
        Contains-from_at (a.more ++ e ∷ []) at.0 (record { from = i; to = k })
        (front_at a.more (e ∷ []) at.0 (record { from = i; to = k }) at.1)
    | inr (one, two) ↦
        subst (λ x. Contains (a.more ++ e ∷ []) (record { from = x; to = k })) (sym one)
        (subst (λ y. Contains (a.more ++ e ∷ []) (record { from = e.from; to = y })) (sym two)
        (Contains-from_at (a.more ++ e ∷ []) (length a.more) e (middle_at a.more e [])))
  ];
}
  where
    sounds : (p : Edge) (n : ℕ) → slice_get (a.more ++ e ∷ []) n ≡ Some p → IsPair touches kind p.from p.to
    sounds p n at = in-either a.more n at (λ m there. a.sound p (Contains-from_at a.more m p there))
      where
        in-either : (xs : List Edge) (n : ℕ) → slice_get (xs ++ e ∷ []) n ≡ Some p
            → ((m : ℕ) → slice_get xs m ≡ Some p → IsPair touches kind p.from p.to)
            → IsPair touches kind p.from p.to
        in-either [] zero at f = subst (λ q. IsPair touches kind q.from q.to) (same_Some e p at) pair
        in-either [] (suc n) at f = absurd (cc (at))
        in-either (x ∷ xs) zero at f = f zero at
        in-either (x ∷ xs) (suc n) at f = in-either xs n at (λ m there. f (suc m) there)

-- ---- the last write

first-written : (kind : Conflict) (a b : Touch) → kind ≢ ReadWrite → Meets kind a b → IsWritten a
first-written WriteWrite a b not m = m.2
first-written WriteRead a b not m = m.2
first-written ReadWrite a b not m = absurd (not refl)

-- a pair with this place behind is with the last write
pub only-last : (touches : List Touch) (kind : Conflict) (at : ℕ) (last : Option ℕ) → kind ≢ ReadWrite
    → IsLast touches at last
    → (i k : ℕ) → k < at + 1 → IsPair touches kind i k → (k < at) ⊎ ((last ≡ Some i) × (k ≡ at))
only-last touches kind at None not none i k lt pair =
    elim (cases_eq k at) [
      | inl e ↦ absurd (none i pair.a (omega (arith, pair.before, e)) pair.first
          (first-written kind pair.a pair.b not pair.meets))
      | inr apart ↦ inl (omega arith)
    ]
only-last touches kind at (Some p) not is i k lt pair =
    elim (cases_eq k at) [
      | inr apart ↦ inl (omega arith)
      | inl e ↦ inr (
        elim (cases_order i p) [
          | inl same ↦ ap Some (sym same)
          | inr (inl less) ↦ absurd (pair.none p is.1 less (omega (arith, is.0, e)) is.2 is.3)
          | inr (inr more) ↦ absurd (is.4 i pair.a more (omega (arith, pair.before, e)) pair.first
              (first-written kind pair.a pair.b not pair.meets))
        ],
        e,
      )
    ]

-- a pair with this place in front is with the first write behind it
pub only-first : (touches : List Touch) (at : ℕ) (first : Option ℕ) → IsFirst touches (at + 1) first
    → (i k : ℕ) → at ≤ i → IsPair touches ReadWrite i k → (at + 1 ≤ i) ⊎ ((i ≡ at) × (first ≡ Some k))
only-first touches at None none i k le pair =
    elim (cases_eq i at) [
      | inl e ↦ absurd (none k pair.b (omega (arith, pair.before, e)) pair.second pair.meets.3)
      | inr apart ↦ inl (omega arith)
    ]
only-first touches at (Some p) is i k le pair =
    elim (cases_eq i at) [
      | inr apart ↦ inl (omega arith)
      | inl e ↦ inr (
        e,
        elim (cases_order k p) [
          | inl same ↦ ap Some (sym same)
          | inr (inl less) ↦ absurd (is.4 k pair.b (omega (arith, pair.before, e)) less pair.second pair.meets.3)
          | inr (inr more) ↦ absurd (pair.none p is.1 (omega (arith, is.0, e)) more is.2 is.3)
        ],
      )
    ]

-- the pair with the last write
pub pair-behind : (touches : List Touch) (kind : Conflict) (p at : ℕ) (a b : Touch) → IsLast touches at (Some p)
    → slice_get touches p ≡ Some a
    → slice_get touches at ≡ Some b → Meets kind a b → IsPair touches kind p at
pair-behind touches kind p at a b is there there' meets =
    record { a = a; b = b; first = there; second = there'; before = is.0; none = is.4; meets = meets }

pub pair-before : (touches : List Touch) (at p : ℕ) (a b : Touch) → IsFirst touches (at + 1) (Some p)
    → slice_get touches at ≡ Some a
    → slice_get touches p ≡ Some b → Meets ReadWrite a b → IsPair touches ReadWrite at p
pair-before touches at p a b is there there' meets =
    record {
      a = a;
      b = b;
      first = there;
      second = there';
      before = omega (arith, is.0);
      none =
          λ m e above below. is.4 m e (omega arith) below;
      meets = meets;
    }
