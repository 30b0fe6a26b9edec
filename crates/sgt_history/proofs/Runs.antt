-- The version that an item has at a place of a run: one, not below those written before, and below
-- those written from there on where the run is right.
use Rattle.std.proofs.Common.{◌≡◌, ℕ, zero, suc, ◌+◌, ◌<◌, ◌≤◌, List, Some, refl, sym, ap, ◌∙◌, subst, arith, inl, inr}
use Rattle.std.specs.Prelude.{slice_get}
use Rattle.std.proofs.lemmas.Bool.{cases_order}
use Rattle.std.proofs.lemmas.Option.{same_Some}
use Rattle.sgt_history.specs.declared.history.Operation.{Operation}
use Rattle.sgt_history.specs.Serial.{IsWriteOf, NoneWrites, IsLastWritten, Has, Follows, RunsRight}

pub one_at : {A : Type 0} (xs : List A) (p q : ℕ) (a b : A) → p ≡ q → slice_get xs p ≡ Some a
    → slice_get xs q ≡ Some b → a ≡ b
one_at xs p q a b e f g = same_Some a b (sym f ∙ ap (slice_get xs) e ∙ g)

pub one_version : {I V : Type 0} (run : List (Operation I V)) (p : ℕ) (x : I) (v w : ℕ) → Has run p x v
    → Has run p x w → v ≡ w
one_version run p x v w (inl a) (inl b) =
    elim (cases_order a.last b.last) [
      | inl e ↦ sym a.version_is ∙ ap (λ o. o.version) (one_at run a.last b.last a.o b.o e a.there b.there)
          ∙ b.version_is
      | inr (inl lt) ↦ absurd (a.none b.last b.o (omega arith) b.before b.there b.writes)
      | inr (inr gt) ↦ absurd (b.none a.last a.o (omega arith) a.before a.there a.writes)
    ]
one_version run p x v w (inl a) (inr b) = absurd (b.1 a.last a.o (omega arith) a.before a.there a.writes)
one_version run p x v w (inr a) (inl b) = absurd (a.1 b.last b.o (omega arith) b.before b.there b.writes)
one_version run p x v w (inr a) (inr b) = a.0 ∙ sym b.0

-- what a write of the item finds there
pub write-finds : {I V : Type 0} (run : List (Operation I V)) → RunsRight run → (q : ℕ) (o : Operation I V) (x : I)
    → slice_get run q ≡ Some o → IsWriteOf o x → (b : ℕ) × Has run q x b × (b < o.version)
write-finds run right q o x there writes =
    let f = (right q o there).write writes.write in
    (f.0, subst (λ y. Has run q y f.0) writes.item f.1, f.2)

pub written-most : {I V : Type 0} (run : List (Operation I V)) → RunsRight run → (top p q : ℕ) → p ≤ top
    → (o : Operation I V) (x : I) (v : ℕ)
    → slice_get run q ≡ Some o → IsWriteOf o x → Has run p x v → q < p → o.version ≤ v
written-most run right top p q le o x v there writes (inr b) lt = absurd (b.1 q o (omega arith) lt there writes)
written-most run right zero p q le o x v there writes (inl a) lt = absurd (omega arith)
written-most run right (suc top) p q le o x v there writes (inl a) lt =
    elim (cases_order q a.last) [
      | inl e ↦
          let same = ap (λ o. o.version) (one_at run q a.last o a.o e there a.there) in
          omega (arith, same, a.version_is)
      | inr (inl before) ↦
          let f = write-finds run right a.last a.o x a.there a.writes in
          let low = written-most run right top a.last q (omega (arith, a.before)) o x f.0 there writes f.1 before in
          omega (arith, low, f.2, a.version_is)
      | inr (inr behind) ↦ absurd (a.none q o (omega arith) lt there writes)
    ]

-- no write before has a greater version
pub written-before : {I V : Type 0} (run : List (Operation I V)) → RunsRight run
    → (p q : ℕ) (o : Operation I V) (x : I) (v : ℕ)
    → slice_get run q ≡ Some o → IsWriteOf o x → Has run p x v → q < p → o.version ≤ v
written-before run right p q o x v = written-most run right p p q (omega arith) o x v

-- each write from there on has a greater one
pub written-behind : {I V : Type 0} (run : List (Operation I V)) → RunsRight run
    → (p q : ℕ) (o : Operation I V) (x : I) (v : ℕ)
    → slice_get run q ≡ Some o → IsWriteOf o x → Has run p x v → p ≤ q → v < o.version
written-behind run right p q o x v there writes (inr b) le =
    let f = write-finds run right q o x there writes in
    omega (arith, b.0, f.2)
written-behind run right p q o x v there writes (inl a) le =
    let f = write-finds run right q o x there writes in
    let low = written-before run right q a.last a.o x f.0 a.there a.writes f.1 (omega (arith, a.before)) in
    omega (arith, low, f.2, a.version_is)

-- of two writes of an item the later has the greater version
pub writes-rise : {I V : Type 0} (run : List (Operation I V)) → RunsRight run → (p q : ℕ) (o w : Operation I V) (x : I)
    → slice_get run p ≡ Some o → IsWriteOf o x → slice_get run q ≡ Some w → IsWriteOf w x → p < q
    → o.version < w.version
writes-rise run right p q o w x there writes there' writes' lt =
    let f = write-finds run right q w x there' writes' in
    let low = written-before run right q p o x f.0 there writes f.1 lt in
    omega (arith, low, f.2)
