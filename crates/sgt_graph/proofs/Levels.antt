-- While ranks are looked at, edge by edge.
use Rattle.std.proofs.Common.{◌≡◌, ◌≢◌, ℕ, ◌+◌, ◌<◌, ◌≤◌, List, length, get_or, Option, None, Some, refl, sym, ap, ◌∙◌, subst, arith, inl, inr, slice_index, ◌⊎◌}
use Rattle.std.specs.Prelude.{IfNone, IfSome, slice_get}
use Rattle.std.proofs.lemmas.Bool.{cases_lt}
use Rattle.std.proofs.lemmas.Option.{same_Some, slice_get_within, slice_get-get_or}
use Rattle.sgt_names.proofs.Places.{Contains_at}
use Rattle.sgt_graph.specs.declared.edge.Edge.{Edge}
use Rattle.sgt_graph.specs.Graph.{Goes}
use Rattle.sgt_graph.specs.Nearest.{AreFalling, FallBelow}

-- what holds of each of the first edges, and of the next
pub next-edge : (P : Edge → Type 0) (edges : List Edge) (k : ℕ) (d : Edge)
    → ((i : ℕ) (e : Edge) → i < k → slice_get edges i ≡ Some e → P e)
    → k < length edges → P (get_or edges k d) → (i : ℕ) (e : Edge) → i < k + 1 → slice_get edges i ≡ Some e → P e
next-edge P edges k d before lt here i e below at = elim (cases_lt i k) [
  | inl less ↦ before i e less at
  | inr behind ↦
      let place : i ≡ k = omega (arith, below, behind) in
      subst P (same_Some (get_or edges k d) e (sym (slice_get-get_or edges k d lt) ∙ ap (slice_get edges) (sym place)
      ∙ at)) here
]

-- what holds of each edge
pub each-edge : (P : Edge → Type 0) (edges : List Edge) (k : ℕ)
    → ((i : ℕ) (e : Edge) → i < k → slice_get edges i ≡ Some e → P e) → length edges ≤ k
    → (a b : ℕ) → Goes edges a b → P (record { from = a; to = b })
each-edge P edges k all whole a b goes =
    let e : Edge = record { from = a; to = b } in
    let at = Contains_at edges e goes in
    all at.0 e (omega (arith, whole, slice_get_within edges at.0 e at.1)) at.1

-- one of a lesser node, or of which the edge falls
abbrev pub IsAbove : (ranks : List ℕ) → Option ℕ → Edge → Type 0
IsAbove ranks None e = slice_index ranks e.to ≢ slice_index ranks e.from
IsAbove ranks (Some least) e = (slice_index ranks e.to ≢ slice_index ranks e.from) ⊎ (least ≤ e.from)

abbrev pub LeastUpTo : List Edge → List ℕ → ℕ → Option ℕ → Type 0
LeastUpTo edges ranks k least = (i : ℕ) (e : Edge) → i < k → slice_get edges i ≡ Some e → IsAbove ranks least e

above-lesser : (ranks : List ℕ) (before : Option ℕ) (least : ℕ) (e : Edge)
    → ((other : ℕ) → before ≡ Some other → least ≤ other) → IsAbove ranks before e → IsAbove ranks (Some least) e
above-lesser ranks None least e old falls = inl falls
above-lesser ranks (Some other) least e old above = elim above [
  | inl falls ↦ inl falls
  | inr le ↦ inr (let less = old other refl in omega (arith, less, le))
]

pub least-hits : (edges : List Edge) (ranks : List ℕ) (k : ℕ) (before : Option ℕ) (least : ℕ) (d : Edge)
    → LeastUpTo edges ranks k before → k < length edges
    → least ≤ (get_or edges k d).from → ((other : ℕ) → before ≡ Some other → least ≤ other)
    → LeastUpTo edges ranks (k + 1) (Some least)
least-hits edges ranks k before least d so lt here old =
    next-edge (IsAbove ranks (Some least)) edges k d (λ i e below at. above-lesser ranks before least e old
    (so i e below at)) lt (inr here)

above-falls : (ranks : List ℕ) (least : Option ℕ) (e : Edge) → slice_index ranks e.to ≢ slice_index ranks e.from
    → IsAbove ranks least e
above-falls ranks None e falls = falls
above-falls ranks (Some least) e falls = inl falls

pub least-misses : (edges : List Edge) (ranks : List ℕ) (k : ℕ) (least : Option ℕ) (d : Edge)
    → LeastUpTo edges ranks k least → k < length edges
    → slice_index ranks (get_or edges k d).to ≢ slice_index ranks (get_or edges k d).from
    → LeastUpTo edges ranks (k + 1) least
least-misses edges ranks k least d so lt falls =
    next-edge (IsAbove ranks least) edges k d so lt (above-falls ranks least (get_or edges k d) falls)

pub least-some : (edges : List Edge) (ranks : List ℕ) (k : ℕ) (least : ℕ) → AreFalling edges ranks
    → LeastUpTo edges ranks k (Some least) → length edges ≤ k → FallBelow edges ranks least
least-some edges ranks k least falls so all a b goes below =
    elim (each-edge (IsAbove ranks (Some least)) edges k so all a b goes) [
      | inl unlike ↦ omega (arith, unlike, falls a b goes)
      | inr le ↦ absurd (omega (arith, le, below))
    ]

pub least-none : (edges : List Edge) (ranks : List ℕ) (k : ℕ) → AreFalling edges ranks → LeastUpTo edges ranks k None
    → length edges ≤ k → (v : ℕ) → FallBelow edges ranks v
least-none edges ranks k falls so all v a b goes below =
    let unlike = each-edge (IsAbove ranks None) edges k so all a b goes in
    omega (arith, unlike, falls a b goes)

pub some-told : (edges : List Edge) (ranks : List ℕ) (k : ℕ) (o : Option ℕ) → AreFalling edges ranks
    → LeastUpTo edges ranks k o → length edges ≤ k → IfSome o (FallBelow edges ranks)
some-told edges ranks k None falls so all = tt
some-told edges ranks k (Some least) falls so all = least-some edges ranks k least falls so all

pub none-told : (edges : List Edge) (ranks : List ℕ) (k : ℕ) (o : Option ℕ) → AreFalling edges ranks
    → LeastUpTo edges ranks k o → length edges ≤ k
    → IfNone o ((v : ℕ) → FallBelow edges ranks v)
none-told edges ranks k None falls so all = least-none edges ranks k falls so all
none-told edges ranks k (Some least) falls so all = tt
