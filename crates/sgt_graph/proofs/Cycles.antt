-- What ranks and distances tell of cycles.
use Rattle.std.proofs.Common.{◌≡◌, ◌≢◌, ◌⊎◌, ℕ, zero, suc, ◌+◌, ◌<◌, ◌≤◌, true, false, Option, None, Some, Vec, Global, All, AllPairs, List, [], ◌∷◌, ◌++◌, length, refl, sym, ap, ◌∙◌, subst, arith, inl, inr, slice_index, length-append}
use Rattle.std.specs.Option.{is_some}
use Rattle.std.specs.Prelude.{IfNone, IfSome, slice_get}
use Rattle.std.proofs.lemmas.Bool.{cases_lt, cases_order}
use Rattle.std.proofs.lemmas.Option.{same_Some, slice_get_within}
use Rattle.sgt_names.proofs.Lists.{All_in, front_at}
use Rattle.sgt_names.proofs.Places.{AllPairs-from_at}
use Rattle.sgt_graph.specs.declared.edge.Edge.{Edge}
use Rattle.sgt_graph.specs.First.{IsFirstCycle, IsFirstThrough, IsShownFirst, IsWordFirst, TellsFirst, TellsFirstThrough}
use Rattle.sgt_graph.specs.Graph.{Goes, IsChain, IsCycle, JoinsNodes}
use Rattle.sgt_graph.specs.Nearest.{AreClosed, AreFalling, FallBelow, IsHomeward, IsNearer, IsWayHome, NoneBelow, NoneFrom}

-- ---- ranks

chain-falls : (edges : List Edge) (ranks : List ℕ) → AreFalling edges ranks → (a : ℕ) (bs : List ℕ) (v : ℕ)
    → IsChain (Goes edges) a (bs ++ v ∷ [])
    → slice_index ranks v ≤ slice_index ranks a
chain-falls edges ranks falls a [] v chain = falls a v chain.0
chain-falls edges ranks falls a (b ∷ bs) v chain =
    omega (arith, falls a b chain.0, chain-falls edges ranks falls b bs v chain.1)

pub none-below : (edges : List Edge) (ranks : List ℕ) (v : ℕ) → AreFalling edges ranks → FallBelow edges ranks v
    → NoneBelow edges v
none-below edges ranks v falls below u lt [] chain = omega (arith, below u u chain.0 lt)
none-below edges ranks v falls below u lt (b ∷ bs) chain =
    omega (arith, below u b chain.0 lt, chain-falls edges ranks falls b bs u chain.1)

pub none-below-candidate : (edges : List Edge) (ranks : List ℕ) (o : Option ℕ) → AreFalling edges ranks
    → IfSome o (FallBelow edges ranks) → IfSome o (NoneBelow edges)
none-below-candidate edges ranks None falls below = tt
none-below-candidate edges ranks (Some v) falls below = none-below edges ranks v falls below

pub none-of-falling : (edges : List Edge) (ranks : List ℕ) → AreFalling edges ranks
    → ((v : ℕ) → FallBelow edges ranks v) → (other : List ℕ) → IsCycle (Goes edges) other → ⊥
none-of-falling edges ranks falls all [] o = o
none-of-falling edges ranks falls all (a ∷ between) o =
    none-below edges ranks (a + 1) falls (all (a + 1)) a (omega arith) between o

-- ---- distances

pub nearer-le : (distances : List ℕ) (a b : ℕ) → IsNearer distances a b
    → slice_index distances a ≤ slice_index distances b
nearer-le distances a b near = elim near [ inl lt ↦ omega (arith, lt) | inr same ↦ omega (arith, same.0) ]

module _ (edges : List Edge) (distances : List ℕ) (closed : AreClosed edges distances) (v : ℕ)
    (home : slice_index distances v ≡ 0) where
  chain-far : (a : ℕ) (bs : List ℕ) → IsChain (Goes edges) a (bs ++ v ∷ []) → slice_index distances a ≤ length bs + 1
  chain-far a [] chain = omega (arith, closed a v chain.0, home)
  chain-far a (b ∷ bs) chain = omega (arith, closed a b chain.0, chain-far b bs chain.1)

  -- the first node behind a is ns near ns there are nodes on the chain
  first-far : (a : ℕ) (bs : List ℕ) → IsChain (Goes edges) a (bs ++ v ∷ [])
      → (b : ℕ) × Goes edges a b × (slice_index distances b ≤ length bs)
  first-far a [] chain = (v, chain.0, omega (arith, home))
  first-far a (b ∷ bs) chain = (b, chain.0, omega (arith, chain-far b bs chain.1))

  first-home : (a : ℕ) (ns : List ℕ) → IsHomeward edges distances a (ns ++ v ∷ [])
      → (n : ℕ) × (slice_index distances n ≡ length ns) × ((t : ℕ) → Goes edges a t → IsNearer distances n t)
  first-home a [] way = (v, way.1, way.2)
  first-home a (n ∷ ns) way = (n, omega (arith, way.1, length-append ns (v ∷ [])), way.2)

  shorter : (a : ℕ) (ns bs : List ℕ) → IsHomeward edges distances a (ns ++ v ∷ [])
      → IsChain (Goes edges) a (bs ++ v ∷ []) → length ns ≤ length bs
  shorter a ns bs way chain =
      let n = first-home a ns way in
      let b = first-far a bs chain in
      let near = nearer-le distances n.0 b.0 (n.2 b.0 b.1) in
      omega (arith, n.1, b.2, near)

  word-first : (a : ℕ) (ns bs : List ℕ) → IsHomeward edges distances a (ns ++ v ∷ [])
      → IsChain (Goes edges) a (bs ++ v ∷ []) → length ns ≡ length bs
      → IsWordFirst ns bs
  word-first a [] bs way chain size = tt
  word-first a (n ∷ ns) [] way chain size = absurd (omega (arith, size))
  word-first a (n ∷ ns) (b ∷ bs) way chain size = elim (way.2 b chain.0) [
    | inl less ↦ absurd (omega (arith, less, way.1, length-append ns (v ∷ []), chain-far b bs chain.1, size))
    | inr near ↦ elim (cases_lt n b) [
      | inl lt ↦ inl lt
      | inr ge ↦
          let same : b ≡ n = omega (arith, ge, near.1) in
          inr (
            sym same,
            word-first n ns bs way.3 (subst (λ (x : ℕ). IsChain (Goes edges) x (bs ++ v ∷ [])) same chain.1)
                (omega (arith, size)),
          )
    ]
  ]

homeward-chain : (edges : List Edge) (distances : List ℕ) (a : ℕ) (bs : List ℕ) → IsHomeward edges distances a bs
    → IsChain (Goes edges) a bs
homeward-chain edges distances a [] way = tt
homeward-chain edges distances a (b ∷ bs) way = (way.0, homeward-chain edges distances b bs way.3)

homeward-end : (edges : List Edge) (distances : List ℕ) (a : ℕ) (bs : List ℕ) (v : ℕ)
    → IsHomeward edges distances a (bs ++ v ∷ []) → slice_index distances v ≡ 0
homeward-end edges distances a [] v way = way.1
homeward-end edges distances a (b ∷ bs) v way = homeward-end edges distances b bs v way.3

-- the node at a place of the way is as far as there are nodes behind it
homeward-at : (edges : List Edge) (distances : List ℕ) (a : ℕ) (bs : List ℕ) (n b : ℕ)
    → IsHomeward edges distances a bs → slice_get bs n ≡ Some b → slice_index distances b + n + 1 ≡ length bs
homeward-at edges distances a [] n b way at = absurd cc
homeward-at edges distances a (c ∷ cs) zero b way at =
    omega (arith, way.1, ap (slice_index distances) (same_Some c b at))
homeward-at edges distances a (c ∷ cs) (suc n) b way at = omega (arith, homeward-at edges distances c cs n b way.3 at)

-- ---- the first cycle through a node

pub through-of : (edges : List Edge) (distances : List ℕ) (node : ℕ) (cycle : List ℕ) → AreClosed edges distances
    → IsWayHome edges distances node cycle → IsFirstThrough edges node cycle
through-of edges distances node cycle closed way = record {
  between = between;
  begins = way.is;
  is = subst (IsCycle (Goes edges)) (sym way.is)
      (homeward-chain edges distances node (between ++ node ∷ []) way.homeward);
  once = subst (AllPairs (λ a b. a ≢ b)) (sym way.is) (AllPairs-from_at (λ a b. a ≢ b) (node ∷ between) apart);
  first = λ other o. subst (λ (c : List ℕ). IsShownFirst c (node ∷ other)) (sym way.is) (inr (refl, shown other o));
}
  where
    between : List ℕ
    between = way.between

    home : slice_index distances node ≡ 0
    home = homeward-end edges distances node between node way.homeward

    far : (n b : ℕ) → slice_get between n ≡ Some b → (n < length between) × (slice_index distances b + n ≡ length between)
    far n b at =
        let behind = homeward-at edges distances node (between ++ node ∷ []) n b way.homeward
        (front_at between (node ∷ []) n b at) in
        (slice_get_within between n b at, omega (arith, behind, length-append between (node ∷ [])))

    apart : (p q a b : ℕ) → p < q → slice_get (node ∷ between) p ≡ Some a → slice_get (node ∷ between) q ≡ Some b → a ≢ b
    apart zero zero a b lt at_p at_q same = absurd (omega (arith, lt))
    apart (suc p) zero a b lt at_p at_q same = absurd (omega (arith, lt))
    apart zero (suc q) a b lt at_p at_q same =
        let one = ap (slice_index distances) (same_Some node a at_p ∙ same) in
        let there = far q b at_q in
        absurd (omega (arith, home, one, there.0, there.1))
    apart (suc p) (suc q) a b lt at_p at_q same =
        let one = ap (slice_index distances) same in
        let here = far p a at_p in
        let there = far q b at_q in
        absurd (omega (arith, lt, one, here.0, here.1, there.0, there.1))

    shown : (other : List ℕ) → IsCycle (Goes edges) (node ∷ other) → (length between < length other)
        ⊎ ((length between ≡ length other) × IsWordFirst between other)
    shown other o = elim (cases_lt (length between) (length other)) [
      | inl short ↦ inl short
      | inr long ↦
          let size : length between ≡ length other =
          omega (arith, long, shorter edges distances closed node home node between other way.homeward o) in
          inr (size, word-first edges distances closed node home node between other way.homeward o size)
    ]

pub told-through : (edges : List Edge) (distances : List ℕ) (node : ℕ) (found : Option (Vec ℕ Global))
    → AreClosed edges distances → IfSome found (λ cycle. IsWayHome edges distances node cycle.items)
    → IfSome found (λ cycle. IsFirstThrough edges node cycle.items)
told-through edges distances node None closed way = tt
told-through edges distances node (Some cycle) closed way = through-of edges distances node cycle.items closed way

pub tells-through : (edges : List Edge) (distances : List ℕ) (node : ℕ) (found : Option (Vec ℕ Global))
    → AreClosed edges distances → IfSome found (λ cycle. IsWayHome edges distances node cycle.items)
    → IfNone found (NoneFrom edges node) → TellsFirstThrough edges node found
tells-through edges distances node None closed way none = none
tells-through edges distances node (Some cycle) closed way none =
    through-of edges distances node cycle.items closed way

-- ---- the first cycle of all

-- it is the one through a node below which none lies on a cycle
first-of : (edges : List Edge) (node : ℕ) (cycle : List ℕ) → NoneBelow edges node → IsFirstThrough edges node cycle
    → IsFirstCycle edges cycle
first-of edges node cycle none through = record { is = through.is; first = shown }
  where
    shown : (other : List ℕ) → IsCycle (Goes edges) other → IsShownFirst cycle other
    shown [] o = absurd o
    shown (b ∷ bs) o = elim (cases_order node b) [
      | inl same ↦
          let here : node ∷ bs ≡ b ∷ bs = ap (λ (x : ℕ). x ∷ bs) same in
          subst (IsShownFirst cycle) here (through.first bs (subst (IsCycle (Goes edges)) (sym here) o))
      | inr (inl lt) ↦ subst (λ (c : List ℕ). IsShownFirst c (b ∷ bs)) (sym through.begins) (inl lt)
      | inr (inr below) ↦ absurd (none b below bs o)
    ]

pub told-first : (edges : List Edge) (node : ℕ) (found : Option (Vec ℕ Global)) → NoneBelow edges node
    → TellsFirstThrough edges node found → is_some found ≡ true → TellsFirst edges found
told-first edges node None none tells some = absurd cc
told-first edges node (Some cycle) none tells some = first-of edges node cycle.items none tells

pub none-next : (edges : List Edge) (node : ℕ) (found : Option (Vec ℕ Global)) → NoneBelow edges node
    → TellsFirstThrough edges node found → is_some found ≡ false → NoneBelow edges (node + 1)
none-next edges node None none here empty u lt = elim (cases_lt u node) [
  | inl less ↦ none u less
  | inr ge ↦ let same : node ≡ u = omega (arith, ge, lt) in subst (NoneFrom edges) same here
]
none-next edges node (Some cycle) none here empty u lt = absurd cc

pub none-all : (nodes : ℕ) (edges : List Edge) (n : ℕ) → All (JoinsNodes nodes) edges → NoneBelow edges n → nodes ≤ n
    → (other : List ℕ) → IsCycle (Goes edges) other → ⊥
none-all nodes edges n joins none all [] o = o
none-all nodes edges n joins none all (a ∷ []) o =
    none a (omega (arith, all, (All_in (JoinsNodes nodes) edges (record { from = a; to = a }) joins o.0).0)) [] o
none-all nodes edges n joins none all (a ∷ b ∷ bs) o =
    none a (omega (arith, all, (All_in (JoinsNodes nodes) edges (record { from = a; to = b }) joins o.0).0)) (b ∷ bs) o
