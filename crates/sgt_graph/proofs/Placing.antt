-- What is kept up while nodes are put in order.
use Rattle.std.proofs.Common.{◌≡◌, ◌≢◌, ◌&&◌, ℕ, ◌+◌, ◌<◌, ◌≤◌, Bool, true, false, cond, eqb, ltb, List, [], length, get_or, set, take, refl, sym, ap, ap₂, ◌∙◌, subst, arith, inl, inr, slice_index, replicate}
use Rattle.std.proofs.lemmas.Bool.{cases_eq, cases_lt, eq-eqb, ne_eqb, lt-ltb, le-ltb}
use Rattle.std.proofs.lemmas.List.{length-set, length-take-le, length-replicate, get_or-replicate, get_or-set_same, get_or-set_other, get_or_read, get_or_past}
use Rattle.std.proofs.lemmas.List.Sums.{count_by-le-length}
use Rattle.sgt_graph.specs.declared.edge.Edge.{Edge}
use Rattle.sgt_graph.specs.Sorting.{count_of, waiting}
use Rattle.sgt_graph.proofs.Counts.{at-other, at-same, waiting-more}

-- ---- counts of edges

pub record AreCounted (nodes : ℕ) (edges : List Edge) (kept : List ℕ) : Type 0 where
  pub len : length kept ≡ nodes
  pub counts : (v : ℕ) → slice_index kept v ≡ waiting [] edges v

zeros-at : (n v : ℕ) → slice_index (replicate n 0) v ≡ 0
zeros-at n v = elim (cases_lt v n) [
  | inl lt ↦ get_or-replicate n v 0 0 lt
  | inr le ↦ get_or_past (replicate n 0) v 0 (omega (arith, length-replicate {A = ℕ} n 0))
]

pub counted-none : (nodes : ℕ) (counts : List ℕ) → counts ≡ replicate nodes 0 → AreCounted nodes [] counts
counted-none nodes counts zeros = rw zeros (record { len = length-replicate nodes 0; counts = λ v. zeros-at nodes v })

pub count-bound : (edges : List Edge) (k v : ℕ) → k ≤ length edges → waiting [] (take k edges) v ≤ k
count-bound edges k v within = let le = count_by-le-length (λ (e : Edge). eqb e.to v && eqb (count_of e.from []) 0)
    (take k edges) in omega (arith, le, length-take-le k edges within)

pub counted-next : (nodes : ℕ) (edges : List Edge) (k : ℕ) (counts : List ℕ) (d : Edge) (n : ℕ)
    → AreCounted nodes (take k edges) counts → k < length edges
    → (get_or edges k d).to < nodes → n ≡ get_or counts (get_or edges k d).to n
    → AreCounted nodes (take (k + 1) edges) (set counts (get_or edges k d).to (n + 1))
counted-next nodes edges k counts d n so lt within read =
    let t = (get_or edges k d).to in
    let inside : t < length counts = omega (arith, so.len) in
    let was : n ≡ waiting [] (take k edges) t = get_or_read counts t n inside read 0 ∙ so.counts t in
    record {
      len = length-set counts t (n + 1) ∙ so.len;
      counts = λ v. elim (cases_eq t v) [
        | inl same ↦ subst (λ (b : ℕ). get_or (set counts t (n + 1)) b 0 ≡ waiting [] (take (k + 1) edges) b) same
            (let more = waiting-more edges k t d lt in let one = at-same t t refl in
            get_or-set_same counts t (n + 1) 0 inside
            ∙ (let e : n + 1 ≡ waiting [] (take (k + 1) edges) t = omega (arith, was, more, one) in e))
        | inr other ↦ let off : v ≢ t = λ e. other (sym e) in
            let more = waiting-more edges k v d lt in let none = at-other v t other in
            get_or-set_other counts t v (n + 1) 0 off ∙ so.counts v
            ∙ (let e : waiting [] (take k edges) v ≡ waiting [] (take (k + 1) edges) v =
            omega (arith, more, none) in e)
      ];
    }

-- ---- tallies

-- 1 where the node is to stand in one of the lists, else 0
abbrev pub expected : ℕ → List ℕ → ℕ → ℕ
expected limit waits v = cond (ltb v limit && eqb (slice_index waits v) 0) 1 0

pub expected-one : (limit : ℕ) (waits : List ℕ) (v : ℕ) → v < limit → slice_index waits v ≡ 0
    → expected limit waits v ≡ 1
expected-one limit waits v lt zero_is =
    ap₂ (λ b c. cond (b && c) 1 0) (lt-ltb v limit lt) (eq-eqb (slice_index waits v) 0 zero_is)

and-false : (b : Bool) → ◌≡◌ {A = ℕ} (cond (b && false) 1 0) 0
and-false true = refl
and-false false = refl

pub expected-waits : (limit : ℕ) (waits : List ℕ) (v : ℕ) → slice_index waits v ≢ 0 → expected limit waits v ≡ 0
expected-waits limit waits v some = ap (λ c. cond (ltb v limit && c) 1 0) (ne_eqb (slice_index waits v) 0 some)
    ∙ and-false (ltb v limit)

pub expected-past : (limit : ℕ) (waits : List ℕ) (v : ℕ) → limit ≤ v → expected limit waits v ≡ 0
expected-past limit waits v le = ap (λ b. cond (b && eqb (slice_index waits v) 0) 1 0) (le-ltb v limit le)

-- who is counted is below the limit and waits for none
pub expected-some : (limit : ℕ) (waits : List ℕ) (v : ℕ) → 0 < expected limit waits v
    → (v < limit) × (slice_index waits v ≡ 0) × (expected limit waits v ≡ 1)
expected-some limit waits v some = elim (cases_lt v limit) [
  | inl lt ↦ elim (cases_eq (slice_index waits v) 0) [
    | inl none ↦ (lt, none, expected-one limit waits v lt none)
    | inr more ↦ absurd (omega (arith, some, expected-waits limit waits v more))
  ]
  | inr le ↦ absurd (omega (arith, some, expected-past limit waits v le))
]

pub expected-same : (limit : ℕ) (waits other : List ℕ) (v : ℕ) → slice_index waits v ≡ slice_index other v
    → expected limit waits v ≡ expected limit other v
expected-same limit waits other v same = ap (λ n. cond (ltb v limit && eqb n 0) 1 0) same
