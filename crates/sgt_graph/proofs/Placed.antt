-- The next node is placed.
use Rattle.std.proofs.Common.{◌≡◌, ◌≢◌, ◌&&◌, ℕ, zero, suc, ◌+◌, ◌<◌, ◌≤◌, false, cond, eqb, List, [], ◌∷◌, ◌++◌, length, take, Some, refl, sym, ap, ◌∙◌, subst, arith, inl, inr, slice_index, Contains, All}
use Rattle.std.specs.Prelude.{slice_get}
use Rattle.std.specs.Ordering.{nat_cmp, is_lt}
use Rattle.std.specs.BinaryHeap.{IsUpperBound}
use Rattle.std.specs.declared.cmp.Reverse.{Reverse}
use Rattle.std.specs.declared.cmp.Ordering.TheVariants.{Less, Equal, Greater}
use Rattle.std.proofs.lemmas.Bool.{cases_eq, cases_lt, lt-ltb, le-ltb, true≢false}
use Rattle.std.proofs.lemmas.List.{take-append-le, take_at, length_push}
use Rattle.std.proofs.lemmas.Option.{same_Some, slice_get_within}
use Rattle.sgt_names.proofs.Places.{All-from_at, Contains_at, Contains-from_at, slice_get-take, slice_get-take_at}
use Rattle.sgt_names.proofs.Lists.{All_in, front_at, middle_at, within_at}
use Rattle.sgt_graph.specs.declared.edge.Edge.{Edge}
use Rattle.sgt_graph.specs.Graph.{Goes, IsFree, IsLeastFirst, IsLeastFree, IsOrder, JoinsNodes}
use Rattle.sgt_graph.specs.Rows.{targets_from}
use Rattle.sgt_graph.specs.Sorting.{count_of, numbers, waiting, IsTallied, IsUnderWay}
use Rattle.sgt_graph.proofs.Counts.{is_at, at-other, at-same, absent-none, contains-counted, count-push, counted-contains, none-waits, waiting-placed, waits-none, waits-some}
use Rattle.sgt_graph.proofs.Placing.{expected, expected-one, expected-some, expected-past}

-- ---- the top of the heap

not_less : (a b : ℕ) → is_lt (nat_cmp a b) ≡ false → b ≤ a
not_less a b not_lt = elim (cases_lt a b) [
  | inl less ↦
      let lt : nat_cmp a b ≡ Less = ap (λ t. cond t Less (cond (eqb a b) Equal Greater)) (lt-ltb a b less) in
      absurd (true≢false (sym (ap is_lt lt) ∙ not_lt))
  | inr le ↦ le
]

pub top-least : (node : ℕ) (heap : List (Reverse ℕ))
    → IsUpperBound (λ x y. nat_cmp y.0 x.0) (record { 0 = node }) heap → (w : ℕ) → Contains (numbers heap) w → node ≤ w
top-least node [] top w at = absurd (omega (arith, at.1))
top-least node (r ∷ rs) top w (zero, within, is) = subst (λ (x : ℕ). node ≤ x) is (not_less r.0 node top.0)
top-least node (r ∷ rs) top w (suc k, within, is) = top-least node rs top.1 w (k, omega (arith, within), is)

-- ---- the node on top may be placed

pub record IsPlaceable (nodes : ℕ) (edges : List Edge) (limit : ℕ) (waits order : List ℕ) (node : ℕ) : Type 0 where
  pub below : node < limit
  pub new : count_of node order ≡ 0
  pub free : IsFree nodes edges order node

pub placeable : (nodes : ℕ) (edges : List Edge) (limit : ℕ) (waits free rest order : List ℕ) (node : ℕ)
    → IsUnderWay nodes edges limit waits free order
    → ((v : ℕ) → count_of v free ≡ is_at v node + count_of v rest) → IsPlaceable nodes edges limit waits order node
placeable nodes edges limit waits free rest order node so counts =
    let one = at-same node node refl in
    let here = expected-some limit waits node (omega (arith, so.tally node, counts node, one)) in
    let new : count_of node order ≡ 0 = omega (arith, so.tally node, counts node, one, here.2) in
    record {
      below = here.0;
      new = new;
      free = record {
        node = omega (arith, here.0, so.few);
        left = λ at. let some = contains-counted node order at in omega (arith, some, new);
        behind = waits-none order edges node (sym (so.counts node) ∙ here.1);
      };
    }

pub least-of : (nodes : ℕ) (edges : List Edge) (limit : ℕ) (waits free order : List ℕ) (node : ℕ)
    → IsUnderWay nodes edges limit waits free order
    → IsPlaceable nodes edges limit waits order node → ((w : ℕ) → Contains free w → node ≤ w)
    → IsLeastFree nodes edges order node
least-of nodes edges limit waits free order node so is top = record {
  free = is.free;
  least = λ w other. elim (cases_lt w limit) [
    | inl lt ↦
        let waits_none = so.counts w ∙ none-waits order edges w other.behind in
        let one = expected-one limit waits w lt waits_none in
        let absent = absent-none w order other.left in
        top w (counted-contains w free (omega (arith, so.tally w, one, absent)))
    | inr past ↦ omega (arith, is.below, past)
  ];
}

pub least-push : (nodes : ℕ) (edges : List Edge) (order : List ℕ) (node : ℕ) → IsLeastFirst nodes edges order
    → IsLeastFree nodes edges order node
    → IsLeastFirst nodes edges (order ++ node ∷ [])
least-push nodes edges order node so least i v at = elim (cases_lt i (length order)) [
  | inl lt ↦
      let x = within_at order i lt in
      let same : x.0 ≡ v = same_Some x.0 v (sym (front_at order (node ∷ []) i x.0 x.1) ∙ at) in
      let front = take-append-le i order (node ∷ []) (omega (arith, lt)) in
      subst (λ (xs : List ℕ). IsLeastFree nodes edges xs v) (sym front)
      (subst (IsLeastFree nodes edges (take i order)) same (so i x.0 x.1))
  | inr past ↦
      let within = slice_get_within (order ++ node ∷ []) i v at in
      let end : i ≡ length order = omega (arith, past, within, length_push order node) in
      let same : node ≡ v = same_Some node v (sym (middle_at order node [])
      ∙ ap (slice_get (order ++ node ∷ [])) (sym end) ∙ at) in
      let front : take i (order ++ node ∷ []) ≡ order = take_at order (node ∷ []) i (sym end) in
      subst (λ (xs : List ℕ). IsLeastFree nodes edges xs v) (sym front)
      (subst (IsLeastFree nodes edges order) same least)
]

-- ---- what its targets wait for

pub row-waits : (nodes : ℕ) (edges : List Edge) (limit : ℕ) (waits free order targets : List ℕ) (node : ℕ)
    → IsUnderWay nodes edges limit waits free order
    → count_of node order ≡ 0 → targets ≡ targets_from edges node → (v : ℕ) → count_of v targets ≤ slice_index waits v
row-waits nodes edges limit waits free order targets node so new are v =
    let all = waiting-placed order edges node v new in
    let same = ap (count_of v) are in
    omega (arith, all, same, so.counts v)

pub tally-moved : (limit : ℕ) (waits free rest order more : List ℕ) (node : ℕ) → IsTallied limit waits free order
    → ((v : ℕ) → count_of v free ≡ is_at v node + count_of v rest)
    → more ≡ order ++ node ∷ [] → IsTallied limit waits rest more
tally-moved limit waits free rest order more node so counts are v =
    let pushed = ap (count_of v) are ∙ count-push v node order in
    omega (arith, so v, counts v, pushed)

pub placed-next : (nodes : ℕ) (edges : List Edge) (limit : ℕ) (waits free order targets now rest more : List ℕ)
    (node : ℕ) → IsUnderWay nodes edges limit waits free order
    → IsPlaceable nodes edges limit waits order node → IsLeastFree nodes edges order node
    → targets ≡ targets_from edges node → more ≡ order ++ node ∷ []
    → length now ≡ length waits → ((v : ℕ) → slice_index now v + count_of v targets ≡ slice_index waits v)
    → IsTallied limit now rest more
    → IsUnderWay nodes edges limit now rest more
placed-next nodes edges limit waits free order targets now rest more node so is least are pushed long less tally =
    record {
      few = so.few;
      len = long ∙ so.len;
      counts = λ v.
          let all = waiting-placed order edges node v is.new in
          let same = ap (count_of v) are in
          let now_are : slice_index now v ≡ waiting (order ++ node ∷ []) edges v =
          omega (arith, all, same, so.counts v, less v) in
          now_are ∙ ap (λ xs. waiting xs edges v) (sym pushed);
      tally = tally;
      least = subst (IsLeastFirst nodes edges) (sym pushed) (least-push nodes edges order node so.least least);
    }

-- ---- one more node is looked at

expected-other : (limit : ℕ) (waits : List ℕ) (v : ℕ) → v ≢ limit
    → expected (limit + 1) waits v ≡ expected limit waits v
expected-other limit waits v other = ap (λ b. cond (b && eqb (slice_index waits v) 0) 1 0) (elim (cases_lt v limit) [
  | inl lt ↦ lt-ltb v (limit + 1) (omega (arith, lt)) ∙ sym (lt-ltb v limit lt)
  | inr le ↦ le-ltb v (limit + 1) (omega (arith, le, other)) ∙ sym (le-ltb v limit le)
])

pub looked-free : (nodes : ℕ) (edges : List Edge) (limit : ℕ) (waits free more order : List ℕ)
    → IsUnderWay nodes edges limit waits free order → limit < nodes
    → slice_index waits limit ≡ 0 → ((v : ℕ) → count_of v more ≡ is_at v limit + count_of v free)
    → IsUnderWay nodes edges (limit + 1) waits more order
looked-free nodes edges limit waits free more order so lt none counts = record {
  few = omega (arith, lt);
  len = so.len;
  counts = so.counts;
  tally = λ v. elim (cases_eq v limit) [
    | inl same ↦
        let past : expected limit waits v ≡ 0 = expected-past limit waits v (omega (arith, same)) in
        let one : expected (limit + 1) waits v ≡ 1 =
        expected-one (limit + 1) waits v (omega (arith, same)) (ap (slice_index waits) same ∙ none) in
        let put : is_at v limit ≡ 1 = at-same v limit (sym same) in
        omega (arith, so.tally v, past, one, put, counts v)
    | inr other ↦
        let put : is_at v limit ≡ 0 = at-other v limit (λ e. other (sym e)) in
        omega (arith, so.tally v, expected-other limit waits v other, put, counts v)
  ];
  least = so.least;
}

-- ---- all are looked at

-- each that waits does so for one that waits
pub waits-led : (nodes : ℕ) (edges : List Edge) (waits order : List ℕ) → IsUnderWay nodes edges nodes waits [] order
    → All (JoinsNodes nodes) edges
    → (v : ℕ) → 0 < slice_index waits v → (a : ℕ) × Goes edges a v × (0 < slice_index waits a)
waits-led nodes edges waits order so joins v some =
    let from = waits-some order edges v (omega (arith, some, so.counts v)) in
    let a = from.0 in
    let lt = (All_in (JoinsNodes nodes) edges (record { from = a; to = v }) joins from.1).0 in (
      a,
      from.1,
      elim (cases_eq (slice_index waits a) 0) [
        | inl none ↦ absurd (omega (arith, so.tally a, expected-one nodes waits a lt none, from.2))
        | inr more ↦ omega (arith, more)
      ],
    )

pub order-whole : (nodes : ℕ) (edges : List Edge) (waits order : List ℕ) → IsUnderWay nodes edges nodes waits [] order
    → All (JoinsNodes nodes) edges
    → ((v : ℕ) → slice_index waits v ≡ 0) → IsOrder nodes edges order
order-whole nodes edges waits order so joins none =
    let all : (v : ℕ) → v < nodes → Contains order v =
    λ v lt. counted-contains v order (omega (arith, so.tally v, expected-one nodes waits v lt (none v))) in
    let apart : (i j v : ℕ) → slice_get order i ≡ Some v → slice_get order j ≡ Some v → i < j
    → ⊥ = λ i j v first second lt.
    (so.least j v second).free.left (Contains-from_at (take j order) i v (slice_get-take_at order j i v lt first)) in
    record {
      within = All-from_at (λ v. v < nodes) order (λ n v at. (so.least n v at).free.node);
      all = all;
      once = λ i j v first second. elim (cases_lt i j) [
        | inl lt ↦ absurd (apart i j v first second lt)
        | inr le ↦ elim (cases_lt j i) [
          | inl lt ↦ absurd (apart j i v second first lt)
          | inr ge ↦ omega (arith, le, ge)
        ]
      ];
      onward = λ a b goes.
          let lt = (All_in (JoinsNodes nodes) edges (record { from = a; to = b }) joins goes).1 in
          let at = Contains_at order b (all b lt) in
          let from = Contains_at (take at.0 order) a ((so.least at.0 b at.1).free.behind a goes) in
          let place = slice_get-take order at.0 from.0 a from.1 in
          record { i = from.0; j = at.0; before = place.0; first_at = place.1; second_at = at.1 };
      least = so.least;
    }
