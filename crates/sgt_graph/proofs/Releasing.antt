-- One that nodes wait for is placed: what is kept up while they are told.
use Rattle.std.proofs.Common.{◌≡◌, ◌≢◌, ℕ, suc, ◌+◌, ◌<◌, ◌≤◌, ◌⊎◌, List, ◌∷◌, length, get_or, set, take, refl, sym, ap, ◌∙◌, arith, inl, inr, slice_index, sum}
use Rattle.std.specs.List.Sorted.{IsPermutation}
use Rattle.std.specs.declared.cmp.Reverse.{Reverse}
use Rattle.std.proofs.lemmas.Bool.{cases_eq, cases_lt}
use Rattle.std.proofs.lemmas.List.{length-set, get_or-set_same, get_or-set_other, get_or_past}
use Rattle.std.proofs.lemmas.List.Sorted.{IsPermutation-map, length_permutation, sum_by-IsPermutation}
use Rattle.std.proofs.lemmas.List.Sums.{sum_by-set, sum_by-take-le, sum_by_more}
use Rattle.sgt_graph.specs.Sorting.{count_of, numbers, IsTallied}
use Rattle.sgt_graph.proofs.Counts.{is_at, at-other, at-same, count-cons}
use Rattle.sgt_graph.proofs.Placing.{expected, expected-one, expected-waits, expected-past, expected-same}

-- the first targets are told; those of these that now wait for none are free, where they are below
-- the limit
pub record IsReleasing (limit : ℕ) (targets : List ℕ) (k : ℕ) (before waits free order : List ℕ) (most : ℕ) : Type 0
  where
    pub len : length waits ≡ length before
    pub waits_are : (v : ℕ) → slice_index waits v + count_of v (take k targets) ≡ slice_index before v
    pub tally : IsTallied limit waits free order
    pub fewer : sum waits + length free ≤ most

told-more : (targets : List ℕ) (k v b : ℕ) → k < length targets → b ≡ get_or targets k 0
    → count_of v (take (k + 1) targets) ≡ count_of v (take k targets) + is_at v b
told-more targets k v b lt is = sum_by_more (is_at v) targets k 0 lt
    ∙ ap (λ x. count_of v (take k targets) + is_at v x) (sym is)

-- a target waits for the one that is placed
pub target-waits : (limit : ℕ) (targets : List ℕ) (k : ℕ) (before waits free order : List ℕ) (most b : ℕ)
    → IsReleasing limit targets k before waits free order most
    → ((v : ℕ) → count_of v targets ≤ slice_index before v) → k < length targets → b ≡ get_or targets k 0
    → (0 < slice_index waits b) × (b < length waits)
target-waits limit targets k before waits free order most b so all lt is =
    let le = sum_by-take-le (is_at b) targets (k + 1) in
    let more = told-more targets k b b lt is in
    let some : 0 < slice_index waits b = omega (arith, le, more, all b, so.waits_are b, at-same b b refl) in (
      some,
      elim (cases_lt b (length waits)) [
        | inl within ↦ within
        | inr past ↦ absurd (omega (arith, some, get_or_past waits b 0 past))
      ],
    )

-- it waits for one less
waits-less : (limit : ℕ) (targets : List ℕ) (k : ℕ) (before waits free order : List ℕ) (most b n : ℕ)
    → IsReleasing limit targets k before waits free order most
    → k < length targets → b ≡ get_or targets k 0 → b < length waits → slice_index waits b ≡ n + 1
    → (v : ℕ) → slice_index (set waits b n) v + count_of v (take (k + 1) targets) ≡ slice_index before v
waits-less limit targets k before waits free order most b n so lt is within was v =
    let more = told-more targets k v b lt is in
    elim (cases_eq v b) [
      | inl same ↦
          let now : slice_index (set waits b n) v ≡ n = ap (slice_index (set waits b n)) same
          ∙ get_or-set_same waits b n 0 within in
          let then : slice_index waits v ≡ n + 1 = ap (slice_index waits) same ∙ was in
          omega (arith, now, then, more, so.waits_are v, at-same v b (sym same))
      | inr other ↦
          let now : slice_index (set waits b n) v ≡ slice_index waits v = get_or-set_other waits b v n 0 other in
          omega (arith, now, more, so.waits_are v, at-other v b (λ e. other (sym e)))
    ]

sum-less : (waits : List ℕ) (b n : ℕ) → b < length waits → slice_index waits b ≡ n + 1
    → sum (set waits b n) + 1 ≡ sum waits
sum-less waits b n within was = let all = sum_by-set (λ x. x) waits b n 0 within in omega (arith, all, was)

-- none is free by it
pub releasing-kept : (limit : ℕ) (targets : List ℕ) (k : ℕ) (before waits free order : List ℕ) (most b n : ℕ)
    → IsReleasing limit targets k before waits free order most
    → k < length targets → b ≡ get_or targets k 0 → b < length waits → slice_index waits b ≡ n + 1
    → (n ≢ 0) ⊎ (limit ≤ b)
    → IsReleasing limit targets (k + 1) before (set waits b n) free order most
releasing-kept limit targets k before waits free order most b n so lt is within was kept =
    let waited : slice_index waits b ≢ 0 = omega (arith, was) in
    let now : slice_index (set waits b n) b ≡ n = get_or-set_same waits b n 0 within in
    let still : expected limit (set waits b n) b ≡ 0 = elim kept [
      | inl some ↦ expected-waits limit (set waits b n) b (λ e. some (sym now ∙ e))
      | inr past ↦ expected-past limit (set waits b n) b past
    ] in
    record {
      len = length-set waits b n ∙ so.len;
      waits_are = waits-less limit targets k before waits free order most b n so lt is within was;
      tally = λ v. elim (cases_eq v b) [
        | inl same ↦
            let here = so.tally v in
            let none = ap (λ x. expected limit waits x) same ∙ expected-waits limit waits b waited in
            here ∙ none ∙ sym (ap (λ x. expected limit (set waits b n) x) same ∙ still)
        | inr other ↦ so.tally v
            ∙ expected-same limit waits (set waits b n) v (sym (get_or-set_other waits b v n 0 other))
      ];
      fewer = omega (arith, so.fewer, sum-less waits b n within was);
    }

-- it is free
pub releasing-freed : (limit : ℕ) (targets : List ℕ) (k : ℕ) (before waits free more order : List ℕ) (most b n : ℕ)
    → IsReleasing limit targets k before waits free order most
    → k < length targets → b ≡ get_or targets k 0 → b < length waits → slice_index waits b ≡ n + 1 → n ≡ 0 → b < limit
    → ((v : ℕ) → count_of v more ≡ is_at v b + count_of v free) → length more ≡ length free + 1
    → IsReleasing limit targets (k + 1) before (set waits b n) more order most
releasing-freed limit targets k before waits free more order most b n so lt is within was none_left below counts long =
    let waited : slice_index waits b ≢ 0 = omega (arith, was) in
    let now : slice_index (set waits b n) b ≡ 0 = get_or-set_same waits b n 0 within ∙ none_left in
    record {
      len = length-set waits b n ∙ so.len;
      waits_are = waits-less limit targets k before waits free order most b n so lt is within was;
      tally = λ v. elim (cases_eq v b) [
        | inl same ↦
            let none : expected limit waits v ≡ 0 = ap (λ x. expected limit waits x) same
            ∙ expected-waits limit waits b waited in
            let one : expected limit (set waits b n) v ≡ 1 = ap (λ x. expected limit (set waits b n) x) same
            ∙ expected-one limit (set waits b n) b below now in
            let put : is_at v b ≡ 1 = at-same v b (sym same) in
            omega (arith, so.tally v, none, one, put, counts v)
        | inr other ↦
            let put : is_at v b ≡ 0 = at-other v b (λ e. other (sym e)) in
            let same : expected limit waits v ≡ expected limit (set waits b n) v =
            expected-same limit waits (set waits b n) v (sym (get_or-set_other waits b v n 0 other)) in
            omega (arith, so.tally v, same, put, counts v)
      ];
      fewer = omega (arith, so.fewer, sum-less waits b n within was, long);
    }

-- ---- what a heap holds

-- one more
pub pushed-counts : (b : ℕ) (old new : List (Reverse ℕ)) → IsPermutation (record { 0 = b } ∷ old) new → (v : ℕ)
    → count_of v (numbers new) ≡ is_at v b + count_of v (numbers old)
pushed-counts b old new permutation v =
    sum_by-IsPermutation (is_at v) (b ∷ numbers old) (numbers new)
    (IsPermutation-map (λ (r : Reverse ℕ). r.0) (record { 0 = b } ∷ old) new permutation)
    ∙ count-cons v b (numbers old)

pub pushed-length : (b : ℕ) (old new : List (Reverse ℕ)) → IsPermutation (record { 0 = b } ∷ old) new
    → length (numbers new) ≡ length (numbers old) + 1
pushed-length b old new permutation =
    length_permutation (b ∷ numbers old) (numbers new)
    (IsPermutation-map (λ (r : Reverse ℕ). r.0) (record { 0 = b } ∷ old) new permutation)
    ∙ (let e : suc (length (numbers old)) ≡ length (numbers old) + 1 = omega arith in e)

-- one less
pub popped-counts : (b : ℕ) (old new : List (Reverse ℕ)) → IsPermutation old (record { 0 = b } ∷ new) → (v : ℕ)
    → count_of v (numbers old) ≡ is_at v b + count_of v (numbers new)
popped-counts b old new permutation v =
    sym (sum_by-IsPermutation (is_at v) (numbers old) (b ∷ numbers new)
    (IsPermutation-map (λ (r : Reverse ℕ). r.0) old (record { 0 = b } ∷ new) permutation))
    ∙ count-cons v b (numbers new)
