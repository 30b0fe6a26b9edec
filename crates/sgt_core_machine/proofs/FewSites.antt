-- The sites that the items of a short draft touch, listed as the items are gone over.
use Rattle.std.proofs.Common.{◌≡◌, ◌<◌, ◌≤◌, ◌+◌, ◌-◌, ◌↔◌, ◌⊎◌, ℕ, zero, suc, Bool, true, false, List, [], ◌∷◌, ◌++◌, length, refl, sym, ◌∙◌, arith, inl, inr, Some, subst, ap, All}
use Rattle.std.specs.Prelude.{filter, slice_get}
use Rattle.std.specs.List.{range_with_len}
use Rattle.std.proofs.lemmas.Bool.{cases_Bool, cases_lt}
use Rattle.std.proofs.lemmas.Option.{same_Some, slice_get_within}
use Rattle.sgt_names.specs.Draft.{AreRising, IsUsed, Touches}
use Rattle.sgt_names.specs.declared.draft.Touch.{Touch}
use Rattle.sgt_names.proofs.AtSite.{sites-rise}
use Rattle.sgt_names.proofs.Lists.{Any_at, Any-from_at}
use Rattle.sgt_names.proofs.Places.{All_at, AllPairs_at}
use Rattle.sgt_step.proofs.Listing.{listed_hit, listed_miss}

-- of the first so many items each site below the count stands below this number, where the next site is looked for
abbrev pub IsGoneOver : List Touch → ℕ → ℕ → ℕ → Type 0
IsGoneOver ts count next n = (k : ℕ) (t : Touch) → k < n → slice_get ts k ≡ Some t
    → (t.site < next) ⊎ (count ≤ t.site)

-- nothing passes between
gap : (p : ℕ → Bool) (a d : ℕ) → ((s : ℕ) → a ≤ s → s < a + d → p s ≡ false)
    → filter p (range_with_len 0 (a + d)) ≡ filter p (range_with_len 0 a)
gap p a zero none = let same : a + 0 ≡ a = omega arith in ap (λ n. filter p (range_with_len 0 n)) same
gap p a (suc d) none =
    let same : a + suc d ≡ a + d + 1 = omega arith in
    let last = none (a + d) (omega arith) (omega arith) in
    ap (λ n. filter p (range_with_len 0 n)) same
    ∙ (sym (listed_miss p (a + d) (filter p (range_with_len 0 (a + d))) refl last)
    ∙ gap p a d (λ s from below. none s from (omega (arith, below))))

gap_to : (p : ℕ → Bool) (a b : ℕ) → a ≤ b → ((s : ℕ) → a ≤ s → s < b → p s ≡ false)
    → filter p (range_with_len 0 b) ≡ filter p (range_with_len 0 a)
gap_to p a b le none =
    let same : b ≡ a + (b - a) = omega (arith, le) in
    ap (λ n. filter p (range_with_len 0 n)) same
    ∙ gap p a (b - a) (λ s from below. none s from (omega (arith, same, below)))

module _ (ts : List Touch) (count : ℕ) (rising : AreRising ts) (used : All IsUsed ts) (p : ℕ → Bool)
    (each : (s : ℕ) → (p s ≡ true) ↔ Touches ts s) where
  hit_at : (n : ℕ) (t : Touch) → slice_get ts n ≡ Some t → p t.site ≡ true
  hit_at n t at = (each t.site).1 (Any-from_at (λ (u : Touch). (u.site ≡ t.site) × IsUsed u) ts n t at (
    refl,
    All_at IsUsed ts n t used at,
  ))

  -- a site that passes is that of an item
  found_at : (s : ℕ) → p s ≡ true → (k : ℕ) × (u : Touch) × (slice_get ts k ≡ Some u) × (u.site ≡ s)
  found_at s hit =
      let a = Any_at (λ (u : Touch). (u.site ≡ s) × IsUsed u) ts ((each s).0 hit) in
      (a.0, a.1, a.2, a.3.0)

  -- none between the number and the site of the next item
  none_before : (next n : ℕ) (t : Touch) → slice_get ts n ≡ Some t → IsGoneOver ts count next n → t.site < count
      → (s : ℕ) → next ≤ s → s < t.site → p s ≡ false
  none_before next n t at over inside s from below = elim (cases_Bool (p s)) [
    | inl hit ↦ let f = found_at s hit in absurd (earlier f.0 f.1 f.2 f.3)
    | inr miss ↦ miss
  ]
    where
      later : (k : ℕ) (u : Touch) → slice_get ts k ≡ Some u → u.site ≡ s → n < k → ⊥
      later k u there same more =
          let rise : t.site ≤ u.site =
          AllPairs_at (λ (a b : Touch). a.site ≤ b.site) ts n k t u (sites-rise ts rising) more at there in
          omega (arith, rise, same, below)

      this : (k : ℕ) (u : Touch) → slice_get ts k ≡ Some u → u.site ≡ s → k ≡ n → ⊥
      this k u there same e =
          let own : t ≡ u = same_Some t u (sym at ∙ subst (λ i. slice_get ts i ≡ Some u) e there) in
          let sites = ap (λ (v : Touch). v.site) own in
          omega (arith, sites, same, below)

      earlier : (k : ℕ) (u : Touch) → slice_get ts k ≡ Some u → u.site ≡ s → ⊥
      earlier k u there same = elim (cases_lt k n) [
        | inl less ↦ elim (over k u less there) [
          | inl low ↦ omega (arith, low, same, from)
          | inr high ↦ omega (arith, high, same, below, inside)
        ]
        | inr more ↦ elim (cases_lt n k) [
          | inl after ↦ later k u there same after
          | inr no_more ↦ this k u there same (omega (arith, more, no_more))
        ]
      ]

  pub listed_next : (sites : List ℕ) (next n : ℕ) (t : Touch) → slice_get ts n ≡ Some t → IsGoneOver ts count next n
      → sites ≡ filter p (range_with_len 0 next) → next ≤ t.site → t.site < count
      → sites ++ t.site ∷ [] ≡ filter p (range_with_len 0 (t.site + 1))
  listed_next sites next n t at over is from inside =
      listed_hit p t.site sites (is ∙ sym (gap_to p next t.site from (none_before next n t at over inside)))
      (hit_at n t at)

  pub listed_all : (sites : List ℕ) (next n : ℕ) → length ts ≤ n → IsGoneOver ts count next n → next ≤ count
      → sites ≡ filter p (range_with_len 0 next) → sites ≡ filter p (range_with_len 0 count)
  listed_all sites next n all over within is = is ∙ sym (gap_to p next count within none)
    where
      beyond : (s : ℕ) → next ≤ s → s < count → (k : ℕ) (u : Touch) → slice_get ts k ≡ Some u → u.site ≡ s → ⊥
      beyond s from below k u there same =
          let inside = slice_get_within ts k u there in
          elim (over k u (omega (arith, inside, all)) there) [
            | inl low ↦ omega (arith, low, same, from)
            | inr high ↦ omega (arith, high, same, below)
          ]

      none : (s : ℕ) → next ≤ s → s < count → p s ≡ false
      none s from below = elim (cases_Bool (p s)) [
        | inl hit ↦ let f = found_at s hit in absurd (beyond s from below f.0 f.1 f.2 f.3)
        | inr miss ↦ miss
      ]

-- one item more
pub over_same : (ts : List Touch) (count next n : ℕ) (t : Touch) → slice_get ts n ≡ Some t → IsGoneOver ts count next n
    → (t.site < next) ⊎ (count ≤ t.site) → IsGoneOver ts count next (n + 1)
over_same ts count next n t at over here k u below there = elim (cases_lt k n) [
  | inl less ↦ over k u less there
  | inr more ↦
      let e : k ≡ n = omega (arith, more, below) in
      let own : t ≡ u = same_Some t u (sym at ∙ subst (λ i. slice_get ts i ≡ Some u) e there) in
      subst (λ (v : Touch). (v.site < next) ⊎ (count ≤ v.site)) own here
]

pub over_more : (ts : List Touch) (count next later n : ℕ) → IsGoneOver ts count next n → next ≤ later
    → IsGoneOver ts count later n
over_more ts count next later n over le k u below there = elim (over k u below there) [
  | inl low ↦ inl (omega (arith, low, le))
  | inr high ↦ inr high
]
