-- The sites of the touched items, by their flags.
use Rattle.std.proofs.Common.{◌≡◌, ◌+◌, ◌↔◌, ℕ, zero, suc, Bool, true, false, ◌==◌, List, [], ◌∷◌, ◌++◌, refl, sym, ◌∙◌, arith, inl, inr, Some, ap, All}
use Rattle.std.specs.Prelude.{filter, slice_get}
use Rattle.std.specs.List.{range_with_len}
use Rattle.std.proofs.lemmas.Bool.{cases_Bool, eq-eqb, eqb-true, true≢false}
use Rattle.std.proofs.lemmas.List.{append-nil}
use Rattle.std.proofs.lemmas.Option.{same_Some}
use Rattle.std.proofs.lemmas.List.Elements.{filter-append}
use Rattle.sgt_names.proofs.Lists.{Any_at, Any-from_at}
use Rattle.sgt_names.specs.Draft.{IsUsed, Touches, at_site}
use Rattle.sgt_names.specs.declared.draft.Touch.{Touch}
use Rattle.sgt_step.specs.Touched.{IsIn, AreSitesOf}

-- ---- one number further

range_next : (low n m : ℕ) → m ≡ suc n → range_with_len low m ≡ range_with_len low n ++ (low + n) ∷ []
range_next low n m e = ap (range_with_len low) e ∙ go low n
  where
    go : (low n : ℕ) → range_with_len low (suc n) ≡ range_with_len low n ++ (low + n) ∷ []
    go low zero = let same : low ≡ low + 0 = omega arith in ap (λ k. k ∷ []) same
    go low (suc n) =
        let same : low + 1 + n ≡ low + suc n = omega arith in
        ap (λ xs. low ∷ xs) (go (low + 1) n ∙ ap (λ k. range_with_len (low + 1) n ++ k ∷ []) same)

filter_next : (p : ℕ → Bool) (n : ℕ)
    → filter p (range_with_len 0 (n + 1)) ≡ filter p (range_with_len 0 n) ++ filter p (n ∷ [])
filter_next p n =
    let one : n + 1 ≡ suc n = omega arith in
    let same : 0 + n ≡ n = omega arith in
    ap (filter p) (range_next 0 n (n + 1) one) ∙ (filter-append p (range_with_len 0 n) ((0 + n) ∷ [])
    ∙ ap (λ k. filter p (range_with_len 0 n) ++ filter p (k ∷ [])) same)

pub listed_hit : (p : ℕ → Bool) (n : ℕ) (xs : List ℕ) → xs ≡ filter p (range_with_len 0 n) → p n ≡ true
    → xs ++ n ∷ [] ≡ filter p (range_with_len 0 (n + 1))
listed_hit p n xs h hit =
    let last : filter p (n ∷ []) ≡ n ∷ [] = rw hit refl in
    ap (λ ys. ys ++ n ∷ []) h ∙ (ap (λ ys. filter p (range_with_len 0 n) ++ ys) (sym last) ∙ sym (filter_next p n))

pub listed_miss : (p : ℕ → Bool) (n : ℕ) (xs : List ℕ) → xs ≡ filter p (range_with_len 0 n) → p n ≡ false
    → xs ≡ filter p (range_with_len 0 (n + 1))
listed_miss p n xs h miss =
    let last : filter p (n ∷ []) ≡ [] = rw miss refl in
    h ∙ (sym (append-nil (filter p (range_with_len 0 n)))
    ∙ (ap (λ ys. filter p (range_with_len 0 n) ++ ys) (sym last) ∙ sym (filter_next p n)))

-- what passes one test passes another that agrees with it
pub filter_same : (p q : ℕ → Bool) → ((s : ℕ) → (p s ≡ true) ↔ (q s ≡ true)) → (xs : List ℕ) → filter p xs ≡ filter q xs
filter_same p q same [] = refl
filter_same p q same (x ∷ xs) = elim (cases_Bool (p x)) [
  | inl hit ↦ let there : q x ≡ true = (same x).0 hit in rw (hit, there) (ap (λ ys. x ∷ ys) (filter_same p q same xs))
  | inr miss ↦ elim (cases_Bool (q x)) [
    | inl there ↦ absurd (true≢false (sym ((same x).1 there) ∙ miss))
    | inr none ↦ rw (miss, none) (filter_same p q same xs)
  ]
]

-- ---- touched, and the items there

some_there : (s : ℕ) (ts : List Touch) (n : ℕ) (t : Touch) → slice_get ts n ≡ Some t → t.site ≡ s → at_site s ts ≡ []
    → ⊥
some_there s [] n t at here none = absurd cc
some_there s (u ∷ us) zero t at here none =
    let same : u ≡ t = same_Some u t at in
    let hit : (u.site == s) ≡ true = eq-eqb u.site s (ap (λ (v : Touch). v.site) same ∙ here) in
    let f : u ∷ at_site s us ≡ [] = rw hit at none in
    absurd cc
some_there s (u ∷ us) (suc n) t at here none = elim (cases_Bool (u.site == s)) [
  | inl hit ↦ (let f : u ∷ at_site s us ≡ [] = rw hit at none in absurd cc)
  | inr miss ↦ some_there s us n t at here (rw miss at none)
]

touched_some : (s : ℕ) (ts : List Touch) → Touches ts s → at_site s ts ≡ [] → ⊥
touched_some s ts any none =
    let found = Any_at (λ (t : Touch). (t.site ≡ s) × IsUsed t) ts any in
    some_there s ts found.0 found.1 found.2 found.3.0 none

untouched_none : (s : ℕ) (ts : List Touch) → All IsUsed ts → (Touches ts s → ⊥) → at_site s ts ≡ []
untouched_none s [] used out = refl
untouched_none s (t ∷ ts) used out = elim (cases_Bool (t.site == s)) [
  | inl hit ↦ absurd (out (Any-from_at Hits (t ∷ ts) 0 t refl (eqb-true t.site s hit, used 0 t (omega arith))))
  | inr miss ↦ rw miss (untouched_none s ts (λ k d lt. used (suc k) d (omega (arith, lt))) (λ any.
      let found = Any_at Hits ts any in
      out (Any-from_at Hits (t ∷ ts) (suc found.0) found.1 found.2 found.3)))
]
  where
    Hits : Touch → Type 0
    Hits u = (u.site ≡ s) × IsUsed u

pub sites_of : (flags : List Bool) (ts : List Touch) → All IsUsed ts → ((s : ℕ) → IsIn flags s ↔ Touches ts s)
    → AreSitesOf flags ts
sites_of flags ts used each = record {
  touched = each;
  some = λ s hit. touched_some s ts ((each s).0 hit);
  none = λ s miss. untouched_none s ts used (λ any. true≢false (sym ((each s).1 any) ∙ miss));
}
