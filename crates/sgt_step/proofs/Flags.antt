-- Flags of sites, set for each touched item.
use Rattle.std.proofs.Common.{◌≡◌, ◌<◌, ◌≤◌, ◌+◌, ◌⊎◌, ◌↔◌, ℕ, zero, suc, ◌++◌, Bool, true, false, List, length, get_or, set, sym, ap, subst, arith, ◌∙◌, inl, inr, Some, Any}
use Rattle.std.specs.Prelude.{slice_get, replicate}
use Rattle.std.proofs.lemmas.Bool.{cases_eq, cases_lt, true≢false}
use Rattle.std.proofs.lemmas.Option.{same_Some, slice_get_within}
use Rattle.std.proofs.lemmas.List.{get_or-set_same, get_or-set_other}
use Rattle.sgt_names.proofs.Lists.{Any_at, Any-from_at}
use Rattle.sgt_names.proofs.Parts.{Any-touched}
use Rattle.sgt_names.specs.Draft.{IsUsed, Touches}
use Rattle.sgt_names.specs.DraftParts.{PartView, touched_in}
use Rattle.sgt_names.specs.declared.draft.Touch.{Touch}
use Rattle.sgt_step.specs.Touched.{IsIn}
use Rattle.sgt_step.specs.private.Flags.{Marks}

-- one more is set: those that are set were so before, or are of touched items
pub set_hit : (old flags : List Bool) (ts : List Touch) (n : ℕ) (t : Touch) → slice_get ts n ≡ Some t → IsUsed t
    → ((s : ℕ) → get_or flags s false ≡ true → (get_or old s false ≡ true) ⊎ Touches ts s)
    → (s : ℕ) → get_or (set flags t.site true) s false ≡ true → (get_or old s false ≡ true) ⊎ Touches ts s
set_hit old flags ts n t at used was s on = elim (cases_eq s t.site) [
  | inl here ↦ inr (Any-from_at (λ (u : Touch). (u.site ≡ s) × IsUsed u) ts n t at (sym here, used))
  | inr other ↦ was s (sym (get_or-set_other flags t.site s true false other) ∙ on)
]

-- and those that were set still are
pub set_kept : (flags : List Bool) (at s : ℕ) → at < length flags → get_or flags s false ≡ true
    → get_or (set flags at true) s false ≡ true
set_kept flags at s within on = elim (cases_eq s at) [
  | inl here ↦ ap (λ (k : ℕ). get_or (set flags at true) k false) here ∙ get_or-set_same flags at true false within
  | inr other ↦ get_or-set_other flags at s true false other ∙ on
]

-- and it is set itself
pub set_each : (flags : List Bool) (ts : List Touch) (n : ℕ) (t : Touch) → slice_get ts n ≡ Some t
    → t.site < length flags
    → ((k : ℕ) (u : Touch) → k < n → slice_get ts k ≡ Some u → get_or flags u.site false ≡ true)
    → (k : ℕ) (u : Touch) → k < n + 1 → slice_get ts k ≡ Some u → get_or (set flags t.site true) u.site false ≡ true
set_each flags ts n t at within was k u upto there = elim (cases_lt k n) [
  | inl before ↦ set_kept flags t.site u.site within (was k u before there)
  | inr from ↦
      let same : k ≡ n = omega (arith, upto, from) in
      let one : u ≡ t = same_Some u t (sym there ∙ (ap (slice_get ts) same ∙ at)) in
      ap (λ (v : Touch). get_or (set flags t.site true) v.site false) one
      ∙ get_or-set_same flags t.site true false within
]

-- all of them are set behind the last
pub set_all : (old flags : List Bool) (ts : List Touch) (n : ℕ) → length ts ≤ n
    → ((s : ℕ) → get_or flags s false ≡ true → (get_or old s false ≡ true) ⊎ Touches ts s)
    → ((s : ℕ) → get_or old s false ≡ true → get_or flags s false ≡ true)
    → ((k : ℕ) (u : Touch) → k < n → slice_get ts k ≡ Some u → get_or flags u.site false ≡ true)
    → Marks old flags (Touches ts)
set_all old flags ts n end hit kept each s = (
  hit s,
  λ some. elim some [
    | inl was ↦ kept s was
    | inr any ↦
        let found = Any_at (λ (u : Touch). (u.site ≡ s) × IsUsed u) ts any in
        let within = slice_get_within ts found.0 found.1 found.2 in
        subst (λ (k : ℕ). get_or flags k false ≡ true) found.3.0
        (each found.0 found.1 (omega (arith, end, within)) found.2)
  ],
)

-- ---- part by part

module _ (old flags new : List Bool) (ps : List PartView) (n : ℕ) (p : PartView) (at : slice_get ps n ≡ Some p)
    (marks : Marks flags new (Touches p.touched)) where
  pub parts_hit : ((s : ℕ) → get_or flags s false ≡ true
      → (get_or old s false ≡ true) ⊎ Any (λ (q : PartView). Touches q.touched s) ps)
      → (s : ℕ) → get_or new s false ≡ true
      → (get_or old s false ≡ true) ⊎ Any (λ (q : PartView). Touches q.touched s) ps
  parts_hit was s on = elim ((marks s).0 on) [
    | inl before ↦ was s before
    | inr any ↦ inr (Any-from_at (λ (q : PartView). Touches q.touched s) ps n p at any)
  ]

  pub parts_kept : ((s : ℕ) → get_or old s false ≡ true → get_or flags s false ≡ true) → (s : ℕ)
      → get_or old s false ≡ true → get_or new s false ≡ true
  parts_kept was s on = (marks s).1 (inl (was s on))

  pub parts_each : ((k : ℕ) (q : PartView) → k < n → slice_get ps k ≡ Some q → (s : ℕ) → Touches q.touched s
      → get_or flags s false ≡ true)
      → (k : ℕ) (q : PartView) → k < n + 1 → slice_get ps k ≡ Some q → (s : ℕ) → Touches q.touched s
      → get_or new s false ≡ true
  parts_each was k q upto there s any = elim (cases_lt k n) [
    | inl before ↦ (marks s).1 (inl (was k q before there s any))
    | inr from ↦
        let same : k ≡ n = omega (arith, upto, from) in
        let one : q ≡ p = same_Some q p (sym there ∙ (ap (slice_get ps) same ∙ at)) in
        (marks s).1 (inr (subst (λ (v : PartView). Touches v.touched s) one any))
  ]

pub parts_all : (old flags : List Bool) (ps : List PartView) (n : ℕ) → length ps ≤ n
    → ((s : ℕ) → get_or flags s false ≡ true
    → (get_or old s false ≡ true) ⊎ Any (λ (q : PartView). Touches q.touched s) ps)
    → ((s : ℕ) → get_or old s false ≡ true → get_or flags s false ≡ true)
    → ((k : ℕ) (q : PartView) → k < n → slice_get ps k ≡ Some q → (s : ℕ) → Touches q.touched s
    → get_or flags s false ≡ true)
    → Marks old flags (λ s. Any (λ (q : PartView). Touches q.touched s) ps)
parts_all old flags ps n end hit kept each s = (
  hit s,
  λ some. elim some [
    | inl was ↦ kept s was
    | inr any ↦
        let found = Any_at (λ (q : PartView). Touches q.touched s) ps any in
        let within = slice_get_within ps found.0 found.1 found.2 in
        each found.0 found.1 (omega (arith, end, within)) found.2 s found.3
  ],
)

-- ---- of a draft

-- none is set yet
pub unset : (n s : ℕ) → get_or (replicate n false) s false ≡ true → ⊥
unset zero s on = true≢false (sym on)
unset (suc n) zero on = true≢false (sym on)
unset (suc n) (suc s) on = unset n s on

pub flags_whole : (old mid new : List Bool) (few : List Touch) (ps : List PartView)
    → ((s : ℕ) → get_or old s false ≡ true → ⊥) → Marks old mid (Touches few)
    → Marks mid new (λ s. Any (λ (q : PartView). Touches q.touched s) ps) → (s : ℕ)
    → IsIn new s ↔ Touches (few ++ touched_in ps) s
flags_whole old mid new few ps none first second s =
    let both = Any-touched (λ (t : Touch). (t.site ≡ s) × IsUsed t) few ps in (
      λ on. elim ((second s).0 on) [
        | inl was ↦ elim ((first s).0 was) [
          | inl before ↦ absurd (none s before)
          | inr any ↦ both.0 (inl any)
        ]
        | inr any ↦ both.0 (inr any)
      ],
      λ any. elim (both.1 any) [
        | inl here ↦ (second s).1 (inl ((first s).1 (inr here)))
        | inr there ↦ (second s).1 (inr there)
      ],
    )
