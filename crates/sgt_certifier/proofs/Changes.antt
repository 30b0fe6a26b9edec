-- The items that a draft changes at a site, in a walk over the draft.
use Rattle.std.proofs.Common.{◌≡◌, ◌≢◌, ◌≤◌, ℕ, zero, suc, ◌+◌, Bool, true, false, List, [], ◌∷◌, ◌++◌, length, map, take, Any, Contains, ◌⊎◌, Some, refl, sym, ◌∙◌, ap, ap₂, subst, arith, inl, inr}
use Rattle.std.specs.Prelude.{slice_get, filter, is_some, ◌==◌, ◌&&◌}
use Rattle.std.proofs.lemmas.Bool.{cases_Bool, eqb-true, and_parts}
use Rattle.std.proofs.lemmas.List.{map-append, take_all}
use Rattle.std.proofs.lemmas.List.Elements.{filter-append}
use Rattle.std.proofs.lemmas.Option.{same_Some, slice_get_within}
use Rattle.sgt_names.specs.Name.{Name}
use Rattle.sgt_names.specs.Draft.{at_site}
use Rattle.sgt_names.specs.DraftParts.{PartView, touched_in}
use Rattle.sgt_names.specs.declared.draft.Touch.{Touch}
use Rattle.sgt_names.proofs.Parts.{touched-next}
use Rattle.sgt_order.proofs.Lists.{filter_hit, filter_miss}
use Rattle.sgt_certifier.specs.declared.install.Prepared.{Prepared}
use Rattle.sgt_certifier.specs.Kept.{changed_at, IsExpected}

abbrev pub is_changed : ℕ → Touch → Bool
is_changed site t = (t.site == site) && is_some t.change

abbrev item_of : Touch → Name
item_of t = t.item

pub changed_hit : (touched : List Touch) (site n : ℕ) (t : Touch) → slice_get touched n ≡ Some t
    → is_changed site t ≡ true
    → changed_at (take (n + 1) touched) site ≡ changed_at (take n touched) site ++ t.item ∷ []
changed_hit touched site n t at hit = ap (map item_of) (filter_hit (is_changed site) touched n t at hit)
    ∙ map-append item_of (filter (is_changed site) (take n touched)) (t ∷ [])

pub changed_miss : (touched : List Touch) (site n : ℕ) (t : Touch) → slice_get touched n ≡ Some t
    → is_changed site t ≡ false → changed_at (take (n + 1) touched) site ≡ changed_at (take n touched) site
changed_miss touched site n t at miss = ap (map item_of) (filter_miss (is_changed site) touched n t at miss)

-- a changed item stands behind those of the items in front of it
pub changed_place : (touched : List Touch) (site n : ℕ) (t : Touch) → slice_get touched n ≡ Some t
    → is_changed site t ≡ true
    → slice_get (changed_at touched site) (length (changed_at (take n touched) site)) ≡ Some t.item
changed_place [] site n t at hit = absurd cc
changed_place (x ∷ xs) site zero t at hit = let same = same_Some x t at in
    rw (ap (is_changed site) same ∙ hit) (ap (λ (y : Touch). Some y.item) same)
changed_place (x ∷ xs) site (suc n) t at hit =
    let later = changed_place xs site n t at hit in
    elim (cases_Bool (is_changed site x)) [
      | inl here ↦ rw here later
      | inr miss ↦ rw miss later
    ]

-- what changes an item changes some
pub changed_some : (touched : List Touch) (site n : ℕ) (t : Touch) → slice_get touched n ≡ Some t
    → is_changed site t ≡ true → changed_at touched site ≢ []
changed_some touched site n t at hit none =
    let within = slice_get_within (changed_at touched site) (length (changed_at (take n touched) site)) t.item
    (changed_place touched site n t at hit) in
    omega (arith, within, ap length none)

-- ---- the lists of a draft, one for each site

abbrev pub listed : List Touch → ℕ → Prepared
listed touched site = record { site = site; items = changed_at touched site }

-- the site has no changes among the first of these, or its list is made
abbrev pub IsListed : List Touch → List Touch → ℕ → List Prepared → ℕ → Type 0
IsListed whole touched n lists site = (changed_at (take n touched) site ≡ []) ⊎ Contains lists (listed whole site)

pub listed_next : (whole touched : List Touch) (lists next : List Prepared) (n : ℕ) (t : Touch)
    → slice_get touched n ≡ Some t → ((p : Prepared) → Contains lists p → Contains next p)
    → (is_changed t.site t ≡ true → Contains next (listed whole t.site))
    → ((site : ℕ) → IsListed whole touched n lists site) → (site : ℕ) → IsListed whole touched (n + 1) next site
listed_next whole touched lists next n t at grows new all site =
    elim (all site) [
      | inr made ↦ inr (grows (listed whole site) made)
      | inl none ↦
          elim (cases_Bool (is_changed site t)) [
            | inr miss ↦ inl (changed_miss touched site n t at miss ∙ none)
            | inl hit ↦
                let same : t.site ≡ site = eqb-true t.site site (and_parts _ _ hit).0 in
                inr (subst (λ s. Contains next (listed whole s)) same
                (new (subst (λ s. is_changed s t ≡ true) (sym same) hit)))
          ]
    ]

-- a list that was made for a site is that of the draft
pub listed_at : (touched : List Touch) (lists : List Prepared) (site : ℕ)
    → ((p : Prepared) → Contains lists p → p.items ≡ changed_at touched p.site)
    → Any (λ (p : Prepared). p.site ≡ site) lists → Contains lists (listed touched site)
listed_at touched lists site each any =
    let member : Contains lists any.1 = (any.0, any.2, any.3) in
    let is : any.1 ≡ listed touched any.1.site =
    ap (λ items. record { site = any.1.site; items = items }) (each any.1 member) in
    subst (λ s. Contains lists (listed touched s)) any.4 (subst (Contains lists) is member)

-- ---- by the parts of a draft

pub changed-append : (xs ys : List Touch) (site : ℕ)
    → changed_at (xs ++ ys) site ≡ changed_at xs site ++ changed_at ys site
changed-append xs ys site = ap (map item_of) (filter-append (is_changed site) xs ys)
    ∙ map-append item_of (filter (is_changed site) xs) (filter (is_changed site) ys)

-- one part further
pub listed_part : (whole : List Touch) (ps : List PartView) (n : ℕ) (q : PartView) (lists next : List Prepared)
    → slice_get ps n ≡ Some q → ((p : Prepared) → Contains lists p → Contains next p)
    → ((s : ℕ) → (changed_at q.touched s ≡ []) ⊎ Contains next (listed whole s))
    → ((s : ℕ) → (changed_at (touched_in (take n ps)) s ≡ []) ⊎ Contains lists (listed whole s))
    → (s : ℕ) → (changed_at (touched_in (take (n + 1) ps)) s ≡ []) ⊎ Contains next (listed whole s)
listed_part whole ps n q lists next at grows here before s = elim (before s) [
  | inr made ↦ inr (grows (listed whole s) made)
  | inl none ↦ elim (here s) [
    | inr made ↦ inr made
    | inl nothing ↦ inl (
        ap (λ (ts : List Touch). changed_at ts s) (touched-next ps n q at)
        ∙ changed-append (touched_in (take n ps)) q.touched s
        ∙ ap₂ (λ (xs ys : List Name). xs ++ ys) none nothing
        )
  ]
]

-- behind the parts the list
pub listed_all : (whole few : List Touch) (ps : List PartView) (n : ℕ) (lists next : List Prepared) → length ps ≤ n
    → ((p : Prepared) → Contains lists p → Contains next p)
    → ((s : ℕ) → (changed_at few s ≡ []) ⊎ Contains next (listed whole s))
    → ((s : ℕ) → (changed_at (touched_in (take n ps)) s ≡ []) ⊎ Contains lists (listed whole s))
    → few ++ touched_in ps ≡ whole → (s : ℕ) → IsExpected next whole s
listed_all whole few ps n lists next most grows here before is s = elim (before s) [
  | inr made ↦ inr (grows (listed whole s) made)
  | inl none ↦ elim (here s) [
    | inr made ↦ inr made
    | inl nothing ↦ inl (
        ap (λ (ts : List Touch). changed_at ts s) (sym is) ∙ changed-append few (touched_in ps) s
        ∙ ap₂ (λ (xs ys : List Name). xs ++ ys) nothing (ap (λ (qs : List PartView). changed_at (touched_in qs) s)
        (sym (take_all n ps most)) ∙ none)
        )
  ]
]

-- ---- at one site

pub changed_here : (s : ℕ) (ts here : List Touch) → here ≡ at_site s ts → changed_at here s ≡ changed_at ts s
changed_here s ts here is = ap (λ (us : List Touch). changed_at us s) is ∙ ap (map item_of) (within s ts)
  where
    within : (s : ℕ) (ts : List Touch) → filter (is_changed s) (at_site s ts) ≡ filter (is_changed s) ts
    within s [] = refl
    within s (t ∷ ts) = elim (cases_Bool (t.site == s)) [
      | inl hit ↦ elim (cases_Bool (is_some t.change)) [
        | inl some ↦ rw (hit, hit, some) (ap (λ (us : List Touch). t ∷ us) (within s ts))
        | inr none ↦ rw (hit, hit, none) (within s ts)
      ]
      | inr miss ↦ rw miss (within s ts)
    ]

pub expected_same : (s : ℕ) (ts here : List Touch) (lists : List Prepared) → changed_at here s ≡ changed_at ts s
    → IsExpected lists ts s
    → IsExpected lists here s
expected_same s ts here lists same expected =
    subst (λ (items : List Name). (items ≡ []) ⊎ Contains lists (record { site = s; items = items }))
    (sym same) expected
