-- The names of the sites' items.
use Rattle.std.proofs.Common.{◌≡◌, ◌<◌, ◌≤◌, ◌+◌, ℕ, suc, Bool, List, [], ◌∷◌, ◌++◌, ap, length, map, take, Option, Some, None, IfSome, Result, Ok, Err, refl, sym, ◌∙◌, subst, arith, inl, inr, ◌⊎◌, get_or}
use Rattle.std.specs.Prelude.{IsTrue, All, Contains, ◌↔◌, is_ok, slice_get}
use Rattle.std.proofs.lemmas.List.{length-take-le}
use Rattle.std.proofs.Math.Seq.{take-length}
use Rattle.std.proofs.lemmas.Option.{same_Some, slice_get-get_or, slice_get_within}
use Rattle.std.specs.List.Sorted.{IsSearchInRange, IsBinarySearchResult}
use Rattle.std.specs.declared.cmp.Ordering.TheVariants.{Less, Equal}
use Rattle.std.proofs.lemmas.Bool.{cases_eq, cases_lt}
use Rattle.std.proofs.lemmas.Cmp.{nat_list_cmp_total, tied_itself}
use Rattle.std.proofs.lemmas.Map.Lookups.{exact_bytes}
use Rattle.std.proofs.lemmas.List.Elements.{Contains-get_or}
use Rattle.sgt_names.proofs.Lists.{All-from_map, All-weaken, take_next, map_at}
use Rattle.sgt_names.proofs.Places.{AllPairs_at, AllPairs-from_at, Contains_at}
use Rattle.sgt_names.proofs.Ranged.{searched}
use Rattle.std.specs.Ordering.{nat_cmp}
use Rattle.std.specs.Cmp.Lexicographic.{slice_cmp}
use Rattle.sgt_names.specs.Name.{Name}
use Rattle.sgt_names.specs.Log.{names}
use Rattle.sgt_names.specs.declared.entry.Holding.{Holding}
use Rattle.sgt_site.specs.State.{SiteState, AreItems, opened}
use Rattle.sgt_site.specs.declared.fault.SiteFault.TheVariants.{BadItems}
use Rattle.sgt_service_agreement.specs.declared.fault.ServiceFault.{ServiceFault}
use Rattle.sgt_service_agreement.specs.declared.fault.ServiceFault.TheVariants.{Site}
use Rattle.sgt_service_locks.specs.Opened.{sites_from}
use Rattle.sgt_service_locks.specs.Refused.{HasItem, NamesRise, RefusesSites}

pub has_found : (all : List (List Name)) (s : ℕ) (x : Name) (d : List Name) (b : Bool) → s < length all
    → (IsTrue b ↔ Contains (get_or all s d) x) → (IsTrue b ↔ HasItem all s x)
has_found all s x d b within is =
    let at : slice_get all s ≡ Some (get_or all s d) = slice_get-get_or all s d within in (
      (λ t. (get_or all s d, at, is.0 t)),
      (λ h. is.1 (subst (λ (names : List Name). Contains names x) (same_Some h.0 (get_or all s d) (sym h.1 ∙ at)) h.2)),
    )

pub has_none : (all : List (List Name)) (s : ℕ) (x : Name) → length all ≤ s → HasItem all s x → ⊥
has_none all s x past h = let within : s < length all = slice_get_within all s h.0 h.1 in omega arith

-- the sites from 0 on have items that may be
abbrev pub AreOpened : List (List Holding) → ℕ → Type 0
AreOpened sites n = (k : ℕ) (items : List Holding) → k < n → slice_get sites k ≡ Some items → AreItems items

pub opened_next : (sites : List (List Holding)) (n : ℕ) (d : List Holding) → n < length sites → AreOpened sites n
    → AreItems (get_or sites n d) → AreOpened sites (n + 1)
opened_next sites n d within before items k there below at = elim (below_or k n (omega arith)) [
  | inl less ↦ before k there less at
  | inr same ↦ subst AreItems
      (sym (same_Some there (get_or sites n d) (sym at
      ∙ (let e : slice_get sites n ≡ Some (get_or sites n d) = slice_get-get_or sites n d within in
      subst (λ (j : ℕ). slice_get sites j ≡ Some (get_or sites n d)) (sym same) e)))) items
]
  where
    below_or : (a b : ℕ) → a ≤ b → (a < b) ⊎ (a ≡ b)
    below_or a b h = elim (cases_eq a b) [ inl same ↦ inr same | inr apart ↦ inl (omega (arith, h, apart)) ]

pub all_opened : (sites : List (List Holding)) → AreOpened sites (length sites) → All AreItems sites
all_opened sites opened k d within = opened k (get_or sites k d) within (slice_get-get_or sites k d within)

-- one site more
pub sites_next : (first : ℕ) (front : List (List Holding)) (items : List Holding)
    → sites_from first (front ++ items ∷ []) ≡ sites_from first front ++ opened (first + length front) items ∷ []
sites_next first [] items = ap (λ n. opened n items ∷ []) (omega arith)
sites_next first (x ∷ front) items =
    ap (λ ss. opened first x ∷ ss)
    (sites_next (suc first) front items ∙ ap (λ n. sites_from (suc first) front ++ opened n items ∷ []) (omega arith))

pub sites_grow : (sites : List (List Holding)) (n : ℕ) (items : List Holding) (old new : List SiteState)
    (o : Option SiteState)
    → slice_get sites n ≡ Some items → old ≡ sites_from 0 (take n sites) → IfSome o (λ s. s ≡ opened n items)
    → ((s : SiteState) × (o ≡ Some s) × (new ≡ old ++ s ∷ [])) → new ≡ sites_from 0 (take (n + 1) sites)
sites_grow sites n items old new None at was is added = cc
sites_grow sites n items old new (Some s) at was is added =
    let within = slice_get_within sites n items at in
    let front : length (take n sites) ≡ n = length-take-le n sites (omega arith) in
    let same : added.0 ≡ opened n items = same_Some added.0 s (sym added.1) ∙ is in
    added.2 ∙ ap (λ ss. ss ++ added.0 ∷ []) was
    ∙ ap (λ t. sites_from 0 (take n sites) ++ t ∷ []) (same ∙ ap (λ k. opened k items) (omega (arith, front)))
    ∙ sym (ap (sites_from 0) (take_next sites n items at) ∙ sites_next 0 (take n sites) items)

pub sites_all : (sites : List (List Holding)) (n : ℕ) (all : List SiteState) → n ≡ length sites
    → all ≡ sites_from 0 (take n sites)
    → all ≡ sites_from 0 sites
sites_all sites n all is e = e ∙ ap (sites_from 0) (ap (λ k. take k sites) is ∙ take-length sites)

pub sites_long : (first : ℕ) (sites : List (List Holding)) → length (sites_from first sites) ≡ length sites
sites_long first [] = refl
sites_long first (x ∷ rest) = ap suc (sites_long (suc first) rest)

-- ---- the names of a site's items rise

names-rise : (items : List Holding) → AreItems items → NamesRise (names items)
names-rise items are = AllPairs-from_at (λ x y. slice_cmp nat_cmp x y ≡ Less) (names items) (λ p q x y lt at_x at_y.
    let g = map_at (λ (h : Holding). h.item) items p x at_x in
    let h = map_at (λ (h : Holding). h.item) items q y at_y in
    let less = AllPairs_at (λ (a b : Holding). slice_cmp nat_cmp a.item b.item ≡ Less) items p q g.0 h.0 are.rising lt
    g.1 h.1 in
    subst (λ z. slice_cmp nat_cmp z y ≡ Less) g.2 (subst (λ z. slice_cmp nat_cmp g.0.item z ≡ Less) h.2 less))

pub all_rise : (sites : List (List Holding)) (all : List (List Name)) → all ≡ map names sites → All AreItems sites
    → All NamesRise all
all_rise sites all is are =
    subst (All NamesRise) (sym is)
    (All-from_map NamesRise names sites (All-weaken AreItems (λ items. NamesRise (names items)) sites names-rise are))

-- a binary search among rising names finds those that are there
pub search_tells : (xs : List Name) (k : Name) (r : Result ℕ ℕ) → NamesRise xs → IsSearchInRange r (length xs)
    → IsBinarySearchResult (λ x. slice_cmp nat_cmp x k) xs r → IsTrue (is_ok r) ↔ Contains xs k
search_tells xs k (Ok n) rising within found =
    let at = (searched (λ (x : Name). x) (slice_cmp nat_cmp) nat_list_cmp_total (λ x y e. exact_bytes x y e) xs k
    rising (Ok n) within found).0 in
    let same : get_or xs n k ≡ k = at.is (get_or xs n k) (slice_get-get_or xs n k at.within) in
    (λ t. subst (Contains xs) same (Contains-get_or xs n k at.within), λ has. refl)
search_tells xs k (Err n) rising within found =
    let gap =
    (searched (λ (x : Name). x) (slice_cmp nat_cmp) nat_list_cmp_total (λ x y e. exact_bytes x y e) xs k rising
    (Err n) within found).1 in (
      (λ t. absurd cc),
      (λ has.
          let at = Contains_at xs k has in
          let same : slice_cmp nat_cmp k k ≡ Equal = tied_itself nat_list_cmp_total k in
          elim (cases_lt at.0 n) [
            | inl lt ↦ let less = gap.before at.0 k lt at.1 in absurd cc
            | inr le ↦ let more = gap.after at.0 k le at.1 in absurd cc
          ]),
    )
