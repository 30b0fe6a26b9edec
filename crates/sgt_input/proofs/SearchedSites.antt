-- The lines of sites are finitely many, so that one is found among them where there is one.
use Rattle.std.proofs.Common.{◌≡◌, ℕ, zero, suc, ◌≤◌, List, [], ◌∷◌, length, arith, inl, inr}
use Rattle.std.specs.List.{AllByRecursion}
use Rattle.std.specs.Ordering.{nat_cmp}
use Rattle.std.specs.Cmp.Lexicographic.{slice_cmp}
use Rattle.std.specs.declared.cmp.Ordering.TheVariants.{Less}
use Rattle.std.proofs.lemmas.List.Elements.{All-from_recursion, recursion_from_All}
use Rattle.sgt_names.specs.Limits.{max_items, max_sites}
use Rattle.sgt_names.specs.Name.{Name, IsName}
use Rattle.sgt_names.specs.Ordered.{IsRisingBy}
use Rattle.sgt_names.specs.declared.entry.Holding.{Holding}
use Rattle.sgt_notation.specs.Events.{IsSiteLine}
use Rattle.sgt_notation.specs.Spelling.{IsHolding, IsSite}
use Rattle.sgt_notation.specs.declared.event.SiteLine.{SiteLine}
use Rattle.sgt_notation.proofs.Decidable.{Decidable, decidable-as, decidable-both, decidable-AllPairs, IsSearched, searched-below, searched-both}
use Rattle.sgt_notation.proofs.SearchedLines.{searched-holdings, searched-names}
use Rattle.sgt_notation.proofs.Texts.{decidable-Less}

-- ---- what stands in lines of sections

pub searched-sites : IsSearched ℕ IsSite
searched-sites = searched-below max_sites

pub searched-places : IsSearched (ℕ × Name) (λ p. IsSite p.0 × IsName p.1)
searched-places = searched-both IsSite IsName searched-sites searched-names

-- ---- lists

-- at most so many of these
abbrev pub IsUpTo : {A : Type 0} → (A → Type 0) → ℕ → List A → Type 0
IsUpTo Is most [] = Unit {0}
IsUpTo Is zero (x ∷ xs) = ⊥
IsUpTo Is (suc most) (x ∷ xs) = Is x × IsUpTo Is most xs

pub up_to : {A : Type 0} (Is : A → Type 0) (most : ℕ) (xs : List A) → AllByRecursion Is xs → length xs ≤ most
    → IsUpTo Is most xs
up_to Is most [] all few = tt
up_to Is zero (x ∷ xs) all few = absurd (omega (arith, few))
up_to Is (suc most) (x ∷ xs) all few = (all.0, up_to Is most xs all.1 (omega (arith, few)))

pub up_to-all : {A : Type 0} (Is : A → Type 0) (most : ℕ) (xs : List A) → IsUpTo Is most xs → AllByRecursion Is xs
up_to-all Is most [] is = tt
up_to-all Is zero (x ∷ xs) is = absurd is
up_to-all Is (suc most) (x ∷ xs) is = (is.0, up_to-all Is most xs is.1)

pub up_to-few : {A : Type 0} (Is : A → Type 0) (most : ℕ) (xs : List A) → IsUpTo Is most xs → length xs ≤ most
up_to-few Is most [] is = omega arith
up_to-few Is zero (x ∷ xs) is = absurd is
up_to-few Is (suc most) (x ∷ xs) is = let rest = up_to-few Is most xs is.1 in omega (arith, rest)

pub searched-lists : {A : Type 0} (Is : A → Type 0) (most : ℕ) → IsSearched A Is → IsSearched (List A) (IsUpTo Is most)
searched-lists {A} Is zero search Q each = decidable-as (λ q. ([], tt, q)) (λ r. back r.0 r.1 r.2) (each [])
  where
    back : (xs : List A) → IsUpTo Is zero xs → Q xs → Q []
    back [] is q = q
    back (x ∷ xs) is q = absurd is
searched-lists {A} Is (suc most) search Q each =
    one_of (each []) (searched-both Is (IsUpTo Is most) search (searched-lists Is most search) (λ p. Q (p.0 ∷ p.1))
    (λ p. each (p.0 ∷ p.1)))
  where
    one_of : Decidable (Q []) → Decidable ((p : A × List A) × (Is p.0 × IsUpTo Is most p.1) × Q (p.0 ∷ p.1))
        → Decidable ((xs : List A) × IsUpTo Is (suc most) xs × Q xs)
    one_of (inl q) longer = inl ([], tt, q)
    one_of (inr never) (inl (p, is, q)) = inl (p.0 ∷ p.1, is, q)
    one_of (inr never) (inr none) = inr (λ r. neither r.0 r.1 r.2)
      where
        neither : (xs : List A) → IsUpTo Is (suc most) xs → Q xs → ⊥
        neither [] is q = never q
        neither (x ∷ xs) is q = none ((x, xs), is, q)

-- ---- lines of sites

abbrev AreRising : List Holding → Type 0
AreRising hs = IsRisingBy (λ (h : Holding). h.item) (slice_cmp nat_cmp) hs

decidable-rising : (hs : List Holding) → Decidable (AreRising hs)
decidable-rising hs =
    decidable-AllPairs (λ (a b : Holding). slice_cmp nat_cmp a.item b.item ≡ Less)
    (λ a b. decidable-Less (slice_cmp nat_cmp a.item b.item)) hs

pub searched-site_lines : IsSearched SiteLine IsSiteLine
searched-site_lines Q each =
    decidable-as (λ r. (
      record { site = r.0.0; items = r.0.1 },
      record {
        site = r.1.0;
        each = All-from_recursion IsHolding r.0.1 (up_to-all IsHolding max_items r.0.1 r.1.1);
        room = up_to-few IsHolding max_items r.0.1 r.1.1;
        rising = r.2.0;
      },
      r.2.1,
    )) (λ r. (
      (r.0.site, r.0.items),
      (r.1.site, up_to IsHolding max_items r.0.items (recursion_from_All IsHolding r.0.items r.1.each) r.1.room),
      (r.1.rising, r.2),
    ))
    (searched-both IsSite (IsUpTo IsHolding max_items) searched-sites
    (searched-lists IsHolding max_items searched-holdings)
    (λ (p : ℕ × List Holding). AreRising p.1 × Q (record { site = p.0; items = p.1 }))
    (λ p. decidable-both (decidable-rising p.1) (each (record { site = p.0; items = p.1 }))))
