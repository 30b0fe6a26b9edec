-- At a site the touched items of a draft rise by name, and so do its kept reads and its private changes.
use Rattle.std.proofs.Common.{◌≡◌, ℕ, true, List, [], ◌∷◌, Option, Some, None, refl, sym, ap, ◌∙◌, subst, arith, All}
use Rattle.std.specs.Prelude.{◌==◌}
use Rattle.std.specs.List.{filter_map, cons_option, AllByRecursion}
use Rattle.std.specs.Ordering.{nat_cmp, ordering_then}
use Rattle.std.specs.Cmp.Lexicographic.{slice_cmp}
use Rattle.std.specs.declared.cmp.Ordering.{Ordering}
use Rattle.std.specs.declared.cmp.Ordering.TheVariants.{Less, Equal}
use Rattle.std.proofs.lemmas.Cmp.{nat_cmp_total, tied_itself}
use Rattle.std.proofs.lemmas.Bool.Decides.{nat_tests}
use Rattle.std.proofs.lemmas.List.Elements.{filter_passes}
use Rattle.std.proofs.lemmas.List.Kept.{AllPairs-filter}
use Rattle.std.proofs.lemmas.Option.{same_Some, option_and_then_some}
use Rattle.sgt_names.specs.Name.{Name}
use Rattle.sgt_names.specs.Ordered.{IsRisingBy}
use Rattle.sgt_names.specs.Draft.{AreRising, place_of, place_cmp, at_site, kept_of, kept_in, writing_of, writing_in}
use Rattle.sgt_names.specs.declared.draft.Seen.{Seen}
use Rattle.sgt_names.specs.declared.entry.Change.{Change}
use Rattle.sgt_names.specs.declared.draft.Touch.{Touch}
use Rattle.sgt_names.proofs.Places.{All_at, All-from_at, AllPairs_at, AllPairs-from_at, PairsByRecursion, AllPairs-from_recursion, recursion_from_AllPairs}

-- a private write or increment is of its item
pub writing_is : (t : Touch) (w : Name × Change) → writing_of t ≡ Some w → (t.item ≡ w.0) × (t.change ≡ Some w.1)
writing_is t w h =
    option_and_then_some (λ c. Some (t.item, c)) t.change w h
    (λ c some is. (
      ap (λ (p : Name × Change). p.0) (same_Some _ w is),
      some
          ∙ ap Some (ap (λ (p : Name × Change). p.1) (same_Some _ w is)),
    ))

-- a kept read is of its item, with its value and version
pub kept_is : (t : Touch) (k : Name × ℕ × ℕ) → kept_of t ≡ Some k → (seen : Seen) × (t.seen ≡ Some seen)
    × ((t.item, seen.value, seen.version) ≡ k)
kept_is t k h = option_and_then_some (λ (seen : Seen). Some (t.item, seen.value, seen.version)) t.seen k h
    (λ seen is same. (seen, is, same_Some _ k same))

-- at one site the places rise by the items
pub items-rise : (n : ℕ) (t u : Touch) → t.site ≡ n → u.site ≡ n → place_cmp (place_of t) (place_of u) ≡ Less
    → slice_cmp nat_cmp t.item u.item ≡ Less
items-rise n t u at_t at_u less =
    let tied : nat_cmp t.site u.site ≡ Equal =
    subst (λ m. nat_cmp t.site m ≡ Equal) (at_t ∙ sym at_u) (tied_itself nat_cmp_total t.site) in
    ap (λ (o : Ordering). ordering_then o (slice_cmp nat_cmp t.item u.item)) (sym tied) ∙ less

abbrev Rises : Touch → Touch → Type 0
Rises t u = slice_cmp nat_cmp t.item u.item ≡ Less

-- what is chosen of touched items that rise, with the names of the items, rises
module _ {B : Type 0} (f : Touch → Option B) (key : B → Name) (of : (t : Touch) (b : B) → f t ≡ Some b
    → t.item ≡ key b) where
  abbrev Before : B → B → Type 0
  Before a b = slice_cmp nat_cmp (key a) (key b) ≡ Less

  later : (t : Touch) (a : B) → t.item ≡ key a → (us : List Touch) → AllByRecursion (Rises t) us
      → AllByRecursion (Before a) (filter_map f us)
  later t a is [] all = tt
  later t a is (u ∷ us) all = by_value (later t a is us all.1) (f u) refl
    where
      by_value : AllByRecursion (Before a) (filter_map f us) → (o : Option B) → f u ≡ o
          → AllByRecursion (Before a) (cons_option o (filter_map f us))
      by_value rest None e = rest
      by_value rest (Some b) e = (
        subst (λ y. slice_cmp nat_cmp y (key b) ≡ Less) is
            (subst (λ y. slice_cmp nat_cmp t.item y ≡ Less) (of u b e) all.0),
        rest,
      )

  chosen-pairs : (ts : List Touch) → PairsByRecursion Rises ts → PairsByRecursion Before (filter_map f ts)
  chosen-pairs [] pairs = tt
  chosen-pairs (t ∷ ts) pairs = by_value (chosen-pairs ts pairs.1) (f t) refl
    where
      by_value : PairsByRecursion Before (filter_map f ts) → (o : Option B) → f t ≡ o
          → PairsByRecursion Before (cons_option o (filter_map f ts))
      by_value rest None e = rest
      by_value rest (Some a) e = (later t a (of t a e) ts pairs.0, rest)

  pub chosen-rise : (n : ℕ) (part : List Touch) → All (λ t. t.site ≡ n) part → AreRising part
      → IsRisingBy key (slice_cmp nat_cmp) (filter_map f part)
  chosen-rise n part here rising =
      AllPairs-from_recursion Before (filter_map f part)
      (chosen-pairs part (recursion_from_AllPairs Rises part (AllPairs-from_at Rises part (λ p q t u lt at_p at_q.
      items-rise n t u (All_at (λ (t : Touch). t.site ≡ n) part p t here at_p)
      (All_at (λ (t : Touch). t.site ≡ n) part q u here at_q)
      (AllPairs_at (λ t u. place_cmp (place_of t) (place_of u) ≡ Less) part p q t u rising lt at_p at_q)))))

pub writings-rise : (n : ℕ) (part : List Touch) → All (λ t. t.site ≡ n) part → AreRising part
    → IsRisingBy (λ w. w.0) (slice_cmp nat_cmp) (writing_in part)
writings-rise n part here rising =
    chosen-rise writing_of (λ (w : Name × Change). w.0) (λ t w h. (writing_is t w h).0) n part here rising

pub keeps-rise : (n : ℕ) (part : List Touch) → All (λ t. t.site ≡ n) part → AreRising part
    → IsRisingBy (λ k. k.0) (slice_cmp nat_cmp) (kept_in part)
keeps-rise n part here rising =
    chosen-rise kept_of (λ (k : Name × ℕ × ℕ). k.0) (λ t k h. ap (λ (p : Name × ℕ × ℕ). p.0) (kept_is t k h).2) n part
    here rising

-- the touched items of one site are of that site, and rise
pub site-here : (n : ℕ) (ts : List Touch) → All (λ t. t.site ≡ n) (at_site n ts)
site-here n ts = All-from_at (λ (t : Touch). t.site ≡ n) (at_site n ts) (λ k t at.
    let same : (t.site == n) ≡ true =
    All_at (λ (t : Touch). (t.site == n) ≡ true) (at_site n ts) k t
    (filter_passes (λ (t : Touch). t.site == n) ts) at in
    grind (arith, nat_tests))

pub site-rising : (n : ℕ) (ts : List Touch) → AreRising ts → AreRising (at_site n ts)
site-rising n ts rising =
    AllPairs-filter (λ a b. place_cmp (place_of a) (place_of b) ≡ Less) (λ (t : Touch). t.site == n) ts rising

pub writing-by_item : (n : ℕ) (ts : List Touch) → AreRising ts
    → IsRisingBy (λ w. w.0) (slice_cmp nat_cmp) (writing_in (at_site n ts))
writing-by_item n ts rising = writings-rise n (at_site n ts) (site-here n ts) (site-rising n ts rising)
