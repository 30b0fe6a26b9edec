-- A draft by its parts: what they touch rises, a site's items are those of its part, and an edit of one part is one
-- of the draft.
use Rattle.std.proofs.Common.{◌≡◌, ℕ, zero, suc, ◌+◌, ◌<◌, ◌≤◌, Bool, true, false, List, [], ◌∷◌, ◌++◌, length, get_or, set, take, drop, Option, Some, None, refl, sym, ap, ap₂, ◌∙◌, subst, arith, inl, inr, ◌⊎◌, append_assoc, append-nil, All, Any}
use Rattle.std.specs.Prelude.{slice_get, nat_lt, Result, Ok, Err, OnOk, OnErr, IfOk, IfErr, IfSome, IsOk, ◌↔◌, find, filter, ◌&&◌, ◌==◌}
use Rattle.std.specs.List.{AllByRecursion}
use Rattle.std.specs.Option.{option_to_list}
use Rattle.std.specs.Str.{bytes_eq}
use Rattle.std.specs.Ordering.{nat_cmp, ordering_then, ordering_reverse}
use Rattle.std.specs.Cmp.Lexicographic.{slice_cmp}
use Rattle.std.specs.declared.cmp.Ordering.{Ordering}
use Rattle.std.specs.declared.cmp.Ordering.TheVariants.{Less, Greater}
use Rattle.std.proofs.lemmas.Cmp.{nat_cmp_total, tied_itself}
use Rattle.std.proofs.lemmas.Bool.{cases_Bool, cases_lt, ltb-true}
use Rattle.std.proofs.lemmas.Bool.Decides.{nat_tests}
use Rattle.std.proofs.lemmas.List.Elements.{All-append, All-set, All-from_recursion, recursion_from_All, filter-append}
use Rattle.std.proofs.lemmas.Option.{same_Some, slice_get_read}
use Rattle.sgt_names.specs.Ordered.{IsAt, IsGapFor}
use Rattle.sgt_names.specs.Draft.{DraftView, Place, place_of, place_cmp, AreRising, IsUsed, at_site, touched_at, Touches, ChangesOnly}
use Rattle.sgt_names.specs.DraftParts.{PartView, IsPart, InsertsPart, PartsRise, touched_in, all_fit}
use Rattle.sgt_names.specs.declared.draft.Touch.{Touch}
use Rattle.sgt_names.proofs.Places.{AllPairs_at, slice_get-take, All_at, All-from_at, PairsByRecursion, AllPairs-from_recursion, recursion_from_AllPairs}
use Rattle.sgt_names.proofs.Lists.{All-weaken, AllByRecursion-append, Any_at, Any-from_at, front_at, back_at, middle_at, within_at, take_next}
use Rattle.sgt_names.proofs.Ranged.{rising-set, rising-insert, All-insert}
use Rattle.sgt_names.proofs.Touched.{place_total, less_apart as less_apart_places}
use Rattle.sgt_names.proofs.AtSite.{apart}

abbrev SiteBefore : PartView → PartView → Type 0
SiteBefore p q = nat_cmp p.site q.site ≡ Less

abbrev Rises : Touch → Touch → Type 0
Rises t u = place_cmp (place_of t) (place_of u) ≡ Less

-- ---- what all parts touch

used_by : (ps : List PartView) → AllByRecursion IsPart ps → All IsUsed (touched_in ps)
used_by [] all = λ n d within. absurd (omega arith)
used_by (p ∷ ps) all = All-append IsUsed p.touched (touched_in ps) all.0.used (used_by ps all.1)

pub parts_used : (ps : List PartView) → All IsPart ps → All IsUsed (touched_in ps)
parts_used ps all = used_by ps (recursion_from_All IsPart ps all)

pub pairs-append : {A : Type 0} (R : A → A → Type 0) (xs ys : List A) → PairsByRecursion R xs → PairsByRecursion R ys
    → AllByRecursion (λ x. AllByRecursion (R x) ys) xs → PairsByRecursion R (xs ++ ys)
pairs-append R [] ys front back cross = back
pairs-append R (x ∷ xs) ys front back cross =
    (AllByRecursion-append (R x) xs ys front.0 cross.0, pairs-append R xs ys front.1 back cross.1)

-- what parts of greater sites touch is of greater sites
greater_sites : (s : ℕ) (ps : List PartView) → AllByRecursion (λ q. nat_cmp s q.site ≡ Less) ps
    → AllByRecursion IsPart ps → All (λ t. nat_cmp s t.site ≡ Less) (touched_in ps)
greater_sites s [] later all = λ n d within. absurd (omega arith)
greater_sites s (p ∷ ps) later all =
    All-append (λ (t : Touch). nat_cmp s t.site ≡ Less) p.touched (touched_in ps)
    (All-weaken (λ (t : Touch). t.site ≡ p.site) (λ (t : Touch). nat_cmp s t.site ≡ Less) p.touched
    (λ t here. subst (λ m. nat_cmp s m ≡ Less) (sym here) later.0) all.0.here)
    (greater_sites s ps later.1 all.1)

rises_by_site : (t u : Touch) → nat_cmp t.site u.site ≡ Less → Rises t u
rises_by_site t u less = ap (λ (o : Ordering). ordering_then o (slice_cmp nat_cmp t.item u.item)) less

rise_by : (ps : List PartView) → PairsByRecursion SiteBefore ps → AllByRecursion IsPart ps
    → PairsByRecursion Rises (touched_in ps)
rise_by [] pairs all = tt
rise_by (p ∷ ps) pairs all =
    let greater = greater_sites p.site ps pairs.0 all.1 in
    let each : All (λ (t : Touch). AllByRecursion (Rises t) (touched_in ps)) p.touched =
    All-weaken (λ (t : Touch). t.site ≡ p.site) (λ (t : Touch). AllByRecursion (Rises t) (touched_in ps)) p.touched
    (λ t here.
    recursion_from_All (Rises t) (touched_in ps) (All-weaken (λ (u : Touch). nat_cmp p.site u.site ≡ Less) (Rises t)
    (touched_in ps) (λ u less.
    rises_by_site t u (subst (λ m. nat_cmp m u.site ≡ Less) (sym here) less)) greater)) all.0.here in
    pairs-append Rises p.touched (touched_in ps) (recursion_from_AllPairs Rises p.touched all.0.rising)
    (rise_by ps pairs.1 all.1) (recursion_from_All (λ (t : Touch). AllByRecursion (Rises t) (touched_in ps))
    p.touched each)

pub parts_rise : (ps : List PartView) → PartsRise ps → All IsPart ps → AreRising (touched_in ps)
parts_rise ps rise all =
    AllPairs-from_recursion Rises (touched_in ps) (rise_by ps (recursion_from_AllPairs SiteBefore ps rise)
    (recursion_from_All IsPart ps all))

-- ---- what is touched at one site

is_equal : (m n : ℕ) → m ≡ n → (m == n) ≡ true
is_equal m n same = grind (arith, nat_tests)

less_apart : (m n : ℕ) → nat_cmp m n ≡ Less → m ≡ n → ⊥
less_apart m n less same = absurd (let e : nat_cmp m m ≡ Less = subst (λ k. nat_cmp m k ≡ Less) (sym same) less in
    let t = tied_itself nat_cmp_total m in cc)

greater_apart : (m n : ℕ) → nat_cmp m n ≡ Greater → m ≡ n → ⊥
greater_apart m n greater same =
    absurd (let e : nat_cmp m m ≡ Greater = subst (λ k. nat_cmp m k ≡ Greater) (sym same) greater in let t =
    tied_itself nat_cmp_total m in cc)

filter_hit : {A : Type 0} (keep : A → Bool) (x : A) (xs : List A) → keep x ≡ true
    → filter keep (x ∷ xs) ≡ x ∷ filter keep xs
filter_hit keep x xs h = rw h refl

filter_miss : {A : Type 0} (keep : A → Bool) (x : A) (xs : List A) → keep x ≡ false
    → filter keep (x ∷ xs) ≡ filter keep xs
filter_miss keep x xs h = rw h refl

site_whole : (s : ℕ) (ts : List Touch) → AllByRecursion (λ t. t.site ≡ s) ts → at_site s ts ≡ ts
site_whole s [] here = refl
site_whole s (t ∷ ts) here = filter_hit (λ (u : Touch). u.site == s) t ts (is_equal t.site s here.0)
    ∙ ap (λ us. t ∷ us) (site_whole s ts here.1)

site_away : (s : ℕ) (ts : List Touch) → AllByRecursion (λ t. t.site ≡ s → ⊥) ts → at_site s ts ≡ []
site_away s [] away = refl
site_away s (t ∷ ts) away = filter_miss (λ (u : Touch). u.site == s) t ts (apart t.site s away.0)
    ∙ site_away s ts away.1

part_whole : (s : ℕ) (p : PartView) → IsPart p → p.site ≡ s → at_site s p.touched ≡ p.touched
part_whole s p part is =
    site_whole s p.touched (recursion_from_All (λ (t : Touch). t.site ≡ s) p.touched
    (All-weaken (λ (t : Touch). t.site ≡ p.site) (λ (t : Touch). t.site ≡ s) p.touched (λ t here. here ∙ is) part.here))

part_away : (s : ℕ) (p : PartView) → IsPart p → (p.site ≡ s → ⊥) → at_site s p.touched ≡ []
part_away s p part apart =
    site_away s p.touched (recursion_from_All (λ (t : Touch). t.site ≡ s
    → ⊥) p.touched (All-weaken (λ (t : Touch). t.site ≡ p.site) (λ (t : Touch). t.site ≡ s
    → ⊥) p.touched (λ t here is. apart (sym here ∙ is)) part.here))

split_site : (s : ℕ) (p : PartView) (ps : List PartView)
    → at_site s (touched_in (p ∷ ps)) ≡ at_site s p.touched ++ at_site s (touched_in ps)
split_site s p ps = filter-append (λ (t : Touch). t.site == s) p.touched (touched_in ps)

parts_away : (s : ℕ) (ps : List PartView) → AllByRecursion (λ q. q.site ≡ s → ⊥) ps → AllByRecursion IsPart ps
    → at_site s (touched_in ps) ≡ []
parts_away s [] away all = refl
parts_away s (p ∷ ps) away all = split_site s p ps
    ∙ ap₂ (λ (us vs : List Touch). us ++ vs) (part_away s p all.0 away.0) (parts_away s ps away.1 all.1)

found_by : (s : ℕ) (ps : List PartView) (n : ℕ) (q : PartView) → slice_get ps n ≡ Some q → q.site ≡ s
    → PairsByRecursion SiteBefore ps → AllByRecursion IsPart ps → at_site s (touched_in ps) ≡ q.touched
found_by s [] n q at is pairs all = absurd cc
found_by s (p ∷ ps) zero q at is pairs all =
    let same : p ≡ q = same_Some p q at in
    let here : p.site ≡ s = ap (λ (r : PartView). r.site) same ∙ is in
    let later : AllByRecursion (λ (r : PartView). r.site ≡ s → ⊥) ps =
    recursion_from_All (λ (r : PartView). r.site ≡ s → ⊥) ps (All-weaken (SiteBefore p) (λ (r : PartView). r.site ≡ s
    → ⊥) ps (λ r less at_s. less_apart p.site r.site less (here ∙ sym at_s))
    (All-from_recursion (SiteBefore p) ps pairs.0)) in
    split_site s p ps
    ∙ ap₂ (λ (us vs : List Touch). us ++ vs) (part_whole s p all.0 here) (parts_away s ps later all.1)
    ∙ append-nil p.touched ∙ ap (λ (r : PartView). r.touched) same
found_by s (p ∷ ps) (suc n) q at is pairs all =
    let less : SiteBefore p q = All_at (SiteBefore p) ps n q (All-from_recursion (SiteBefore p) ps pairs.0) at in
    split_site s p ps
    ∙ ap₂ (λ (us vs : List Touch). us ++ vs)
    (part_away s p all.0 (λ at_s. less_apart p.site q.site less (at_s ∙ sym is)))
    (found_by s ps n q at is pairs.1 all.1)

-- the part that a search found has what is touched at its site; at a gap nothing is
pub at_found : (ps : List PartView) (s n : ℕ) (q : PartView) → PartsRise ps → All IsPart ps
    → IsAt (λ p. p.site) ps s n → slice_get ps n ≡ Some q → at_site s (touched_in ps) ≡ q.touched
at_found ps s n q rise all found at =
    found_by s ps n q at (found.is q at) (recursion_from_AllPairs SiteBefore ps rise) (recursion_from_All IsPart ps all)

pub at_gap : (ps : List PartView) (s n : ℕ) → All IsPart ps → IsGapFor (λ p. p.site) nat_cmp ps s n
    → at_site s (touched_in ps) ≡ []
at_gap ps s n all gap =
    parts_away s ps (recursion_from_All (λ (q : PartView). q.site ≡ s
    → ⊥) ps (All-from_at (λ (q : PartView). q.site ≡ s → ⊥) ps (λ m q at. by_side m q at (cases_lt m n))))
    (recursion_from_All IsPart ps all)
  where
    by_side : (m : ℕ) (q : PartView) → slice_get ps m ≡ Some q → ◌⊎◌ (m < n) (n ≤ m) → q.site ≡ s → ⊥
    by_side m q at (inl lt) = less_apart q.site s (gap.before m q lt at)
    by_side m q at (inr le) = greater_apart q.site s (gap.after m q le at)

-- ---- what is touched at one place

find_hit : {A : Type 0} (test : A → Bool) (x : A) (xs : List A) → test x ≡ true → find test (x ∷ xs) ≡ Some x
find_hit test x xs h = rw h refl

find_miss : {A : Type 0} (test : A → Bool) (x : A) (xs : List A) → test x ≡ false → find test (x ∷ xs) ≡ find test xs
find_miss test x xs h = rw h refl

-- the first that passes is among those kept, where each that passes is kept
find-filter : {A : Type 0} (test keep : A → Bool) (xs : List A) → ((x : A) → test x ≡ true → keep x ≡ true)
    → find test xs ≡ find test (filter keep xs)
find-filter test keep [] only = refl
find-filter test keep (x ∷ xs) only = elim (cases_Bool (test x)) [
  | inl hit ↦ find_hit test x xs hit ∙ sym (ap (find test) (filter_hit keep x xs (only x hit))
      ∙ find_hit test x (filter keep xs) hit)
  | inr miss ↦ find_miss test x xs miss ∙ find-filter test keep xs only ∙ sym (skipped miss (cases_Bool (keep x)))
]
  where
    skipped : test x ≡ false → ◌⊎◌ (keep x ≡ true) (keep x ≡ false)
        → find test (filter keep (x ∷ xs)) ≡ find test (filter keep xs)
    skipped miss (inl kept) = ap (find test) (filter_hit keep x xs kept) ∙ find_miss test x (filter keep xs) miss
    skipped miss (inr dropped) = ap (find test) (filter_miss keep x xs dropped)

pub and_left : (a b : Bool) → (a && b) ≡ true → a ≡ true
and_left true b h = refl
and_left false b h = absurd cc

and_right : (a b : Bool) → (a && b) ≡ true → b ≡ true
and_right true b h = h
and_right false b h = absurd cc

pub touched_by_site : (ts : List Touch) (p : Place) → touched_at ts p ≡ touched_at (at_site p.0 ts) p
touched_by_site ts p =
    find-filter (λ (t : Touch). (t.site == p.0) && bytes_eq t.item p.1) (λ (t : Touch). t.site == p.0) ts
    (λ t is. and_left (t.site == p.0) (bytes_eq t.item p.1) is)

pub touched_found_part : (ps : List PartView) (p : Place) (n : ℕ) (q : PartView) → PartsRise ps → All IsPart ps
    → IsAt (λ r. r.site) ps p.0 n → slice_get ps n ≡ Some q → touched_at (touched_in ps) p ≡ touched_at q.touched p
touched_found_part ps p n q rise all found at = touched_by_site (touched_in ps) p
    ∙ ap (λ (ts : List Touch). touched_at ts p) (at_found ps p.0 n q rise all found at)

pub touched_no_part : (ps : List PartView) (p : Place) (n : ℕ) → All IsPart ps
    → IsGapFor (λ r. r.site) nat_cmp ps p.0 n → touched_at (touched_in ps) p ≡ None
touched_no_part ps p n all gap = touched_by_site (touched_in ps) p
    ∙ ap (λ (ts : List Touch). touched_at ts p) (at_gap ps p.0 n all gap)

-- ---- edits

-- an edit of one part is one of the draft
pub changes_part : (ps : List PartView) (n : ℕ) (q r : PartView) (touch : Touch) → slice_get ps n ≡ Some q
    → ChangesOnly q.touched r.touched touch → ChangesOnly (touched_in ps) (touched_in (set ps n r)) touch
changes_part [] n q r touch at changes = absurd cc
changes_part (p ∷ ps) zero q r touch at changes =
    let same : p.touched ≡ q.touched = ap (λ (v : PartView). v.touched) (same_Some p q at) in
    let behind = touched_in ps in
    record {
      front = changes.front;
      there = changes.there;
      rest = changes.rest ++ behind;
      was = ap (λ (ts : List Touch). ts ++ behind) (same ∙ changes.was)
          ∙ append_assoc changes.front (option_to_list changes.there ++ changes.rest) behind
          ∙ ap (λ (ts : List Touch). changes.front ++ ts)
          (append_assoc (option_to_list changes.there) changes.rest behind);
      is = ap (λ (ts : List Touch). ts ++ behind) changes.is ∙ append_assoc changes.front (touch ∷ changes.rest) behind;
      place = changes.place;
    }
changes_part (p ∷ ps) (suc n) q r touch at changes =
    let more = changes_part ps n q r touch at changes in
    record {
      front = p.touched ++ more.front;
      there = more.there;
      rest = more.rest;
      was = ap (λ (ts : List Touch). p.touched ++ ts) more.was
          ∙ sym (append_assoc p.touched more.front (option_to_list more.there ++ more.rest));
      is = ap (λ (ts : List Touch). p.touched ++ ts) more.is
          ∙ sym (append_assoc p.touched more.front (touch ∷ more.rest));
      place = more.place;
    }

pub touched_in-append : (ps qs : List PartView) → touched_in (ps ++ qs) ≡ touched_in ps ++ touched_in qs
touched_in-append [] qs = refl
touched_in-append (p ∷ ps) qs = ap (λ (ts : List Touch). p.touched ++ ts) (touched_in-append ps qs)
    ∙ sym (append_assoc p.touched (touched_in ps) (touched_in qs))

take_drop : (ps : List PartView) (n : ℕ) → ps ≡ take n ps ++ drop n ps
take_drop ps zero = refl
take_drop [] (suc n) = refl
take_drop (p ∷ ps) (suc n) = ap (λ qs. p ∷ qs) (take_drop ps n)

-- so is a new part of one item
pub inserts_part : (ps qs : List PartView) (n : ℕ) (touch : Touch) → InsertsPart ps qs n touch
    → ChangesOnly (touched_in ps) (touched_in qs) touch
inserts_part ps qs n touch inserts =
    let behind = touched_in (drop n ps) in
    record {
      front = touched_in (take n ps);
      there = None;
      rest = behind;
      was = ap touched_in (take_drop ps n) ∙ touched_in-append (take n ps) (drop n ps);
      is = ap touched_in inserts.is ∙ touched_in-append (take n ps) (inserts.part ∷ drop n ps)
          ∙ ap (λ (ts : List Touch). touched_in (take n ps) ++ (ts ++ behind)) inserts.alone;
      place = tt;
    }

one_alone : (p : PartView) (touch : Touch) → p.site ≡ touch.site → p.touched ≡ touch ∷ [] → IsUsed touch → IsPart p
one_alone p touch site alone used = record {
  rising = subst AreRising (sym alone) (λ i j d lt within. absurd (omega arith));
  used = subst (All IsUsed) (sym alone) (All-from_recursion IsUsed (touch ∷ []) (used, tt));
  here = subst (All (λ (t : Touch). t.site ≡ p.site)) (sym alone)
      (All-from_recursion (λ (t : Touch). t.site ≡ p.site) (touch ∷ []) (sym site, tt));
  some = λ none. absurd (let both : touch ∷ [] ≡ [] = sym alone ∙ none in cc);
}

-- so does a new part of one item
pub insert_parts : (ps qs : List PartView) (n : ℕ) (touch : Touch) → IsGapFor (λ p. p.site) nat_cmp ps touch.site n
    → IsUsed touch → InsertsPart ps qs n touch → PartsRise ps × All IsPart ps → PartsRise qs × All IsPart qs
insert_parts ps qs n touch gap used inserts right =
    let gap_here : IsGapFor (λ (p : PartView). p.site) nat_cmp ps inserts.part.site n =
    subst (λ s. IsGapFor (λ (p : PartView). p.site) nat_cmp ps s n) (sym inserts.site) gap in
    let part = one_alone inserts.part touch inserts.site inserts.alone used in
    subst (λ (rs : List PartView). PartsRise rs × All IsPart rs) (sym inserts.is) (
      rising-insert (λ (p : PartView). p.site) nat_cmp nat_cmp_total ps n inserts.part gap_here right.0,
      All-insert IsPart ps n inserts.part part right.1,
    )

-- ---- room

pub all_fit-set : (ps : List PartView) (n : ℕ) (q r : PartView) → slice_get ps n ≡ Some q → r.has_room ≡ q.has_room
    → all_fit (set ps n r) ≡ all_fit ps
all_fit-set [] n q r at same = absurd cc
all_fit-set (p ∷ ps) zero q r at same =
    ap (λ b. b && all_fit ps) (same ∙ sym (ap (λ (v : PartView). v.has_room) (same_Some p q at)))
all_fit-set (p ∷ ps) (suc n) q r at same = ap (λ b. p.has_room && b) (all_fit-set ps n q r at same)

pub fits_at : (ps : List PartView) (n : ℕ) (q : PartView) → all_fit ps ≡ true → slice_get ps n ≡ Some q
    → q.has_room ≡ true
fits_at [] n q fit at = absurd cc
fits_at (p ∷ ps) zero q fit at = sym (ap (λ (v : PartView). v.has_room) (same_Some p q at))
    ∙ and_left p.has_room (all_fit ps) fit
fits_at (p ∷ ps) (suc n) q fit at = fits_at ps n q (and_right p.has_room (all_fit ps) fit) at

-- the parts after room was made in the first ones, so many
abbrev pub roomed : ℕ → List PartView → List PartView
roomed zero ps = ps
roomed (suc n) [] = []
roomed (suc n) (p ∷ ps) = record p { has_room = true } ∷ roomed n ps

pub roomed-at : (ps : List PartView) (n : ℕ) → slice_get (roomed n ps) n ≡ slice_get ps n
roomed-at ps zero = refl
roomed-at [] (suc n) = refl
roomed-at (p ∷ ps) (suc n) = roomed-at ps n

pub roomed-length : (ps : List PartView) (n : ℕ) → length (roomed n ps) ≡ length ps
roomed-length ps zero = refl
roomed-length [] (suc n) = refl
roomed-length (p ∷ ps) (suc n) = ap (λ k. suc k) (roomed-length ps n)

pub roomed-set : (ps : List PartView) (n : ℕ) (q : PartView) → slice_get ps n ≡ Some q
    → set (roomed n ps) n (record q { has_room = true }) ≡ roomed (suc n) ps
roomed-set [] n q at = absurd cc
roomed-set (p ∷ ps) zero q at = ap (λ (v : PartView). record v { has_room = true } ∷ ps) (sym (same_Some p q at))
roomed-set (p ∷ ps) (suc n) q at = ap (λ qs. record p { has_room = true } ∷ qs) (roomed-set ps n q at)

pub roomed-touched : (ps : List PartView) (n : ℕ) → touched_in (roomed n ps) ≡ touched_in ps
roomed-touched ps zero = refl
roomed-touched [] (suc n) = refl
roomed-touched (p ∷ ps) (suc n) = ap (λ (ts : List Touch). p.touched ++ ts) (roomed-touched ps n)

roomed-sites : (P : ℕ → Type 0) (ps : List PartView) (n : ℕ) → AllByRecursion (λ q. P q.site) ps
    → AllByRecursion (λ q. P q.site) (roomed n ps)
roomed-sites P ps zero all = all
roomed-sites P [] (suc n) all = tt
roomed-sites P (p ∷ ps) (suc n) all = (all.0, roomed-sites P ps n all.1)

roomed-rise : (ps : List PartView) (n : ℕ) → PairsByRecursion SiteBefore ps → PairsByRecursion SiteBefore (roomed n ps)
roomed-rise ps zero pairs = pairs
roomed-rise [] (suc n) pairs = tt
roomed-rise (p ∷ ps) (suc n) pairs =
    (roomed-sites (λ s. nat_cmp p.site s ≡ Less) ps n pairs.0, roomed-rise ps n pairs.1)

roomed-each : (ps : List PartView) (n : ℕ) → AllByRecursion IsPart ps → AllByRecursion IsPart (roomed n ps)
roomed-each ps zero all = all
roomed-each [] (suc n) all = tt
roomed-each (p ∷ ps) (suc n) all =
    (record { rising = all.0.rising; used = all.0.used; here = all.0.here; some = all.0.some }, roomed-each ps n all.1)

pub roomed-parts : (ps : List PartView) (n : ℕ) → PartsRise ps × All IsPart ps
    → PartsRise (roomed n ps) × All IsPart (roomed n ps)
roomed-parts ps n right = (
  AllPairs-from_recursion SiteBefore (roomed n ps) (roomed-rise ps n (recursion_from_AllPairs SiteBefore ps right.0)),
  All-from_recursion IsPart (roomed n ps) (roomed-each ps n (recursion_from_All IsPart ps right.1)),
)

-- once each part has it, all have; where one has none, not all have
pub roomed-fit : (ps : List PartView) (n : ℕ) → length ps ≤ n → all_fit (roomed n ps) ≡ true
roomed-fit [] zero most = refl
roomed-fit [] (suc n) most = refl
roomed-fit (p ∷ ps) zero most = absurd (omega arith)
roomed-fit (p ∷ ps) (suc n) most = roomed-fit ps n (omega arith)

pub unfit_at : (ps : List PartView) (n : ℕ) (q : PartView) → slice_get ps n ≡ Some q → q.has_room ≡ false
    → all_fit ps ≡ false
unfit_at ps n q at none = elim (cases_Bool (all_fit ps)) [
  | inl fit ↦ absurd (let has = fits_at ps n q fit at in cc)
  | inr unfit ↦ unfit
]

pub roomed-unfit : (ps : List PartView) (n : ℕ) (q : PartView) → slice_get ps n ≡ Some q → q.has_room ≡ false
    → all_fit (roomed n ps) ≡ all_fit ps
roomed-unfit ps n q at none = unfit_at (roomed n ps) n q (roomed-at ps n ∙ at) none ∙ sym (unfit_at ps n q at none)

pub same_set : (ps : List PartView) (n : ℕ) (q r : PartView) → slice_get ps n ≡ Some q → r ≡ q → set ps n r ≡ ps
same_set [] n q r at same = absurd cc
same_set (p ∷ ps) zero q r at same = ap (λ (v : PartView). v ∷ ps) (same ∙ sym (same_Some p q at))
same_set (p ∷ ps) (suc n) q r at same = ap (λ qs. p ∷ qs) (same_set ps n q r at same)

pub OnErr_all : {T E : Type 0} {P : Type 0} (r : Result T E) → P → OnErr r P
OnErr_all (Ok x) p = tt
OnErr_all (Err e) p = p

-- ---- edits of one part

-- what only one edit changes keeps what is true of all
All-changes : (P : Touch → Type 0) (ts us : List Touch) (touch : Touch) → ChangesOnly ts us touch → P touch → All P ts
    → All P us
All-changes P ts us touch changes p all =
    let old = subst (All P) changes.was all in
    let front : All P changes.front =
    All-from_at P changes.front
    (λ n t at. All_at P (changes.front ++ (option_to_list changes.there ++ changes.rest)) n t old
    (front_at changes.front (option_to_list changes.there ++ changes.rest) n t at)) in
    let behind : All P (option_to_list changes.there ++ changes.rest) =
    All-from_at P (option_to_list changes.there ++ changes.rest)
    (λ n t at. All_at P (changes.front ++ (option_to_list changes.there ++ changes.rest))
    (length changes.front + n) t old (back_at changes.front (option_to_list changes.there ++ changes.rest) n
    ∙ at)) in
    let rest : All P changes.rest =
    All-from_at P changes.rest (λ n t at. All_at P (option_to_list changes.there ++ changes.rest)
    (length (option_to_list changes.there) + n) t behind (back_at (option_to_list changes.there) changes.rest n
    ∙ at)) in
    subst (All P) (sym changes.is) (All-append P changes.front (touch ∷ changes.rest) front
    (All-from_recursion P (touch ∷ changes.rest) (p, recursion_from_All P changes.rest rest)))

not_empty : (us vs : List Touch) (t : Touch) → us ++ t ∷ vs ≡ [] → ⊥
not_empty [] vs t none = absurd cc
not_empty (u ∷ us) vs t none = absurd cc

-- what is kept at its site keeps a part, and where that fails nothing changes
pub part_kept : {T E : Type 0} (r : Result T E) (s : ℕ) (old new : DraftView) (touch : Touch)
    → OnOk r (ChangesOnly old.touched new.touched touch) → OnErr r (new ≡ old) → touch.site ≡ s
    → AreRising new.touched → All IsUsed new.touched
    → IsPart (record { site = s; touched = old.touched; has_room = old.has_room })
    → IsPart (record { site = s; touched = new.touched; has_room = new.has_room })
part_kept (Ok x) s old new touch ok err at_s rising used is = record {
  rising = rising;
  used = used;
  here = All-changes (λ (t : Touch). t.site ≡ s) old.touched new.touched touch ok at_s is.here;
  some = λ none. not_empty ok.front ok.rest touch (sym ok.is ∙ none);
}
part_kept (Err e) s old new touch ok err at_s rising used is =
    subst (λ (v : DraftView). IsPart (record { site = s; touched = v.touched; has_room = v.has_room })) (sym err) is

-- the part that a search found and that was read there tells what is touched at its places
pub at_part : (ps : List PartView) (p : Place) (n : ℕ) (q : PartView) → PartsRise ps → All IsPart ps
    → IsAt (λ r. r.site) ps p.0 n → q ≡ get_or ps n q
    → touched_at q.touched (q.site, p.1) ≡ touched_at (touched_in ps) p
at_part ps p n q rise all found read =
    let at = slice_get_read ps (length ps) n q refl found.within read in
    ap (λ (s : ℕ). touched_at q.touched (s, p.1)) (found.is q at) ∙ sym (touched_found_part ps p n q rise all found at)

-- ---- the sites that are touched

any_in : (P : Touch → Type 0) (ps : List PartView) (n : ℕ) (q : PartView) → slice_get ps n ≡ Some q → Any P q.touched
    → Any P (touched_in ps)
any_in P [] n q at any = absurd cc
any_in P (p ∷ ps) zero q at any =
    let there = Any_at P p.touched (subst (λ (v : PartView). Any P v.touched) (sym (same_Some p q at)) any) in
    Any-from_at P (p.touched ++ touched_in ps) there.0 there.1
    (front_at p.touched (touched_in ps) there.0 there.1 there.2) there.3
any_in P (p ∷ ps) (suc n) q at any =
    let there = Any_at P (touched_in ps) (any_in P ps n q at any) in
    Any-from_at P (p.touched ++ touched_in ps) (length p.touched + there.0) there.1
    (back_at p.touched (touched_in ps) there.0 ∙ there.2) there.3

some_any : (P : Touch → Type 0) (ts : List Touch) → (ts ≡ [] → ⊥) → All P ts → Any P ts
some_any P [] some all = absurd (some refl)
some_any P (t ∷ ts) some all = Any-from_at P (t ∷ ts) 0 t refl (All_at P (t ∷ ts) 0 t all refl)

pub touches_found : (ps : List PartView) (s n : ℕ) (q : PartView) → All IsPart ps → IsAt (λ p. p.site) ps s n
    → slice_get ps n ≡ Some q → Touches (touched_in ps) s
touches_found ps s n q all found at =
    let is = All_at IsPart ps n q all at in
    let both : All (λ (t : Touch). (t.site ≡ s) × IsUsed t) q.touched =
    All-from_at (λ (t : Touch). (t.site ≡ s) × IsUsed t) q.touched
    (λ k t here. (
      All_at (λ (u : Touch). u.site ≡ q.site) q.touched k t is.here here
          ∙ found.is q at,
      All_at IsUsed q.touched k t is.used here,
    )) in
    any_in (λ (t : Touch). (t.site ≡ s) × IsUsed t) ps n q at
    (some_any (λ (t : Touch). (t.site ≡ s) × IsUsed t) q.touched is.some both)

filter_some : (s : ℕ) (ts : List Touch) (k : ℕ) (t : Touch) → slice_get ts k ≡ Some t → t.site ≡ s → at_site s ts ≡ []
    → ⊥
filter_some s [] k t at is none = absurd cc
filter_some s (u ∷ us) zero t at is none =
    let hit =
    filter_hit (λ (v : Touch). v.site == s) u us (is_equal u.site s (ap (λ (v : Touch). v.site) (same_Some u t at)
    ∙ is)) in
    absurd (let both : u ∷ at_site s us ≡ [] = sym hit ∙ none in cc)
filter_some s (u ∷ us) (suc k) t at is none = elim (cases_Bool (u.site == s)) [
  | inl hit ↦ absurd (let both : u ∷ at_site s us ≡ [] = sym (filter_hit (λ (v : Touch). v.site == s) u us hit)
      ∙ none in cc)
  | inr miss ↦ filter_some s us k t at is (sym (filter_miss (λ (v : Touch). v.site == s) u us miss) ∙ none)
]

pub touches_none : (ps : List PartView) (s n : ℕ) → All IsPart ps → IsGapFor (λ p. p.site) nat_cmp ps s n
    → Touches (touched_in ps) s → ⊥
touches_none ps s n all gap any =
    let there = Any_at (λ (t : Touch). (t.site ≡ s) × IsUsed t) (touched_in ps) any in
    filter_some s (touched_in ps) there.0 there.1 there.2 there.3.0 (at_gap ps s n all gap)

pub touches_by : (ps : List PartView) (s : ℕ) (r : Result ℕ ℕ) → All IsPart ps → IfOk r (IsAt (λ p. p.site) ps s)
    → IfErr r (IsGapFor (λ p. p.site) nat_cmp ps s) → IsOk r ↔ Touches (touched_in ps) s
touches_by ps s (Ok n) all found gap = let at = within_at ps n found.within in
    (λ ok. touches_found ps s n at.0 all found at.1, λ any. refl)
touches_by ps s (Err n) all found gap = (λ none. absurd cc, λ any. absurd (touches_none ps s n all gap any))

-- ---- a new part, where there is memory for it

pub parts_tried : {T E : Type 0} (L : Type 0) (r : Result T E) (ps qs : List PartView) (n : ℕ) (touch : Touch)
    → OnOk r (InsertsPart ps qs n touch) → OnErr r ((qs ≡ ps) × L) → IsGapFor (λ p. p.site) nat_cmp ps touch.site n
    → IsUsed touch
    → PartsRise ps → All IsPart ps → PartsRise qs × All IsPart qs
parts_tried L (Ok x) ps qs n touch ok err gap used rise all = insert_parts ps qs n touch gap used ok (rise, all)
parts_tried L (Err e) ps qs n touch ok err gap used rise all =
    subst (λ (vs : List PartView). PartsRise vs × All IsPart vs) (sym err.0) (rise, all)

pub fits_then : {T E : Type 0} (r : Result T E) (len most spare : ℕ) (fit : Bool)
    → OnErr r (len < most → 0 < spare → ⊥) → (fit && (nat_lt len most && nat_lt 0 spare)) ≡ true → IsOk r
fits_then (Ok x) len most spare fit full fits = refl
fits_then (Err e) len most spare fit full fits =
    let both = and_right fit (nat_lt len most && nat_lt 0 spare) fits in
    absurd (full (ltb-true len most (and_left (nat_lt len most) (nat_lt 0 spare) both))
    (ltb-true 0 spare (and_right (nat_lt len most) (nat_lt 0 spare) both)))

-- ---- a list of touched items, made one by one

-- what is kept behind all others stands at the end
pub keeps_last : (ts us : List Touch) (t : Touch) → ChangesOnly ts us t → AreRising us
    → ((n : ℕ) (u : Touch) → slice_get ts n ≡ Some u → Rises u t) → us ≡ ts ++ t ∷ []
keeps_last ts us t changes rising before = by_there changes.there refl changes.rest refl
  where
    by_there : (o : Option Touch) → changes.there ≡ o → (vs : List Touch) → changes.rest ≡ vs → us ≡ ts ++ t ∷ []
    by_there (Some u) there vs rest =
        let was : ts ≡ changes.front ++ u ∷ changes.rest = changes.was
        ∙ ap (λ (o : Option Touch). changes.front ++ (option_to_list o ++ changes.rest)) there in
        let at : slice_get ts (length changes.front) ≡ Some u =
        ap (λ (xs : List Touch). slice_get xs (length changes.front)) was
        ∙ middle_at changes.front u changes.rest in
        let same : place_of u ≡ place_of t =
        subst (λ (o : Option Touch). IfSome o (λ (v : Touch). place_of v ≡ place_of t)) there changes.place in
        absurd (less_apart_places (place_of u) (place_of t) (before (length changes.front) u at) same)
    by_there None there [] rest =
        let was : ts ≡ changes.front ++ [] = changes.was
        ∙ ap₂ (λ (o : Option Touch) (xs : List Touch). changes.front ++ (option_to_list o ++ xs)) there rest in
        changes.is ∙ ap₂ (λ (xs ys : List Touch). xs ++ t ∷ ys) (sym (was ∙ append-nil changes.front)) rest
    by_there None there (v ∷ vs) rest =
        let was : ts ≡ changes.front ++ v ∷ vs = changes.was
        ∙ ap₂ (λ (o : Option Touch) (xs : List Touch). changes.front ++ (option_to_list o ++ xs)) there rest in
        let at : slice_get ts (length changes.front) ≡ Some v =
        ap (λ (xs : List Touch). slice_get xs (length changes.front)) was ∙ middle_at changes.front v vs in
        let is : us ≡ changes.front ++ t ∷ v ∷ vs = changes.is
        ∙ ap (λ (xs : List Touch). changes.front ++ t ∷ xs) rest in
        let at_t : slice_get us (length changes.front) ≡ Some t =
        ap (λ (xs : List Touch). slice_get xs (length changes.front)) is ∙ middle_at changes.front t (v ∷ vs) in
        let at_v : slice_get us (length changes.front + 1) ≡ Some v =
        ap (λ (xs : List Touch). slice_get xs (length changes.front + 1)) is
        ∙ back_at changes.front (t ∷ v ∷ vs) 1 in
        let one = before (length changes.front) v at in
        let other : Rises t v = AllPairs_at Rises us (length changes.front) (length changes.front + 1) t v rising
        (omega arith) at_t at_v in
        absurd (let turned : place_cmp (place_of v) (place_of t) ≡ ordering_reverse
        (place_cmp (place_of t) (place_of v)) = place_total.antisymm (place_of v) (place_of t) in cc)

pub next_kept : (ts us : List Touch) (k : ℕ) (t : Touch) → AreRising ts → slice_get ts k ≡ Some t
    → ChangesOnly (take k ts) us t → AreRising us → us ≡ take (k + 1) ts
next_kept ts us k t rising at changes risen =
    keeps_last (take k ts) us t changes risen (λ n u at_u. let there = slice_get-take ts k n u at_u in
    AllPairs_at Rises ts n k u t rising there.0 there.1 at)
    ∙ sym (take_next ts k t at)

-- ---- what a draft touches, in its list and in its parts

any_split : (P : Touch → Type 0) (xs ys : List Touch) (n : ℕ) (t : Touch) → slice_get (xs ++ ys) n ≡ Some t → P t
    → Any P xs ⊎ Any P ys
any_split P [] ys n t at is = inr (Any-from_at P ys n t at is)
any_split P (x ∷ xs) ys zero t at is = inl (Any-from_at P (x ∷ xs) 0 t at is)
any_split P (x ∷ xs) ys (suc n) t at is = elim (any_split P xs ys n t at is) [
  | inl any ↦ let u = Any_at P xs any in inl (Any-from_at P (x ∷ xs) (suc u.0) u.1 u.2 u.3)
  | inr any ↦ inr any
]

any_parts : (P : Touch → Type 0) (ps : List PartView) → Any P (touched_in ps) → Any (λ p. Any P p.touched) ps
any_parts P [] any = absurd (let u = Any_at P [] any in let none : slice_get [] u.0 ≡ Some u.1 = u.2 in cc)
any_parts P (p ∷ ps) any =
    let u = Any_at P (p.touched ++ touched_in ps) any in
    elim (any_split P p.touched (touched_in ps) u.0 u.1 u.2 u.3) [
      | inl here ↦ Any-from_at_part (λ (q : PartView). Any P q.touched) (p ∷ ps) 0 p refl here
      | inr later ↦
          let v = Any_at (λ (q : PartView). Any P q.touched) ps (any_parts P ps later) in
          Any-from_at_part (λ (q : PartView). Any P q.touched) (p ∷ ps) (suc v.0) v.1 v.2 v.3
    ]
  where
    Any-from_at_part : (Q : PartView → Type 0) (qs : List PartView) (n : ℕ) (q : PartView) → slice_get qs n ≡ Some q
        → Q q → Any Q qs
    Any-from_at_part Q qs n q at is = Any-from_at Q qs n q at is

pub Any-touched : (P : Touch → Type 0) (few : List Touch) (ps : List PartView)
    → (Any P few ⊎ Any (λ p. Any P p.touched) ps) ↔ Any P (few ++ touched_in ps)
Any-touched P few ps = (
  λ either. elim either [
    | inl any ↦ let u = Any_at P few any in
        Any-from_at P (few ++ touched_in ps) u.0 u.1 (front_at few (touched_in ps) u.0 u.1 u.2) u.3
    | inr any ↦
        let v = Any_at (λ (q : PartView). Any P q.touched) ps any in
        let u = Any_at P (touched_in ps) (any_in P ps v.0 v.1 v.2 v.3) in
        Any-from_at P (few ++ touched_in ps) (length few + u.0) u.1 (back_at few (touched_in ps) u.0 ∙ u.2) u.3
  ],
  λ any. let u = Any_at P (few ++ touched_in ps) any in elim (any_split P few (touched_in ps) u.0 u.1 u.2 u.3) [
    | inl here ↦ inl here
    | inr later ↦ inr (any_parts P ps later)
  ],
)

-- the parts up to one and it too
pub touched-next : (ps : List PartView) (n : ℕ) (q : PartView) → slice_get ps n ≡ Some q
    → touched_in (take (n + 1) ps) ≡ touched_in (take n ps) ++ q.touched
touched-next ps n q at = ap touched_in (take_next ps n q at) ∙ touched_in-append (take n ps) (q ∷ [])
    ∙ ap (λ (ts : List Touch). touched_in (take n ps) ++ ts) (append-nil q.touched)
