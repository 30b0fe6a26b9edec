-- What a draft keeps at a site, as the model's changes and reads.
use Rattle.std.proofs.Common.{◌≡◌, ◌<◌, ◌+◌, ℕ, zero, suc, Bool, true, false, cond, List, [], ◌∷◌, ◌++◌, length, refl, sym, ◌∙◌, arith, ◌⊎◌, inl, inr, Contains, Option, Some, None, subst, ap, ap₂}
use Rattle.std.specs.Prelude.{filter, slice_get, option_and_then, IfSome, ◌==◌}
use Rattle.std.specs.List.{filter_map, cons_option}
use Rattle.std.specs.Option.{option_to_list}
use Rattle.std.specs.Str.{bytes_eq}
use Rattle.std.specs.Ordering.{nat_cmp, is_lt}
use Rattle.std.specs.Cmp.Lexicographic.{slice_cmp}
use Rattle.std.specs.declared.cmp.Ordering.TheVariants.{Less, Equal, Greater}
use Rattle.std.proofs.lemmas.Bool.{cases_Bool, eq-eqb, ne_eqb, eqb-true}
use Rattle.std.proofs.lemmas.Cmp.{nat_list_cmp_total, tied_itself}
use Rattle.std.proofs.lemmas.List.Elements.{Contains-append_cases, Contains-append_left, Contains-append_right, filter-append, filter_map-append}
use Rattle.std.proofs.lemmas.List.Kept.{AllPairs-filter}
use Rattle.std.proofs.lemmas.Option.{same_Some}
use Rattle.std.proofs.lemmas.Slice.Eq.{bytes_eq-Decides}
use Rattle.sgt_names.specs.Name.{Name}
use Rattle.sgt_names.specs.Draft.{AreRising, place_of, place_cmp, at_site, kept_of, kept_in, writing_of, writing_in, touched_at, seen_at, change_at, ChangesOnly}
use Rattle.sgt_names.specs.declared.draft.Seen.{Seen}
use Rattle.sgt_names.specs.declared.draft.Touch.{Touch}
use Rattle.sgt_names.specs.declared.entry.Change.{Change}
use Rattle.sgt_names.proofs.Lists.{option_cases, middle_at, front_at}
use Rattle.sgt_names.proofs.Places.{Contains_at, Contains-from_at, All-from_at, AllPairs_at, AllPairs-tail}
use Rattle.sgt_names.proofs.Ranged.{find_none}
use Rattle.sgt_site.specs.private.Cells.{ItemsRise, touch_in}
use Rattle.sgt_site.proofs.Appends.{chosen_at}
use Rattle.sgt_site.proofs.Basics.{less_apart}
use Rattle.sgt_site.proofs.Parts.{part-rises, touch-there, kept-touch, touch-kept, touch-later}
use Rattle.sgt_certifier.proofs.Members.{cons_here, filter_member, place_cases, place_right}
use Rattle.sgt_core_model.specs.Core.{comes_before, change_in, put_in}
use Rattle.sgt_names.proofs.Elements.{bytes_eq-other, contains-cases, contains-later, contains-none}

-- ---- at one site

abbrev R : Touch → Touch → Type 0
R t u = place_cmp (place_of t) (place_of u) ≡ Less

pub here_rise : (s : ℕ) (ts : List Touch) → AreRising ts → ItemsRise (at_site s ts)
here_rise s ts rising =
    part-rises s (at_site s ts)
    (All-from_at (λ (t : Touch). t.site ≡ s) (at_site s ts)
    (λ n t at. eqb-true t.site s
    (filter_member (λ (u : Touch). u.site == s) ts t (Contains-from_at (at_site s ts) n t at)).1))
    (AllPairs-filter R (λ (u : Touch). u.site == s) ts rising)

pub touched_in : (ts : List Touch) (s : ℕ) (x : Name) → touched_at ts (s, x) ≡ touch_in (at_site s ts) x
touched_in [] s x = refl
touched_in (t ∷ ts) s x =
    elim (cases_Bool (t.site == s)) [
      | inl hit ↦ rw hit (elim (cases_Bool (bytes_eq t.item x)) [
        | inl same ↦ rw same refl
        | inr other ↦ rw other (touched_in ts s x)
      ])
      | inr miss ↦ rw miss (touched_in ts s x)
    ]

abbrev change_of_touch : Option Touch → Option Change
change_of_touch o = option_and_then (λ (t : Touch). t.change) o

by_change : (t : Touch) (part : List Touch) (x : Name) (o : Option Change) (b : Bool) → ItemsRise (t ∷ part)
    → bytes_eq t.item x ≡ b
    → change_in (writing_in part) x ≡ change_of_touch (touch_in part x)
    → change_in (cons_option (option_and_then (λ c. Some (t.item, c)) o) (writing_in part)) x ≡ cond b o
    (change_of_touch (touch_in part x))
by_change t part x None true rises is rest = rest ∙ ap change_of_touch (touch-later t part x rises is)
by_change t part x None false rises is rest = rest
by_change t part x (Some c) true rises is rest = rw is refl
by_change t part x (Some c) false rises is rest = rw is rest

from_test : (t : Touch) (o : Option Touch) (b : Bool)
    → cond b t.change (change_of_touch o) ≡ change_of_touch (cond b (Some t) o)
from_test t o true = refl
from_test t o false = refl

change_among : (part : List Touch) (x : Name) → ItemsRise part
    → change_in (writing_in part) x ≡ change_of_touch (touch_in part x)
change_among [] x rises = refl
change_among (t ∷ part) x rises =
    by_change t part x t.change (bytes_eq t.item x) rises refl
    (change_among part x (AllPairs-tail (λ (a b : Touch). slice_cmp nat_cmp a.item b.item ≡ Less) t part rises))
    ∙ from_test t (touch_in part x) (bytes_eq t.item x)

-- what is meant to be done to an item is what the draft has of it
pub change_there : (ts : List Touch) (s : ℕ) (x : Name) → AreRising ts
    → change_in (writing_in (at_site s ts)) x ≡ change_at ts (s, x)
change_there ts s x rising = change_among (at_site s ts) x (here_rise s ts rising)
    ∙ ap change_of_touch (sym (touched_in ts s x))

-- a kept read is one of the site's
pub seen_kept : (ts : List Touch) (s : ℕ) (x : Name) (seen : Seen) → seen_at ts (s, x) ≡ Some seen
    → Contains (kept_in (at_site s ts)) (x, seen.value, seen.version)
seen_kept ts s x seen is =
    elim (option_cases (touch_in (at_site s ts) x)) [
      | inl none ↦ absurd (let e : seen_at ts (s, x) ≡ None =
          ap (option_and_then (λ (t : Touch). t.seen)) (touched_in ts s x ∙ none) in let f = sym is ∙ e in cc)
      | inr some ↦
          let e : seen_at ts (s, x) ≡ some.0.seen = ap (option_and_then (λ (t : Touch). t.seen)) (touched_in ts s x
          ∙ some.1) in
          touch-kept (at_site s ts) x some.0 seen some.1 (sym e ∙ is)
    ]

pub kept_seen : (ts : List Touch) (s : ℕ) (x : Name) (v n : ℕ) → AreRising ts
    → Contains (kept_in (at_site s ts)) (x, v, n) → seen_at ts (s, x) ≡ Some (record { value = v; version = n })
kept_seen ts s x v n rising m =
    let k = kept-touch (at_site s ts) x v n (here_rise s ts rising) m in
    ap (option_and_then (λ (t : Touch). t.seen)) (touched_in ts s x ∙ k.1) ∙ k.2

-- ---- lists

filter_all : {A : Type 0} (p : A → Bool) (xs : List A) → ((x : A) → Contains xs x → p x ≡ true) → filter p xs ≡ xs
filter_all p [] h = refl
filter_all p (x ∷ xs) h =
    rw (h x (cons_here x xs)) (ap (λ ys. x ∷ ys) (filter_all p xs (λ y m. h y (contains-later x xs y m))))

filter_nothing : {A : Type 0} (p : A → Bool) (xs : List A) → ((x : A) → Contains xs x → p x ≡ false) → filter p xs ≡ []
filter_nothing p [] h = refl
filter_nothing p (x ∷ xs) h = rw (h x (cons_here x xs)) (filter_nothing p xs (λ y m. h y (contains-later x xs y m)))

filter_three : {A : Type 0} (p : A → Bool) (xs ys zs : List A)
    → filter p (xs ++ (ys ++ zs)) ≡ filter p xs ++ (filter p ys ++ filter p zs)
filter_three p xs ys zs = filter-append p xs (ys ++ zs) ∙ ap (λ l. filter p xs ++ l) (filter-append p ys zs)

chosen_three : {A B : Type 0} (f : A → Option B) (xs ys zs : List A)
    → filter_map f (xs ++ (ys ++ zs)) ≡ filter_map f xs ++ (filter_map f ys ++ filter_map f zs)
chosen_three f xs ys zs = filter_map-append f xs (ys ++ zs) ∙ ap (λ l. filter_map f xs ++ l) (filter_map-append f ys zs)

item_of_writing : (x : Name) (o : Option Change) (d : Name × Change) → option_and_then (λ c. Some (x, c)) o ≡ Some d
    → x ≡ d.0
item_of_writing x None d e = absurd cc
item_of_writing x (Some c) d e = ap (λ (p : Name × Change). p.0) (same_Some (x, c) d e)

-- a change is that of a touched item
writes_item : (part : List Touch) (d : Name × Change) → Contains (writing_in part) d
    → (n : ℕ) × (t : Touch) × (slice_get part n ≡ Some t) × (t.item ≡ d.0)
writes_item part d m =
    let at = Contains_at (writing_in part) d m in
    let from = chosen_at writing_of part at.0 d at.1 in
    (from.0, from.1, from.2, item_of_writing from.1.item from.1.change d from.3)

before_true : (x y : Name) → slice_cmp nat_cmp x y ≡ Less → comes_before x y ≡ true
before_true x y e = ap is_lt e

before_false : (x y : Name) → slice_cmp nat_cmp x y ≡ Less → comes_before y x ≡ false
before_false x y e = elim (cases_Bool (comes_before y x)) [
  | inl hit ↦ absurd (
      let back : slice_cmp nat_cmp y x ≡ Less = less_of (slice_cmp nat_cmp y x) hit in
      let loop = nat_list_cmp_total.trans x y x e back in
      let same : Less ≡ Equal = sym loop ∙ tied_itself nat_list_cmp_total x in cc)
  | inr miss ↦ miss
]
  where
    less_of : (o : Rattle.std.specs.declared.cmp.Ordering.Ordering) → is_lt o ≡ true → o ≡ Less
    less_of Less e = refl
    less_of Equal e = absurd cc
    less_of Greater e = absurd cc

before_itself : (x y : Name) → x ≡ y → comes_before x y ≡ false
before_itself x y e = ap (comes_before x) (sym e) ∙ ap is_lt (tied_itself nat_list_cmp_total x)

-- ---- one item is touched otherwise

module _ (old new : List Touch) (touch : Touch) (h : ChangesOnly old new touch) where
  there_list : List Touch
  there_list = option_to_list h.there

  abbrev here : ℕ → List Touch → List Touch
  here s ts = at_site s ts

  elsewhere_none : (s : ℕ) (o : Option Touch) → IfSome o (λ t. place_of t ≡ place_of touch) → (s ≡ touch.site → ⊥)
      → at_site s (option_to_list o) ≡ []
  elsewhere_none s None place other = refl
  elsewhere_none s (Some u) place other =
      let site : u.site ≡ touch.site = ap (λ (p : ℕ × Name). p.0) place in
      rw (ne_eqb u.site s (λ e. other (sym e ∙ site))) refl

  -- at other sites nothing changes
  pub other_sites : (s : ℕ) → (s ≡ touch.site → ⊥) → at_site s new ≡ at_site s old
  other_sites s other =
      let p = λ (t : Touch). t.site == s in
      let miss : filter p (touch ∷ h.rest) ≡ filter p h.rest = rw (ne_eqb touch.site s (λ e. other (sym e))) refl in
      ap (at_site s) h.is ∙ (filter-append p h.front (touch ∷ h.rest) ∙ (ap (λ l. filter p h.front ++ l) miss
      ∙ (ap (λ l. filter p h.front ++ (l ++ filter p h.rest)) (sym (elsewhere_none s h.there h.place other))
      ∙ (sym (filter_three p h.front (option_to_list h.there) h.rest) ∙ ap (at_site s) (sym h.was)))))

  there_here : (o : Option Touch) → IfSome o (λ t. place_of t ≡ place_of touch)
      → at_site touch.site (option_to_list o) ≡ option_to_list o
  there_here None place = refl
  there_here (Some u) place = rw (eq-eqb u.site touch.site (ap (λ (p : ℕ × Name). p.0) place)) refl

  abbrev F : List Touch
  F = at_site touch.site h.front

  abbrev B : List Touch
  B = at_site touch.site h.rest

  pub new_here : at_site touch.site new ≡ F ++ (touch ∷ [] ++ B)
  new_here =
      let p = λ (t : Touch). t.site == touch.site in
      let hit : filter p (touch ∷ h.rest) ≡ touch ∷ filter p h.rest = rw (eq-eqb touch.site touch.site refl) refl in
      ap (at_site touch.site) h.is ∙ (filter-append p h.front (touch ∷ h.rest) ∙ ap (λ l. F ++ l) hit)

  pub old_here : at_site touch.site old ≡ F ++ (option_to_list h.there ++ B)
  old_here =
      let p = λ (t : Touch). t.site == touch.site in
      ap (at_site touch.site) h.was ∙ (filter_three p h.front (option_to_list h.there) h.rest
      ∙ ap (λ l. F ++ (l ++ B)) (there_here h.there h.place))

  module _ (old_rising : AreRising old) (new_rising : AreRising new) where
    new_rise : ItemsRise (F ++ (touch ∷ [] ++ B))
    new_rise = subst ItemsRise new_here (here_rise touch.site new new_rising)

    old_rise : ItemsRise (F ++ (option_to_list h.there ++ B))
    old_rise = subst ItemsRise old_here (here_rise touch.site old old_rising)

    front_less : (n : ℕ) (t : Touch) → slice_get F n ≡ Some t → slice_cmp nat_cmp t.item touch.item ≡ Less
    front_less n t at = AllPairs_at (λ (a b : Touch). slice_cmp nat_cmp a.item b.item ≡ Less) (F ++ (touch ∷ [] ++ B))
        n (length F) t touch new_rise (within F n t at) (front_at F (touch ∷ [] ++ B) n t at) (middle_at F touch B)
      where
        within : (xs : List Touch) (n : ℕ) (t : Touch) → slice_get xs n ≡ Some t → n < length xs
        within [] n t e = absurd cc
        within (x ∷ xs) zero t e = omega arith
        within (x ∷ xs) (suc n) t e = let lt = within xs n t e in omega arith

    rest_more : (n : ℕ) (t : Touch) → slice_get B n ≡ Some t → slice_cmp nat_cmp touch.item t.item ≡ Less
    rest_more n t at = AllPairs_at (λ (a b : Touch). slice_cmp nat_cmp a.item b.item ≡ Less) (F ++ (touch ∷ [] ++ B))
        (length F) (length F + suc n) touch t new_rise (omega arith) (middle_at F touch B)
        (place_right F (touch ∷ B) (suc n) t at)

    W : List Touch → List (Name × Change)
    W part = writing_in part

    in_front : (d : Name × Change) → Contains (writing_in F) d → slice_cmp nat_cmp d.0 touch.item ≡ Less
    in_front d m = let w = writes_item F d m in
        subst (λ x. slice_cmp nat_cmp x touch.item ≡ Less) w.3 (front_less w.0 w.1 w.2)

    behind : (d : Name × Change) → Contains (writing_in B) d → slice_cmp nat_cmp touch.item d.0 ≡ Less
    behind d m = let w = writes_item B d m in
        subst (λ x. slice_cmp nat_cmp touch.item x ≡ Less) w.3 (rest_more w.0 w.1 w.2)

    there_item : (o : Option Touch) → IfSome o (λ t. place_of t ≡ place_of touch) → (d : Name × Change)
        → Contains (writing_in (option_to_list o)) d → d.0 ≡ touch.item
    there_item None place d m = absurd (contains-none d m)
    there_item (Some u) place d m = let w = writes_item (u ∷ []) d m in sym w.3
        ∙ (ap (λ (t : Touch). t.item) (sym (only u w.0 w.1 w.2)) ∙ ap (λ (p : ℕ × Name). p.1) place)
      where
        only : (u : Touch) (n : ℕ) (t : Touch) → slice_get (u ∷ []) n ≡ Some t → u ≡ t
        only u zero t e = same_Some u t e
        only u (suc n) t e = absurd cc

    -- the change is kept at its place
    pub put_there : (change : Change) → touch.change ≡ Some change
        → writing_in (at_site touch.site new) ≡ put_in (touch.item, change) (writing_in (at_site touch.site old))
    put_there change is =
        let x = touch.item in
        let T = writing_in (option_to_list h.there) in
        let low = λ (f : Name × Change). comes_before f.0 x in
        let high = λ (f : Name × Change). comes_before x f.0 in
        let own : writing_in (touch ∷ []) ≡ (x, change) ∷ [] =
        ap (λ o. cons_option (option_and_then (λ (c : Change). Some (x, c)) o) []) is in
        let now : writing_in (at_site touch.site new) ≡ writing_in F ++ ((x, change) ∷ [] ++ writing_in B)
        = ap writing_in new_here
        ∙ (chosen_three writing_of F (touch ∷ []) B ∙ ap (λ l. writing_in F ++ (l ++ writing_in B)) own) in
        let was : writing_in (at_site touch.site old) ≡ writing_in F ++ (T ++ writing_in B)
        = ap writing_in old_here ∙ chosen_three writing_of F (option_to_list h.there) B in
        let lows : filter low (writing_in F ++ (T ++ writing_in B)) ≡ writing_in F
        = filter_three low (writing_in F) T (writing_in B)
        ∙ (ap₂ (λ a b. a ++ (b ++ filter low (writing_in B)))
        (filter_all low (writing_in F) (λ d m. before_true d.0 x (in_front d m)))
        (filter_nothing low T (λ d m. before_itself d.0 x (there_item h.there h.place d m)))
        ∙ (ap (λ b. writing_in F ++ b) (filter_nothing low (writing_in B) (λ d m. before_false x d.0 (behind d m)))
        ∙ nil_right (writing_in F))) in
        let highs : filter high (writing_in F ++ (T ++ writing_in B)) ≡ writing_in B
        = filter_three high (writing_in F) T (writing_in B)
        ∙ (ap₂ (λ a b. a ++ (b ++ filter high (writing_in B)))
        (filter_nothing high (writing_in F) (λ d m. before_false d.0 x (in_front d m)))
        (filter_nothing high T (λ d m. before_itself x d.0 (sym (there_item h.there h.place d m))))
        ∙ filter_all high (writing_in B) (λ d m. before_true x d.0 (behind d m))) in
        now ∙ (ap₂ (λ a b. a ++ (x, change) ∷ b) (sym lows) (sym highs) ∙ ap (put_in (x, change)) (sym was))
      where
        nil_right : {A : Type 0} (xs : List A) → xs ++ [] ≡ xs
        nil_right [] = refl
        nil_right (x ∷ xs) = ap (λ ys. x ∷ ys) (nil_right xs)

    not_in : (part : List Touch) → ((n : ℕ) (t : Touch) → slice_get part n ≡ Some t → t.item ≡ touch.item → ⊥)
        → touch_in part touch.item ≡ None
    not_in part out =
        find_none (λ (u : Touch). bytes_eq u.item touch.item) part
        (λ n u at. bytes_eq-other u.item touch.item (out n u at))

    -- what the draft had of the item
    pub was_there : touched_at old (touch.site, touch.item) ≡ h.there
    was_there = touched_in old touch.site touch.item
        ∙ (ap (λ part. touch_in part touch.item) old_here ∙ found h.there h.place old_rise)
      where
        found : (o : Option Touch) → IfSome o (λ t. place_of t ≡ place_of touch)
            → ItemsRise (F ++ (option_to_list o ++ B)) → touch_in (F ++ (option_to_list o ++ B)) touch.item ≡ o
        found None place rise = not_in (F ++ B) (λ n t at same. elim (place_cases F B n t at) [
          | inl front ↦ less_apart t.item touch.item (front_less n t front.1) same
          | inr back ↦ less_apart touch.item t.item (rest_more back.0 t back.2) (sym same)
        ])
        found (Some u) place rise =
            let item : u.item ≡ touch.item = ap (λ (p : ℕ × Name). p.1) place in
            subst (λ x. touch_in (F ++ (u ∷ [] ++ B)) x ≡ Some u) item
            (touch-there (F ++ (u ∷ [] ++ B)) (length F) u rise (middle_at F u B))

    -- and what it has now
    pub now_there : touched_at new (touch.site, touch.item) ≡ Some touch
    now_there = touched_in new touch.site touch.item
        ∙ (ap (λ part. touch_in part touch.item) new_here
        ∙ touch-there (F ++ (touch ∷ [] ++ B)) (length F) touch new_rise (middle_at F touch B))

    pub was_seen : seen_at old (touch.site, touch.item) ≡ option_and_then (λ (t : Touch). t.seen) h.there
    was_seen = ap (option_and_then (λ (t : Touch). t.seen)) was_there

    pub was_changed : change_at old (touch.site, touch.item) ≡ option_and_then (λ (t : Touch). t.change) h.there
    was_changed = ap (option_and_then (λ (t : Touch). t.change)) was_there

    -- the read stays
    pub same_reads : touch.seen ≡ seen_at old (touch.site, touch.item)
        → kept_in (at_site touch.site new) ≡ kept_in (at_site touch.site old)
    same_reads is =
        ap kept_in new_here
        ∙ (chosen_three kept_of F (touch ∷ []) B
        ∙ (ap (λ l. kept_in F ++ (l ++ kept_in B)) (own h.there h.place (is ∙ was_seen))
        ∙ (sym (chosen_three kept_of F (option_to_list h.there) B) ∙ ap kept_in (sym old_here))))
      where
        own : (o : Option Touch) → IfSome o (λ t. place_of t ≡ place_of touch)
            → touch.seen ≡ option_and_then (λ (t : Touch). t.seen) o → kept_in (touch ∷ []) ≡ kept_in (option_to_list o)
        own None place e =
            ap (λ s. cons_option (option_and_then (λ (seen : Seen). Some (touch.item, seen.value, seen.version)) s)
            []) e
        own (Some u) place e =
            ap (λ s. cons_option (option_and_then (λ (seen : Seen). Some (touch.item, seen.value, seen.version)) s)
            []) e
            ∙ ap (λ x. cons_option (option_and_then (λ (seen : Seen). Some (x, seen.value, seen.version)) u.seen) [])
            (sym (ap (λ (p : ℕ × Name). p.1) place))

    -- the change stays
    pub same_changes : touch.change ≡ change_at old (touch.site, touch.item)
        → writing_in (at_site touch.site new) ≡ writing_in (at_site touch.site old)
    same_changes is =
        ap writing_in new_here
        ∙ (chosen_three writing_of F (touch ∷ []) B
        ∙ (ap (λ l. writing_in F ++ (l ++ writing_in B)) (own h.there h.place (is ∙ was_changed))
        ∙ (sym (chosen_three writing_of F (option_to_list h.there) B) ∙ ap writing_in (sym old_here))))
      where
        own : (o : Option Touch) → IfSome o (λ t. place_of t ≡ place_of touch)
            → touch.change ≡ option_and_then (λ (t : Touch). t.change) o
            → writing_in (touch ∷ []) ≡ writing_in (option_to_list o)
        own None place e = ap (λ s. cons_option (option_and_then (λ (c : Change). Some (touch.item, c)) s) []) e
        own (Some u) place e =
            ap (λ s. cons_option (option_and_then (λ (c : Change). Some (touch.item, c)) s) []) e
            ∙ ap (λ x. cons_option (option_and_then (λ (c : Change). Some (x, c)) u.change) [])
            (sym (ap (λ (p : ℕ × Name). p.1) place))

    -- a read is added
    pub more_reads : (seen : Seen) → touch.seen ≡ Some seen → seen_at old (touch.site, touch.item) ≡ None
        → (k : Name × ℕ × ℕ)
        → (Contains (kept_in (at_site touch.site new)) k
        → (((touch.item, seen.value, seen.version) ≡ k) ⊎ Contains (kept_in (at_site touch.site old)) k))
        × ((((touch.item, seen.value, seen.version) ≡ k) ⊎ Contains (kept_in (at_site touch.site old)) k)
        → Contains (kept_in (at_site touch.site new)) k)
    more_reads seen is none k =
        let own : kept_in (touch ∷ []) ≡ (touch.item, seen.value, seen.version) ∷ []
        = ap (λ s. cons_option (option_and_then (λ (q : Seen). Some (touch.item, q.value, q.version)) s) []) is in
        let now : kept_in (at_site touch.site new) ≡ kept_in F ++ ((touch.item, seen.value, seen.version) ∷ kept_in B)
        = ap kept_in new_here ∙ (chosen_three kept_of F (touch ∷ []) B ∙ ap (λ l. kept_in F ++ (l ++ kept_in B)) own) in
        let was : kept_in (at_site touch.site old) ≡ kept_in F ++ kept_in B
        = ap kept_in old_here
        ∙ (chosen_three kept_of F (option_to_list h.there) B
        ∙ ap (λ l. kept_in F ++ (l ++ kept_in B)) (nothing h.there (sym was_seen ∙ none))) in (
          λ m. elim (Contains-append_cases (kept_in F) _ k (subst (λ l. Contains l k) now m)) [
            | inl front ↦ inr
                (subst (λ l. Contains l k) (sym was) (Contains-append_left (kept_in F) (kept_in B) k front))
            | inr back ↦ elim (contains-cases _ (kept_in B) k back) [
              | inl this ↦ inl this
              | inr rest ↦ inr
                  (subst (λ l. Contains l k) (sym was) (Contains-append_right (kept_in F) (kept_in B) k rest))
            ]
          ],
          λ o. subst (λ l. Contains l k) (sym now) (elim o [
            | inl this ↦ Contains-append_right (kept_in F) _ k
                (subst (Contains ((touch.item, seen.value, seen.version) ∷ kept_in B)) this (cons_here _ (kept_in B)))
            | inr m ↦ elim (Contains-append_cases (kept_in F) (kept_in B) k (subst (λ l. Contains l k) was m)) [
              | inl front ↦ Contains-append_left (kept_in F) _ k front
              | inr rest ↦ Contains-append_right (kept_in F) _ k (contains-later _ (kept_in B) k rest)
            ]
          ]),
        )
      where
        nothing : (o : Option Touch) → option_and_then (λ (t : Touch). t.seen) o ≡ None
            → kept_in (option_to_list o) ≡ []
        nothing None e = refl
        nothing (Some u) e =
            ap (λ s. cons_option (option_and_then (λ (q : Seen). Some (u.item, q.value, q.version)) s) []) e
