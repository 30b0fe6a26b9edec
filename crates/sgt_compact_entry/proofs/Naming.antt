-- Entries whose items are told by numbers, when there are more items.
use Rattle.std.proofs.Common.{◌≡◌, ℕ, ◌<◌, List, [], ◌∷◌, ◌++◌, length, map, All, slice_get, refl, sym, ap, ap₂, ◌∙◌, subst, arith, OnErr, Result, Ok, Err}
use Rattle.std.proofs.lemmas.List.{length-append}
use Rattle.std.proofs.lemmas.List.Elements.{All-nil, All-cons, All-head, All-tail, All-push}
use Rattle.sgt_names.specs.Name.{Name}
use Rattle.sgt_names.specs.declared.entry.Entry.{Entry}
use Rattle.sgt_names.specs.declared.entry.Entry.TheVariants as entry
use Rattle.sgt_names.proofs.Elements.{map-push}
use Rattle.sgt_names.proofs.Lists.{front_at, within_at}
use Rattle.sgt_compact_entry.specs.declared.entry.Act.{Act}
use Rattle.sgt_compact_entry.specs.declared.entry.Act.TheVariants.{Read, Write, Add, Want, WantAdd, Commit, Refuse, Withdraw}
use Rattle.sgt_compact_entry.specs.declared.entry.CompactEntry.{CompactEntry}
use Rattle.sgt_compact_entry.specs.Compact.{HasNumber, IsNumbered, entry_of, named, or_none}

-- what holds in any case
pub always : {X E : Type 0} {P : Type 0} (r : Result X E) → P → OnErr r P
always (Ok x) p = tt
always (Err e) p = p

item-more : (xs ys : List Name) (n : ℕ) → n < length xs → or_none (slice_get (xs ++ ys) n) ≡ or_none (slice_get xs n)
item-more xs ys n within =
    let found = within_at xs n within in
    ap or_none (front_at xs ys n found.0 found.1 ∙ sym found.1)

entry-more : (a : Act) (tx v n : ℕ) (xs ys : List Name) → HasNumber a n xs
    → entry_of a tx (or_none (slice_get (xs ++ ys) n)) v ≡ entry_of a tx (or_none (slice_get xs n)) v
entry-more Read tx v n xs ys has = ap (λ x. entry.Read tx x v) (item-more xs ys n has)
entry-more Write tx v n xs ys has = ap (λ x. entry.Write tx x v) (item-more xs ys n has)
entry-more Add tx v n xs ys has = ap (λ x. entry.Add tx x v) (item-more xs ys n has)
entry-more Want tx v n xs ys has = ap (λ x. entry.Want tx x v) (item-more xs ys n has)
entry-more WantAdd tx v n xs ys has = ap (λ x. entry.WantAdd tx x v) (item-more xs ys n has)
entry-more Commit tx v n xs ys has = refl
entry-more Refuse tx v n xs ys has = refl
entry-more Withdraw tx v n xs ys has = refl

number-more : (a : Act) (n : ℕ) (xs ys : List Name) → HasNumber a n xs → HasNumber a n (xs ++ ys)
number-more Read n xs ys has = omega (arith, has, length-append xs ys)
number-more Write n xs ys has = omega (arith, has, length-append xs ys)
number-more Add n xs ys has = omega (arith, has, length-append xs ys)
number-more Want n xs ys has = omega (arith, has, length-append xs ys)
number-more WantAdd n xs ys has = omega (arith, has, length-append xs ys)
number-more Commit n xs ys has = has
number-more Refuse n xs ys has = has
number-more Withdraw n xs ys has = has

-- they are the same entries
pub entries-more : (xs ys : List Name) (cs : List CompactEntry) → All (IsNumbered xs) cs
    → map (named (xs ++ ys)) cs ≡ map (named xs) cs
entries-more xs ys [] all = refl
entries-more xs ys (c ∷ cs) all =
    ap₂ (λ e es. e ∷ es) (entry-more c.act c.tx c.value c.item xs ys (All-head (IsNumbered xs) c cs all))
    (entries-more xs ys cs (All-tail (IsNumbered xs) c cs all))

-- and each has its number
pub numbers-more : (xs ys : List Name) (cs : List CompactEntry) → All (IsNumbered xs) cs
    → All (IsNumbered (xs ++ ys)) cs
numbers-more xs ys [] all = All-nil (IsNumbered (xs ++ ys))
numbers-more xs ys (c ∷ cs) all =
    All-cons (IsNumbered (xs ++ ys)) c cs (number-more c.act c.item xs ys (All-head (IsNumbered xs) c cs all))
    (numbers-more xs ys cs (All-tail (IsNumbered xs) c cs all))

-- there may be more items now
module _ (xs xs' more : List Name) (cs : List CompactEntry) (now : List Entry) (all : All (IsNumbered xs) cs)
    (is : xs' ≡ xs ++ more) (view : map (named xs) cs ≡ now) where
  pub entries-kept : map (named xs') cs ≡ now
  entries-kept = ap (λ ys. map (named ys) cs) is ∙ entries-more xs more cs all ∙ view

  -- and one more entry
  pub entries-pushed : (cs' : List CompactEntry) (c : CompactEntry) (e : Entry) → cs' ≡ cs ++ c ∷ []
      → named xs' c ≡ e → map (named xs') cs' ≡ now ++ e ∷ []
  entries-pushed cs' c e pushed same = ap (map (named xs')) pushed ∙ map-push (named xs') cs c
      ∙ ap₂ (λ es y. es ++ y ∷ []) entries-kept same

  pub numbers-pushed : (cs' : List CompactEntry) (c : CompactEntry) → cs' ≡ cs ++ c ∷ [] → IsNumbered xs' c
      → All (IsNumbered xs') cs'
  numbers-pushed cs' c pushed has = subst (All (IsNumbered xs')) (sym pushed)
      (All-push (IsNumbered xs') cs c (subst (λ ys. All (IsNumbered ys) cs) (sym is) (numbers-more xs more cs all)) has)
