-- The part of a draft at one site: its items rise, so each is touched once.
use Rattle.std.proofs.Common.{◌≡◌, ℕ, suc, Bool, true, false, List, [], ◌∷◌, Option, Some, None, refl, sym, ap, ◌∙◌, subst, arith, inl, inr, All, Contains}
use Rattle.std.specs.Prelude.{slice_get, option_and_then, if◌then◌else◌}
use Rattle.std.specs.List.{filter_map, cons_option}
use Rattle.std.specs.Option.{option_to_list}
use Rattle.std.specs.Ordering.{nat_cmp}
use Rattle.std.specs.Str.{bytes_eq}
use Rattle.std.specs.Cmp.Lexicographic.{slice_cmp}
use Rattle.std.specs.declared.cmp.Ordering.TheVariants.{Less}
use Rattle.std.proofs.lemmas.Bool.{cases_Bool}
use Rattle.std.proofs.lemmas.Option.{same_Some}
use Rattle.std.proofs.lemmas.Slice.Eq.{bytes_eq-Decides}
use Rattle.sgt_names.specs.Name.{Name}
use Rattle.sgt_names.specs.Draft.{AreRising, place_of, place_cmp, writing_in, kept_of, kept_in}
use Rattle.sgt_names.specs.declared.draft.Seen.{Seen}
use Rattle.sgt_names.specs.declared.draft.Touch.{Touch}
use Rattle.sgt_names.specs.declared.entry.Entry.{Entry}
use Rattle.sgt_names.specs.declared.entry.Entry.TheVariants.{Commit}
use Rattle.sgt_names.specs.declared.entry.Change.{Change}
use Rattle.sgt_names.proofs.Places.{Contains_at, Contains-from_at, All_at, AllPairs_at, AllPairs-from_at, AllPairs-tail}
use Rattle.sgt_names.proofs.Ranged.{find_first, find_none}
use Rattle.sgt_names.proofs.Rising.{items-rise, kept_is}
use Rattle.sgt_site.specs.State.{change_entry, commit_block}
use Rattle.sgt_site.specs.private.Cells.{ItemsRise, touch_in, change_in}
use Rattle.sgt_site.proofs.Appends.{chosen_at, chosen_from, count_before}
use Rattle.sgt_site.proofs.Basics.{less_apart}
use Rattle.sgt_names.proofs.Elements.{bytes_eq-other}

pub part-rises : (n : ℕ) (part : List Touch) → All (λ t. t.site ≡ n) part → AreRising part → ItemsRise part
part-rises n part here rising = AllPairs-from_at (λ (t u : Touch). slice_cmp nat_cmp t.item u.item ≡ Less) part
    (λ p q t u lt at_p at_q.
    items-rise n t u (All_at (λ (t : Touch). t.site ≡ n) part p t here at_p)
    (All_at (λ (t : Touch). t.site ≡ n) part q u here at_q)
    (AllPairs_at (λ t u. place_cmp (place_of t) (place_of u) ≡ Less) part p q t u rising lt at_p at_q))

-- what a look among the touched items finds
pub touch-found : (part : List Touch) (x : Name) (t : Touch) → touch_in part x ≡ Some t
    → (n : ℕ) × (slice_get part n ≡ Some t) × (t.item ≡ x)
touch-found [] x t h = absurd cc
touch-found (u ∷ part) x t h = elim (cases_Bool (bytes_eq u.item x)) [
  | inl hit ↦
      let same : u ≡ t = same_Some u t (rw hit at h) in
      (0, ap Some same, ap (λ (v : Touch). v.item) (sym same) ∙ (bytes_eq-Decides u.item x).0 hit)
  | inr miss ↦ let r = touch-found part x t (rw miss at h) in (suc r.0, r.1, r.2)
]

-- and an item that is touched is found
pub touch-there : (part : List Touch) (n : ℕ) (t : Touch) → ItemsRise part → slice_get part n ≡ Some t
    → touch_in part t.item ≡ Some t
touch-there part n t rises at =
    find_first (λ (u : Touch). bytes_eq u.item t.item) part n t at ((bytes_eq-Decides t.item t.item).1 refl)
    (λ m u lt here.
    bytes_eq-other u.item t.item
    (less_apart u.item t.item (AllPairs_at (λ (a b : Touch). slice_cmp nat_cmp a.item b.item ≡ Less) part m n u t
    rises lt here at)))

-- an item is not touched again behind its place
pub touch-later : (t : Touch) (part : List Touch) (x : Name) → ItemsRise (t ∷ part) → bytes_eq t.item x ≡ true
    → touch_in part x ≡ None
touch-later t part x rises hit = find_none (λ (u : Touch). bytes_eq u.item x) part (λ m u here.
    bytes_eq-other u.item x
    (λ same. less_apart t.item u.item (AllPairs_at (λ (a b : Touch). slice_cmp nat_cmp a.item b.item ≡ Less)
    (t ∷ part) 0 (suc m) t u rises (omega arith) refl here) ((bytes_eq-Decides t.item x).0 hit ∙ sym same)))

-- what is chosen of a commit's block by the changes of an item
module _ {B : Type 0} (f : Entry → Option B) (g : Change → Option B) (x : Name) (tx : ℕ)
    (hits : (y : Name) (c : Change) → bytes_eq y x ≡ true
    → f (change_entry tx y c) ≡ g c) (misses : (y : Name) (c : Change) → bytes_eq y x ≡ false
    → f (change_entry tx y c) ≡ None) (last : f (Commit tx) ≡ None) where
  to_list : (o : Option B) → cons_option o [] ≡ option_to_list o
  to_list None = refl
  to_list (Some b) = refl

  abbrev chosen_of : Option Touch → List B
  chosen_of o = option_to_list (option_and_then g (change_in o))

  -- the block of what is left, with this private change or none in front
  abbrev chosen : Option (Name × Change) → List Touch → List B
  chosen o part = filter_map f (commit_block tx (cons_option o (writing_in part)))

  by_change : (t : Touch) (part : List Touch) (o : Option Change) → ItemsRise (t ∷ part)
      → filter_map f (commit_block tx (writing_in part)) ≡ chosen_of (touch_in part x) → (b : Bool)
      → bytes_eq t.item x ≡ b
      → chosen (option_and_then (λ c. Some (t.item, c)) o) part ≡
      (if b then option_to_list (option_and_then g o) else chosen_of (touch_in part x))
  by_change t part None rises rest true is = rest ∙ ap chosen_of (touch-later t part x rises is)
  by_change t part None rises rest false is = rest
  by_change t part (Some c) rises rest true is =
      ap (λ o. cons_option o (filter_map f (commit_block tx (writing_in part)))) (hits t.item c is)
      ∙ ap (cons_option (g c)) (rest ∙ ap chosen_of (touch-later t part x rises is)) ∙ to_list (g c)
  by_change t part (Some c) rises rest false is =
      ap (λ o. cons_option o (filter_map f (commit_block tx (writing_in part)))) (misses t.item c is) ∙ rest

  from_test : (t : Touch) (o : Option Touch) (b : Bool)
      → (if b then option_to_list (option_and_then g t.change) else chosen_of o) ≡ chosen_of (if b then Some t else o)
  from_test t o true = refl
  from_test t o false = refl

  pub chosen_changes : (part : List Touch) → ItemsRise part
      → filter_map f (commit_block tx (writing_in part)) ≡ chosen_of (touch_in part x)
  chosen_changes [] rises = ap (λ o. cons_option o []) last
  chosen_changes (t ∷ part) rises =
      by_change t part t.change rises
      (chosen_changes part (AllPairs-tail (λ (a b : Touch). slice_cmp nat_cmp a.item b.item ≡ Less) t part rises))
      (bytes_eq t.item x) refl ∙ from_test t (touch_in part x) (bytes_eq t.item x)

-- a kept read is of a touched item
pub kept-touch : (part : List Touch) (x : Name) (v n : ℕ) → ItemsRise part → Contains (kept_in part) (x, v, n)
    → (t : Touch) × (touch_in part x ≡ Some t) × (t.seen ≡ Some (record { value = v; version = n }))
kept-touch part x v n rises has =
    let at = Contains_at (kept_in part) (x, v, n) has in
    let from = chosen_at kept_of part at.0 (x, v, n) at.1 in
    let is = kept_is from.1 (x, v, n) from.3 in
    let item : from.1.item ≡ x = ap (λ (k : Name × ℕ × ℕ). k.0) is.2 in
    let value : is.0.value ≡ v = ap (λ (k : Name × ℕ × ℕ). k.1) is.2 in
    let version : is.0.version ≡ n = ap (λ (k : Name × ℕ × ℕ). k.2) is.2 in (
      from.1,
      subst (λ y. touch_in part y ≡ Some from.1) item (touch-there part from.0 from.1 rises from.2),
      is.1
          ∙ ap Some (λ i. record { value = value i; version = version i }),
    )

pub touch-kept : (part : List Touch) (x : Name) (t : Touch) (seen : Seen) → touch_in part x ≡ Some t
    → t.seen ≡ Some seen → Contains (kept_in part) (x, seen.value, seen.version)
touch-kept part x t seen found is =
    let at = touch-found part x t found in
    let of : kept_of t ≡ Some (x, seen.value, seen.version) =
    ap (option_and_then (λ (s : Seen). Some (t.item, s.value, s.version))) is
    ∙ ap (λ (y : Name). Some (y, seen.value, seen.version)) at.2 in
    Contains-from_at (kept_in part) (count_before kept_of part at.0) (x, seen.value, seen.version)
    (chosen_from kept_of part at.0 t (x, seen.value, seen.version) at.1 of)
