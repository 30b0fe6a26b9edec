-- The definitions of a draft, shown on a small one: at site 0 x was read and written and w read and incremented, at
-- site 1 y was read, z written and w incremented alone.
use Rattle.std.proofs.Common.{◌≡◌, ℕ, List, [], ◌∷◌, ◌++◌, Option, Some, None, refl, ap, subst, get_or, inl, inr}
use Rattle.std.specs.Prelude.{codes, option_and_then, IfSome}
use Rattle.std.proofs.lemmas.Bool.{eqb-false}
use Rattle.std.specs.Option.{option_to_list}
use Rattle.sgt_names.specs.Name.{Name}
use Rattle.sgt_names.specs.Draft.{Place, place_of, at_site, kept_in, writing_in, touched_at, added_to, look_of, IsUsed, ChangesOnly}
use Rattle.sgt_names.specs.declared.entry.Change.TheVariants.{Put, Add}
use Rattle.sgt_names.specs.declared.draft.Touch.{Touch}

abbrev x : Name
x = codes "x"

abbrev y : Name
y = codes "y"

abbrev z : Name
z = codes "z"

abbrev on_x : Touch
on_x = record { site = 0; item = x; seen = Some (record { value = 5; version = 0 }); change = Some (Put 6) }

abbrev on_y : Touch
on_y = record { site = 1; item = y; seen = Some (record { value = 2; version = 3 }); change = None }

abbrev on_z : Touch
on_z = record { site = 1; item = z; seen = None; change = Some (Put 9) }

abbrev w : Name
w = codes "w"

abbrev on_w : Touch
on_w = record { site = 0; item = w; seen = Some (record { value = 4; version = 1 }); change = Some (Add 3) }

abbrev unread_w : Touch
unread_w = record { site = 1; item = w; seen = None; change = Some (Add 8) }

abbrev draft : List Touch
draft = on_w ∷ on_x ∷ unread_w ∷ on_y ∷ on_z ∷ []

abbrev look : Place → Option ℕ
look p = option_and_then look_of (touched_at draft p)

-- the private write comes before the kept read; an equal name at another site is another item
pub look-prefers_the_write : look (0, x) ≡ Some 6
look-prefers_the_write = refl

pub look-at_a_read : look (1, y) ≡ Some 2
look-at_a_read = refl

pub look-at_a_write : look (1, z) ≡ Some 9
look-at_a_write = refl

pub look-at_another_site : look (1, x) ≡ None
look-at_another_site = refl

-- an increment shows behind a kept read, modulo 2^64, and alone it shows nothing
pub look-at_an_increment : look (0, w) ≡ Some 7
look-at_an_increment = refl

pub look-at_an_increment_alone : look (1, w) ≡ None
look-at_an_increment_alone = refl

pub look-wraps : look_of (record {
  site = 0;
  item = w;
  seen =
      Some (record { value = 18446744073709551615; version = 1 });
  change = Some (Add 3);
}) ≡ Some 2
look-wraps = refl

-- an increment behind a write is a write of the sum, behind an increment an increment by the sum, each modulo 2^64
pub add-alone : added_to None 3 ≡ Add 3
add-alone = refl

pub add-to_a_write : added_to (Some (Put 6)) 3 ≡ Put 9
add-to_a_write = refl

pub add-to_an_increment : added_to (Some (Add 6)) 3 ≡ Add 9
add-to_an_increment = refl

pub add-wraps : (added_to (Some (Put 18446744073709551615)) 3 ≡ Put 2)
    × (added_to (Some (Add 18446744073709551615)) 3 ≡ Add 2)
add-wraps = (refl, refl)

-- the kept reads and the private changes of each site
pub kept-at_the_first : kept_in (at_site 0 draft) ≡ (w, 4, 1) ∷ (x, 5, 0) ∷ []
kept-at_the_first = refl

pub kept-at_the_second : kept_in (at_site 1 draft) ≡ (y, 2, 3) ∷ []
kept-at_the_second = refl

pub writing-at_the_first : writing_in (at_site 0 draft) ≡ (w, Add 3) ∷ (x, Put 6) ∷ []
writing-at_the_first = refl

pub writing-at_the_second : writing_in (at_site 1 draft) ≡ (w, Add 8) ∷ (z, Put 9) ∷ []
writing-at_the_second = refl

pub writing-elsewhere : writing_in (at_site 2 draft) ≡ []
writing-elsewhere = refl

-- an item that was neither read nor changed isn't used
pub unused-not_used : IsUsed (record { site = 0; item = x; seen = None; change = None }) → ⊥
unused-not_used (inl some) = absurd cc
unused-not_used (inr some) = absurd cc

-- a change of one item doesn't drop another
pub dropping-not_only : ChangesOnly (on_y ∷ on_z ∷ []) (on_y ∷ []) on_y → ⊥
dropping-not_only changes = by_front changes.front changes.there changes.rest changes.was changes.is
  where
    by_there : (there : Option Touch) (rest : List Touch) → on_y ∷ on_z ∷ [] ≡ option_to_list there ++ rest
        → on_y ∷ [] ≡ on_y ∷ rest → ⊥
    by_there None rest was is = absurd cc
    by_there (Some t) rest was is = absurd cc

    by_front : (front : List Touch) (there : Option Touch) (rest : List Touch)
        → on_y ∷ on_z ∷ [] ≡ front ++ (option_to_list there ++ rest) → on_y ∷ [] ≡ front ++ on_y ∷ rest → ⊥
    by_front [] there rest was is = by_there there rest was is
    by_front (f ∷ []) there rest was is = absurd cc
    by_front (f ∷ g ∷ fs) there rest was is = absurd cc

-- nor does it put one item in the place of another
pub replacing-not_only : ChangesOnly (on_y ∷ []) (on_z ∷ []) on_z → ⊥
replacing-not_only changes = by_front changes.front changes.there changes.rest changes.was changes.is changes.place
  where
    apart : place_of on_y ≡ place_of on_z → ⊥
    apart same = eqb-false 121 122 refl (ap (λ (p : Place). get_or p.1 0 0) same)

    by_there : (there : Option Touch) (rest : List Touch) → on_y ∷ [] ≡ option_to_list there ++ rest
        → on_z ∷ [] ≡ on_z ∷ rest → IfSome there (λ t. place_of t ≡ place_of on_z) → ⊥
    by_there None rest was is place = absurd cc
    by_there (Some t) rest was is place =
        apart (subst (λ (u : Touch). place_of u ≡ place_of on_z) (let same : t ≡ on_y = cc in same) place)

    by_front : (front : List Touch) (there : Option Touch) (rest : List Touch)
        → on_y ∷ [] ≡ front ++ (option_to_list there ++ rest) → on_z ∷ [] ≡ front ++ on_z ∷ rest
        → IfSome there (λ t. place_of t ≡ place_of on_z) → ⊥
    by_front [] there rest was is place = by_there there rest was is place
    by_front (f ∷ []) there rest was is place = absurd cc
    by_front (f ∷ g ∷ fs) there rest was is place = absurd cc
