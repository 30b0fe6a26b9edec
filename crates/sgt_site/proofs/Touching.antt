-- A commit's part, one touched item after another: room for it, and its notes.
use Rattle.std.proofs.Common.{◌≡◌, ℕ, ◌+◌, ◌<◌, ◌≤◌, List, length, Option, Some, None, refl, sym, ap, ◌∙◌, subst, arith, inl, inr, All, Contains, append-nil}
use Rattle.std.specs.Prelude.{slice_get, option_map}
use Rattle.std.specs.Ordering.{nat_cmp}
use Rattle.std.specs.Cmp.Lexicographic.{slice_cmp}
use Rattle.std.specs.declared.cmp.Ordering.TheVariants.{Less}
use Rattle.std.proofs.lemmas.Bool.{cases_lt}
use Rattle.std.proofs.lemmas.Option.{same_Some, slice_get_within, slice_get-map}
use Rattle.sgt_names.specs.Name.{Name}
use Rattle.sgt_names.specs.Ordered.{IsAt}
use Rattle.sgt_names.specs.declared.draft.Touch.{Touch}
use Rattle.sgt_names.proofs.Lists.{Any_at, Any-from_at}
use Rattle.sgt_names.proofs.Places.{All_at, All-from_at, AllPairs_at, Contains-from_at}
use Rattle.sgt_site.specs.declared.cell.Install.{Install}
use Rattle.sgt_site.specs.private.Cells.{Contents, items_of, CellsRise, HasItem, ItemsRise, HasSeen, IsThere, IsTouched, touch_in, AreChanged, ChangesAt, SameButRoom, HasPlace, IsNoted, NotesItem}
use Rattle.sgt_site.proofs.Basics.{less_apart}
use Rattle.sgt_site.proofs.Found.{has_key, item-there}
use Rattle.sgt_site.proofs.Changes.{old_at, all-same, changed-twice, changed-one, changed-items, items-rise, items-apart}
use Rattle.sgt_site.proofs.Parts.{touch-found, touch-there}

-- ---- room

-- cells as they are
pub as_they_are : (cells : List Contents) → AreChanged SameButRoom cells cells
as_they_are cells = all-same SameButRoom cells (λ n c at. (refl, omega arith))

roomier_rise : (old new : List Contents) → AreChanged SameButRoom old new → CellsRise old → CellsRise new
roomier_rise old new changed rising =
    items-rise old new (changed-items SameButRoom (λ c d room. ap (λ (e : Contents). e.item) room.0) old new changed)
    rising

-- room in the cell of an item
module _ (cells new : List Contents) (x : Name) (n : ℕ) (rising : CellsRise cells) (at : IsAt (λ c. c.item) cells x n)
  where
    pub room-kept : ChangesAt SameButRoom n cells new → AreChanged SameButRoom cells new
    room-kept change =
        changed-one SameButRoom cells new n change SameButRoom (λ d same. same) (λ m c apart here. (refl, omega arith))

    pub room-here : ChangesAt HasPlace n cells new → All (λ c. c.item ≡ x → 0 < c.has_room) new
    room-here change = All-from_at (λ (c : Contents). c.item ≡ x → 0 < c.has_room) new (λ m d here same.
        (old_at HasRoomOf cells new
        (changed-one HasPlace cells new n change HasRoomOf (λ d place. (
          ap (λ (e : Contents). e.item) place.0.0,
          λ _. place.1,
        ))
        (λ m c apart there. (refl, λ of. absurd (items-apart cells x m n c rising at apart there of)))) m d
        here).2.1 same)
      where
        HasRoomOf : Contents → Contents → Type 0
        HasRoomOf c d = (d.item ≡ c.item) × (d.item ≡ x → 0 < d.has_room)

-- what is found of a touched item at its place
pub there-here : (cells : List Contents) (tx : ℕ) (t : Touch) (n : ℕ) → IsAt (λ c. c.item) cells t.item n
    → ((c : Contents) → slice_get cells n ≡ Some c → HasSeen tx t c) → IsThere cells tx t
there-here cells tx t n at seen =
    let here = has_key (λ (c : Contents). c.item) cells t.item n at in (
      item-there cells t.item n at,
      λ s is. Any-from_at (λ (c : Contents). (c.item ≡ t.item)
          × Contains c.readings (record { tx = tx; seen = s })) cells n here.0 here.1
          (here.2, seen here.0 here.1 s is),
    )

-- and was so before room was made
pub there-before : (old now : List Contents) (tx : ℕ) (t : Touch) → AreChanged SameButRoom old now
    → IsThere now tx t → IsThere old tx t
there-before old now tx t changed there = (
  subst (λ xs. Contains xs t.item)
      (changed-items SameButRoom (λ c d room. ap (λ (e : Contents). e.item) room.0) old now changed) there.0,
  λ s is.
      let d = Any_at (λ (c : Contents). (c.item ≡ t.item)
      × Contains c.readings (record { tx = tx; seen = s })) now (there.1 s is) in
      let c = old_at SameButRoom old now changed d.0 d.1 d.2 in
      let item : d.1.item ≡ c.0.item = ap (λ (e : Contents). e.item) c.2.0 in
      let readings : d.1.readings ≡ c.0.readings = ap (λ (e : Contents). e.readings) c.2.0 in
      Any-from_at (λ (c : Contents). (c.item ≡ t.item)
      × Contains c.readings (record { tx = tx; seen = s })) old d.0 c.0 c.1
      (sym item ∙ d.3.0, subst (λ ms. Contains ms (record { tx = tx; seen = s })) readings d.3.1),
)

-- room for the first touched items
pub record RoomSoFar (part : List Touch) (k : ℕ) (old now : List Contents) : Type 0 where
  pub same : AreChanged SameButRoom old now
  pub rising : CellsRise now
  pub room : (m : ℕ) (t : Touch) → m < k → slice_get part m ≡ Some t → All (λ c. c.item ≡ t.item → 0 < c.has_room) now

pub room-none : (part : List Touch) (old : List Contents) → CellsRise old → RoomSoFar part 0 old old
room-none part old rising = record { same = as_they_are old; rising = rising; room = λ m t lt at. absurd (omega arith) }

pub room-twice : (part : List Touch) (k : ℕ) (old now next : List Contents) → RoomSoFar part k old now
    → AreChanged SameButRoom now next → AreChanged SameButRoom old next
room-twice part k old now next so_far more =
    changed-twice SameButRoom SameButRoom SameButRoom old now next (λ n c d e at_c first second. (
      second.0
          ∙ ap (λ (f : Contents). record f { has_room = e.has_room }) first.0,
      omega (arith, first.1, second.1),
    ))
    so_far.same more

pub room-next : (part : List Touch) (k : ℕ) (t : Touch) (old now next : List Contents) → RoomSoFar part k old now
    → slice_get part k ≡ Some t → AreChanged SameButRoom now next → All (λ c. c.item ≡ t.item → 0 < c.has_room) next
    → RoomSoFar part (k + 1) old next
room-next part k t old now next so_far at_k more here = record {
  same = room-twice part k old now next so_far more;
  rising = roomier_rise now next more so_far.rising;
  room = λ m u lt at_m. elim (cases_lt m k) [
    | inl below ↦ All-from_at (λ (c : Contents). c.item ≡ u.item → 0 < c.has_room) next (λ n e at_e same.
        let d = old_at SameButRoom now next more n e at_e in
        let was : d.0.item ≡ u.item = sym (ap (λ (f : Contents). f.item) d.2.0) ∙ same in
        let had = All_at (λ (c : Contents). c.item ≡ u.item → 0 < c.has_room) now n d.0 (so_far.room m u below at_m)
        d.1 was in
        omega (arith, had, d.2.1))
    | inr le ↦
        let is : m ≡ k = omega arith in
        let same : t ≡ u = same_Some t u (sym at_k ∙ ap (slice_get part) (sym is) ∙ at_m) in
        subst (λ (v : Touch). All (λ c. c.item ≡ v.item → 0 < c.has_room) next) same here
  ];
}

pub room-all : (part : List Touch) (k : ℕ) (old now : List Contents) → length part ≤ k → RoomSoFar part k old now
    → All (λ c. IsTouched part c.item → 0 < c.has_room) now
room-all part k old now end so_far = All-from_at (λ (c : Contents). IsTouched part c.item
    → 0 < c.has_room) now (λ n c at touched. by_touch n c at (touch_in part c.item) refl touched)
  where
    by_touch : (n : ℕ) (c : Contents) → slice_get now n ≡ Some c → (o : Option Touch) → touch_in part c.item ≡ o
        → IsTouched part c.item → 0 < c.has_room
    by_touch n c at None is touched = absurd (let none = rw is at touched in cc)
    by_touch n c at (Some t) is touched =
        let found = touch-found part c.item t is in
        All_at (λ (c : Contents). c.item ≡ t.item
        → 0 < c.has_room) now n c (so_far.room found.0 t (let lt = slice_get_within part found.0 t found.1 in
        omega (arith, lt, end)) found.1) at (sym found.2)

-- ---- notes

-- the cell of an item that is noted
pub notes-here : (by : Install) (t : Touch) (cells new : List Contents) (n : ℕ) → CellsRise cells
    → IsAt (λ c. c.item) cells t.item n → ChangesAt (IsNoted by (Some t)) n cells new
    → AreChanged (NotesItem by t) cells new
notes-here by t cells new n rising at change = changed-one (IsNoted by (Some t)) cells new n change (NotesItem by t)
    (λ d noted. record {
      item = noted.item;
      here = λ _. noted;
      other =
          λ apart. absurd (apart (at.is change.before change.at));
    })
    (λ m c apart here. record {
      item = refl;
      here =
          λ same. absurd (items-apart cells t.item m n c rising at apart here same);
      other = λ _. refl;
    })

pub notes-nowhere : (by : Install) (t : Touch) (cells : List Contents) → (HasItem cells t.item → ⊥)
    → AreChanged (NotesItem by t) cells cells
notes-nowhere by t cells absent = all-same (NotesItem by t) cells (λ n c at. record {
  item = refl;
  here = λ same. absurd
      (absent (Contains-from_at (items_of cells) n t.item (slice_get-map (λ (c : Contents). c.item) cells n
      ∙ ap (option_map (λ (c : Contents). c.item)) at ∙ ap Some same)));
  other = λ _. refl;
})

-- a cell after the first touched items: noted where one of them is its own
pub record NotedSoFar (by : Install) (part : List Touch) (k : ℕ) (old new : Contents) : Type 0 where
  pub item : new.item ≡ old.item
  pub noted : (m : ℕ) (t : Touch) → m < k → slice_get part m ≡ Some t → t.item ≡ old.item → IsNoted by (Some t) old new
  pub rest : ((m : ℕ) (t : Touch) → m < k → slice_get part m ≡ Some t → t.item ≡ old.item → ⊥) → new ≡ old

module _ (by : Install) (part : List Touch) (rises : ItemsRise part) where
  -- an item is touched once
  earlier : (m k : ℕ) (u t : Touch) → m < k → slice_get part m ≡ Some u → slice_get part k ≡ Some t → u.item ≡ t.item
      → ⊥
  earlier m k u t lt at_u at_t same =
      less_apart u.item t.item (AllPairs_at (λ (a b : Touch). slice_cmp nat_cmp a.item b.item ≡ Less) part m k u t
      rises lt at_u at_t) same

  pub noted-none : (cells : List Contents) → AreChanged (NotedSoFar by part 0) cells cells
  noted-none cells =
      all-same (NotedSoFar by part 0) cells (λ n c at. record {
        item = refl;
        noted =
            λ m t lt is same. absurd (omega arith);
        rest = λ _. refl;
      })

  -- the cell of the next item is as it was
  untouched : (k : ℕ) (t : Touch) (c d : Contents) → slice_get part k ≡ Some t → NotedSoFar by part k c d
      → c.item ≡ t.item → d ≡ c
  untouched k t c d at so_far same = so_far.rest (λ m u lt at_u is. earlier m k u t lt at_u at (is ∙ same))

  pub noted-next : (k : ℕ) (t : Touch) (old now next : List Contents) → slice_get part k ≡ Some t
      → AreChanged (NotedSoFar by part k) old now → AreChanged (NotesItem by t) now next
      → AreChanged (NotedSoFar by part (k + 1)) old next
  noted-next k t old now next at_k first second =
      changed-twice (NotedSoFar by part k) (NotesItem by t) (NotedSoFar by part (k + 1)) old now next both first second
    where
      both : (n : ℕ) (c d e : Contents) → slice_get old n ≡ Some c → NotedSoFar by part k c d → NotesItem by t d e
          → NotedSoFar by part (k + 1) c e
      both n c d e at_c so_far notes = record {
        item = notes.item ∙ so_far.item;
        noted = λ m u lt at_u same. elim (cases_lt m k) [
          | inl below ↦
              let is : e ≡ d = notes.other (λ of. earlier m k u t below at_u at_k (same ∙ sym so_far.item ∙ of)) in
              subst (IsNoted by (Some u) c) (sym is) (so_far.noted m u below at_u same)
          | inr le ↦
              let place : m ≡ k = omega arith in
              let is : t ≡ u = same_Some t u (sym at_k ∙ ap (slice_get part) (sym place) ∙ at_u) in
              let own : c.item ≡ t.item = sym same ∙ ap (λ (v : Touch). v.item) (sym is) in
              let was : d ≡ c = untouched k t c d at_k so_far own in
              subst (λ (v : Touch). IsNoted by (Some v) c e) is (subst (λ (f : Contents). IsNoted by (Some t) f e) was
              (notes.here (so_far.item ∙ own)))
        ];
        rest = λ none.
            let was : d ≡ c = so_far.rest (λ m u lt. none m u (omega arith)) in
            notes.other (λ of. none k t (omega arith) at_k (sym of ∙ so_far.item)) ∙ was;
      }

  -- there is room in the cell of the next item
  pub next-room : (k : ℕ) (t : Touch) (old now : List Contents) → slice_get part k ≡ Some t
      → All (λ c. IsTouched part c.item → 0 < c.has_room) old → AreChanged (NotedSoFar by part k) old now
      → All (λ c. c.item ≡ t.item → 0 < c.has_room) now
  next-room k t old now at_k room so_far = All-from_at (λ (c : Contents). c.item ≡ t.item
      → 0 < c.has_room) now (λ n d at_d same.
      let c = old_at (NotedSoFar by part k) old now so_far n d at_d in
      let own : c.0.item ≡ t.item = sym c.2.item ∙ same in
      let was : d ≡ c.0 = untouched k t c.0 d at_k c.2 own in
      let touched : IsTouched part c.0.item = rw (own, touch-there part k t rises at_k) refl in
      subst (λ (e : Contents). 0 < e.has_room) (sym was) (All_at (λ (c : Contents). IsTouched part c.item
      → 0 < c.has_room) old n c.0 room c.1 touched))

  pub noted-rise : (k : ℕ) (old now : List Contents) → CellsRise old → AreChanged (NotedSoFar by part k) old now
      → CellsRise now
  noted-rise k old now rising so_far =
      items-rise old now (changed-items (NotedSoFar by part k) (λ c d noted. noted.item) old now so_far) rising

  pub noted-all : (k : ℕ) (old now : List Contents) → length part ≤ k → AreChanged (NotedSoFar by part k) old now
      → AreChanged (λ c d. IsNoted by (touch_in part c.item) c d) old now
  noted-all k old now end so_far =
      record {
        as_many = so_far.as_many;
        each =
            λ n c d at_c at_d. by_touch c d (so_far.each n c d at_c at_d) (touch_in part c.item) refl;
      }
    where
      as_it_was : (c d : Contents) → d ≡ c → IsNoted by None c d
      as_it_was c d was = subst (IsNoted by None c) (sym was) record {
        item = refl;
        value = refl;
        writers =
            sym (append-nil c.writers);
        readers = refl;
        readings = refl;
      }

      by_touch : (c d : Contents) → NotedSoFar by part k c d → (o : Option Touch) → touch_in part c.item ≡ o
          → IsNoted by (touch_in part c.item) c d
      by_touch c d noted (Some t) is =
          let found = touch-found part c.item t is in
          rw is (noted.noted found.0 t (let lt = slice_get_within part found.0 t found.1 in
          omega (arith, lt, end)) found.1 found.2)
      by_touch c d noted None is = rw is (as_it_was c d (noted.rest (λ m t lt at same.
          let there : touch_in part c.item ≡ Some t =
          subst (λ x. touch_in part x ≡ Some t) same (touch-there part m t rises at) in
          let none : Some t ≡ None = sym there ∙ is in
          absurd cc)))
