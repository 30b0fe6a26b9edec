-- The place behind the lines of sections, against those sections.
use Rattle.std.proofs.Common.{◌≡◌, ℕ, ◌+◌, ◌-◌, ◌^◌, ◌<◌, ◌≤◌, List, [], ◌∷◌, ◌++◌, length, Option, Some, None, Bool, true, false, IsTrue, refl, sym, ap, ap₂, ◌∙◌, subst, subst₂, arith, inl, inr, All, AllPairs}
use Rattle.std.specs.Prelude.{◌↔◌, slice_get}
use Rattle.std.proofs.lemmas.Bool.{cases_order, false≢true}
use Rattle.std.proofs.lemmas.Cmp.{nat_list_cmp_total}
use Rattle.std.specs.Option.{ForSome}
use Rattle.std.proofs.lemmas.List.{map-append, length-map, length_push}
use Rattle.std.proofs.lemmas.Option.{none-some, same_Some, slice_get_within}
use Rattle.sgt_names.specs.Limits.{max_items, max_sites}
use Rattle.sgt_names.specs.Entry.{GoesOn, GoesOnAsking}
use Rattle.sgt_names.specs.Log.{names}
use Rattle.sgt_names.specs.declared.entry.Entry.{Entry}
use Rattle.sgt_names.specs.declared.entry.Entry.TheVariants.{Read, Write, Add, Want, WantAdd, Commit, Refuse, Withdraw}
use Rattle.sgt_names.specs.declared.entry.Holding.{Holding}
use Rattle.sgt_names.proofs.Lists.{middle_at}
use Rattle.sgt_names.proofs.Places.{All_at, All-from_at, AllPairs_at}
use Rattle.sgt_names.specs.Name.{Name}
use Rattle.sgt_notation.specs.declared.SectionLine.{SectionLine}
use Rattle.sgt_notation.specs.declared.SectionLine.TheVariants.{Site, Initial, Logged, Final, End}
use Rattle.sgt_bundle.specs.Parts.{ComesBefore}
use Rattle.sgt_bundle.specs.Text.{Begins, AreSections}
use Rattle.sgt_bundle.specs.declared.bundle.SiteLog.{SiteLog}
use Rattle.sgt_audit.specs.declared.place.Last.{Last}
use Rattle.sgt_audit.specs.declared.place.Last.TheVariants as last
use Rattle.sgt_audit.specs.declared.place.OpenPlace.{OpenPlace}
use Rattle.sgt_audit.specs.declared.place.Place.{Place}
use Rattle.sgt_audit.specs.Kept.{IsOpenPlace, IsCurrentPlace, IsPlace, last_of}
use Rattle.sgt_audit.specs.Reading.{Begun, HasRoomFor, IsBegun, IsOpenLog, lines_read}
use Rattle.sgt_audit.specs.private.Following.{Fits, FitsAt, FitsBetween, MayFollow, no_log, with_line, with_next, next_current, next_whole}
use Rattle.sgt_audit.specs.private.Judging.{ContinuesBlock, ContinuesLog, FollowsLast}
use Rattle.sgt_audit.proofs.MayFollow.{are-sections, follow-decides, whole-sections}
use Rattle.sgt_names.proofs.Elements.{empty-length}

-- ---- the last entry

at-last : {A : Type 0} (x : A) (xs : List A) → (y : A) × (slice_get (x ∷ xs) (length xs) ≡ Some y)
at-last x [] = (x, refl)
at-last x (y ∷ xs) = at-last y xs

pub last-none : (entries : List Entry) → slice_get entries (length entries - 1) ≡ None → entries ≡ []
last-none [] none = refl
last-none (e ∷ entries) none =
    let l = at-last e entries in
    let place : length (e ∷ entries) - 1 ≡ length entries = omega arith in
    absurd (none-some l.0 (sym none ∙ ap (slice_get (e ∷ entries)) place ∙ l.1))

last-push : (entries : List Entry) (e : Entry) → slice_get (entries ++ e ∷ []) (length (entries ++ e ∷ []) - 1) ≡ Some e
last-push entries e =
    let place : length (entries ++ e ∷ []) - 1 ≡ length entries = omega (arith, length_push entries e) in
    ap (slice_get (entries ++ e ∷ [])) place ∙ middle_at entries e []

-- what is kept of it shows whether there is one
abbrev IsNoEntry : Last → Type 0
IsNoEntry last.NoEntry = Unit {0}
IsNoEntry _ = ⊥

last-of-some : (e : Entry) → IsNoEntry (last_of (Some e)) → ⊥
last-of-some (Read tx x v) h = h
last-of-some (Write tx x v) h = h
last-of-some (Add tx x v) h = h
last-of-some (Want tx x v) h = h
last-of-some (WantAdd tx x v) h = h
last-of-some (Commit tx) h = h
last-of-some (Refuse tx) h = h
last-of-some (Withdraw tx) h = h

last-of-none : (o : Option Entry) → last_of o ≡ last.NoEntry → o ≡ None
last-of-none None h = refl
last-of-none (Some e) h = absurd (last-of-some e (subst IsNoEntry (sym h) tt))

-- ---- what may stand next

-- names that rise come before another where the last of them does
last-decides : (ns : List Name) (x : Name) → AllPairs ComesBefore ns
    → ForSome (slice_get ns (length ns - 1)) (λ y. ComesBefore y x) ↔ All (λ y. ComesBefore y x) ns
last-decides [] x rise = (λ _. λ k d lt. absurd (omega arith), λ _ y at. absurd (none-some y at))
last-decides (n ∷ ns) x rise =
    let l = at-last n ns in
    let place : length (n ∷ ns) - 1 ≡ length ns = omega arith in
    let at = ap (slice_get (n ∷ ns)) place ∙ l.1 in (
      λ last. All-from_at (λ y. ComesBefore y x) (n ∷ ns) (λ k y at_k.
          elim (cases_order k (length ns)) [
            | inl same ↦ last y (ap (slice_get (n ∷ ns)) (place ∙ sym same) ∙ at_k)
            | inr (inl less) ↦ nat_list_cmp_total.trans y l.0 x
                (AllPairs_at ComesBefore (n ∷ ns) k (length ns) y l.0 rise less at_k l.1) (last l.0 at)
            | inr (inr more) ↦ absurd (omega (arith, more, slice_get_within (n ∷ ns) k y at_k))
          ]),
      λ all y at_y. All_at (λ y. ComesBefore y x) (n ∷ ns) (length (n ∷ ns) - 1) y all at_y,
    )

module _ (log : SiteLog) (p : OpenPlace) (o : IsOpenPlace log p) (open_log : IsOpenLog log) where
  before-all : (x : Name) → ForSome (slice_get p.items.items (length p.items.items - 1)) (λ y. ComesBefore y x)
      ↔ All (λ y. ComesBefore y x) (names log.items)
  before-all x = subst (λ (ns : List Name). ForSome (slice_get ns (length ns - 1)) (λ y. ComesBefore y x)
      ↔ All (λ y. ComesBefore y x) (names log.items)) (sym o.items) (last-decides (names log.items) x open_log.rising)

module _ (log : SiteLog) (p : OpenPlace) (o : IsOpenPlace log p) where
  item-count : length p.items.items ≡ length log.items
  item-count = ap length o.items ∙ length-map log.items (λ (h : Holding). h.item)

  no-finals : p.finals ≡ 0 → log.finals ≡ []
  no-finals e = empty-length log.finals (sym o.finals ∙ e)

  some-finals : log.finals ≡ [] → p.finals ≡ 0
  some-finals e = o.finals ∙ ap length e

  pub fits-at : IsOpenLog log → (line : SectionLine) → FitsAt p line ↔ Fits log line
  fits-at rises (Site k) = (λ h. h, λ h. h)
  fits-at rises (Initial h) = (
    λ f. (
      last-none log.entries (last-of-none _ (sym o.last ∙ f.0)),
      no-finals f.1,
      subst (λ n. n < max_items) item-count f.2,
      (before-all log p o rises h.item).0 f.3,
    ),
    λ f. (
      o.last ∙ ap (λ (es : List Entry). last_of (slice_get es (length es - 1))) f.0,
      some-finals f.1,
      subst (λ n. n < max_items) (sym item-count) f.2,
      (before-all log p o rises h.item).1 f.3,
    ),
  )
  fits-at rises (Logged e) = (no-finals, some-finals)
  fits-at rises (Final h) = let same = ap₂ slice_get o.items o.finals in (λ f. sym same ∙ f, λ f. same ∙ f)
  fits-at rises End = (λ f. sym o.finals ∙ f ∙ item-count, λ f. o.finals ∙ f ∙ sym item-count)

-- the log of the open section
open-room : (b : Begun) (current : Option SiteLog) (log : SiteLog) → current ≡ Some log → HasRoomFor b current
    → IsOpenLog log
open-room b current log here room = (subst (HasRoomFor b) here room).1

-- the open section, or none
open-at : (current : Option SiteLog) (p : OpenPlace) → IsCurrentPlace current (Some p)
    → (log : SiteLog) × (current ≡ Some log) × IsOpenPlace log p
open-at None p o = absurd o
open-at (Some log) p o = (log, refl, o)

closed-at : (current : Option SiteLog) → IsCurrentPlace current None → current ≡ None
closed-at None o = refl
closed-at (Some log) o = absurd o

module _ (b : Begun) (p : Place) (is : IsBegun b) (at : IsPlace b p) where
  pub open-log : (o : OpenPlace) → p.current ≡ Some o → (log : SiteLog) × (b.current ≡ Some log) × IsOpenPlace log o
  open-log o here = open-at b.current o (subst (IsCurrentPlace b.current) here at.current)

  pub no-open : p.current ≡ None → b.current ≡ None
  no-open here = closed-at b.current (subst (IsCurrentPlace b.current) here at.current)

  module _ (line : SectionLine) (r : Bool) where
    pub goes-on-inside : (o : OpenPlace) → p.current ≡ Some o → IsTrue r ↔ FitsAt o line
        → IsTrue r ↔ Begins b.sites (lines_read b ++ line ∷ [])
    goes-on-inside o here test =
        let log = open-log o here in
        let fits = fits-at log.0 o log.2 (open-room b b.current log.0 log.1 is.room) line in
        follow-decides b is line r (subst (λ c. IsTrue r ↔ MayFollow b c line) (sym log.1) (
          λ h. fits.0 (test.0 h),
          λ f. test.1 (fits.1 f),
        ))

    pub goes-on-between : p.current ≡ None → IsTrue r ↔ FitsBetween b line
        → IsTrue r ↔ Begins b.sites (lines_read b ++ line ∷ [])
    goes-on-between here test =
        follow-decides b is line r (subst (λ c. IsTrue r ↔ MayFollow b c line) (sym (no-open here)) test)

    -- the site that is next
    pub goes-on-site : (k : ℕ) → p.current ≡ None → line ≡ Site k → IsTrue r ↔ ((k ≡ p.whole) × (k < p.sites))
        → IsTrue r ↔ Begins b.sites (lines_read b ++ line ∷ [])
    goes-on-site k here site test =
        goes-on-between here
        (subst (λ l. IsTrue r ↔ FitsBetween b l) (sym site)
        (subst₂ (λ n m. IsTrue r ↔ ((k ≡ n) × (k < m))) at.whole at.sites test))

  -- whether these are all
  pub all-counted : (r : Bool) → p.current ≡ None → IsTrue r ↔ (p.whole ≡ p.sites)
      → IsTrue r ↔ AreSections b.sites (lines_read b)
  all-counted r here test = (
    λ h. whole-sections b is (no-open here) (sym at.whole ∙ test.0 h ∙ at.sites),
    λ all. test.1 (at.whole ∙ (are-sections b all).1 ∙ sym at.sites),
  )

  pub not-all : (o : OpenPlace) → p.current ≡ Some o → AreSections b.sites (lines_read b) → ⊥
  not-all o here all = let log = open-log o here in none-some log.0 (sym (are-sections b all).0 ∙ log.1)

-- ---- one more line

pub fresh-open : (p : OpenPlace) → p.items.items ≡ [] → p.last ≡ last.NoEntry → p.finals ≡ 0 → IsOpenPlace no_log p
fresh-open p items last finals = record { items = items; last = last; finals = finals }

module _ (log : SiteLog) (old new : OpenPlace) (o : IsOpenPlace log old) where
  pub initial-entered : (h : Holding) → new.items.items ≡ old.items.items ++ h.item ∷ [] → new.last ≡ old.last
      → new.finals ≡ old.finals → IsOpenPlace (with_line log (Initial h)) new
  initial-entered h items last finals = record {
    items = items ∙ ap (λ (ns : List (List ℕ)). ns ++ h.item ∷ []) o.items
        ∙ sym (map-append (λ (h : Holding). h.item) log.items (h ∷ []));
    last = last ∙ o.last;
    finals = finals ∙ o.finals;
  }

  pub logged-entered : (e : Entry) → new.items.items ≡ old.items.items → new.last ≡ last_of (Some e)
      → new.finals ≡ old.finals → IsOpenPlace (with_line log (Logged e)) new
  logged-entered e items last finals = record {
    items = items ∙ o.items;
    last = last
        ∙ ap last_of (sym (last-push log.entries e));
    finals = finals ∙ o.finals;
  }

  pub final-entered : (h : Holding) → new.items.items ≡ old.items.items → new.last ≡ old.last
      → new.finals ≡ old.finals + 1 → IsOpenPlace (with_line log (Final h)) new
  final-entered h items last finals = record {
    items = items ∙ o.items;
    last = last ∙ o.last;
    finals = finals
        ∙ ap (λ n. n + 1) o.finals ∙ sym (length_push log.finals h);
  }

-- ---- what the parts of the place answer

changes-on : (tx : ℕ) (line : SectionLine) → FollowsLast (last.Changes tx) line
    → (e : Entry) × (line ≡ Logged e) × GoesOn tx e
changes-on tx (Logged e) h = (e, refl, h)
changes-on tx (Site k) h = absurd h
changes-on tx (Initial x) h = absurd h
changes-on tx (Final x) h = absurd h
changes-on tx End h = absurd h

wants-on : (tx : ℕ) (line : SectionLine) → FollowsLast (last.Wants tx) line
    → (e : Entry) × (line ≡ Logged e) × GoesOnAsking tx e
wants-on tx (Logged e) h = (e, refl, h)
wants-on tx (Site k) h = absurd h
wants-on tx (Initial x) h = absurd h
wants-on tx (Final x) h = absurd h
wants-on tx End h = absurd h

block-follows : (f : Entry) (line : SectionLine) → FollowsLast (last_of (Some f)) line ↔ ContinuesBlock f line
block-follows (Read tx x v) line = (λ _ none. absurd none, λ _. tt)
block-follows (Write tx x v) line =
    (λ h _. changes-on tx line h, λ h. let g = h tt in subst (FollowsLast (last.Changes tx)) (sym g.1) g.2)
block-follows (Add tx x v) line =
    (λ h _. changes-on tx line h, λ h. let g = h tt in subst (FollowsLast (last.Changes tx)) (sym g.1) g.2)
block-follows (Want tx x v) line =
    (λ h _. wants-on tx line h, λ h. let g = h tt in subst (FollowsLast (last.Wants tx)) (sym g.1) g.2)
block-follows (WantAdd tx x v) line =
    (λ h _. wants-on tx line h, λ h. let g = h tt in subst (FollowsLast (last.Wants tx)) (sym g.1) g.2)
block-follows (Commit tx) line = (λ _ none. absurd none, λ _. tt)
block-follows (Refuse tx) line = (λ _ none. absurd none, λ _. tt)
block-follows (Withdraw tx) line = (λ _ none. absurd none, λ _. tt)

entry-follows : (o : Option Entry) (line : SectionLine) → FollowsLast (last_of o) line ↔ ((f : Entry) → o ≡ Some f
    → ContinuesBlock f line)
entry-follows None line = (λ _ f none. absurd (none-some f none), λ _. tt)
entry-follows (Some f) line =
    let both = block-follows f line in (
      λ h g same. subst (λ e. ContinuesBlock e line) (same_Some f g same) (both.0 h),
      λ h. both.1 (h f refl),
    )

pub last-follows : (log : SiteLog) (p : OpenPlace) → IsOpenPlace log p → p.finals ≡ 0
    → (line : SectionLine) (b : Bool) → IsTrue b ↔ FollowsLast p.last line → IsTrue b ↔ ContinuesLog log line
last-follows log p o zero line b test =
    let both = entry-follows (slice_get log.entries (length log.entries - 1)) line in
    let told = subst (λ l. IsTrue b ↔ FollowsLast l line) o.last test in (
      λ h f none at. both.0 (told.0 h) f at,
      λ h. told.1 (both.1 (λ f at. h f (no-finals log p o zero) at)),
    )

pub finals-follow : (log : SiteLog) (p : OpenPlace) → IsOpenPlace log p → (p.finals ≡ 0 → ⊥) → (line : SectionLine)
    → IsTrue true ↔ ContinuesLog log line
finals-follow log p o some line = (λ _ f none at. absurd (some (some-finals log p o none)), λ _. refl)

pub not-between : (b : Begun) (line : SectionLine) → ((k : ℕ) → line ≡ Site k → ⊥) → IsTrue false ↔ FitsBetween b line
not-between b (Site k) h = absurd (h k refl)
not-between b (Initial x) h = (λ e. absurd (false≢true e), λ f. absurd f)
not-between b (Logged x) h = (λ e. absurd (false≢true e), λ f. absurd f)
not-between b (Final x) h = (λ e. absurd (false≢true e), λ f. absurd f)
not-between b End h = (λ e. absurd (false≢true e), λ f. absurd f)

-- a line that isn't the end stays in the open section
inside : (log : SiteLog) (line : SectionLine) → (line ≡ End → ⊥) → next_current log line ≡ Some (with_line log line)
inside log (Site k) h = refl
inside log (Initial x) h = refl
inside log (Logged x) h = refl
inside log (Final x) h = refl
inside log End h = absurd (h refl)

pub same_whole : (whole : List SiteLog) (log : SiteLog) (line : SectionLine) → (line ≡ End → ⊥)
    → next_whole whole log line ≡ whole
same_whole whole log (Site k) h = refl
same_whole whole log (Initial x) h = refl
same_whole whole log (Logged x) h = refl
same_whole whole log (Final x) h = refl
same_whole whole log End h = absurd (h refl)

pub next-sites : (b : Begun) (current : Option SiteLog) (line : SectionLine)
    → (with_next b current line).sites ≡ b.sites
next-sites b None line = refl
next-sites b (Some log) line = refl

module _ (b : Begun) (new : Place) (sites : new.sites ≡ b.sites) where
  pub opened : (current : Option SiteLog) (line : SectionLine) (o : OpenPlace) → new.whole ≡ length b.whole
      → new.current ≡ Some o → IsOpenPlace no_log o → IsCurrentPlace current None
      → IsPlace (with_next b current line) new
  opened None line o whole here fresh none =
      record { sites = sites; whole = whole; current = subst (IsCurrentPlace (Some no_log)) (sym here) fresh }
  opened (Some log) line o whole here fresh none = absurd none

  pub ended : (current : Option SiteLog) (o : OpenPlace) → new.whole ≡ length b.whole + 1 → new.current ≡ None
      → IsCurrentPlace current (Some o) → IsPlace (with_next b current End) new
  ended None o whole here at = absurd at
  ended (Some log) o whole here at = record {
    sites = sites;
    whole = whole ∙ sym (length_push b.whole log);
    current =
        subst (IsCurrentPlace None) (sym here) tt;
  }

  pub longer : (current : Option SiteLog) (line : SectionLine) (o p : OpenPlace) → (line ≡ End → ⊥)
      → new.whole ≡ length b.whole → new.current ≡ Some p
      → ((log : SiteLog) → IsOpenLog log → Fits log line → IsOpenPlace log o → IsOpenPlace (with_line log line) p)
      → HasRoomFor b current → MayFollow b current line → IsCurrentPlace current (Some o)
      → IsPlace (with_next b current line) new
  longer None line o p goes whole here enters room fits at = absurd at
  longer (Some log) line o p goes whole here enters room fits at = record {
    sites = sites;
    whole = whole ∙ ap length (sym (same_whole b.whole log line goes));
    current =
        subst (IsCurrentPlace (next_current log line)) (sym here)
        (subst (λ c. IsCurrentPlace c (Some p)) (sym (inside log line goes)) (enters log room.1 fits at));
  }

-- how many finals and sections there are is small
pub finals-few : (log : SiteLog) (p : OpenPlace) (h : Holding) → IsOpenLog log → IsOpenPlace log p
    → Fits log (Final h) → p.finals < 2 ^ 32
finals-few log p h room o fits =
    omega (
      arith,
      o.finals,
      slice_get_within (names log.items) (length log.finals) h.item fits,
      length-map log.items (λ (h : Holding). h.item),
      room.room,
    )

-- a section that is open is one of those that are to be
pub room-left : (b : Begun) (current : Option SiteLog) (o : OpenPlace) → HasRoomFor b current
    → IsCurrentPlace current (Some o) → length b.whole < b.sites
room-left b None o room at = absurd at
room-left b (Some log) o room at = room.0

pub whole-few : (b : Begun) (o : OpenPlace) (p : Place) → IsBegun b → IsPlace b p → p.current ≡ Some o
    → p.whole < 2 ^ 32
whole-few b o p is at here =
    let left = room-left b b.current o is.room (subst (IsCurrentPlace b.current) here at.current) in
    omega (arith, left, is.few, at.whole)

-- ---- before the first section

pub fresh-begun : (sites : ℕ) (b : Begun) → 1 ≤ sites → sites ≤ max_sites
    → b ≡ record { sites = sites; whole = []; current = None } → IsBegun b
fresh-begun sites b some few fresh =
    subst IsBegun (sym fresh) (record {
      some = some;
      few = few;
      logs = λ k d lt. absurd (omega arith);
      room =
          omega arith;
    })
