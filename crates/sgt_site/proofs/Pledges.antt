-- What a pledge asks of a draft, and what its room leaves.
use Rattle.std.proofs.Common.{◌≡◌, ℕ, zero, suc, ◌≤◌, List, [], ◌∷◌, length, get_or, take, Bool, true, false, Option, Some, None, refl, sym, ap, ◌∙◌, subst, arith, inl, inr, All, Contains}
use Rattle.std.specs.Prelude.{slice_get, ◌==◌, if◌then◌else◌, IsSome, option_and_then}
use Rattle.std.specs.List.{cons_option}
use Rattle.std.specs.Option.{ForSome}
use Rattle.std.proofs.lemmas.Bool.{eqb-true, eq-eqb, cases_order}
use Rattle.std.proofs.lemmas.Option.{same_Some, slice_get_within, slice_get-get_or}
use Rattle.sgt_names.specs.Name.{Name}
use Rattle.sgt_names.specs.declared.draft.Seen.{Seen}
use Rattle.sgt_names.specs.declared.draft.Touch.{Touch}
use Rattle.sgt_names.specs.Draft.{AreRising, at_site, kept_of, kept_in, writing_of, writing_in}
use Rattle.sgt_names.specs.Entry.{item_of, tx_of, Reads, Repeats}
use Rattle.sgt_names.specs.Log.{names, IsOrderly}
use Rattle.sgt_names.specs.declared.entry.Change.{Change}
use Rattle.sgt_names.specs.declared.entry.Entry.{Entry}
use Rattle.sgt_names.specs.declared.entry.Entry.TheVariants.{Read}
use Rattle.sgt_names.specs.declared.entry.Holding.{Holding}
use Rattle.sgt_names.proofs.Lists.{IsSome-value, All_in, map_at, Any_at, Any-from_at}
use Rattle.sgt_names.proofs.Places.{AllPairs_at, Contains_at, Contains-from_at, All_at, All-from_at}
use Rattle.sgt_names.proofs.Rising.{writing_is, kept_is, site-here}
use Rattle.sgt_site.specs.State.{SiteState, Pledge, IsSite, IsCovered, HasRead, LogsRead, KeepsReads, version_at}
use Rattle.sgt_site.specs.Refused.{MayPledge}
use Rattle.sgt_site.specs.private.Cells.{Contents, InCells, KeepsItem, SameButRoom, AreChanged, items_of}
use Rattle.sgt_site.specs.private.Kept.{Spare, HasRoom, IsCell, IsKept}
use Rattle.sgt_site.proofs.Appends.{chosen_at, chosen_from, count_before}
use Rattle.sgt_site.proofs.Inserts.{Contains-later}
use Rattle.sgt_site.proofs.Changes.{changed-items}
use Rattle.sgt_site.proofs.PendingReads.{read_logged}

-- a value that is there
some_is : {A : Type 0} (o : Option A) (a : A) → o ≡ Some a → IsSome o
some_is None a h = absurd cc
some_is (Some b) a h = refl

cons-fits : {A : Type 0} (o : Option A) (xs : List A) → length (cons_option o xs) ≤ suc (length xs)
cons-fits None xs = omega arith
cons-fits (Some x) xs = omega arith

-- no more is changed than is touched
pub writings-fit : (ts : List Touch) → length (writing_in ts) ≤ length ts
writings-fit [] = omega arith
writings-fit (t ∷ ts) = omega (arith, cons-fits (writing_of t) (writing_in ts), writings-fit ts)

-- the part of a draft at a site
-- what the changes ask, of each that is touched
pub known-touched : (P : Name → Type 0) (ts : List Touch) → All (λ w. P w.0) (writing_in ts)
    → All (λ t. IsSome t.change → P t.item) ts
known-touched P ts all = All-from_at (λ (t : Touch). IsSome t.change → P t.item) ts (λ k t at some.
    let v = IsSome-value t.change some in
    let of : writing_of t ≡ Some (t.item, v.0) = ap (option_and_then (λ u. Some (t.item, u))) v.1 in
    All_at (λ (w : Name × Change). P w.0) (writing_in ts) (count_before writing_of ts k) (t.item, v.0) all
    (chosen_from writing_of ts k t (t.item, v.0) at of))

module _ (n : ℕ) where
  filter_at : (ts : List Touch) (k : ℕ) (t : Touch) → slice_get (at_site n ts) k ≡ Some t → Contains ts t × (t.site ≡ n)
  filter_at [] k t at = absurd cc
  filter_at (u ∷ ts) k t at = by_test (λ j here. filter_at ts j t here) (u.site == n) refl k at
    where
      by_test : ((j : ℕ) → slice_get (at_site n ts) j ≡ Some t → Contains ts t × (t.site ≡ n)) → (b : Bool)
          → (u.site == n) ≡ b → (k : ℕ) → slice_get (if b then u ∷ at_site n ts else at_site n ts) k ≡ Some t
          → Contains (u ∷ ts) t × (t.site ≡ n)
      by_test later true hit zero here =
          let same : u ≡ t = same_Some u t here in
          (Contains-from_at (u ∷ ts) 0 t here, ap (λ (v : Touch). v.site) (sym same) ∙ eqb-true u.site n hit)
      by_test later true hit (suc j) here = let r = later j here in (Contains-later u ts t r.0, r.1)
      by_test later false miss j here = let r = later j here in (Contains-later u ts t r.0, r.1)

  at_filter : (ts : List Touch) (k : ℕ) (t : Touch) → slice_get ts k ≡ Some t → t.site ≡ n → Contains (at_site n ts) t
  at_filter [] k t at here = absurd cc
  at_filter (u ∷ ts) zero t at here =
      let same : u ≡ t = same_Some u t at in
      let hit : (u.site == n) ≡ true = eq-eqb u.site n (ap (λ (v : Touch). v.site) same ∙ here) in
      rw hit (Contains-from_at (u ∷ at_site n ts) 0 t at)
  at_filter (u ∷ ts) (suc k) t at here = by_test (u.site == n) (at_filter ts k t at here)
    where
      by_test : (b : Bool) → Contains (at_site n ts) t → Contains (if b then u ∷ at_site n ts else at_site n ts) t
      by_test true has = Contains-later u (at_site n ts) t has
      by_test false has = has

  pub of_site : (ts : List Touch) (t : Touch) → Contains ts t → t.site ≡ n → Contains (at_site n ts) t
  of_site ts t has here = let at = Contains_at ts t has in at_filter ts at.0 t at.1 here

  -- what the changes of the part ask, and what they ask of the whole draft
  pub known-part : (P : Name → Type 0) (ts : List Touch) → All (λ t. t.site ≡ n → IsSome t.change → P t.item) ts
      → All (λ w. P w.0) (writing_in (at_site n ts))
  known-part P ts all = All-from_at (λ (w : Name × Change). P w.0) (writing_in (at_site n ts)) (λ k w at.
      let from = chosen_at writing_of (at_site n ts) k w at in
      let is = writing_is from.1 w from.3 in
      let has = filter_at ts from.0 from.1 from.2 in
      subst P is.0 (All_in (λ (t : Touch). t.site ≡ n → IsSome t.change → P t.item) ts from.1 all has.0 has.1
      (some_is from.1.change w.1 is.1)))

  pub known-whole : (P : Name → Type 0) (ts : List Touch) → All (λ w. P w.0) (writing_in (at_site n ts))
      → All (λ t. t.site ≡ n → IsSome t.change → P t.item) ts
  known-whole P ts all = All-from_at (λ (t : Touch). t.site ≡ n → IsSome t.change → P t.item) ts (λ k t at here.
      All_in (λ (u : Touch). IsSome u.change → P u.item) (at_site n ts) t (known-touched P (at_site n ts) all)
      (at_filter ts k t at here))

  -- a kept read of the part, and one of the draft
  pub kept-from : (ts : List Touch) (x : Name) (v m : ℕ) → Contains (kept_in (at_site n ts)) (x, v, m)
      → (t : Touch) × Contains ts t × (t.site ≡ n) × (t.item ≡ x) × (t.seen ≡ Some (record { value = v; version = m }))
  kept-from ts x v m has =
      let at = Contains_at (kept_in (at_site n ts)) (x, v, m) has in
      let from = chosen_at kept_of (at_site n ts) at.0 (x, v, m) at.1 in
      let is = kept_is from.1 (x, v, m) from.3 in
      let there = filter_at ts from.0 from.1 from.2 in
      let item : from.1.item ≡ x = ap (λ (k : Name × ℕ × ℕ). k.0) is.2 in
      let value : is.0.value ≡ v = ap (λ (k : Name × ℕ × ℕ). k.1) is.2 in
      let version : is.0.version ≡ m = ap (λ (k : Name × ℕ × ℕ). k.2) is.2 in
      (from.1, there.0, there.1, item, is.1 ∙ ap Some (λ i. record { value = value i; version = version i }))

  pub kept-to : (ts : List Touch) (t : Touch) (seen : Seen) → Contains ts t → t.site ≡ n → t.seen ≡ Some seen
      → Contains (kept_in (at_site n ts)) (t.item, seen.value, seen.version)
  kept-to ts t seen has here some =
      let at = Contains_at (at_site n ts) t (of_site ts t has here) in
      let of : kept_of t ≡ Some (t.item, seen.value, seen.version) =
      ap (option_and_then (λ (s : Seen). Some (t.item, s.value, s.version))) some in
      Contains-from_at (kept_in (at_site n ts)) (count_before kept_of (at_site n ts) at.0) (
        t.item,
        seen.value,
        seen.version,
      ) (chosen_from kept_of (at_site n ts) at.0 t (t.item, seen.value, seen.version) at.1 of)

  -- and so for a private change
  pub change-from : (ts : List Touch) (x : Name) (c : Change) → Contains (writing_in (at_site n ts)) (x, c)
      → (t : Touch) × Contains ts t × (t.site ≡ n) × (t.item ≡ x) × (t.change ≡ Some c)
  change-from ts x c has =
      let at = Contains_at (writing_in (at_site n ts)) (x, c) has in
      let from = chosen_at writing_of (at_site n ts) at.0 (x, c) at.1 in
      let is = writing_is from.1 (x, c) from.3 in
      let there = filter_at ts from.0 from.1 from.2 in
      (from.1, there.0, there.1, is.0, is.1)

  pub change-to : (ts : List Touch) (t : Touch) (c : Change) → Contains ts t → t.site ≡ n → t.change ≡ Some c
      → Contains (writing_in (at_site n ts)) (t.item, c)
  change-to ts t c has here some =
      let at = Contains_at (at_site n ts) t (of_site ts t has here) in
      let of : writing_of t ≡ Some (t.item, c) = ap (option_and_then (λ d. Some (t.item, d))) some in
      Contains-from_at (writing_in (at_site n ts)) (count_before writing_of (at_site n ts) at.0) (
        t.item,
        c,
      ) (chosen_from writing_of (at_site n ts) at.0 t (t.item, c) at.1 of)

-- a transaction reads an item once
pub one_read : (items : List Holding) (es : List Entry) (tx : ℕ) (x : Name) (v w m n : ℕ) → IsOrderly items es
    → LogsRead es tx x v m → LogsRead es tx x w n → (v ≡ w) × (m ≡ n)
one_read items es tx x v w m n orderly a b = elim (cases_order a.place b.place) [
  | inl same ↦
      let is : Read tx x v ≡ Read tx x w = same_Some (Read tx x v) (Read tx x w) (sym a.at ∙ ap (slice_get es) same
      ∙ b.at) in
      (cc, sym a.version ∙ ap (λ k. version_at (take k es) x) same ∙ b.version)
  | inr (inl lt) ↦ absurd (AllPairs_at (λ e f. (y : Name) → Repeats y e f → ⊥) es a.place b.place (Read tx x v)
      (Read tx x w) orderly.once lt a.at b.at x (refl, inl (refl, refl)))
  | inr (inr gt) ↦ absurd (AllPairs_at (λ e f. (y : Name) → Repeats y e f → ⊥) es b.place a.place (Read tx x w)
      (Read tx x v) orderly.once gt b.at a.at x (refl, inl (refl, refl)))
]

-- what is kept of the transaction's reads is what the log has of them
module _ (s : SiteState) (cells : List Contents) (site : IsSite s) (same : items_of cells ≡ names s.items)
    (each : All (IsCell s.items s.installed s.entries) cells) (tx : ℕ) (touched : List Touch) where
  logged : (x : Name) (seen : Seen) → InCells cells tx x seen → LogsRead s.entries tx x seen.value seen.version
  logged x seen has =
      let c = Any_at (λ (c : Contents). (c.item ≡ x) × Contains c.readings (record { tx = tx; seen = seen })) cells
      has in
      subst (λ y. LogsRead s.entries tx y seen.value seen.version) c.3.0
      (((All_at (IsCell s.items s.installed s.entries) cells c.0 c.1 each c.2).readings
      (record { tx = tx; seen = seen })).0 c.3.1)

  in_cells : (x : Name) (v n : ℕ) → LogsRead s.entries tx x v n → InCells cells tx x (record { value = v; version = n })
  in_cells x v n read =
      let known : Contains (names s.items) x =
      All_at (λ e. ForSome (item_of e) (Contains (names s.items))) s.entries read.place
      (Read tx x v) site.orderly.known read.at x refl in
      let at = Contains_at (items_of cells) x (subst (λ xs. Contains xs x) (sym same) known) in
      let from = map_at (λ (c : Contents). c.item) cells at.0 x at.1 in
      let cell = All_at (IsCell s.items s.installed s.entries) cells at.0 from.0 each from.1 in
      Any-from_at (λ (c : Contents). (c.item ≡ x)
      × Contains c.readings (record { tx = tx; seen = record { value = v; version = n } })) cells at.0 from.0 from.1 (
        from.2,
        (cell.readings (record { tx = tx; seen = record { value = v; version = n } })).1
            (subst (λ y. LogsRead s.entries tx y v n) (sym from.2) read),
      )

  pub keeps-from : All (λ t. t.site ≡ s.number → ForSome t.seen (InCells cells tx t.item)) touched
      → ((x : Name) → HasRead s.entries tx x → KeepsItem touched s.number x)
      → KeepsReads s.entries tx (kept_in (at_site s.number touched))
  keeps-from all_logged own_kept x v n = (kept_logged x v n, logged_kept)
    where
      kept_logged : (y : Name) (w m : ℕ) → Contains (kept_in (at_site s.number touched)) (y, w, m)
          → LogsRead s.entries tx y w m
      kept_logged y w m has =
          let t = kept-from s.number touched y w m has in
          let here = All_in (λ (t : Touch). t.site ≡ s.number → ForSome t.seen (InCells cells tx t.item)) touched t.0
          all_logged t.1 t.2 (record { value = w; version = m }) t.4 in
          logged y (record { value = w; version = m })
          (subst (λ z. InCells cells tx z (record { value = w; version = m })) t.3 here)

      logged_kept : LogsRead s.entries tx x v n → Contains (kept_in (at_site s.number touched)) (x, v, n)
      logged_kept read =
          let kept =
          own_kept x (Any-from_at (λ e. (tx_of e ≡ tx) × Reads x e) s.entries read.place (Read tx x v) read.at
          (refl, refl)) in
          let t = Any_at (λ (t : Touch). (t.site ≡ s.number) × IsSome t.seen × (t.item ≡ x)) touched kept in
          let seen = IsSome-value t.1.seen t.3.1 in
          let is_kept = kept-to s.number touched t.1 seen.0 (Contains-from_at touched t.0 t.1 t.2) t.3.0 seen.1 in
          let in_x = subst (λ y. Contains (kept_in (at_site s.number touched)) (y, seen.0.value, seen.0.version))
          t.3.2 is_kept in
          let one = one_read s.items s.entries tx x seen.0.value v seen.0.version n site.orderly
          (kept_logged x seen.0.value seen.0.version in_x) read in
          let same : seen.0 ≡ record { value = v; version = n } = λ i. record { value = one.0 i; version = one.1 i } in
          subst (λ (u : Seen). Contains (kept_in (at_site s.number touched)) (x, u.value, u.version)) same in_x

  pub keeps-logged : KeepsReads s.entries tx (kept_in (at_site s.number touched))
      → All (λ t. t.site ≡ s.number → ForSome t.seen (InCells cells tx t.item)) touched
  keeps-logged keeps = All-from_at (λ (t : Touch). t.site ≡ s.number
      → ForSome t.seen (InCells cells tx t.item)) touched (λ k t at here seen some.
      in_cells t.item seen.value seen.version
      ((keeps t.item seen.value seen.version).0
      (kept-to s.number touched t seen (Contains-from_at touched k t at) here some)))

  pub keeps-own : KeepsReads s.entries tx (kept_in (at_site s.number touched)) → (x : Name) → HasRead s.entries tx x
      → KeepsItem touched s.number x
  keeps-own keeps x has =
      let read = read_logged s.entries tx x has in
      let t = kept-from s.number touched x read.0 read.1 ((keeps x read.0 read.1).1 read.2) in
      let place = Contains_at touched t.0 t.1 in
      Any-from_at (λ (t : Touch). (t.site ≡ s.number) × IsSome t.seen × (t.item ≡ x)) touched place.0 t.0 place.1
      (t.2, some_is t.0.seen (record { value = read.0; version = read.1 }) t.4, t.3)

module _ (s : SiteState) (cells new : List Contents) (ended : List ℕ) (spare more : Spare)
    (kept : IsKept s cells ended spare) (changed : AreChanged SameButRoom cells new) where
  old_at : (n : ℕ) (d : Contents) → slice_get new n ≡ Some d → (c : Contents) × (slice_get cells n ≡ Some c)
  old_at n d at = (
    get_or cells n d,
    slice_get-get_or cells n d (let lt = slice_get_within new n d at in
        omega (arith, lt, changed.as_many)),
  )

  roomier-items : items_of new ≡ names s.items
  roomier-items = changed-items SameButRoom (λ c d room. ap (λ (e : Contents). e.item) room.0) cells new changed
      ∙ kept.names_same

  roomier-each : All (IsCell s.items s.installed s.entries) new
  roomier-each = All-from_at (IsCell s.items s.installed s.entries) new (λ n d at.
      let c = old_at n d at in
      let cell = All_at (IsCell s.items s.installed s.entries) cells n c.0 kept.each c.1 in
      subst (IsCell s.items s.installed s.entries) (sym (changed.each n c.0 d c.1 at).0)
      (record {
        value = cell.value;
        writers = cell.writers;
        readers = cell.readers;
        readers_once =
            cell.readers_once;
        readings = cell.readings;
      }))

  -- with no pledge, room is as it may be
  pub kept-open : (p : Option Pledge) → p ≡ None → IsKept (record s { pledge = p }) new ended more
  kept-open p none = record {
    site = record {
      items = kept.site.items;
      orderly = kept.site.orderly;
      legal = kept.site.legal;
      given = kept.site.given;
      changes = kept.site.changes;
      wants = kept.site.wants;
      pledged = λ q is. absurd (let e = sym none ∙ is in cc);
    };
    names_same = roomier-items;
    each = roomier-each;
    ends_rise = kept.ends_rise;
    ends = kept.ends;
    room = λ q is. absurd (let e = sym none ∙ is in cc);
  }

  -- a pledge has its room
  pub kept-pledge : (tx : ℕ) (touched : List Touch) → AreRising (at_site s.number touched) → MayPledge s tx touched
      → HasRoom (at_site s.number touched) new more
      → IsKept (record s { pledge = Some (record { tx = tx; part = at_site s.number touched }) }) new ended more
  kept-pledge tx touched rising may room = record {
    site = record {
      items = kept.site.items;
      orderly = kept.site.orderly;
      legal = kept.site.legal;
      given = kept.site.given;
      changes = kept.site.changes;
      wants = kept.site.wants;
      pledged =
          λ p is. subst (IsCovered (record s { pledge = Some (record { tx = tx; part = at_site s.number touched }) }))
          (same_Some (record { tx = tx; part = at_site s.number touched }) p is) covered;
    };
    names_same = roomier-items;
    each = roomier-each;
    ends_rise = kept.ends_rise;
    ends = kept.ends;
    room = λ p is. subst (λ (q : Pledge). HasRoom q.part new more)
        (same_Some (record { tx = tx; part = at_site s.number touched }) p is) room;
  }
    where
      covered : IsCovered (record s { pledge = Some (record { tx = tx; part = at_site s.number touched }) })
          (record { tx = tx; part = at_site s.number touched })
      covered = record {
        here = site-here s.number touched;
        rising = rising;
        reads = may.same;
        known = may.known;
        active = may.active;
      }
