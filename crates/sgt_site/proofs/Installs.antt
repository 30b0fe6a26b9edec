-- What a site keeps when it logs the block of a committed transaction.
use Rattle.std.proofs.Common.{◌≡◌, ℕ, suc, ◌≢◌, ◌⊎◌, AllPairs, List, [], ◌∷◌, ◌++◌, length, get_or, true, false, Option, Some, None, refl, sym, ap, ap₂, ◌∙◌, subst, arith, inl, inr, Contains}
use Rattle.std.specs.Prelude.{slice_get, fold, ◌↔◌, ◌==◌, option_and_then}
use Rattle.std.specs.List.{filter_map, cons_option}
use Rattle.std.specs.Option.{option_to_list}
use Rattle.std.specs.Str.{bytes_eq}
use Rattle.std.proofs.lemmas.Bool.{cases_Bool}
use Rattle.std.proofs.lemmas.Bool.Decides.{nat_tests}
use Rattle.std.proofs.lemmas.Option.{same_Some, slice_get_within, slice_get-get_or}
use Rattle.std.proofs.lemmas.List.{map-append}
use Rattle.std.proofs.lemmas.List.Elements.{filter_map-append, Contains-append_left, Contains-append_right}
use Rattle.std.proofs.lemmas.List.Sums.{fold-append}
use Rattle.sgt_names.specs.Name.{Name}
use Rattle.sgt_names.specs.Entry.{tx_of, change_of}
use Rattle.sgt_names.specs.Log.{value_with, value_with_any, value_in, value_at}
use Rattle.sgt_names.specs.Draft.{writing_in}
use Rattle.sgt_names.specs.declared.draft.Seen.{Seen}
use Rattle.sgt_names.specs.declared.draft.Touch.{Touch}
use Rattle.sgt_names.specs.declared.entry.Change.{Change}
use Rattle.sgt_names.specs.declared.entry.Change.TheVariants.{Put, Add}
use Rattle.sgt_names.specs.declared.entry.Entry.{Entry}
use Rattle.sgt_names.specs.declared.entry.Entry.TheVariants.{Commit, Refuse}
use Rattle.sgt_names.proofs.Lists.{option_cases}
use Rattle.sgt_names.proofs.Places.{Contains_at, Contains-from_at, All_at, All-from_at}
use Rattle.sgt_names.proofs.Rising.{writings-rise}
use Rattle.sgt_arena.specs.declared.handle.Handle.{Handle}
use Rattle.sgt_site.specs.declared.cell.Install.{Install}
use Rattle.sgt_site.specs.declared.cell.Writer.{Writer}
use Rattle.sgt_site.specs.declared.cell.Reader.{Reader}
use Rattle.sgt_site.specs.declared.readings.Reading.{Reading}
use Rattle.sgt_site.specs.State.{SiteState, Pledge, IsSite, IsCovered, IsReader, IsWant, LogsRead, handle_of, writer, writers_of, committed_in, change_entry, commit_block}
use Rattle.sgt_site.specs.private.Cells.{Contents, ItemsRise, AreChanged, IsNoted, touch_in, change_in, seen_in, adds, noted_writers, AddsReader}
use Rattle.sgt_site.specs.private.Kept.{Spare, IsCell, IsKept}
use Rattle.sgt_site.proofs.Appends.{get_cases, orderly-append, legal-append, LogsRead-append, LogsRead-cases}
use Rattle.sgt_site.proofs.Projections.{all_given, ended_with_handle}
use Rattle.sgt_site.proofs.Inserts.{Contains-insert, AllPairs-insert}
use Rattle.sgt_site.proofs.Changes.{changed-items}
use Rattle.sgt_site.proofs.Keeps.{Ends, ended-one}
use Rattle.sgt_site.proofs.Blocks.{commits-blocks, in_block, block_tx, at_end, block_ends, block_alone, block_orderly, block_follows, no_reads}
use Rattle.sgt_site.proofs.Parts.{part-rises, chosen_changes, kept-touch, touch-kept}

-- the handles with more of them
handle_kept : (ws us : List Install) (t : ℕ) (h : Handle) → handle_of ws t ≡ Some h → handle_of (ws ++ us) t ≡ Some h
handle_kept [] us t h is = absurd cc
handle_kept (w ∷ ws) us t h is = elim (cases_Bool (w.tx == t)) [
  | inl hit ↦ rw hit (rw hit at is)
  | inr miss ↦ rw miss (handle_kept ws us t h (rw miss at is))
]

handle_new : (ws us : List Install) (t : ℕ) → handle_of ws t ≡ None → handle_of (ws ++ us) t ≡ handle_of us t
handle_new [] us t is = refl
handle_new (w ∷ ws) us t is = elim (cases_Bool (w.tx == t)) [
  | inl hit ↦ absurd (let e = rw hit at is in cc)
  | inr miss ↦ rw miss (handle_new ws us t (rw miss at is))
]

handle_one : (w : Install) (t : ℕ) → t ≡ w.tx → handle_of (w ∷ []) t ≡ Some w.handle
handle_one w t same = let hit : (w.tx == t) ≡ true = grind (arith, nat_tests) in rw hit refl

handle_cases : {P : Type 0} (ws : List Install) (w : Install) (t : ℕ) (h : Handle)
    → handle_of (ws ++ w ∷ []) t ≡ Some h → (handle_of ws t ≡ Some h → P) → (t ≡ w.tx → h ≡ w.handle → P) → P
handle_cases [] w t h is old new = elim (cases_Bool (w.tx == t)) [
  | inl hit ↦ new (let same : t ≡ w.tx = grind (arith, nat_tests) in same) (sym (same_Some w.handle h (rw hit at is)))
  | inr miss ↦ absurd (let e = rw miss at is in cc)
]
handle_cases (v ∷ ws) w t h is old new = elim (cases_Bool (v.tx == t)) [
  | inl hit ↦ old (rw hit (rw hit at is))
  | inr miss ↦ handle_cases ws w t h (rw miss at is) (λ e. old (rw miss e)) new
]

-- what is chosen alike is the same
chosen_alike : {A B : Type 0} (f g : A → Option B) (xs : List A)
    → ((n : ℕ) (a : A) → slice_get xs n ≡ Some a → f a ≡ g a) → filter_map f xs ≡ filter_map g xs
chosen_alike f g [] alike = refl
chosen_alike f g (x ∷ xs) alike =
    ap₂ (λ o bs. cons_option o bs) (alike 0 x refl) (chosen_alike f g xs (λ n a at. alike (suc n) a at))

module _ (s : SiteState) (p : Pledge) (handle : Handle) (site : IsSite s) (covered : IsCovered s p) where
  abbrev by : Install
  by = record { tx = p.tx; handle = handle }

  abbrev bs : List Entry
  bs = commit_block p.tx (writing_in p.part)

  abbrev ws : List Install
  ws = s.installed ++ by ∷ []

  rises : ItemsRise p.part
  rises = part-rises s.number p.part covered.here covered.rising

  -- it had no handle
  fresh : handle_of s.installed p.tx ≡ None
  fresh = by_value (handle_of s.installed p.tx) refl
    where
      by_value : (o : Option Handle) → handle_of s.installed p.tx ≡ o → handle_of s.installed p.tx ≡ None
      by_value None is = is
      by_value (Some h) is = absurd (covered.active (ended_with_handle s site p.tx h is))

  given : handle_of ws p.tx ≡ Some handle
  given = handle_new s.installed (by ∷ []) p.tx fresh ∙ handle_one by p.tx refl

  -- the value, the writers and the readers of a cell with the block behind the log
  value_noted : (c : Contents) → IsCell s.items s.installed s.entries c
      → value_at s.items (s.entries ++ bs) c.item ≡ value_with_any (Some c.value) (change_in (touch_in p.part c.item))
  value_noted c cell =
      ap (fold value_with (value_in s.items c.item)) (filter_map-append (change_of c.item) s.entries bs
      ∙ ap (λ (cs : List Change). filter_map (change_of c.item) s.entries ++ cs) chosen)
      ∙ fold-append value_with (value_in s.items c.item) (filter_map (change_of c.item) s.entries)
      (option_to_list (option_and_then (λ d. Some d) (change_in (touch_in p.part c.item))))
      ∙ ap (λ o. fold value_with o
      (option_to_list (option_and_then (λ d. Some d) (change_in (touch_in p.part c.item))))) cell.value
      ∙ by_change (change_in (touch_in p.part c.item))
    where
      hits : (y : Name) (d : Change) → bytes_eq y c.item ≡ true → change_of c.item (change_entry p.tx y d) ≡ Some d
      hits y (Put v) hit = rw hit refl
      hits y (Add v) hit = rw hit refl

      misses : (y : Name) (d : Change) → bytes_eq y c.item ≡ false → change_of c.item (change_entry p.tx y d) ≡ None
      misses y (Put v) miss = rw miss refl
      misses y (Add v) miss = rw miss refl

      chosen : filter_map (change_of c.item) bs ≡ option_to_list
          (option_and_then (λ d. Some d) (change_in (touch_in p.part c.item)))
      chosen = chosen_changes (change_of c.item) (λ d. Some d) c.item p.tx hits misses refl p.part rises

      by_change : (o : Option Change)
          → fold value_with (Some c.value) (option_to_list (option_and_then (λ d. Some d) o)) ≡ value_with_any
          (Some c.value) o
      by_change None = refl
      by_change (Some d) = refl

  writers_noted : (c : Contents) → IsCell s.items s.installed s.entries c
      → c.writers ++ noted_writers by (change_in (touch_in p.part c.item)) ≡ writers_of ws (s.entries ++ bs) c.item
  writers_noted c cell =
      ap₂ (λ (us vs : List Writer). us ++ vs) (cell.writers ∙ sym old) (by_change (change_in (touch_in p.part c.item))
      ∙ sym new) ∙ sym (filter_map-append (writer ws c.item) s.entries bs)
    where
      old : filter_map (writer ws c.item) s.entries ≡ filter_map (writer s.installed c.item) s.entries
      old = chosen_alike (writer ws c.item) (writer s.installed c.item) s.entries
          (λ n e at. elim (option_cases (change_of c.item e)) [
            | inl none ↦ rw none refl
            | inr some ↦
                let g = all_given s site n e c.item some.0 at some.1 in
                rw (some.1, handle_kept s.installed (by ∷ []) (tx_of e) g.0 g.1, g.1) refl
          ])

      made : Change → Writer
      made d = record { tx = p.tx; handle = handle; increment = adds d }

      hits : (y : Name) (d : Change) → bytes_eq y c.item ≡ true
          → writer ws c.item (change_entry p.tx y d) ≡ Some (made d)
      hits y (Put v) hit = rw (hit, given) refl
      hits y (Add v) hit = rw (hit, given) refl

      misses : (y : Name) (d : Change) → bytes_eq y c.item ≡ false → writer ws c.item (change_entry p.tx y d) ≡ None
      misses y (Put v) miss = rw miss refl
      misses y (Add v) miss = rw miss refl

      new : filter_map (writer ws c.item) bs ≡ option_to_list
          (option_and_then (λ d. Some (made d)) (change_in (touch_in p.part c.item)))
      new = chosen_changes (writer ws c.item) (λ d. Some (made d)) c.item p.tx hits misses refl p.part rises

      by_change : (o : Option Change) → noted_writers by o ≡ option_to_list (option_and_then (λ d. Some (made d)) o)
      by_change None = refl
      by_change (Some d) = refl

  -- the readers of a cell, with the one that a kept read makes
  module _ (c d : Contents) (cell : IsCell s.items s.installed s.entries c)
      (added : AddsReader by (seen_in (touch_in p.part c.item)) c.readers d.readers) where
    readers_noted : (r : Reader) → Contains d.readers r ↔ IsReader ws (s.entries ++ bs) c.item r
    readers_noted r = (
      λ has. from (seen_in (touch_in p.part c.item)) refl added has,
      λ is. handle_cases s.installed by r.tx r.handle is.0
          (λ had. kept (seen_in (touch_in p.part c.item)) added
          ((cell.readers r).1 (had, (is.1.0, logged is.1.0 is.1.1))))
          (λ own same. new_reader own same is.1.0 (subst (λ t. LogsRead s.entries t c.item is.1.0 r.version) own
          (logged is.1.0 is.1.1))),
    )
      where
        logged : (v : ℕ) → LogsRead (s.entries ++ bs) r.tx c.item v r.version
            → LogsRead s.entries r.tx c.item v r.version
        logged v read =
            LogsRead-cases s.entries bs r.tx c.item v r.version read (λ old. old)
            (λ m at is. absurd (no_reads change_entry Commit commits-blocks p.tx (writing_in p.part) m r.tx c.item v
            at))

        old_reader : Contains c.readers r → IsReader ws (s.entries ++ bs) c.item r
        old_reader has = let is = (cell.readers r).0 has in (
          handle_kept s.installed (by ∷ []) r.tx r.handle is.0,
          (is.1.0, LogsRead-append s.entries bs r.tx c.item is.1.0 r.version is.1.1),
        )

        of_touch : (o : Option Touch) (seen : Seen) → touch_in p.part c.item ≡ o → seen_in o ≡ Some seen
            → r ≡ record { tx = by.tx; handle = by.handle; version = seen.version }
            → IsReader ws (s.entries ++ bs) c.item r
        of_touch None seen is none same = absurd cc
        of_touch (Some t) seen is some same =
            rw same (
              given,
              (
                seen.value,
                LogsRead-append s.entries bs p.tx c.item seen.value seen.version
                    ((covered.reads c.item seen.value seen.version).0 (touch-kept p.part c.item t seen is some)),
              ),
            )

        from : (q : Option Seen) → seen_in (touch_in p.part c.item) ≡ q → AddsReader by q c.readers d.readers
            → Contains d.readers r → IsReader ws (s.entries ++ bs) c.item r
        from None is same has = old_reader (subst (λ (rs : List Reader). Contains rs r) same has)
        from (Some seen) is at has =
            by_side ((Contains-insert c.readers at.0 (record {
              tx = by.tx;
              handle = by.handle;
              version =
                  seen.version;
            }) r).0 (subst (λ (rs : List Reader). Contains rs r) at.1 has))
          where
            by_side : (r ≡ record { tx = by.tx; handle = by.handle; version = seen.version }) ⊎ Contains c.readers r
                → IsReader ws (s.entries ++ bs) c.item r
            by_side (inl same) = of_touch (touch_in p.part c.item) seen refl is same
            by_side (inr old) = old_reader old

        kept : (q : Option Seen) → AddsReader by q c.readers d.readers → Contains c.readers r → Contains d.readers r
        kept None same has = subst (λ (rs : List Reader). Contains rs r) (sym same) has
        kept (Some seen) at has =
            subst (λ (rs : List Reader). Contains rs r) (sym at.1)
            ((Contains-insert c.readers at.0 (record { tx = by.tx; handle = by.handle; version = seen.version }) r).1
            (inr has))

        new_reader : r.tx ≡ p.tx → r.handle ≡ handle → (v : ℕ) → LogsRead s.entries p.tx c.item v r.version
            → Contains d.readers r
        new_reader own same v read =
            let t = kept-touch p.part c.item v r.version rises ((covered.reads c.item v r.version).1 read) in
            let at : AddsReader by (Some (record { value = v; version = r.version })) c.readers d.readers =
            subst (λ q. AddsReader by q c.readers d.readers) (ap seen_in t.1 ∙ t.2) added in
            let is : r ≡ record { tx = p.tx; handle = handle; version = r.version } =
            λ i. record { tx = own i; handle = same i; version = r.version } in
            subst (λ (rs : List Reader). Contains rs r) (sym at.1)
            ((Contains-insert c.readers at.0 (record { tx = p.tx; handle = handle; version = r.version }) r).1
            (inl is))

    -- who ends now has not read as a committed transaction before
    once_noted : AllPairs (λ (a b : Reader). a.tx ≢ b.tx) d.readers
    once_noted = by_seen (seen_in (touch_in p.part c.item)) added
      where
        apart : (k : ℕ) (r : Reader) → slice_get c.readers k ≡ Some r → r.tx ≢ p.tx
        apart k r at same =
            covered.active
            (ended_with_handle s site p.tx r.handle (subst (λ t. handle_of s.installed t ≡ Some r.handle) same
            ((cell.readers r).0 (Contains-from_at c.readers k r at)).0))

        by_seen : (q : Option Seen) → AddsReader by q c.readers d.readers
            → AllPairs (λ (a b : Reader). a.tx ≢ b.tx) d.readers
        by_seen None same = subst (AllPairs (λ (a b : Reader). a.tx ≢ b.tx)) (sym same) cell.readers_once
        by_seen (Some seen) at =
            subst (AllPairs (λ (a b : Reader). a.tx ≢ b.tx)) (sym at.1)
            (AllPairs-insert (λ (a b : Reader). a.tx ≢ b.tx) c.readers at.0
            (record { tx = by.tx; handle = by.handle; version = seen.version }) (λ m r lt is. apart m r is)
            (λ m r le is own. apart m r is (sym own)) cell.readers_once)

  -- a cell that is noted has what the log says of its item
  cell_noted : (c d : Contents) → IsCell s.items s.installed s.entries c → IsNoted by (touch_in p.part c.item) c d
      → IsCell s.items ws (s.entries ++ bs) d
  cell_noted c d cell noted = record {
    value = ap (value_at s.items (s.entries ++ bs)) noted.item ∙ value_noted c cell ∙ sym noted.value;
    writers = noted.writers ∙ writers_noted c cell ∙ ap (writers_of ws (s.entries ++ bs)) (sym noted.item);
    readers = λ r. subst (λ (y : Name). Contains d.readers r ↔ IsReader ws (s.entries ++ bs) y r) (sym noted.item)
        (readers_noted c d cell noted.readers r);
    readers_once = once_noted c d cell noted.readers;
    readings =
        λ m. subst (λ (ms : List Reading). Contains ms m
        ↔ LogsRead (s.entries ++ bs) m.tx d.item m.seen.value m.seen.version) (sym noted.readings)
        (subst (λ (y : Name). Contains c.readings m ↔ LogsRead (s.entries ++ bs) m.tx y m.seen.value m.seen.version)
        (sym noted.item) (
          λ has. LogsRead-append s.entries bs m.tx c.item m.seen.value m.seen.version ((cell.readings m).0 has),
          λ read. (cell.readings m).1 (LogsRead-cases s.entries bs m.tx c.item m.seen.value m.seen.version read
              (λ old. old)
              (λ k at is. absurd (no_reads change_entry Commit commits-blocks p.tx (writing_in p.part) k m.tx c.item
              m.seen.value at))),
        ));
  }

  committed_one : (cs : List (Name × Change)) → filter_map committed_in (commit_block p.tx cs) ≡ p.tx ∷ []
  committed_one [] = refl
  committed_one (c ∷ cs) = ap (λ o. cons_option o (filter_map committed_in (commit_block p.tx cs)))
      (no_commit c.0 c.1) ∙ committed_one cs
    where
      no_commit : (x : Name) (d : Change) → committed_in (change_entry p.tx x d) ≡ None
      no_commit x (Put v) = refl
      no_commit x (Add v) = refl

  site_installed : IsSite (record s { entries = s.entries ++ bs; installed = ws; pledge = None })
  site_installed = record {
    items = site.items;
    orderly = orderly-append s.items s.entries bs site.orderly
        (block_orderly change_entry Commit commits-blocks p.tx (writing_in p.part) s.items
        (writings-rise s.number p.part covered.here covered.rising) covered.known)
        (block_follows change_entry Commit commits-blocks p.tx (writing_in p.part) s site covered.active);
    legal = legal-append s.items s.entries bs site.legal
        (λ m t x v at. absurd (no_reads change_entry Commit commits-blocks p.tx (writing_in p.part) m t x v at));
    given = map-append (λ (i : Install). i.tx) s.installed (by ∷ [])
        ∙ ap₂ (λ (us vs : List ℕ). us ++ vs) site.given (sym (committed_one (writing_in p.part)))
        ∙ sym (filter_map-append committed_in s.entries bs);
    changes = λ e x c has is. let w = Contains_at (s.entries ++ bs) e has in get_cases s.entries bs w.0 e w.1
        (λ front. Contains-append_left s.entries bs (Commit (tx_of e))
        (site.changes e x c (Contains-from_at s.entries w.0 e front) is))
        (λ m there back. Contains-append_right s.entries bs (Commit (tx_of e))
        (subst (λ t. Contains bs (Commit t))
        (sym (block_tx change_entry Commit commits-blocks p.tx (writing_in p.part) m e back))
        (Contains-from_at bs (length (writing_in p.part)) (Commit p.tx)
        (at_end change_entry Commit commits-blocks p.tx (writing_in p.part)))));
    wants = λ e has want. let w = Contains_at (s.entries ++ bs) e has in get_cases s.entries bs w.0 e w.1
        (λ front. Contains-append_left s.entries bs (Refuse (tx_of e))
        (site.wants e (Contains-from_at s.entries w.0 e front) want))
        (λ m there back. absurd (in_block change_entry Commit commits-blocks p.tx (writing_in p.part) m e back
        (λ d here is. no_want d.0 d.1 (subst IsWant is want)) (λ here is. subst IsWant is want)));
    pledged = λ q is. absurd cc;
  }
    where
      no_want : (x : Name) (d : Change) → IsWant (change_entry p.tx x d) → ⊥
      no_want x (Put v) want = want
      no_want x (Add v) want = want

  pub kept-install : (cells new : List Contents) (ended ends : List ℕ) (spare more : Spare)
      → IsKept s cells ended spare → AreChanged (λ c d. IsNoted by (touch_in p.part c.item) c d) cells new
      → Ends ended ends p.tx
      → IsKept (record s { entries = s.entries ++ bs; installed = ws; pledge = None }) new ends more
  kept-install cells new ended ends spare more kept changed ending = record {
    site = site_installed;
    names_same = changed-items (λ c d. IsNoted by (touch_in p.part c.item) c d) (λ c d noted. noted.item) cells new
        changed ∙ kept.names_same;
    each = All-from_at (IsCell s.items ws (s.entries ++ bs)) new (λ n d at. let c = old_at n d at in
        cell_noted c.0 d (All_at (IsCell s.items s.installed s.entries) cells n c.0 kept.each c.1)
        (changed.each n c.0 d c.1 at));
    ends_rise = ending.rising;
    ends = ended-one s.entries bs p.tx ended ends kept.ends ending
        (block_ends change_entry Commit commits-blocks p.tx (writing_in p.part))
        (block_alone change_entry Commit commits-blocks p.tx (writing_in p.part));
    room = λ q is. absurd cc;
  }
    where
      old_at : (n : ℕ) (d : Contents) → slice_get new n ≡ Some d → (c : Contents) × (slice_get cells n ≡ Some c)
      old_at n d at = (
        get_or cells n d,
        slice_get-get_or cells n d (let lt = slice_get_within new n d at in
            omega (arith, lt, changed.as_many)),
      )
