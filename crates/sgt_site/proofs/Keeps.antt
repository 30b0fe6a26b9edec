-- What a site keeps when entries are logged that change nothing.
use Rattle.std.proofs.Common.{◌≡◌, ℕ, zero, suc, ◌+◌, ◌<◌, ◌≤◌, ◌⊎◌, List, [], ◌∷◌, ◌++◌, length, get_or, set, take, true, false, Option, Some, None, refl, sym, ap, ◌∙◌, subst, arith, inl, inr, ◌≢◌, All, AllPairs, Contains, append-nil}
use Rattle.std.specs.Prelude.{slice_get, is_some, ◌↔◌, ◌==◌}
use Rattle.std.specs.List.{filter_map}
use Rattle.std.specs.Option.{ForSome}
use Rattle.std.specs.Ordering.{nat_cmp}
use Rattle.std.specs.Cmp.Lexicographic.{slice_cmp}
use Rattle.std.specs.declared.cmp.Ordering.TheVariants.{Less}
use Rattle.std.proofs.lemmas.Bool.{cases_Bool, cases_order}
use Rattle.std.proofs.lemmas.Bool.Decides.{nat_tests}
use Rattle.std.proofs.lemmas.Option.{slice_get_read, same_Some}
use Rattle.std.proofs.lemmas.List.Elements.{filter_map-append, Contains-append_left, Contains-append_right, All-weaker}
use Rattle.std.proofs.Math.Seq.{take-append_seam}
use Rattle.sgt_names.specs.Name.{Name}
use Rattle.sgt_names.specs.Ordered.{IsAt, IsRisingBy}
use Rattle.sgt_names.specs.Entry.{tx_of, item_of, change_of, Reads, IsEnd, IsOpen, Repeats}
use Rattle.sgt_names.specs.Log.{names, value_at, FinalsAreLegal, IsOrderly}
use Rattle.sgt_names.specs.declared.draft.Seen.{Seen}
use Rattle.sgt_names.specs.declared.draft.Touch.{Touch}
use Rattle.sgt_names.specs.declared.entry.Change.{Change}
use Rattle.sgt_names.specs.declared.entry.Entry.{Entry}
use Rattle.sgt_names.specs.declared.entry.Entry.TheVariants.{Read, Commit, Refuse, Withdraw}
use Rattle.sgt_names.specs.declared.entry.Holding.{Holding}
use Rattle.sgt_names.proofs.Lists.{option_cases, back_at, map_at, Any_at, Any-from_at, filter_map-none}
use Rattle.sgt_names.proofs.Places.{Contains_at, Contains-from_at, All_at, All-from_at, AllPairs_at}
use Rattle.sgt_site.specs.declared.cell.Install.{Install}
use Rattle.sgt_site.specs.declared.cell.Reader.{Reader}
use Rattle.sgt_site.specs.declared.readings.Reading.{Reading}
use Rattle.sgt_site.specs.State.{SiteState, Pledge, IsSite, IsCovered, IsReader, IsWant, HasRead, HasEnded, LogsRead, version_at, writer, writers_of, committed_in}
use Rattle.sgt_site.specs.Refused.{MayRead}
use Rattle.sgt_site.specs.private.Cells.{Contents, CellsRise, IsTouched, IsAnswering, IsAnswered, AnswersAt, answer_of, items_of, values_of}
use Rattle.sgt_site.specs.private.Kept.{Spare, HasRoom, IsCell, IsKept, pledge_of}
use Rattle.sgt_site.proofs.Appends.{get_cases, chosen_from, count_before, MayFollow, orderly-append, legal-append, value-kept, LogsRead-append, LogsRead-cases, HasEnded-append, HasEnded-append_right, HasEnded-cases}
use Rattle.sgt_site.proofs.Entries.{read_is}
use Rattle.sgt_site.proofs.Projections.{ended_with_handle, length-writers, all_given}
use Rattle.sgt_site.proofs.Basics.{less_apart, is_single}
use Rattle.sgt_site.proofs.Found.{item-there}
use Rattle.sgt_site.proofs.Inserts.{get_set_same, get_set_other}

-- the names of the values are the items
pub names-values : (cells : List Contents) → names (values_of cells) ≡ items_of cells
names-values [] = refl
names-values (c ∷ cells) = ap (λ xs. c.item ∷ xs) (names-values cells)

-- the cell that a search found
pub found_cell : (items : List Holding) (ws : List Install) (es : List Entry) (cells : List Contents) (x : Name)
    (n : ℕ) (c : Contents) → All (IsCell items ws es) cells → IsAt (λ c. c.item) cells x n → c ≡ get_or cells n c
    → (c.item ≡ x) × IsCell items ws es c
found_cell items ws es cells x n c each at read =
    let here = slice_get_read cells (length cells) n c refl at.within read in
    (at.is c here, All_at (IsCell items ws es) cells n c each here)

-- it is of an item of the site
pub found_known : (items : List Holding) (cells : List Contents) (x : Name) (n : ℕ) → items_of cells ≡ names items
    → IsAt (λ c. c.item) cells x n → Contains (names items) x
found_known items cells x n same at = subst (λ xs. Contains xs x) same (item-there cells x n at)

-- the version of a cell's item is the number of its writers
pub found_version : (s : SiteState) → IsSite s → (c : Contents) → IsCell s.items s.installed s.entries c
    → length c.writers ≡ version_at s.entries c.item
found_version s site c cell = ap length cell.writers ∙ length-writers s.installed s.entries c.item (all_given s site)

-- the items stay where a cell of the same item takes the place of another
items-set : (cells : List Contents) (n : ℕ) (c d : Contents) → slice_get cells n ≡ Some c → d.item ≡ c.item
    → items_of (set cells n d) ≡ items_of cells
items-set [] n c d at item = refl
items-set (e ∷ cells) zero c d at item =
    ap (λ x. x ∷ items_of cells) (item ∙ ap (λ (g : Contents). g.item) (sym (same_Some e c at)))
items-set (e ∷ cells) (suc n) c d at item = ap (λ xs. e.item ∷ xs) (items-set cells n c d at item)

pub answered-items : (cells new : List Contents) (n tx : ℕ) (seen : Seen) → AnswersAt cells new n tx seen
    → items_of new ≡ items_of cells
answered-items cells new n tx seen answers = ap items_of answers.others
    ∙ items-set cells n answers.cell answers.answered answers.at (ap (λ (c : Contents). c.item) answers.reads.same)

-- what a read answers
pub answered-value : (s : SiteState) → IsSite s → (cells new : List Contents) (x : Name) (n tx : ℕ) (seen : Seen)
    → All (IsCell s.items s.installed s.entries) cells → IsAt (λ c. c.item) cells x n → AnswersAt cells new n tx seen
    → (value_at s.items s.entries x ≡ Some seen.value) × (seen.version ≡ version_at s.entries x)
answered-value s site cells new x n tx seen each at answers =
    let of = at.is answers.cell answers.at in
    let cell = All_at (IsCell s.items s.installed s.entries) cells n answers.cell each answers.at in (
      subst (λ y. value_at s.items s.entries y ≡ Some seen.value) of (cell.value
          ∙ ap Some (sym (ap (λ (e : Seen). e.value) answers.is))),
      ap (λ (e : Seen). e.version) answers.is ∙ found_version s site answers.cell cell ∙ ap (version_at s.entries) of,
    )

-- one entry that opens no block is an orderly log
pub single_orderly : (items : List Holding) (e : Entry) → ForSome (item_of e) (Contains (names items))
    → (IsOpen e → ⊥) → IsOrderly items (e ∷ [])
single_orderly items e known shut = record {
  known = λ k d lt. subst (λ (f : Entry). ForSome (item_of f) (Contains (names items))) (sym (at_zero k d lt)) known;
  once = λ i j d lt within. absurd (omega arith);
  blocks = λ n f at opens. absurd (shut (subst IsOpen (only n f at) opens));
  closed = λ i j d lt within. absurd (omega arith);
}
  where
    at_zero : (k : ℕ) (d : Entry) → k < 1 → get_or (e ∷ []) k d ≡ e
    at_zero zero d lt = refl
    at_zero (suc k) d lt = absurd (omega arith)

    only : (n : ℕ) (f : Entry) → slice_get (e ∷ []) n ≡ Some f → f ≡ e
    only zero f at = sym (same_Some e f at)
    only (suc n) f at = absurd cc

-- entries of a transaction that change nothing and commit nothing
pub record IsQuiet (bs : List Entry) (tx : ℕ) : Type 0 where
  pub values : (x : Name) → filter_map (change_of x) bs ≡ []
  pub commits : filter_map committed_in bs ≡ []
  pub reads : (m t : ℕ) (x : Name) (v : ℕ) → slice_get bs m ≡ Some (Read t x v) → t ≡ tx

-- none of them changes an item, so there are no writers
quiet-changes : (bs : List Entry) (tx m : ℕ) (e : Entry) (x : Name) (c : Change) → IsQuiet bs tx
    → slice_get bs m ≡ Some e → change_of x e ≡ Some c → ⊥
quiet-changes bs tx m e x c quiet at is =
    let has : slice_get [] (count_before (change_of x) bs m) ≡ Some c =
    ap (λ (cs : List Change). slice_get cs (count_before (change_of x) bs m)) (sym (quiet.values x))
    ∙ chosen_from (change_of x) bs m e c at is in
    absurd cc

quiet-writers : (ws : List Install) (bs : List Entry) (tx : ℕ) (x : Name) → IsQuiet bs tx
    → filter_map (writer ws x) bs ≡ []
quiet-writers ws bs tx x quiet = filter_map-none (writer ws x) bs (λ m e at. elim (option_cases (change_of x e)) [
  | inl none ↦ rw none refl
  | inr some ↦ absurd (quiet-changes bs tx m e x some.0 quiet at some.1)
])

none-append : {A B : Type 0} (f : A → Option B) (xs ys : List A) → filter_map f ys ≡ []
    → filter_map f (xs ++ ys) ≡ filter_map f xs
none-append f xs ys none = filter_map-append f xs ys ∙ ap (λ us. filter_map f xs ++ us) none
    ∙ append-nil (filter_map f xs)

module _ (s : SiteState) (bs : List Entry) (tx : ℕ) (site : IsSite s) (active : HasEnded s.entries tx
    → ⊥) (quiet : IsQuiet bs tx) where
  -- a cell keeps its value, its writers and its committed readers
  pub value-quiet : (c : Contents) → IsCell s.items s.installed s.entries c
      → value_at s.items (s.entries ++ bs) c.item ≡ Some c.value
  value-quiet c cell = value-kept s.items s.entries bs c.item (quiet.values c.item) ∙ cell.value

  pub writers-quiet : (c : Contents) → IsCell s.items s.installed s.entries c
      → c.writers ≡ writers_of s.installed (s.entries ++ bs) c.item
  writers-quiet c cell = cell.writers
      ∙ sym (none-append (writer s.installed c.item) s.entries bs (quiet-writers s.installed bs tx c.item quiet))

  pub readers-quiet : (c : Contents) → IsCell s.items s.installed s.entries c → (r : Reader)
      → Contains c.readers r ↔ IsReader s.installed (s.entries ++ bs) c.item r
  readers-quiet c cell r = (
    λ has. let is = (cell.readers r).0 has in
        (is.0, (is.1.0, LogsRead-append s.entries bs r.tx c.item is.1.0 r.version is.1.1)),
    λ is. (cell.readers r).1 (
      is.0,
      (
        is.1.0,
        LogsRead-cases s.entries bs r.tx c.item is.1.0 r.version is.1.1
            (λ old. old)
            (λ m at version. absurd
            (active (subst (HasEnded s.entries) (quiet.reads m r.tx c.item is.1.0 at)
            (ended_with_handle s site r.tx r.handle is.0)))),
      ),
    ),
  )

  -- and its reads, if the entries read nothing
  pub cell-quiet : ((m t : ℕ) (x : Name) (v : ℕ) → slice_get bs m ≡ Some (Read t x v) → ⊥) → (c : Contents)
      → IsCell s.items s.installed s.entries c → IsCell s.items s.installed (s.entries ++ bs) c
  cell-quiet none c cell = record {
    value = value-quiet c cell;
    writers = writers-quiet c cell;
    readers = readers-quiet c cell;
    readers_once = cell.readers_once;
    readings = λ m. (
      λ has. LogsRead-append s.entries bs m.tx c.item m.seen.value m.seen.version ((cell.readings m).0 has),
      λ read. (cell.readings m).1 (LogsRead-cases s.entries bs m.tx c.item m.seen.value m.seen.version read
          (λ old. old) (λ k at version. absurd (none k m.tx c.item m.seen.value at))),
    );
  }

  pub cells-quiet : ((m t : ℕ) (x : Name) (v : ℕ) → slice_get bs m ≡ Some (Read t x v) → ⊥) → (cells : List Contents)
      → All (IsCell s.items s.installed s.entries) cells → All (IsCell s.items s.installed (s.entries ++ bs)) cells
  cells-quiet none cells each =
      All-weaker (IsCell s.items s.installed s.entries) (IsCell s.items s.installed (s.entries ++ bs))
      (cell-quiet none) cells each

  -- and the site keeps what every site keeps, apart from its pledge
  pub site-quiet : (pledge : Option Pledge) → IsOrderly s.items bs → MayFollow s.entries bs
      → ((m t : ℕ) (x : Name) (v : ℕ) → slice_get bs m ≡ Some (Read t x v)
      → value_at s.items (s.entries ++ take m bs) x ≡ Some v)
      → ((m : ℕ) (e : Entry) → slice_get bs m ≡ Some e → IsWant e → Contains bs (Refuse (tx_of e)))
      → ForSome pledge (IsCovered (record s { entries = s.entries ++ bs; pledge = pledge }))
      → IsSite (record s { entries = s.entries ++ bs; pledge = pledge })
  site-quiet pledge orderly may legal wants covered = record {
    items = site.items;
    orderly = orderly-append s.items s.entries bs site.orderly orderly may;
    legal = legal-append s.items s.entries bs site.legal legal;
    given = site.given ∙ sym (none-append committed_in s.entries bs quiet.commits);
    changes = λ e x c has is. let w = Contains_at (s.entries ++ bs) e has in get_cases s.entries bs w.0 e w.1
        (λ front. Contains-append_left s.entries bs (Commit (tx_of e))
        (site.changes e x c (Contains-from_at s.entries w.0 e front) is))
        (λ m there back. absurd (quiet-changes bs tx m e x c quiet back is));
    wants = λ e has want. let w = Contains_at (s.entries ++ bs) e has in get_cases s.entries bs w.0 e w.1
        (λ front. Contains-append_left s.entries bs (Refuse (tx_of e))
        (site.wants e (Contains-from_at s.entries w.0 e front) want))
        (λ m there back. Contains-append_right s.entries bs (Refuse (tx_of e)) (wants m e back want));
    pledged = covered;
  }

-- who has read the cell's item has read it in the log
pub reads-here : (s : SiteState) → IsSite s → (c : Contents) → IsCell s.items s.installed s.entries c → (tx : ℕ)
    → IsAnswering c.readings tx ↔ HasRead s.entries tx c.item
reads-here s site c cell tx = (
  λ has. let read = (cell.readings (record { tx = tx; seen = has.0 })).0 has.1 in
      Any-from_at (λ e. (tx_of e ≡ tx) × Reads c.item e) s.entries read.place (Read tx c.item has.0.value) read.at
      (refl, refl),
  λ has. let a = Any_at (λ e. (tx_of e ≡ tx) × Reads c.item e) s.entries has in
      by_entry a.0 a.1 a.2 a.3.0 (read_is c.item a.1 a.3.1),
)
  where
    by_entry : (n : ℕ) (e : Entry) → slice_get s.entries n ≡ Some e → tx_of e ≡ tx
        → (v : ℕ) × (e ≡ Read (tx_of e) c.item v) → IsAnswering c.readings tx
    by_entry n e at own read =
        let seen : Seen = record { value = read.0; version = version_at (take n s.entries) c.item } in (
          seen,
          (cell.readings (record { tx = tx; seen = seen })).1 (record {
            place = n;
            at = at
                ∙ ap Some (read.1 ∙ ap (λ (t : ℕ). Read t c.item read.0) own);
            version = refl;
          }),
        )

-- the transactions that have ended, with one more
pub record Ends (old new : List ℕ) (tx : ℕ) : Type 0 where
  pub rising : IsRisingBy (λ t. t) nat_cmp new
  pub each : (t : ℕ) → Contains new t ↔ ((t ≡ tx) ⊎ Contains old t)

-- after entries that end this transaction alone
pub ended-one : (es bs : List Entry) (tx : ℕ) (ended ends : List ℕ) → ((t : ℕ) → Contains ended t ↔ HasEnded es t)
    → Ends ended ends tx → HasEnded bs tx → ((t : ℕ) → HasEnded bs t → t ≡ tx) → (t : ℕ)
    → Contains ends t ↔ HasEnded (es ++ bs) t
ended-one es bs tx ended ends kept ending here alone t = (
  λ has. from ((ending.each t).0 has),
  λ has. (ending.each t).1 (HasEnded-cases es bs t has (λ old. inr ((kept t).1 old)) (λ new. inl (alone t new))),
)
  where
    from : (t ≡ tx) ⊎ Contains ended t → HasEnded (es ++ bs) t
    from (inl same) = subst (HasEnded (es ++ bs)) (sym same) (HasEnded-append_right es bs tx here)
    from (inr has) = HasEnded-append es bs t ((kept t).0 has)

-- a read that is not refused
module _ (s : SiteState) (tx : ℕ) (x : Name) (v : ℕ) (site : IsSite s) (may : MayRead s tx x)
    (legal : value_at s.items s.entries x ≡ Some v) where
  abbrev one : List Entry
  one = Read tx x v ∷ []

  read_follows : MayFollow s.entries one
  read_follows = record {
    once = λ e f in_es in_one y repeats. may.first
        (has_read e y in_es (subst (λ g. Repeats y e g) (is_single (Read tx x v) f in_one) repeats));
    closed = λ e f in_es in_one ends same. may.active (has_ended e in_es ends (same
        ∙ ap tx_of (is_single (Read tx x v) f in_one)));
  }
    where
      has_read : (e : Entry) (y : Name) → Contains s.entries e → Repeats y e (Read tx x v) → HasRead s.entries tx x
      has_read e y in_es (same, inl reads) = let at = Contains_at s.entries e in_es in
          Any-from_at (λ e. (tx_of e ≡ tx) × Reads x e) s.entries at.0 e at.1 (
            same,
            subst (λ z. Reads z e) (sym reads.1) reads.0,
          )
      has_read e y in_es (same, inr writes) = absurd writes.1

      has_ended : (e : Entry) → Contains s.entries e → IsEnd e → tx_of e ≡ tx → HasEnded s.entries tx
      has_ended e in_es ends same = let at = Contains_at s.entries e in_es in
          Any-from_at (λ e. (tx_of e ≡ tx) × IsEnd e) s.entries at.0 e at.1 (same, ends)

  read_quiet : IsQuiet one tx
  read_quiet = record {
    values = λ y. refl;
    commits = refl;
    reads = λ m t y w at. ap tx_of (is_single (Read tx x v) (Read t y w) (Contains-from_at one m (Read t y w) at));
  }

  covered-read : (p : Pledge) → (p.tx ≡ tx → ⊥) → IsCovered s p → IsCovered (record s { entries = s.entries ++ one }) p
  covered-read p other covered = record {
    here = covered.here;
    rising = covered.rising;
    known = covered.known;
    reads = λ y w n. (
      λ has. LogsRead-append s.entries one p.tx y w n ((covered.reads y w n).0 has),
      λ r. (covered.reads y w n).1 (LogsRead-cases s.entries one p.tx y w n r (λ old. old)
          (λ m at version. absurd (other (read_quiet.reads m p.tx y w at)))),
    );
    active = λ ended. HasEnded-cases s.entries one p.tx ended covered.active no_end;
  }
    where
      no_end : {P : Type 0} → HasEnded one p.tx → P
      no_end has =
          let a = Any_at (λ e. (tx_of e ≡ p.tx) × IsEnd e) one has in
          absurd (subst IsEnd (is_single (Read tx x v) a.1 (Contains-from_at one a.0 a.1 a.2)) a.3.1)

  -- the cell of another item keeps its reads, and that of the item gets one more
  other_cell : (c : Contents) → (c.item ≡ x → ⊥) → IsCell s.items s.installed s.entries c
      → IsCell s.items s.installed (s.entries ++ one) c
  other_cell c apart cell = record {
    value = value-quiet s one tx site may.active read_quiet c cell;
    writers = writers-quiet s one tx site may.active read_quiet c cell;
    readers = readers-quiet s one tx site may.active read_quiet c cell;
    readers_once = cell.readers_once;
    readings = λ m. (
      λ has. LogsRead-append s.entries one m.tx c.item m.seen.value m.seen.version ((cell.readings m).0 has),
      λ read. (cell.readings m).1 (LogsRead-cases s.entries one m.tx c.item m.seen.value m.seen.version read
          (λ old. old) (λ k at version. absurd (apart (item_read k m.tx c.item m.seen.value at)))),
    );
  }
    where
      item_read : (k t : ℕ) (y : Name) (w : ℕ) → slice_get one k ≡ Some (Read t y w) → y ≡ x
      item_read zero t y w at = cc
      item_read (suc k) t y w at = absurd cc

  read_cell : (c d : Contents) → c.item ≡ x → IsAnswered c d tx → v ≡ c.value → IsCell s.items s.installed s.entries c
      → IsCell s.items s.installed (s.entries ++ one) d
  read_cell c d of answered value cell =
      let item : d.item ≡ c.item = ap (λ (e : Contents). e.item) answered.same in
      let same : d.value ≡ c.value = ap (λ (e : Contents). e.value) answered.same in
      let writers : d.writers ≡ c.writers = ap (λ (e : Contents). e.writers) answered.same in
      let readers : d.readers ≡ c.readers = ap (λ (e : Contents). e.readers) answered.same in
      let version : version_at s.entries x ≡ length c.writers =
      sym (found_version s site c cell ∙ ap (version_at s.entries) of) in
      record {
        value = ap (value_at s.items (s.entries ++ one)) item ∙ value-quiet s one tx site may.active read_quiet c cell
            ∙ ap Some (sym same);
        writers = writers ∙ writers-quiet s one tx site may.active read_quiet c cell
            ∙ ap (writers_of s.installed (s.entries ++ one)) (sym item);
        readers = λ r. subst (λ (rs : List Reader). Contains rs r ↔ IsReader s.installed (s.entries ++ one) d.item r)
            (sym readers) (subst (λ (y : Name). Contains c.readers r ↔ IsReader s.installed (s.entries ++ one) y r)
            (sym item) (readers-quiet s one tx site may.active read_quiet c cell r));
        readers_once = subst (AllPairs (λ (a b : Reader). a.tx ≢ b.tx)) (sym readers) cell.readers_once;
        readings =
            λ m. subst (λ (y : Name). Contains d.readings m
            ↔ LogsRead (s.entries ++ one) m.tx y m.seen.value m.seen.version) (sym (item ∙ of)) (
              λ has. logged version m ((answered.reads m).0 has),
              λ read. (answered.reads m).1 (LogsRead-cases s.entries one m.tx x m.seen.value m.seen.version read
                  (λ old. inr
                  ((cell.readings m).1 (subst (λ (y : Name). LogsRead s.entries m.tx y m.seen.value m.seen.version)
                  (sym of) old)))
                  (λ k at is. inl (newest version m k at is))),
            );
      }
    where
      logged : version_at s.entries x ≡ length c.writers → (m : Reading)
          → (m ≡ record { tx = tx; seen = answer_of c }) ⊎ Contains c.readings m
          → LogsRead (s.entries ++ one) m.tx x m.seen.value m.seen.version
      logged version m (inl new) = rw new record {
        place = length s.entries;
        at = subst (λ k. slice_get (s.entries ++ one) k ≡ Some (Read tx x c.value))
            (let e : length s.entries + 0 ≡ length s.entries = omega arith in e) (back_at s.entries one 0
            ∙ ap (λ (w : ℕ). Some (Read tx x w)) value);
        version = ap (λ (es : List Entry). version_at es x) (take-append_seam s.entries one) ∙ version;
      }
      logged version m (inr has) =
          LogsRead-append s.entries one m.tx x m.seen.value m.seen.version
          (subst (λ (y : Name). LogsRead s.entries m.tx y m.seen.value m.seen.version) of ((cell.readings m).0 has))

      newest : version_at s.entries x ≡ length c.writers → (m : Reading) (k : ℕ)
          → slice_get one k ≡ Some (Read m.tx x m.seen.value)
          → version_at (s.entries ++ take k one) x ≡ m.seen.version → m ≡ record { tx = tx; seen = answer_of c }
      newest version m zero at is =
          let of_tx : m.tx ≡ tx = cc in
          let of_value : m.seen.value ≡ c.value = let e : m.seen.value ≡ v = cc in e ∙ value in
          let of_version : m.seen.version ≡ length c.writers = sym is
          ∙ ap (λ (es : List Entry). version_at es x) (append-nil s.entries) ∙ version in
          λ i. record { tx = of_tx i; seen = record { value = of_value i; version = of_version i } }
      newest version m (suc k) at is = absurd cc

  read_cells : (cells new : List Contents) (n : ℕ) (seen : Seen) → CellsRise cells
      → All (IsCell s.items s.installed s.entries) cells → IsAt (λ c. c.item) cells x n → v ≡ seen.value
      → AnswersAt cells new n tx seen
      → All (IsCell s.items s.installed (s.entries ++ one)) new
  read_cells cells new n seen rising each at value answers =
      let of = at.is answers.cell answers.at in
      let is_value : v ≡ answers.cell.value = value ∙ ap (λ (e : Seen). e.value) answers.is in
      subst (All (IsCell s.items s.installed (s.entries ++ one))) (sym answers.others)
      (All-from_at (IsCell s.items s.installed (s.entries ++ one)) (set cells n answers.answered)
      (λ k c here. elim (cases_order k n) [
        | inl same ↦ subst (IsCell s.items s.installed (s.entries ++ one)) (set_here k c same here)
            (read_cell answers.cell answers.answered of answers.reads is_value
            (All_at (IsCell s.items s.installed s.entries) cells n answers.cell each answers.at))
        | inr (inl lt) ↦
            let old = set_other k c (λ e. absurd (omega arith)) here in
            other_cell c
            (λ same. less_apart c.item x
            (subst (λ y. slice_cmp nat_cmp c.item y ≡ Less) of
            (AllPairs_at (λ (a b : Contents). slice_cmp nat_cmp a.item b.item ≡ Less) cells k n c answers.cell
            rising lt old answers.at)) same) (All_at (IsCell s.items s.installed s.entries) cells k c each old)
        | inr (inr gt) ↦
            let old = set_other k c (λ e. absurd (omega arith)) here in
            other_cell c
            (λ same. less_apart x c.item
            (subst (λ y. slice_cmp nat_cmp y c.item ≡ Less) of
            (AllPairs_at (λ (a b : Contents). slice_cmp nat_cmp a.item b.item ≡ Less) cells n k answers.cell c
            rising gt answers.at old)) (sym same))
            (All_at (IsCell s.items s.installed s.entries) cells k c each old)
      ]))
    where
      set_here : (k : ℕ) (c : Contents) → k ≡ n → slice_get (set cells n answers.answered) k ≡ Some c
          → answers.answered ≡ c
      set_here k c same here = same_Some answers.answered c (sym (get_set_same cells n answers.answered at.within)
          ∙ ap (slice_get (set cells n answers.answered)) (sym same) ∙ here)

      set_other : (k : ℕ) (c : Contents) → (k ≡ n → ⊥) → slice_get (set cells n answers.answered) k ≡ Some c
          → slice_get cells k ≡ Some c
      set_other k c apart here = sym (get_set_other cells n k answers.answered apart) ∙ here

  no_end : (t : ℕ) → HasEnded one t → ⊥
  no_end t has =
      let a = Any_at (λ e. (tx_of e ≡ t) × IsEnd e) one has in
      subst IsEnd (is_single (Read tx x v) a.1 (Contains-from_at one a.0 a.1 a.2)) a.3.1

  pub kept-read : (cells new : List Contents) (ended : List ℕ) (spare more : Spare) (n : ℕ) (seen : Seen)
      → CellsRise cells → IsKept s cells ended spare → IsAt (λ c. c.item) cells x n → v ≡ seen.value
      → AnswersAt cells new n tx seen
      → ForSome s.pledge (λ p. length p.part < more.log) → spare.ended ≤ more.ended
      → IsKept (record s { entries = s.entries ++ one }) new ended more
  kept-read cells new ended spare more n seen rising kept at value answers log ends =
      let after = read_cells cells new n seen rising kept.each at value answers in
      record {
        site = site-quiet s one tx site may.active read_quiet s.pledge
            (single_orderly s.items (Read tx x v)
            (λ y is. subst (Contains (names s.items)) (same_Some x y is) may.known) (λ o. o)) read_follows
            legal_one
            (λ m e at want. absurd (subst IsWant (is_single (Read tx x v) e (Contains-from_at one m e at)) want))
            (λ p is. covered-read p (λ same. may.free (p.part, is ∙ ap Some (same_pledge p same))) (site.pledged p is));
        names_same = answered-items cells new n tx seen answers ∙ kept.names_same;
        each = after;
        ends_rise = kept.ends_rise;
        ends = λ t. (
          λ has. HasEnded-append s.entries one t ((kept.ends t).0 has),
          λ has. (kept.ends t).1 (HasEnded-cases s.entries one t has (λ old. old) (λ new. absurd (no_end t new))),
        );
        room = λ p is. let old = kept.room p is in
            record {
              log = log p is;
              ended =
                  omega (arith, old.ended, ends);
              touched = touched-set p old;
            };
      }
    where
      same_pledge : (p : Pledge) → p.tx ≡ tx → p ≡ record { tx = tx; part = p.part }
      same_pledge p same = λ i. record { tx = same i; part = p.part }

      touched-set : (p : Pledge) → HasRoom p.part cells spare → All (λ c. IsTouched p.part c.item → 0 < c.has_room) new
      touched-set p old = subst (All (λ (c : Contents). IsTouched p.part c.item → 0 < c.has_room))
          (sym answers.others) (All-from_at (λ (c : Contents). IsTouched p.part c.item
          → 0 < c.has_room) (set cells n answers.answered) (λ k c here. by_place k c here))
        where
          by_place : (k : ℕ) (c : Contents) → slice_get (set cells n answers.answered) k ≡ Some c
              → IsTouched p.part c.item → 0 < c.has_room
          by_place k c here = elim (cases_Bool (k == n)) [
            | inl hit ↦
                let same : k ≡ n = grind (arith, nat_tests) in
                let is : answers.answered ≡ c =
                same_Some answers.answered c (sym (get_set_same cells n answers.answered at.within)
                ∙ ap (slice_get (set cells n answers.answered)) (sym same) ∙ here) in
                subst (λ (d : Contents). IsTouched p.part d.item → 0 < d.has_room) (sym answers.reads.same
                ∙ is) (All_at (λ (d : Contents). IsTouched p.part d.item
                → 0 < d.has_room) cells n answers.cell old.touched answers.at)
            | inr miss ↦ All_at (λ (d : Contents). IsTouched p.part d.item → 0 < d.has_room) cells k c old.touched
                (sym (get_set_other cells n k answers.answered (λ same. absurd (let hit : (k == n) ≡ true =
                grind (arith, nat_tests) in cc))) ∙ here)
          ]

      legal_one : (m t : ℕ) (y : Name) (w : ℕ) → slice_get one m ≡ Some (Read t y w)
          → value_at s.items (s.entries ++ take m one) y ≡ Some w
      legal_one zero t y w at =
          let item : x ≡ y = cc in
          let value : v ≡ w = cc in
          ap (λ (ds : List Entry). value_at s.items ds y) (append-nil s.entries)
          ∙ ap (value_at s.items s.entries) (sym item) ∙ legal ∙ ap Some value
      legal_one (suc m) t y w at = absurd cc

-- a withdrawal, under the transaction's pledge
module _ (s : SiteState) (tx : ℕ) (site : IsSite s) (active : HasEnded s.entries tx → ⊥) where
  abbrev gone : List Entry
  gone = Withdraw tx ∷ []

  gone_follows : MayFollow s.entries gone
  gone_follows = record {
    once = λ e f in_es in_gone y repeats. no_repeat e y
        (subst (λ g. Repeats y e g) (is_single (Withdraw tx) f in_gone) repeats);
    closed = λ e f in_es in_gone ends same. active (has_ended e in_es ends (same
        ∙ ap tx_of (is_single (Withdraw tx) f in_gone)));
  }
    where
      no_repeat : (e : Entry) (y : Name) → Repeats y e (Withdraw tx) → ⊥
      no_repeat e y (same, inl reads) = reads.1
      no_repeat e y (same, inr writes) = writes.1

      has_ended : (e : Entry) → Contains s.entries e → IsEnd e → tx_of e ≡ tx → HasEnded s.entries tx
      has_ended e in_es ends same = let at = Contains_at s.entries e in_es in
          Any-from_at (λ e. (tx_of e ≡ tx) × IsEnd e) s.entries at.0 e at.1 (same, ends)

  gone_quiet : IsQuiet gone tx
  gone_quiet = record {
    values = λ y. refl;
    commits = refl;
    reads = λ m t y w at. let e = is_single (Withdraw tx) (Read t y w) (Contains-from_at gone m (Read t y w) at) in
        absurd cc;
  }

  pub kept-withdraw : (cells : List Contents) (ended ends : List ℕ) (spare more : Spare) → IsKept s cells ended spare
      → Ends ended ends tx → IsKept (record s { entries = s.entries ++ gone; pledge = None }) cells ends more
  kept-withdraw cells ended ends spare more kept ending = record {
    site = site-quiet s gone tx site active gone_quiet None (single_orderly s.items (Withdraw tx) (λ y is. absurd cc)
        (λ o. o)) gone_follows
        (λ m t y w at. let e = is_single (Withdraw tx) (Read t y w) (Contains-from_at gone m (Read t y w) at) in
        absurd cc)
        (λ m e at want. absurd (subst IsWant (is_single (Withdraw tx) e (Contains-from_at gone m e at)) want))
        (λ p is. absurd cc);
    names_same = kept.names_same;
    each = cells-quiet s gone tx site active gone_quiet (λ m t y w at. let e =
        is_single (Withdraw tx) (Read t y w) (Contains-from_at gone m (Read t y w) at) in absurd cc) cells kept.each;
    ends_rise = ending.rising;
    ends = ended-one s.entries gone tx ended ends kept.ends ending
        (Any-from_at (λ e. (tx_of e ≡ tx) × IsEnd e) gone 0 (Withdraw tx) refl (refl, tt)) (λ t has. let a =
        Any_at (λ e. (tx_of e ≡ t) × IsEnd e) gone has in sym a.3.0
        ∙ ap tx_of (is_single (Withdraw tx) a.1 (Contains-from_at gone a.0 a.1 a.2)));
    room = λ p is. absurd cc;
  }

-- the pledge that stands, as it is kept
pub pledged_is : (pledged : Option ℕ) (part : List Touch) (tx : ℕ) → pledged ≡ Some tx
    → pledge_of pledged part ≡ Some (record { tx = tx; part = part })
pledged_is pledged part tx is = ap (λ (o : Option ℕ). pledge_of o part) is

pub pledged_by : (pledged : Option ℕ) (part other : List Touch) (tx : ℕ)
    → pledge_of pledged part ≡ Some (record { tx = tx; part = other }) → pledged ≡ Some tx
pledged_by None part other tx h = absurd cc
pledged_by (Some t) part other tx h =
    ap Some (ap (λ (p : Pledge). p.tx) (same_Some _ (record { tx = tx; part = other }) h))

pub pledged_some : (pledged : Option ℕ) (part : List Touch) → is_some pledged ≡ true → pledge_of pledged part ≡ None → ⊥
pledged_some None part some none = absurd cc
pledged_some (Some t) part some none = absurd cc

pub pledged_none : (pledged : Option ℕ) → is_some pledged ≡ false → pledged ≡ None
pledged_none None none = refl
pledged_none (Some t) none = absurd cc

pub no_pledge : (pledged : Option ℕ) (part : List Touch) → pledge_of pledged part ≡ None → pledged ≡ None
no_pledge None part none = refl
no_pledge (Some t) part none = absurd cc

pub pledged_part : (pledged : Option ℕ) (part : List Touch) (p : Pledge) → pledge_of pledged part ≡ Some p
    → part ≡ p.part
pledged_part None part p h = absurd cc
pledged_part (Some t) part p h = ap (λ (q : Pledge). q.part) (same_Some _ p h)

-- more room changes nothing
pub kept-roomier : (s : SiteState) (cells : List Contents) (ended : List ℕ) (spare more : Spare)
    → IsKept s cells ended spare → spare.log ≤ more.log → spare.ended ≤ more.ended
    → IsKept s cells ended more
kept-roomier s cells ended spare more kept log ends = record {
  site = kept.site;
  names_same = kept.names_same;
  each = kept.each;
  ends_rise = kept.ends_rise;
  ends = kept.ends;
  room = λ p is. let old = kept.room p is in record {
    log = omega (arith, old.log, log);
    ended = omega (arith, old.ended, ends);
    touched = old.touched;
  };
}

-- the cells' values are those at the end of the log
pub finals-legal : (items : List Holding) (ws : List Install) (es : List Entry) (cells : List Contents)
    → All (IsCell items ws es) cells → FinalsAreLegal items es (values_of cells)
finals-legal items ws es cells each = All-from_at (λ h. value_at items es h.item ≡ Some h.value) (values_of cells)
    (λ n h at.
    let from = map_at (λ (c : Contents). record { item = c.item; value = c.value }) cells n h at in
    subst (λ (g : Holding). value_at items es g.item ≡ Some g.value) from.2
    (All_at (IsCell items ws es) cells n from.0 each from.1).value)
