-- Neighbours carry every conflict: over the writers between, each edge of the rule is a walk.
use Rattle.std.proofs.Common.{◌≡◌, ◌≢◌, ℕ, zero, suc, true, false, Some, ◌+◌, ◌-◌, ◌<◌, ◌≤◌, ◌⊎◌, List, length, take, refl, sym, ap, ◌∙◌, subst, arith, inl, inr}
use Rattle.std.specs.Prelude.{slice_get, ◌==◌}
use Rattle.std.proofs.lemmas.Bool.{cases_lt, cases_order, cases_Bool, eqb-true, eqb-false}
use Rattle.std.proofs.Math.Seq.{take-length}
use Rattle.std.proofs.lemmas.Option.{same_Some, slice_get_within}
use Rattle.std.proofs.lemmas.Slice.Eq.{bytes_eq-Decides}
use Rattle.std.specs.Str.{bytes_eq}
use Rattle.sgt_names.specs.Name.{Name}
use Rattle.sgt_names.specs.Entry.{tx_of, change_of, is_increment, Reads, Repeats}
use Rattle.sgt_names.specs.declared.draft.Touch.{Touch}
use Rattle.sgt_names.specs.declared.entry.Change.TheVariants.{Put, Add}
use Rattle.sgt_names.specs.declared.entry.Entry.{Entry}
use Rattle.sgt_names.specs.declared.entry.Entry.TheVariants.{Read, Write, Add as AddEntry, Want, WantAdd, Commit, Refuse, Withdraw}
use Rattle.sgt_names.specs.declared.entry.Kind.{Kind}
use Rattle.sgt_names.specs.declared.entry.Kind.TheVariants.{Wr, Rw, Ww}
use Rattle.sgt_names.proofs.Increments.{change-writes}
use Rattle.sgt_names.proofs.Lists.{option_cases, within_at, Any-from_at}
use Rattle.sgt_names.proofs.Places.{AllPairs_at, Contains_at}
use Rattle.sgt_arena.specs.declared.handle.Handle.{Handle}
use Rattle.sgt_site.specs.State.{SiteState, IsSite, version_at, handle_of, writers_of}
use Rattle.sgt_site.specs.declared.cell.Reader.{Reader}
use Rattle.sgt_site.specs.declared.cell.Writer.{Writer}
use Rattle.sgt_site.proofs.Appends.{count-rises, count-next}
use Rattle.sgt_site.proofs.Projections.{writer_at, length-writers, all_given}
use Rattle.sgt_edges.specs.Edges.{IsWriter, HasReader, SawAt, IsToChange, Precedes, wrote_before, wrote_after, wrote_too, read_it, IsEdge, IsOldEdge, Walks, given, old, on, StandsForAll, SeesTooNew}
use Rattle.sgt_edges.specs.Neighbours.{AddsOnly, IsUnread, IsInFront, IsBehind, IsLastWrite, IsNeighbour, in_front, behind, put_last, add_last, put_read, add_read, HaveNeighbours}
use Rattle.sgt_edges.proofs.Logged.{read-changes_nothing}
use Rattle.sgt_edges.specs.declared.edge.Edge.{Edge}

-- two handles are one, or differ
handle_or : (a b : Handle) → (a ≡ b) ⊎ (a ≢ b)
handle_or a b = elim (cases_Bool (a.index == b.index)) [
  | inl hit ↦ elim (cases_Bool (a.generation == b.generation)) [
    | inl same ↦ inl (λ i. record {
      index = (eqb-true a.index b.index hit) i;
      generation =
          (eqb-true a.generation b.generation same) i;
    })
    | inr other ↦ inr (λ e. eqb-false a.generation b.generation other (ap (λ (h : Handle). h.generation) e))
  ]
  | inr miss ↦ inr (λ e. eqb-false a.index b.index miss (ap (λ (h : Handle). h.index) e))
]

-- an entry reads the item, or doesn't
reads_or : (x : Name) (e : Entry) → (Reads x e → ⊥) ⊎ ((tx v : ℕ) × (e ≡ Read tx x v))
reads_or x (Read tx y v) = elim (cases_Bool (bytes_eq y x)) [
  | inl hit ↦ inr (tx, v, ap (λ (z : Name). Read tx z v) ((bytes_eq-Decides y x).0 hit))
  | inr miss ↦ inl (λ same. absurd (let e = sym miss ∙ (bytes_eq-Decides y x).1 same in cc))
]
reads_or x (Write tx y v) = inl (λ reads. reads)
reads_or x (AddEntry tx y v) = inl (λ reads. reads)
reads_or x (Want tx y v) = inl (λ reads. reads)
reads_or x (WantAdd tx y v) = inl (λ reads. reads)
reads_or x (Commit tx) = inl (λ reads. reads)
reads_or x (Refuse tx) = inl (λ reads. reads)
reads_or x (Withdraw tx) = inl (λ reads. reads)

module _ (s : SiteState) (x : Name) (site : IsSite s) where
  abbrev last : ℕ
  last = version_at s.entries x

  -- there is a writer for each number below the version
  writer_there : (k : ℕ) → k < last → (w : Writer) × IsWriter s x k w
  writer_there k lt =
      let many = length-writers s.installed s.entries x (all_given s site) in
      within_at (writers_of s.installed s.entries x) k (omega (arith, many, lt))

  writer_below : (k : ℕ) (w : Writer) → IsWriter s x k w → k < last
  writer_below k w is =
      let many = length-writers s.installed s.entries x (all_given s site) in
      let lt = slice_get_within (writers_of s.installed s.entries x) k w is in
      omega (arith, many, lt)

  -- from a version on there are increments alone up to another, or there is a write between
  run_or_write : (n m : ℕ) → m ≤ last
      → AddsOnly s x n m ⊎ ((j : ℕ) × (w : Writer) × (n ≤ j) × (j < m) × IsWriter s x j w × (w.increment ≡ false))
  run_or_write n zero le = inl (λ j w from below is. absurd (omega (arith, below)))
  run_or_write n (suc m) le = elim (run_or_write n m (omega (arith, le))) [
    | inr found ↦ let lt = found.3 in inr (found.0, found.1, found.2, omega (arith, lt), found.4, found.5)
    | inl run ↦
        let w = writer_there m (omega (arith, le)) in
        elim (cases_lt m n) [
          | inl less ↦ inl (λ j u from below is. absurd (omega (arith, from, below, less)))
          | inr more ↦ elim (cases_Bool w.0.increment) [
            | inr write ↦ inr (m, w.0, more, omega arith, w.1, write)
            | inl adds ↦ inl (λ j u from below is. elim (cases_lt j m) [
              | inl early ↦ run j u from early is
              | inr late ↦
                  let here : j ≡ m = omega (arith, below, late) in
                  ap (λ (v : Writer). v.increment)
                  (same_Some u w.0 (sym is ∙ ap (slice_get (writers_of s.installed s.entries x)) here ∙ w.1)) ∙ adds
            ])
          ]
        ]
  ]

  -- of two changes that are not both increments, the earlier one has an edge to the later
  writers_old : (k m : ℕ) (w u : Writer) → k < m → IsWriter s x k w → IsWriter s x m u
      → (w.increment ≡ false) ⊎ (u.increment ≡ false) → IsOldEdge s x w.handle u.handle
  writers_old k m w u lt is_w is_u which =
      let a = writer_at s site x k w is_w in
      let b = writer_at s site x m u is_u in
      let order : a.place < b.place = elim (cases_lt a.place b.place) [
        | inl less ↦ less
        | inr le ↦ let more = count-rises (change_of x) s.entries b.place a.place le in
            absurd (omega (arith, more, a.number, b.number, lt))
      ] in
      record {
        first = w.tx;
        second = u.tx;
        from_first = a.is.given;
        to_second = b.is.given;
        kind = Ww;
        conflict = record {
          p = a.place;
          q = b.place;
          e = a.entry;
          f = b.entry;
          before = order;
          first = a.at;
          second = b.at;
          from = a.is.tx;
          to = b.is.tx;
          apart = λ same. AllPairs_at (λ e f. (y : Name) → Repeats y e f
              → ⊥) s.entries a.place b.place a.entry b.entry site.orderly.once order a.at b.at x (
                a.is.tx ∙ same
                    ∙ sym b.is.tx,
                inr (
                  change-writes x a.entry a.is.change a.is.changes,
                  change-writes x b.entry b.is.change b.is.changes,
                ),
              );
          clash = (
            change-writes x a.entry a.is.change a.is.changes,
            change-writes x b.entry b.is.change b.is.changes,
            not_both a.entry b.entry a.is.adds b.is.adds which,
          );
        };
      }
    where
      not_both : (e f : _) → is_increment e ≡ w.increment → is_increment f ≡ u.increment
          → (w.increment ≡ false) ⊎ (u.increment ≡ false) → is_increment e ≡ true → is_increment f ≡ true → ⊥
      not_both e f of_w of_u (inl write) adds_e adds_f = absurd cc
      not_both e f of_w of_u (inr write) adds_e adds_f = absurd cc

  -- a reader has an edge to each later change by another transaction
  reader_old : (r : Reader) (m : ℕ) (u : Writer) → HasReader s x r → IsWriter s x m u → r.version ≤ m → r.tx ≢ u.tx
      → IsOldEdge s x r.handle u.handle
  reader_old r m u reads is le other =
      let l = reads.1.1 in
      let b = writer_at s site x m u is in
      let order : l.place < b.place = elim (cases_order b.place l.place) [
        | inl same ↦ absurd (read-changes_nothing x b.entry b.is.change r.tx x reads.1.0 b.is.changes
            (same_Some b.entry (Read r.tx x reads.1.0) (sym b.at ∙ ap (slice_get s.entries) same ∙ l.at)))
        | inr (inl less) ↦ let one =
            count-next (change_of x) s.entries b.place l.place b.entry b.is.change b.at b.is.changes less in
            absurd (omega (arith, one, b.number, l.version, le))
        | inr (inr more) ↦ more
      ] in
      record {
        first = r.tx;
        second = u.tx;
        from_first = reads.0;
        to_second = b.is.given;
        kind = Rw;
        conflict = record {
          p = l.place;
          q = b.place;
          e = Read r.tx x reads.1.0;
          f = b.entry;
          before = order;
          first = l.at;
          second = b.at;
          from = refl;
          to = b.is.tx;
          apart = other;
          clash = (refl, change-writes x b.entry b.is.change b.is.changes);
        };
      }

  -- a change has an edge to each later reader of another transaction
  old_reader : (k : ℕ) (w : Writer) (r : Reader) → IsWriter s x k w → HasReader s x r → k < r.version → w.tx ≢ r.tx
      → IsOldEdge s x w.handle r.handle
  old_reader k w r is reads lt other =
      let l = reads.1.1 in
      let b = writer_at s site x k w is in
      let order : b.place < l.place = elim (cases_lt b.place l.place) [
        | inl less ↦ less
        | inr le ↦ let more = count-rises (change_of x) s.entries l.place b.place le in
            absurd (omega (arith, more, b.number, l.version, lt))
      ] in
      record {
        first = w.tx;
        second = r.tx;
        from_first = b.is.given;
        to_second = reads.0;
        kind = Wr;
        conflict = record {
          p = b.place;
          q = l.place;
          e = b.entry;
          f = Read r.tx x reads.1.0;
          before = order;
          first = b.at;
          second = l.at;
          from = b.is.tx;
          to = refl;
          apart = other;
          clash = (change-writes x b.entry b.is.change b.is.changes, refl);
        };
      }

  -- a reader that changed the item itself has one handle
  same_handle : (r : Reader) (m : ℕ) (u : Writer) → HasReader s x r → IsWriter s x m u → r.tx ≡ u.tx
      → r.handle ≡ u.handle
  same_handle r m u reads is same = same_Some r.handle u.handle (sym reads.0 ∙ ap (handle_of s.installed) same
      ∙ (writer_at s site x m u is).is.given)

  pub reader_below : (r : Reader) → HasReader s x r → r.version ≤ last
  reader_below r reads =
      let l = reads.1.1 in
      let lt = slice_get_within s.entries l.place (Read r.tx x reads.1.0) l.at in
      let more = count-rises (change_of x) s.entries l.place (length s.entries) (omega (arith, lt)) in
      let whole : version_at (take (length s.entries) s.entries) x ≡ last =
      ap (λ es. version_at es x) (take-length s.entries) in
      omega (arith, more, whole, l.version)

  -- a committed reader of a version from n on and below m
  abbrev IsRead : ℕ → ℕ → Type 0
  IsRead n m = (r : Reader) × HasReader s x r × (n ≤ r.version) × (r.version < m)

  -- there is one whose read has this place in the log, or one whose read has an earlier place, or one at all, or
  -- there is none
  read_at : (n m p : ℕ) → ((r : Reader) (is : HasReader s x r) → is.1.1.place ≡ p → n ≤ r.version → r.version < m → ⊥)
      ⊎ IsRead n m
  read_at n m p = elim (option_cases (slice_get s.entries p)) [
    | inl none ↦ inl (λ r is here from below. absurd (let e = sym none ∙ ap (slice_get s.entries) (sym here)
        ∙ is.1.1.at in cc))
    | inr some ↦ elim (reads_or x some.0) [
      | inl other ↦ inl (λ r is here from below. other (subst (Reads x) (sym (read_is some.0 some.1 r is here)) refl))
      | inr read ↦ elim (option_cases (handle_of s.installed read.0)) [
        | inl none ↦ inl (λ r is here from below.
            let same : read.0 ≡ r.tx = ap tx_of (sym read.2 ∙ read_is some.0 some.1 r is here) in
            absurd (let e = sym none ∙ ap (handle_of s.installed) same ∙ is.0 in cc))
        | inr owner ↦ elim (cases_lt (version_at (take p s.entries) x) n) [
          | inl older ↦ inl (λ r is here from below. let v = version_is r is here in omega (arith, older, from, v))
          | inr new ↦ elim (cases_lt (version_at (take p s.entries) x) m) [
            | inr late ↦ inl (λ r is here from below. let v = version_is r is here in omega (arith, late, below, v))
            | inl early ↦ inr (
              record { tx = read.0; handle = owner.0; version = version_at (take p s.entries) x },
              (owner.1, (read.1, record { place = p; at = some.1 ∙ ap Some read.2; version = refl })),
              new,
              early,
            )
          ]
        ]
      ]
    ]
  ]
    where
      read_is : (e : Entry) → slice_get s.entries p ≡ Some e → (r : Reader) (is : HasReader s x r) → is.1.1.place ≡ p
          → e ≡ Read r.tx x is.1.0
      read_is e at r is here = same_Some e (Read r.tx x is.1.0) (sym at ∙ ap (slice_get s.entries) (sym here)
          ∙ is.1.1.at)

      version_is : (r : Reader) (is : HasReader s x r) → is.1.1.place ≡ p → version_at (take p s.entries) x ≡ r.version
      version_is r is here = ap (λ q. version_at (take q s.entries) x) (sym here) ∙ is.1.1.version

  read_within : (n m p : ℕ) → ((r : Reader) (is : HasReader s x r) → is.1.1.place < p → n ≤ r.version → r.version < m
      → ⊥) ⊎ IsRead n m
  read_within n m zero = inl (λ r is lt from below. omega (arith, lt))
  read_within n m (suc p) = elim (read_within n m p) [
    | inr found ↦ inr found
    | inl none ↦ elim (read_at n m p) [
      | inr found ↦ inr found
      | inl not_here ↦ inl (λ r is lt from below. elim (cases_lt is.1.1.place p) [
        | inl early ↦ none r is early from below
        | inr late ↦ not_here r is (omega (arith, lt, late)) from below
      ])
    ]
  ]

  read_or_not : (n m : ℕ) → IsUnread s x n m ⊎ IsRead n m
  read_or_not n m = elim (read_within n m (length s.entries)) [
    | inr found ↦ inr found
    | inl none ↦ inl
        (λ r is from below. none r is (slice_get_within s.entries is.1.1.place (Read r.tx x is.1.0) is.1.1.at) from
        below)
  ]

  module _ (touched : List Touch) (me : Handle) (edges : List Edge) (have : HaveNeighbours s touched me edges) where
    -- one is me, or a walk leads from it to me; and the same from me
    abbrev ToMe : Handle → Type 0
    ToMe h = (h ≡ me) ⊎ Walks s x edges h me

    abbrev FromMe : Handle → Type 0
    FromMe h = (me ≡ h) ⊎ Walks s x edges me h

    over_old : (g h : Handle) → IsOldEdge s x g h → ToMe h → ToMe g
    over_old g h first (inl same) = inr (subst (λ i. Walks s x edges g i) same (old g h first))
    over_old g h first (inr walk) = inr (on g h me (old g h first) walk)

    old_over : (g h : Handle) → FromMe g → IsOldEdge s x g h → FromMe h
    old_over g h (inl same) second = inr (subst (λ i. Walks s x edges i h) (sym same) (old g h second))
    old_over g h (inr walk) second = inr (on me g h walk (old g h second))

    to_me : (h : Handle) (kind : Kind) → IsNeighbour s touched me x h me kind → ToMe h
    to_me h kind near = elim (handle_or h me) [
      | inl same ↦ inl same
      | inr far ↦ inr (given (record { from = h; to = me; label = record { site = s.number; item = x; kind = kind } })
          (have x h me kind far near) refl)
    ]

    from_me : (h : Handle) (kind : Kind) → IsNeighbour s touched me x me h kind → FromMe h
    from_me h kind near = elim (handle_or me h) [
      | inl same ↦ inl same
      | inr far ↦ inr (given (record { from = me; to = h; label = record { site = s.number; item = x; kind = kind } })
          (have x me h kind far near) refl)
    ]

    -- a reader leads over a later change
    reader_over : (r : Reader) (m : ℕ) (u : Writer) → HasReader s x r → IsWriter s x m u → r.version ≤ m
        → ToMe u.handle → ToMe r.handle
    reader_over r m u reads is le leads = elim (cases_Bool (r.tx == u.tx)) [
      | inl hit ↦ subst ToMe (sym (same_handle r m u reads is (eqb-true r.tx u.tx hit))) leads
      | inr miss ↦ over_old r.handle u.handle (reader_old r m u reads is le (eqb-false r.tx u.tx miss)) leads
    ]

    -- a change leads over a later reader
    writer_over : (k : ℕ) (w : Writer) (r : Reader) → IsWriter s x k w → HasReader s x r → k < r.version
        → ToMe r.handle → ToMe w.handle
    writer_over k w r is reads lt leads = elim (cases_Bool (w.tx == r.tx)) [
      | inl hit ↦ subst ToMe (same_handle r k w reads is (sym (eqb-true w.tx r.tx hit))) leads
      | inr miss ↦ over_old w.handle r.handle (old_reader k w r is reads lt (eqb-false w.tx r.tx miss)) leads
    ]

    -- and where one is led to, so is the other behind it
    reader_from : (k : ℕ) (w : Writer) (r : Reader) → IsWriter s x k w → HasReader s x r → k < r.version
        → FromMe w.handle → FromMe r.handle
    reader_from k w r is reads lt leads = elim (cases_Bool (w.tx == r.tx)) [
      | inl hit ↦ subst FromMe (sym (same_handle r k w reads is (sym (eqb-true w.tx r.tx hit)))) leads
      | inr miss ↦ old_over w.handle r.handle leads (old_reader k w r is reads lt (eqb-false w.tx r.tx miss))
    ]

    writer_from : (r : Reader) (m : ℕ) (u : Writer) → HasReader s x r → IsWriter s x m u → r.version ≤ m
        → FromMe r.handle → FromMe u.handle
    writer_from r m u reads is le leads = elim (cases_Bool (r.tx == u.tx)) [
      | inl hit ↦ subst FromMe (same_handle r m u reads is (eqb-true r.tx u.tx hit)) leads
      | inr miss ↦ old_over r.handle u.handle leads (reader_old r m u reads is le (eqb-false r.tx u.tx miss))
    ]

    -- each writer in front of a version leads over those directly in front of it
    front : (fuel n k : ℕ) (w : Writer) → n ≤ last → n ≤ k + fuel → k < n → IsWriter s x k w
        → ((j : ℕ) (u : Writer) → IsInFront s x n j u → ToMe u.handle) → ToMe w.handle
    front zero n k w le far lt is near = absurd (omega (arith, far, lt))
    front (suc fuel) n k w le far lt is near = elim (run_or_write (suc k) n le) [
      | inr found ↦
          let more = found.2 in
          over_old w.handle found.1.handle (writers_old k found.0 w found.1 (omega (arith, more)) is found.4
          (inr found.5)) (front fuel n found.0 found.1 le (omega (arith, far, more)) found.3 found.4 near)
      | inl run ↦ elim (cases_Bool w.increment) [
        | inl adds ↦ elim (read_or_not (suc k) n) [
          | inl unread ↦ near k w record { writer = is; before = lt; run = run; which = inl adds; unread = unread }
          | inr read ↦
              let later = read.2 in
              let below = read.3 in
              let u = writer_there read.0.version (omega (arith, below, le)) in
              let leads = front fuel n read.0.version u.0 le (omega (arith, far, later)) below u.1 near in
              writer_over k w read.0 is read.1 (omega (arith, later))
              (reader_over read.0 read.0.version u.0 read.1 u.1 (omega arith) leads)
        ]
        | inr write ↦ elim (cases_lt (suc k) n) [
          | inr end ↦ near k w record {
            writer = is;
            before = lt;
            run = run;
            which = inr (let e : suc k ≡ n = omega (arith, lt, end) in e);
            unread = λ r reads from below. omega (arith, end, from, below);
          }
          | inl less ↦
              let u = writer_there (suc k) (omega (arith, less, le)) in
              over_old w.handle u.0.handle (writers_old k (suc k) w u.0 (omega arith) is u.1 (inl write))
              (front fuel n (suc k) u.0 le (omega (arith, far)) less u.1 near)
        ]
      ]
    ]

    -- each write leads over the last one
    front_write : (fuel k : ℕ) (w : Writer) → last ≤ k + fuel → IsWriter s x k w → w.increment ≡ false
        → ((j : ℕ) (u : Writer) → IsLastWrite s x j u → ToMe u.handle) → ToMe w.handle
    front_write zero k w far is write near = absurd (let lt = writer_below k w is in omega (arith, far, lt))
    front_write (suc fuel) k w far is write near = elim (run_or_write (suc k) last (omega arith)) [
      | inl run ↦ near k w record { writer = is; write = write; run = run }
      | inr found ↦
          let more = found.2 in
          over_old w.handle found.1.handle (writers_old k found.0 w found.1 (omega (arith, more)) is found.4
          (inl write)) (front_write fuel found.0 found.1 (omega (arith, far, more)) found.4 found.5 near)
    ]

    -- and each writer from a version on is led to over those up to the next write
    after : (fuel n k : ℕ) (w : Writer) → k ≤ fuel → n ≤ k → IsWriter s x k w
        → ((j : ℕ) (u : Writer) → IsBehind s x n j u → FromMe u.handle) → FromMe w.handle
    after zero n k w far le is near = near k w record {
      writer = is;
      after = le;
      run = λ j u from below at. absurd (omega (arith, far, below));
      unread = λ r reads from below. omega (arith, far, from, below);
    }
    after (suc fuel) n k w far le is near =
        elim (run_or_write n k (let lt = writer_below k w is in omega (arith, lt))) [
          | inl run ↦ elim (read_or_not (suc n) (suc k)) [
            | inl unread ↦ near k w record { writer = is; after = le; run = run; unread = unread }
            | inr read ↦
                let later = read.2 in
                let below = read.3 in
                let most = writer_below k w is in
                let u = writer_there (read.0.version - 1) (omega (arith, later, below, most)) in
                let leads = after fuel n (read.0.version - 1) u.0 (omega (arith, far, below)) (omega (arith, later)) u.1
                near in
                writer_from read.0 k w read.1 is (omega (arith, below))
                (reader_from (read.0.version - 1) u.0 read.0 u.1 read.1 (omega (arith, later)) leads)
          ]
          | inr found ↦
              let lt = found.3 in
              old_over found.1.handle w.handle
              (after fuel n found.0 found.1 (omega (arith, far, lt)) found.2 found.4 near)
              (writers_old found.0 k found.1 w lt found.4 is (inl found.5))
        ]

    -- an increment directly in front of a write leads over a reader of the present version
    put_near : (v k : ℕ) (w : Writer) → IsToChange s touched x (Put v) → IsInFront s x last k w → ToMe w.handle
    put_near v k w asks near = elim (cases_Bool w.increment) [
      | inr write ↦ to_me w.handle Ww (put_last v k w asks near (inl write))
      | inl adds ↦ elim (read_or_not last (suc last)) [
        | inl unread ↦ to_me w.handle Ww (put_last v k w asks near (inr unread))
        | inr read ↦
            let le = read.2 in
            let lt = read.3 in
            let before = near.before in
            writer_over k w read.0 near.writer read.1 (omega (arith, before, le))
            (to_me read.0.handle Rw (put_read v read.0 asks read.1 (omega (arith, le, lt))))
      ]
    ]

    put_front : (v k : ℕ) (w : Writer) → IsToChange s touched x (Put v) → IsWriter s x k w → ToMe w.handle
    put_front v k w asks is = front last last k w (omega arith) (omega arith) (writer_below k w is) is
        (λ j u near. put_near v j u asks near)

    add_front : (v k : ℕ) (w : Writer) → IsToChange s touched x (Add v) → IsWriter s x k w → w.increment ≡ false
        → ToMe w.handle
    add_front v k w asks is write =
        front_write last k w (omega arith) is write (λ j u near. to_me u.handle Ww (add_last v j u asks near))

    put_reader : (v : ℕ) (r : Reader) → IsToChange s touched x (Put v) → HasReader s x r → ToMe r.handle
    put_reader v r asks reads = elim (cases_lt r.version last) [
      | inl less ↦ let u = writer_there r.version less in
          reader_over r r.version u.0 reads u.1 (omega arith) (put_front v r.version u.0 asks u.1)
      | inr more ↦ let le = reader_below r reads in
          to_me r.handle Rw (put_read v r asks reads (omega (arith, le, more)))
    ]

    -- a reader since the last write leads over the last ones
    reader_since : (fuel v : ℕ) (r : Reader) → last ≤ r.version + fuel → IsToChange s touched x (Add v)
        → HasReader s x r → AddsOnly s x r.version last → ToMe r.handle
    reader_since zero v r far asks reads run =
        to_me r.handle Rw (add_read v r asks record {
          reader = reads;
          run = run;
          unread =
              λ q is from below. omega (arith, far, from, below);
        })
    reader_since (suc fuel) v r far asks reads run = elim (read_or_not (suc r.version) (suc last)) [
      | inl unread ↦ to_me r.handle Rw (add_read v r asks record { reader = reads; run = run; unread = unread })
      | inr read ↦
          let later = read.2 in
          let below = read.3 in
          let u = writer_there r.version (omega (arith, later, below)) in
          let leads =
          reader_since fuel v read.0 (omega (arith, far, later)) asks read.1
          (λ j w from less is. run j w (omega (arith, from, later)) less is) in
          reader_over r r.version u.0 reads u.1 (omega arith)
          (writer_over r.version u.0 read.0 u.1 read.1 (omega (arith, later)) leads)
    ]

    add_reader : (v : ℕ) (r : Reader) → IsToChange s touched x (Add v) → HasReader s x r → ToMe r.handle
    add_reader v r asks reads = elim (run_or_write r.version last (omega arith)) [
      | inl run ↦ reader_since last v r (omega arith) asks reads run
      | inr found ↦ reader_over r found.0 found.1 reads found.4 found.2
          (add_front v found.0 found.1 asks found.4 found.5)
    ]

    not_me : (h : Handle) → h ≢ me → ToMe h → Walks s x edges h me
    not_me h far (inl same) = absurd (far same)
    not_me h far (inr walk) = walk

    not_from_me : (h : Handle) → me ≢ h → FromMe h → Walks s x edges me h
    not_from_me h far (inl same) = absurd (far same)
    not_from_me h far (inr walk) = walk

    saw_below : (n : ℕ) → (SeesTooNew s touched → ⊥) → SawAt s touched x n → n ≤ last
    saw_below n old_enough saw = elim (cases_lt last n) [
      | inl new ↦ absurd (old_enough (let at = Contains_at _ _ saw.1 in Any-from_at _ _ at.0 (x, saw.0, n) at.1 new))
      | inr le ↦ le
    ]

    carried : (f t : Handle) (kind : Kind) → (SeesTooNew s touched → ⊥) → f ≢ t → Precedes s touched me x f t kind
        → Walks s x edges f t
    carried f t kind fine far (wrote_before n k w saw less is) =
        not_me w.handle far (front last n k w (saw_below n fine saw) (let le = saw_below n fine saw in
        omega (arith, le)) less is (λ j u near. to_me u.handle Wr (in_front n j u saw near)))
    carried f t kind fine far (wrote_after n k w saw more is) =
        not_from_me w.handle far
        (after k n k w (omega arith) more is (λ j u near. from_me u.handle Rw (behind n j u saw near)))
    carried f t kind fine far (wrote_too (Put v) k w asks is conflict) = not_me w.handle far (put_front v k w asks is)
    carried f t kind fine far (wrote_too (Add v) k w asks is conflict) =
        not_me w.handle far (add_front v k w asks is conflict)
    carried f t kind fine far (read_it (Put v) r asks reads) = not_me r.handle far (put_reader v r asks reads)
    carried f t kind fine far (read_it (Add v) r asks reads) = not_me r.handle far (add_reader v r asks reads)

pub neighbours-carry : (s : SiteState) (touched : List Touch) (me : Handle) (edges : List Edge) → IsSite s
    → (SeesTooNew s touched → ⊥) → HaveNeighbours s touched me edges → StandsForAll s touched me edges
neighbours-carry s touched me edges site fine have x f t kind is =
    carried s x site touched me edges have f t kind fine is.0 is.1

-- and each neighbour under another handle is an edge of the rule
pub neighbour-edge : (s : SiteState) (touched : List Touch) (me : Handle) (x : Name) (f t : Handle) (kind : Kind)
    → f ≢ t → IsNeighbour s touched me x f t kind → IsEdge s touched me x f t kind
neighbour-edge s touched me x f t kind far near = (far, by_case f t kind near)
  where
    by_case : (f t : Handle) (kind : Kind) → IsNeighbour s touched me x f t kind → Precedes s touched me x f t kind
    by_case f t kind (in_front n k w saw front) = wrote_before n k w saw front.before front.writer
    by_case f t kind (behind n k w saw after) = wrote_after n k w saw after.after after.writer
    by_case f t kind (put_last v k w asks front which) = wrote_too (Put v) k w asks front.writer tt
    by_case f t kind (add_last v k w asks last) = wrote_too (Add v) k w asks last.writer last.write
    by_case f t kind (put_read v r asks reads present) = read_it (Put v) r asks reads
    by_case f t kind (add_read v r asks last) = read_it (Add v) r asks last.reader
