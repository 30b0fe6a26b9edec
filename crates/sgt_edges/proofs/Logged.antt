-- The edges of a draft are conflicts in the log followed by its changes, and each such conflict is an edge.
use Rattle.std.proofs.Common.{◌≡◌, ℕ, ◌+◌, ◌<◌, ◌≤◌, List, length, map, take, Some, refl, sym, ap, ◌∙◌, subst, arith, inl, inr, ◌⊎◌, Contains}
use Rattle.std.specs.Prelude.{slice_get, ◌≢◌, option_map}
use Rattle.std.proofs.lemmas.Bool.{cases_lt, cases_order, cases_Bool}
use Rattle.std.proofs.lemmas.Option.{slice_get_within, slice_get-map, same_Some}
use Rattle.sgt_names.specs.Name.{Name}
use Rattle.sgt_names.specs.Entry.{tx_of, change_of, is_increment, IsIncrement, Reads, Writes, Clash}
use Rattle.sgt_names.specs.Log.{Conflicts}
use Rattle.sgt_names.specs.Draft.{at_site, writing_in}
use Rattle.sgt_names.specs.declared.draft.Touch.{Touch}
use Rattle.sgt_names.specs.declared.entry.Change.{Change}
use Rattle.sgt_names.specs.declared.entry.Change.TheVariants.{Put, Add}
use Rattle.sgt_names.specs.declared.entry.Entry.{Entry}
use Rattle.sgt_names.specs.declared.entry.Entry.TheVariants.{Read}
use Rattle.sgt_names.specs.declared.entry.Kind.{Kind}
use Rattle.sgt_names.specs.declared.entry.Kind.TheVariants.{Wr, Rw, Ww}
use Rattle.sgt_names.proofs.Increments.{change-writes}
use Rattle.sgt_names.proofs.Lists.{front_at, back_at, map_at}
use Rattle.sgt_names.proofs.Places.{Contains_at, Contains-from_at}
use Rattle.sgt_arena.specs.declared.handle.Handle.{Handle}
use Rattle.sgt_site.specs.declared.cell.Writer.{Writer}
use Rattle.sgt_site.specs.State.{SiteState, IsSite, HasEnded, version_at, handle_of, change_entry}
use Rattle.sgt_site.proofs.Appends.{get_cases, count-rises, count-next}
use Rattle.sgt_site.proofs.Entries.{change_or_want, read_is, tx_of-change_entry, Writes-change_entry, writes_one}
use Rattle.sgt_site.proofs.Projections.{writer_at, writer_from, ended_with_handle, no_write, wanted_no_handle}
use Rattle.sgt_edges.specs.Edges.{IsWriter, HasReader, SawAt, IsToChange, ConflictsWith, IsEdge, Precedes, wrote_before, wrote_after, wrote_too, read_it, IsActive, IsConflict, followed}

-- a change and a writer in conflict are not two increments, and the other way round
apart_changes : (c : Change) (w : Writer) (e : Entry) (tx : ℕ) (x : Name) → is_increment e ≡ w.increment
    → ConflictsWith c w → IsIncrement e → IsIncrement (change_entry tx x c) → ⊥
apart_changes (Put v) w e tx x adding far first second = absurd cc
apart_changes (Add v) w e tx x adding far first second = absurd cc

far_changes : (c : Change) (w : Writer) (e : Entry) (tx : ℕ) (x : Name) → is_increment e ≡ w.increment
    → (IsIncrement e → IsIncrement (change_entry tx x c) → ⊥) → ConflictsWith c w
far_changes (Put v) w e tx x adding apart = tt
far_changes (Add v) w e tx x adding apart = elim (cases_Bool (is_increment e)) [
  | inl hit ↦ absurd (apart hit refl)
  | inr miss ↦ sym adding ∙ miss
]

-- no read changes an item
pub read-changes_nothing : (x : Name) (e : Entry) (c : Change) (tx : ℕ) (y : Name) (v : ℕ) → change_of x e ≡ Some c
    → e ≡ Read tx y v → ⊥
read-changes_nothing x e c tx y v changes is = absurd (let none = ap (change_of x) (sym is) ∙ changes in cc)

module _ (s : SiteState) (tx : ℕ) (touched : List Touch) (me : Handle) (site : IsSite s) (is : IsActive s tx touched)
  where
    -- who has a handle isn't the transaction
    apart : (a : ℕ) (h : Handle) → handle_of s.installed a ≡ Some h → a ≢ tx
    apart a h given same = is.active (subst (HasEnded s.entries) same (ended_with_handle s site a h given))

    abbrev back : List Entry
    back = map (λ (c : Name × Change). change_entry tx c.0 c.1) (writing_in (at_site s.number touched))

    -- a private change stands behind the log
    change_at : (x : Name) (c : Change) → IsToChange s touched x c
        → (q : ℕ) × (slice_get (followed s tx touched) q ≡ Some (change_entry tx x c)) × (length s.entries ≤ q)
    change_at x c has =
        let at = Contains_at (writing_in (at_site s.number touched)) (x, c) has in (
          length s.entries + at.0,
          back_at s.entries back at.0
              ∙ slice_get-map (λ (d : Name × Change). change_entry tx d.0 d.1) (writing_in (at_site s.number touched))
              at.0 ∙ ap (λ o. option_map (λ (d : Name × Change). change_entry tx d.0 d.1) o) at.1,
          omega arith,
        )

    by_case : (x : Name) (from to : Handle) (kind : Kind) → from ≢ to → Precedes s touched me x from to kind
        → IsConflict s tx touched me x from to kind
    by_case x from to kind far (wrote_before n k w saw less at_k) =
        let r = (is.reads x saw.0 n).0 saw.1 in
        let a = writer_at s site x k w at_k in
        let order : a.place < r.place = elim (cases_lt a.place r.place) [
          | inl lt ↦ lt
          | inr le ↦ let more = count-rises (change_of x) s.entries r.place a.place le in
              absurd (omega (arith, more, a.number, r.version, less))
        ] in
        record {
          other = w.tx;
          handle = w.handle;
          given = a.is.given;
          which = inl (
            refl,
            refl,
            record {
              p = a.place;
              q = r.place;
              e = a.entry;
              f = Read tx x saw.0;
              before = order;
              first = front_at s.entries back a.place _ a.at;
              second = front_at s.entries back r.place _ r.at;
              from = a.is.tx;
              to = refl;
              apart = apart w.tx w.handle a.is.given;
              clash = (change-writes x a.entry a.is.change a.is.changes, refl);
            },
          );
          apart = far;
        }
    by_case x from to kind far (wrote_after n k w saw more at_k) =
        let r = (is.reads x saw.0 n).0 saw.1 in
        let a = writer_at s site x k w at_k in
        let order : r.place < a.place = elim (cases_order a.place r.place) [
          | inl same ↦ absurd (read-changes_nothing x a.entry a.is.change tx x saw.0 a.is.changes
              (same_Some a.entry (Read tx x saw.0) (sym a.at ∙ ap (slice_get s.entries) same ∙ r.at)))
          | inr (inl lt) ↦ let one =
              count-next (change_of x) s.entries a.place r.place a.entry a.is.change a.at a.is.changes lt in
              absurd (omega (arith, one, a.number, r.version, more))
          | inr (inr gt) ↦ gt
        ] in
        record {
          other = w.tx;
          handle = w.handle;
          given = a.is.given;
          which = inr (
            refl,
            refl,
            record {
              p = r.place;
              q = a.place;
              e = Read tx x saw.0;
              f = a.entry;
              before = order;
              first = front_at s.entries back r.place _ r.at;
              second = front_at s.entries back a.place _ a.at;
              from = refl;
              to = a.is.tx;
              apart = λ same. apart w.tx w.handle a.is.given (sym same);
              clash = (refl, change-writes x a.entry a.is.change a.is.changes);
            },
          );
          apart = far;
        }
    by_case x from to kind far (wrote_too c k w asks at_k conflict) =
        let a = writer_at s site x k w at_k in
        let b = change_at x c asks in
        let within = slice_get_within s.entries a.place _ a.at in
        record {
          other = w.tx;
          handle = w.handle;
          given = a.is.given;
          which = inl (
            refl,
            refl,
            record {
              p = a.place;
              q = b.0;
              e = a.entry;
              f = change_entry tx x c;
              before = omega (arith, within, b.2);
              first = front_at s.entries back a.place _ a.at;
              second = b.1;
              from = a.is.tx;
              to = tx_of-change_entry tx x c;
              apart = apart w.tx w.handle a.is.given;
              clash = (
                change-writes x a.entry a.is.change a.is.changes,
                Writes-change_entry tx x c,
                apart_changes c w a.entry tx x a.is.adds conflict,
              );
            },
          );
          apart = far;
        }
    by_case x from to kind far (read_it c r asks reads) =
        let l = reads.1.1 in
        let b = change_at x c asks in
        let within = slice_get_within s.entries l.place _ l.at in
        record {
          other = r.tx;
          handle = r.handle;
          given = reads.0;
          which = inl (
            refl,
            refl,
            record {
              p = l.place;
              q = b.0;
              e = Read r.tx x reads.1.0;
              f = change_entry tx x c;
              before = omega (arith, within, b.2);
              first = front_at s.entries back l.place _ l.at;
              second = b.1;
              from = refl;
              to = tx_of-change_entry tx x c;
              apart = apart r.tx r.handle reads.0;
              clash = (refl, Writes-change_entry tx x c);
            },
          );
          apart = far;
        }

    pub edge_is : (x : Name) (from to : Handle) (kind : Kind) → IsEdge s touched me x from to kind
        → IsConflict s tx touched me x from to kind
    edge_is x from to kind e = by_case x from to kind e.0 e.1

    -- a change of a committed transaction is one of the writers
    a_writer : (p : ℕ) (x : Name) (a : ℕ) (h : Handle) (e : Entry) → handle_of s.installed a ≡ Some h
        → slice_get s.entries p ≡ Some e → tx_of e ≡ a → Writes x e
        → IsWriter s x (version_at (take p s.entries) x) (record {
          tx = tx_of e;
          handle = h;
          increment =
              is_increment e;
        }) × ((c : Change) × (change_of x e ≡ Some c))
    a_writer p x a h e given at own writes =
        let had : handle_of s.installed (tx_of e) ≡ Some h = ap (handle_of s.installed) own ∙ given in
        change_or_want x e writes
        (λ c changes. (writer_from s site x p e c h at changes had, (c, changes)))
        (λ want. absurd (wanted_no_handle s site e h p had at want))

    -- a read of a committed transaction is one of the readers
    a_reader : (p : ℕ) (x : Name) (a : ℕ) (h : Handle) (e : Entry) → handle_of s.installed a ≡ Some h
        → slice_get s.entries p ≡ Some e → tx_of e ≡ a → Reads x e
        → HasReader s x (record { tx = a; handle = h; version = version_at (take p s.entries) x })
    a_reader p x a h e given at own reads =
        let r = read_is x e reads in
        (given, (r.0, record { place = p; at = at ∙ ap Some (r.1 ∙ ap (λ (t : ℕ). Read t x r.0) own); version = refl }))

    -- what stands behind the log are the private changes
    own_change : (m : ℕ) (e : Entry) → slice_get back m ≡ Some e → (c : Name × Change) × (e ≡ change_entry tx c.0 c.1)
        × Contains (writing_in (at_site s.number touched)) c
    own_change m e at =
        let from = map_at (λ (c : Name × Change). change_entry tx c.0 c.1) (writing_in (at_site s.number touched)) m e
        at in
        (from.0, sym from.2, Contains-from_at (writing_in (at_site s.number touched)) m from.0 from.1)

    -- a read of the transaction in the log is kept
    own_read : (p : ℕ) (x : Name) (e : Entry) → slice_get s.entries p ≡ Some e → tx_of e ≡ tx → Reads x e
        → SawAt s touched x (version_at (take p s.entries) x)
    own_read p x e at own reads =
        let r = read_is x e reads in (
          r.0,
          (is.reads x r.0 (version_at (take p s.entries) x)).1 (record {
            place = p;
            at = at
                ∙ ap Some (r.1 ∙ ap (λ (t : ℕ). Read t x r.0) own);
            version = refl;
          }),
        )

    -- a conflict within the log, with an entry of a committed transaction first
    from_other : (x : Name) (h : Handle) (a p q : ℕ) (e f : Entry) (kind : Kind) → handle_of s.installed a ≡ Some h
        → p < q → slice_get s.entries p ≡ Some e → slice_get s.entries q ≡ Some f → tx_of e ≡ a → tx_of f ≡ tx
        → Clash kind x e f → Precedes s touched me x h me kind
    from_other x h a p q e f Wr given lt at_p at_q of_e of_f clash =
        let w = a_writer p x a h e given at_p of_e clash.0 in
        let less = count-next (change_of x) s.entries p q e w.1.0 at_p w.1.1 lt in
        wrote_before (version_at (take q s.entries) x) (version_at (take p s.entries) x)
        (record { tx = tx_of e; handle = h; increment = is_increment e }) (own_read q x f at_q of_f clash.1) less w.0
    from_other x h a p q e f Rw given lt at_p at_q of_e of_f clash =
        absurd (no_write s site tx is.active q x f at_q of_f clash.1)
    from_other x h a p q e f Ww given lt at_p at_q of_e of_f clash =
        absurd (no_write s site tx is.active q x f at_q of_f clash.1)

    -- and with the transaction's first
    to_other : (x : Name) (h : Handle) (a p q : ℕ) (e f : Entry) (kind : Kind) → handle_of s.installed a ≡ Some h
        → p < q → slice_get s.entries p ≡ Some e → slice_get s.entries q ≡ Some f → tx_of e ≡ tx → tx_of f ≡ a
        → Clash kind x e f → Precedes s touched me x me h kind
    to_other x h a p q e f Rw given lt at_p at_q of_e of_f clash =
        let w = a_writer q x a h f given at_q of_f clash.1 in
        let le = count-rises (change_of x) s.entries p q (omega (arith, lt)) in
        wrote_after (version_at (take p s.entries) x) (version_at (take q s.entries) x)
        (record { tx = tx_of f; handle = h; increment = is_increment f }) (own_read p x e at_p of_e clash.0) le w.0
    to_other x h a p q e f Wr given lt at_p at_q of_e of_f clash =
        absurd (no_write s site tx is.active p x e at_p of_e clash.0)
    to_other x h a p q e f Ww given lt at_p at_q of_e of_f clash =
        absurd (no_write s site tx is.active p x e at_p of_e clash.0)

    -- a conflict with a private change
    with_change : (x : Name) (h : Handle) (a p : ℕ) (e : Entry) (c : Name × Change) (kind : Kind)
        → handle_of s.installed a ≡ Some h → slice_get s.entries p ≡ Some e → tx_of e ≡ a
        → Contains (writing_in (at_site s.number touched)) c → Clash kind x e (change_entry tx c.0 c.1)
        → Precedes s touched me x h me kind
    with_change x h a p e c Wr given at own has clash = absurd (no_read c.0 c.1 clash.1)
      where
        no_read : (y : Name) (d : Change) → Reads x (change_entry tx y d) → ⊥
        no_read y (Put v) reads = reads
        no_read y (Add v) reads = reads
    with_change x h a p e c Rw given at own has clash =
        read_it c.1 (record { tx = a; handle = h; version = version_at (take p s.entries) x })
        (subst (λ (z : Name). IsToChange s touched z c.1) (writes_one tx c.0 c.1 x clash.1) has)
        (a_reader p x a h e given at own clash.0)
    with_change x h a p e c Ww given at own has clash =
        wrote_too c.1 (version_at (take p s.entries) x) (record {
          tx = tx_of e;
          handle = h;
          increment =
              is_increment e;
        }) (subst (λ (z : Name). IsToChange s touched z c.1) (writes_one tx c.0 c.1 x clash.1) has)
        (a_writer p x a h e given at own clash.0).0
        (far_changes c.1 (record { tx = tx_of e; handle = h; increment = is_increment e }) e tx c.0 refl clash.2)

    conflict_from : (x : Name) (h : Handle) (a : ℕ) (kind : Kind) → handle_of s.installed a ≡ Some h
        → Conflicts (followed s tx touched) kind x a tx → Precedes s touched me x h me kind
    conflict_from x h a kind given k =
        get_cases s.entries back k.p k.e k.first
        (λ at_p. get_cases s.entries back k.q k.f k.second
        (λ at_q. from_other x h a k.p k.q k.e k.f kind given k.before at_p at_q k.from k.to k.clash)
        (λ m there at_q. let c = own_change m k.f at_q in
        with_change x h a k.p k.e c.0 kind given at_p k.from c.2 (subst (Clash kind x k.e) c.1 k.clash)))
        (λ m there at_p. let c = own_change m k.e at_p in
        absurd (k.apart (sym k.from ∙ ap tx_of c.1 ∙ tx_of-change_entry tx c.0.0 c.0.1)))

    conflict_to : (x : Name) (h : Handle) (a : ℕ) (kind : Kind) → handle_of s.installed a ≡ Some h
        → Conflicts (followed s tx touched) kind x tx a → Precedes s touched me x me h kind
    conflict_to x h a kind given k =
        get_cases s.entries back k.q k.f k.second
        (λ at_q. get_cases s.entries back k.p k.e k.first
        (λ at_p. to_other x h a k.p k.q k.e k.f kind given k.before at_p at_q k.from k.to k.clash)
        (λ m there at_p. let within = slice_get_within s.entries k.q k.f at_q in
        absurd (let lt = k.before in omega (arith, within, there, lt))))
        (λ m there at_q. let c = own_change m k.f at_q in
        absurd (k.apart (sym (ap tx_of c.1 ∙ tx_of-change_entry tx c.0.0 c.0.1) ∙ k.to)))

    pub conflict_is : (x : Name) (from to : Handle) (kind : Kind) → IsConflict s tx touched me x from to kind
        → IsEdge s touched me x from to kind
    conflict_is x from to kind c = (c.apart, by_side c.which)
      where
        by_side : ((from ≡ c.handle) × (to ≡ me) × Conflicts (followed s tx touched) kind x c.other tx)
            ⊎ ((from ≡ me) × (to ≡ c.handle) × Conflicts (followed s tx touched) kind x tx c.other)
            → Precedes s touched me x from to kind
        by_side (inl (a, b, k)) = rw (a, b) (conflict_from x c.handle c.other kind c.given k)
        by_side (inr (a, b, k)) = rw (a, b) (conflict_to x c.handle c.other kind c.given k)
