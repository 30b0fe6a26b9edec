-- What stands for all edges, shown on two small sites. At the first, 1 and 2 wrote x, 3 read what 2 wrote, and the
-- draft is to write x.
use Rattle.std.proofs.Common.{◌≡◌, ◌≢◌, ◌==◌, true, false, ℕ, zero, suc, List, [], ◌∷◌, Some, None, refl, sym, ap, ◌∙◌, subst, arith, lit<, get_or, Contains, ◌<◌}
use Rattle.std.specs.Prelude.{codes, slice_get}
use Rattle.std.proofs.lemmas.Option.{same_Some}
use Rattle.std.proofs.lemmas.Bool.{eqb-false}
use Rattle.std.proofs.lemmas.Bool.Decides.{nat_tests}
use Rattle.sgt_names.specs.Name.{Name}
use Rattle.sgt_names.specs.Entry.{tx_of, Writes, Clash}
use Rattle.sgt_names.specs.declared.draft.Touch.{Touch}
use Rattle.sgt_names.specs.declared.entry.Change.{Change}
use Rattle.sgt_names.specs.declared.entry.Change.TheVariants.{Put, Add}
use Rattle.sgt_names.specs.declared.entry.Entry.{Entry}
use Rattle.sgt_names.specs.declared.entry.Entry.TheVariants.{Read, Write, Commit}
use Rattle.sgt_names.specs.declared.entry.Kind.{Kind}
use Rattle.sgt_names.specs.declared.entry.Kind.TheVariants.{Wr, Rw, Ww}
use Rattle.sgt_names.proofs.Places.{Contains_at, Contains-from_at}
use Rattle.sgt_arena.specs.declared.handle.Handle.{Handle}
use Rattle.sgt_site.specs.State.{SiteState, LogsRead, handle_of}
use Rattle.sgt_site.specs.declared.cell.Reader.{Reader}
use Rattle.sgt_site.specs.declared.cell.Writer.{Writer}
use Rattle.sgt_site.proofs.Basics.{is_single}
use Rattle.sgt_edges.specs.Edges.{IsWriter, HasReader, IsToChange, ConflictsWith, Precedes, wrote_before, wrote_after, wrote_too, read_it, IsOldEdge, JoinsCommitted, Walks, given, old, on, StandsForAll}
use Rattle.sgt_edges.specs.declared.edge.Edge.{Edge}

abbrev x : Name
x = codes "x"

abbrev handle : ℕ → Handle
handle n = record { index = n; generation = 0 }

abbrev me : Handle
me = handle 0

abbrev site : SiteState
site = record {
  number = 0;
  items = record { item = x; value = 5 } ∷ [];
  entries = Write 1 x 6 ∷ Commit 1 ∷ Write 2 x 7 ∷ Commit 2 ∷ Read 3 x 7 ∷ Commit 3 ∷ [];
  installed = record { tx = 1; handle = handle 1 } ∷ record { tx = 2; handle = handle 2 } ∷ record {
    tx = 3;
    handle =
        handle 3;
  } ∷ [];
  pledge = None;
}

abbrev draft : List Touch
draft = record { site = 0; item = x; seen = None; change = Some (Put 9) } ∷ []

-- an edge at the site
abbrev edge : ℕ → Handle → Handle → Name → Kind → Edge
edge n f t x k = record { from = f; to = t; label = record { site = n; item = x; kind = k } }

-- the edge from the reader alone
abbrev from_reader : List Edge
from_reader = edge 0 (handle 3) me x Rw ∷ []

-- the edge from the last writer alone
abbrev from_writer : List Edge
from_writer = edge 0 (handle 2) me x Ww ∷ []

is_x : (z : Name) (c : Change) → IsToChange site draft z c → x ≡ z
is_x z c asks = ap (λ (d : Name × Change). d.0) (sym (is_single (x, Put 9) (z, c) asks))

-- each writer walks to me over the reader
over_reader : (k : ℕ) (w : Writer) → IsWriter site x k w → Walks site x from_reader w.handle me
over_reader zero w is =
    let same : handle 1 ≡ w.handle =
    ap (λ (u : Writer). u.handle) (same_Some (record { tx = 1; handle = handle 1; increment = false }) w is) in
    subst (λ h. Walks site x from_reader h me) same
    (on (handle 1) (handle 3) me (old (handle 1) (handle 3) from_first)
    (given (edge 0 (handle 3) me x Rw) (Contains-from_at from_reader 0 (edge 0 (handle 3) me x Rw) refl) refl))
  where
    from_first : IsOldEdge site x (handle 1) (handle 3)
    from_first = record {
      first = 1;
      second = 3;
      from_first = refl;
      to_second = refl;
      kind = Wr;
      conflict = record {
        p = 0;
        q = 4;
        e = Write 1 x 6;
        f = Read 3 x 7;
        before = lit< tt;
        first = refl;
        second = refl;
        from = refl;
        to = refl;
        apart = eqb-false 1 3 refl;
        clash = (refl, refl);
      };
    }
over_reader (suc zero) w is =
    let same : handle 2 ≡ w.handle =
    ap (λ (u : Writer). u.handle) (same_Some (record { tx = 2; handle = handle 2; increment = false }) w is) in
    subst (λ h. Walks site x from_reader h me) same
    (on (handle 2) (handle 3) me (old (handle 2) (handle 3) from_second)
    (given (edge 0 (handle 3) me x Rw) (Contains-from_at from_reader 0 (edge 0 (handle 3) me x Rw) refl) refl))
  where
    from_second : IsOldEdge site x (handle 2) (handle 3)
    from_second = record {
      first = 2;
      second = 3;
      from_first = refl;
      to_second = refl;
      kind = Wr;
      conflict = record {
        p = 2;
        q = 4;
        e = Write 2 x 7;
        f = Read 3 x 7;
        before = lit< tt;
        first = refl;
        second = refl;
        from = refl;
        to = refl;
        apart = eqb-false 2 3 refl;
        clash = (refl, refl);
      };
    }
over_reader (suc (suc k)) w is = absurd cc

-- the only reader is 3
reader_is : (r : Reader) → HasReader site x r → handle 3 ≡ r.handle
reader_is r is = by_place is.1.1.place is.1.1.at
  where
    is_third : (tx v : ℕ) → Read 3 x 7 ≡ Read tx x v → 3 ≡ tx
    is_third tx v e = ap tx_of e

    by_place : (n : ℕ) → slice_get site.entries n ≡ Some (Read r.tx x is.1.0) → handle 3 ≡ r.handle
    by_place zero at = absurd cc
    by_place (suc zero) at = absurd cc
    by_place (suc (suc zero)) at = absurd cc
    by_place (suc (suc (suc zero))) at = absurd cc
    by_place (suc (suc (suc (suc zero)))) at =
        same_Some (handle 3) r.handle
        (ap (handle_of site.installed) (is_third r.tx is.1.0 (same_Some (Read 3 x 7) (Read r.tx x is.1.0) at)) ∙ is.0)
    by_place (suc (suc (suc (suc (suc zero))))) at = absurd cc
    by_place (suc (suc (suc (suc (suc (suc n)))))) at = absurd cc

-- the edge from the reader of the present version stands for all: each writer walks over the reader
by_case : (z : Name) (f t : Handle) (k : Kind) → Precedes site draft me z f t k → Walks site z from_reader f t
by_case z f t k (wrote_before n m w saw less is) = absurd (omega (arith, saw.1.1))
by_case z f t k (wrote_after n m w saw more is) = absurd (omega (arith, saw.1.1))
by_case z f t k (wrote_too c m w asks is far) =
    subst (λ (y : Name). Walks site y from_reader w.handle me) (is_x z c asks)
    (over_reader m w (subst (λ (y : Name). IsWriter site y m w) (sym (is_x z c asks)) is))
by_case z f t k (read_it c r asks is) =
    let same = reader_is r (subst (λ (y : Name). HasReader site y r) (sym (is_x z c asks)) is) in
    subst (λ (y : Name). Walks site y from_reader r.handle me) (is_x z c asks)
    (subst (λ h. Walks site x from_reader h me) same
    (given (edge 0 (handle 3) me x Rw) (Contains-from_at from_reader 0 (edge 0 (handle 3) me x Rw) refl) refl))

pub reader-stands_for_all : StandsForAll site draft me from_reader
reader-stands_for_all z f t k is = by_case z f t k is.1

other_handle : (m n : ℕ) → m ≢ n → handle m ≢ handle n
other_handle m n apart same = apart (ap (λ (h : Handle). h.index) same)

-- a fourth has none
no_handle : (n : ℕ) → handle_of site.installed (suc (suc (suc (suc n)))) ≡ None
no_handle n =
    let one : (1 == suc (suc (suc (suc n)))) ≡ false = grind (arith, nat_tests) in
    let two : (2 == suc (suc (suc (suc n)))) ≡ false = grind (arith, nat_tests) in
    let three : (3 == suc (suc (suc (suc n)))) ≡ false = grind (arith, nat_tests) in
    rw (one, two, three) refl

third_is : (tx : ℕ) → handle_of site.installed tx ≡ Some (handle 3) → tx ≡ 3
third_is zero has = absurd cc
third_is (suc zero) has = absurd (other_handle 1 3 (eqb-false 1 3 refl) (same_Some (handle 1) (handle 3) has))
third_is (suc (suc zero)) has = absurd (other_handle 2 3 (eqb-false 2 3 refl) (same_Some (handle 2) (handle 3) has))
third_is (suc (suc (suc zero))) has = refl
third_is (suc (suc (suc (suc n)))) has = absurd (let e = sym (no_handle n) ∙ has in cc)

-- no conflict leads on from an end
no_end : (kind : Kind) (z : Name) (tx : ℕ) (f : Entry) → Clash kind z (Commit tx) f → ⊥
no_end Wr z tx f clash = clash.0
no_end Rw z tx f clash = clash.0
no_end Ww z tx f clash = clash.0

to_no_end : (kind : Kind) (z : Name) (tx : ℕ) (e : Entry) → Clash kind z e (Commit tx) → ⊥
to_no_end Wr z tx e clash = clash.1
to_no_end Rw z tx e clash = clash.1
to_no_end Ww z tx e clash = clash.1

-- nothing conflicts with an earlier entry of 3
nothing_after : (p q : ℕ) (e f : Entry) (kind : Kind) → slice_get site.entries p ≡ Some e
    → slice_get site.entries q ≡ Some f → p < q → tx_of e ≡ 3 → Clash kind x e f → ⊥
nothing_after zero q e f kind at_p at_q lt of clash = eqb-false 1 3 refl (ap tx_of (same_Some (Write 1 x 6) e at_p)
    ∙ of)
nothing_after (suc zero) q e f kind at_p at_q lt of clash = eqb-false 1 3 refl (ap tx_of (same_Some (Commit 1) e at_p)
    ∙ of)
nothing_after (suc (suc zero)) q e f kind at_p at_q lt of clash =
    eqb-false 2 3 refl (ap tx_of (same_Some (Write 2 x 7) e at_p) ∙ of)
nothing_after (suc (suc (suc zero))) q e f kind at_p at_q lt of clash =
    eqb-false 2 3 refl (ap tx_of (same_Some (Commit 2) e at_p) ∙ of)
nothing_after (suc (suc (suc (suc zero)))) q e f kind at_p at_q lt of clash = by_second q at_q lt
  where
    by_second : (n : ℕ) → slice_get site.entries n ≡ Some f → 4 < n → ⊥
    by_second zero at lt = absurd (omega (arith, lt))
    by_second (suc zero) at lt = absurd (omega (arith, lt))
    by_second (suc (suc zero)) at lt = absurd (omega (arith, lt))
    by_second (suc (suc (suc zero))) at lt = absurd (omega (arith, lt))
    by_second (suc (suc (suc (suc zero)))) at lt = absurd (omega (arith, lt))
    by_second (suc (suc (suc (suc (suc zero))))) at lt =
        to_no_end kind x 3 e (subst (Clash kind x e) (sym (same_Some (Commit 3) f at)) clash)
    by_second (suc (suc (suc (suc (suc (suc n)))))) at lt = absurd cc
nothing_after (suc (suc (suc (suc (suc zero))))) q e f kind at_p at_q lt of clash =
    no_end kind x 3 f (subst (λ d. Clash kind x d f) (sym (same_Some (Commit 3) e at_p)) clash)
nothing_after (suc (suc (suc (suc (suc (suc n)))))) q e f kind at_p at_q lt of clash = absurd cc

no_walk : (f t : Handle) → Walks site x from_writer f t → f ≢ handle 3
no_walk f t (given e has item) same =
    other_handle 2 3 (eqb-false 2 3 refl)
    (ap (λ (d : Edge). d.from) (sym (is_single (edge 0 (handle 2) me x Ww) e has)) ∙ same)
no_walk f t (old g h o) same =
    nothing_after o.conflict.p o.conflict.q o.conflict.e o.conflict.f o.kind o.conflict.first o.conflict.second
    o.conflict.before (o.conflict.from ∙ third_is o.first (o.from_first ∙ ap Some same)) o.conflict.clash
no_walk f t (on g h i first second) same = no_walk g h first same

-- the edge from the last writer doesn't: nothing leads on from the reader
pub writer-does_not_stand_for_all : StandsForAll site draft me from_writer → ⊥
writer-does_not_stand_for_all stands =
    no_walk (handle 3) me (stands x (handle 3) me Rw (
      other_handle 3 0 (eqb-false 3 0 refl),
      read_it (Put 9) (record { tx = 3; handle = handle 3; version = 2 })
          (Contains-from_at ((x, Put 9) ∷ []) 0 (x, Put 9) refl) reader,
    )) refl
  where
    reads : LogsRead site.entries 3 x 7 2
    reads = record { place = 4; at = refl; version = refl }

    reader : HasReader site x (record { tx = 3; handle = handle 3; version = 2 })
    reader = (refl, (7, reads))

-- no edge joins me and myself
pub nobody-joins_itself : JoinsCommitted site me me me → ⊥
nobody-joins_itself joins = joins.apart refl

-- another site: 1 and 2 read x and wrote y, and the draft is to write both
abbrev y : Name
y = codes "y"

abbrev two_items : SiteState
two_items = record {
  number = 0;
  items = record { item = x; value = 5 } ∷ record { item = y; value = 2 } ∷ [];
  entries = Read 1 x 5 ∷ Write 1 y 7 ∷ Commit 1 ∷ Read 2 x 5 ∷ Write 2 y 8 ∷ Commit 2 ∷ [];
  installed = record { tx = 1; handle = handle 1 } ∷ record { tx = 2; handle = handle 2 } ∷ [];
  pledge = None;
}

abbrev both : List Touch
both = record { site = 0; item = x; seen = None; change = Some (Put 9) } ∷ record {
  site = 0;
  item = y;
  seen =
      None;
  change = Some (Put 9);
} ∷ []

abbrev over_y : Edge
over_y = edge 0 (handle 1) me y Ww

abbrev over_x : Edge
over_x = edge 0 (handle 2) me x Rw

abbrev by_items : List Edge
by_items = over_y ∷ over_x ∷ []

other_item : y ≢ x
other_item same = eqb-false 121 120 refl (ap (λ (n : Name). get_or n 0 0) same)

-- nobody wrote x
no_write_of_x : (n : ℕ) (e : Entry) → slice_get two_items.entries n ≡ Some e → Writes x e → ⊥
no_write_of_x zero e at writes = subst (Writes x) (sym (same_Some (Read 1 x 5) e at)) writes
no_write_of_x (suc zero) e at writes = other_item (subst (Writes x) (sym (same_Some (Write 1 y 7) e at)) writes)
no_write_of_x (suc (suc zero)) e at writes = subst (Writes x) (sym (same_Some (Commit 1) e at)) writes
no_write_of_x (suc (suc (suc zero))) e at writes = subst (Writes x) (sym (same_Some (Read 2 x 5) e at)) writes
no_write_of_x (suc (suc (suc (suc zero)))) e at writes =
    other_item (subst (Writes x) (sym (same_Some (Write 2 y 8) e at)) writes)
no_write_of_x (suc (suc (suc (suc (suc zero))))) e at writes = subst (Writes x) (sym (same_Some (Commit 2) e at)) writes
no_write_of_x (suc (suc (suc (suc (suc (suc n)))))) e at writes = absurd cc

no_conflict : (p q : ℕ) (e f : Entry) (kind : Kind) → slice_get two_items.entries p ≡ Some e
    → slice_get two_items.entries q ≡ Some f → Clash kind x e f → ⊥
no_conflict p q e f Wr at_p at_q clash = no_write_of_x p e at_p clash.0
no_conflict p q e f Rw at_p at_q clash = no_write_of_x q f at_q clash.1
no_conflict p q e f Ww at_p at_q clash = no_write_of_x p e at_p clash.0

from_first : (e : Edge) → Contains by_items e → e.label.item ≡ x → e.from ≢ handle 1
from_first e has item same = by_place at.0 at.1
  where
    at : (n : ℕ) × (slice_get by_items n ≡ Some e)
    at = Contains_at by_items e has

    by_place : (n : ℕ) → slice_get by_items n ≡ Some e → ⊥
    by_place zero here = other_item (ap (λ (d : Edge). d.label.item) (same_Some over_y e here) ∙ item)
    by_place (suc zero) here =
        other_handle 2 1 (eqb-false 2 1 refl) (ap (λ (d : Edge). d.from) (same_Some over_x e here) ∙ same)
    by_place (suc (suc n)) here = absurd cc

no_walk_of_x : (f t : Handle) → Walks two_items x by_items f t → f ≢ handle 1
no_walk_of_x f t (given e has item) same = from_first e has item same
no_walk_of_x f t (old g h o) same =
    no_conflict o.conflict.p o.conflict.q o.conflict.e o.conflict.f o.kind o.conflict.first o.conflict.second
    o.conflict.clash
no_walk_of_x f t (on g h i first second) same = no_walk_of_x g h first same

-- a walk keeps to its item: neither the edge over y nor the conflict on y leads from 1 to me on x
pub other_items-do_not_stand_for_all : StandsForAll two_items both me by_items → ⊥
other_items-do_not_stand_for_all stands =
    no_walk_of_x (handle 1) me (stands x (handle 1) me Rw (
      other_handle 1 0 (eqb-false 1 0 refl),
      read_it (Put 9) (record { tx = 1; handle = handle 1; version = 0 })
          (Contains-from_at ((x, Put 9) ∷ (y, Put 9) ∷ []) 0 (x, Put 9) refl) reader,
    )) refl
  where
    reads : LogsRead two_items.entries 1 x 5 0
    reads = record { place = 0; at = refl; version = refl }

    reader : HasReader two_items x (record { tx = 1; handle = handle 1; version = 0 })
    reader = (refl, (5, reads))

-- an increment has an edge from a write, and none from an increment
pub write-conflicts_with_increment : ConflictsWith (Add 3) (record { tx = 1; handle = handle 1; increment = false })
write-conflicts_with_increment = refl

pub increments-do_not_conflict : ConflictsWith (Add 3) (record { tx = 1; handle = handle 1; increment = true }) → ⊥
increments-do_not_conflict same = absurd cc

pub increment-conflicts_with_write : ConflictsWith (Put 3) (record { tx = 1; handle = handle 1; increment = true })
increment-conflicts_with_write = tt
