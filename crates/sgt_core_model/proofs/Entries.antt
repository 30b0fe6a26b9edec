-- Kinds of entries, and the entries that private changes become.
use Rattle.std.proofs.Common.{◌≡◌, ℕ, List, map, refl, Contains, Some}
use Rattle.std.specs.Option.{ForSome}
use Rattle.sgt_names.specs.Name.{Name}
use Rattle.sgt_names.specs.Entry.{tx_of, item_of, Reads, Writes, IsEnd, IsOpen}
use Rattle.sgt_names.specs.Log.{names}
use Rattle.sgt_names.specs.declared.entry.Change.{Change}
use Rattle.sgt_names.specs.declared.entry.Change.TheVariants.{Put, Add}
use Rattle.sgt_names.specs.declared.entry.Entry.{Entry}
use Rattle.sgt_names.specs.declared.entry.Entry.TheVariants as entry
use Rattle.sgt_names.specs.declared.entry.Holding.{Holding}
use Rattle.sgt_names.proofs.Places.{Contains_at, Contains-from_at}
use Rattle.sgt_site.specs.State.{change_entry, want_entry}
use Rattle.sgt_bundle.specs.declared.certificate.Step.{Step}
use Rattle.sgt_certifier.specs.Certifier.{Ruling, committed, refused}
use Rattle.sgt_core_model.proofs.Kept.{IsRead, SuitsRuling}
use Rattle.sgt_site.proofs.Entries.{writes_one}
use Rattle.sgt_names.proofs.Lists.{map_at}

-- private changes as a refused transaction asked for them
abbrev pub as_wants : ℕ → List (Name × Change) → List Entry
as_wants tx cs = map (λ (d : Name × Change). want_entry tx d.0 d.1) cs

-- ---- a read

pub read_no_end : (e : Entry) → IsRead e → IsEnd e → ⊥
read_no_end (entry.Read tx x v) h k = k
read_no_end _ h k = h

pub read_no_write : (e : Entry) (x : Name) → IsRead e → Writes x e → ⊥
read_no_write (entry.Read tx y v) x h k = k
read_no_write _ x h k = h

pub read_suits : (e : Entry) (r : Ruling) → IsRead e → SuitsRuling e r
read_suits (entry.Read tx x v) r h = tt
read_suits _ r h = absurd h

pub reads_read : (e : Entry) (x : Name) → Reads x e → IsRead e
reads_read (entry.Read tx y v) x k = tt
reads_read _ x k = k

-- ---- an entry that opens a block

pub open_no_end : (e : Entry) → IsOpen e → IsEnd e → ⊥
open_no_end (entry.Write tx x v) h k = k
open_no_end (entry.Add tx x v) h k = k
open_no_end (entry.Want tx x v) h k = k
open_no_end (entry.WantAdd tx x v) h k = k
open_no_end _ h k = h

pub open_no_read : (e : Entry) (x : Name) → IsOpen e → Reads x e → ⊥
open_no_read (entry.Read tx y v) x h k = h
open_no_read _ x h k = k

-- ---- an end

pub end_no_write : (e : Entry) (x : Name) → IsEnd e → Writes x e → ⊥
end_no_write (entry.Commit tx) x h k = k
end_no_write (entry.Refuse tx) x h k = k
end_no_write (entry.Withdraw tx) x h k = k
end_no_write _ x h k = h

pub end_no_read : (e : Entry) (x : Name) → IsEnd e → Reads x e → ⊥
end_no_read (entry.Read tx y v) x h k = h
end_no_read _ x h k = k

pub end_has_none : (e : Entry) (items : List Holding) → IsEnd e → ForSome (item_of e) (Contains (names items))
end_has_none (entry.Commit tx) items h = λ y e. absurd cc
end_has_none (entry.Refuse tx) items h = λ y e. absurd cc
end_has_none (entry.Withdraw tx) items h = λ y e. absurd cc
end_has_none _ items h = absurd h

-- ---- a private change as an entry, made or asked for

pub change_tx : (i : ℕ) (x : Name) (change : Change) → tx_of (change_entry i x change) ≡ i
change_tx i x (Put v) = refl
change_tx i x (Add v) = refl

pub want_tx : (i : ℕ) (x : Name) (change : Change) → tx_of (want_entry i x change) ≡ i
want_tx i x (Put v) = refl
want_tx i x (Add v) = refl

pub change_item : (i : ℕ) (x : Name) (change : Change) → item_of (change_entry i x change) ≡ Some x
change_item i x (Put v) = refl
change_item i x (Add v) = refl

pub want_item : (i : ℕ) (x : Name) (change : Change) → item_of (want_entry i x change) ≡ Some x
want_item i x (Put v) = refl
want_item i x (Add v) = refl

pub change_open : (i : ℕ) (x : Name) (change : Change) → IsOpen (change_entry i x change)
change_open i x (Put v) = tt
change_open i x (Add v) = tt

pub want_open : (i : ℕ) (x : Name) (change : Change) → IsOpen (want_entry i x change)
want_open i x (Put v) = tt
want_open i x (Add v) = tt

pub change_suits : (i j : ℕ) (x : Name) (change : Change) → SuitsRuling (change_entry i x change) (committed j)
change_suits i j x (Put v) = tt
change_suits i j x (Add v) = tt

pub want_suits : (i j : ℕ) (walk : List Step) (x : Name) (change : Change)
    → SuitsRuling (want_entry i x change) (refused j walk)
want_suits i j walk x (Put v) = tt
want_suits i j walk x (Add v) = tt

pub want_writes : (i : ℕ) (x : Name) (change : Change) (y : Name) → Writes y (want_entry i x change) → x ≡ y
want_writes i x (Put v) y k = k
want_writes i x (Add v) y k = k

-- each of the entries is one of a private change
pub of_change : (f : Name → Change → Entry) (cs : List (Name × Change)) (e : Entry)
    → Contains (map (λ (d : Name × Change). f d.0 d.1) cs) e
    → (d : Name × Change) × Contains cs d × (f d.0 d.1 ≡ e)
of_change f cs e c =
    let p = Contains_at (map (λ (d : Name × Change). f d.0 d.1) cs) e c in
    let m = map_at (λ (d : Name × Change). f d.0 d.1) cs p.0 e p.1 in
    (m.0, Contains-from_at cs p.0 m.0 m.1, m.2)
