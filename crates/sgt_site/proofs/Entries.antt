-- What an entry is that reads an item, changes it or asks to.
use Rattle.std.proofs.Common.{◌≡◌, ℕ, Some, refl, ap, subst}
use Rattle.std.specs.Str.{bytes_eq}
use Rattle.std.proofs.lemmas.Option.{cond_some}
use Rattle.std.proofs.lemmas.Slice.Eq.{bytes_eq-Decides}
use Rattle.sgt_names.specs.Name.{Name}
use Rattle.sgt_names.specs.Entry.{tx_of, item_of, change_of, is_increment, Reads, Writes}
use Rattle.sgt_names.specs.declared.entry.Change.{Change}
use Rattle.sgt_names.specs.declared.entry.Change.TheVariants as change
use Rattle.sgt_names.specs.declared.entry.Entry.{Entry}
use Rattle.sgt_names.specs.declared.entry.Entry.TheVariants.{Read, Write, Add, Want, WantAdd, Commit, Refuse, Withdraw}
use Rattle.sgt_site.specs.State.{change_entry, IsWant}
use Rattle.sgt_site.specs.private.Cells.{adds}

-- what counts as a write changes the item, or asks to in vain
pub change_or_want : {P : Type 0} (x : Name) (e : Entry) → Writes x e → ((c : Change) → change_of x e ≡ Some c → P)
    → (IsWant e → P) → P
change_or_want x (Write t y v) w changes want = changes (change.Put v) (rw ((bytes_eq-Decides y x).1 w) refl)
change_or_want x (Add t y v) w changes want = changes (change.Add v) (rw ((bytes_eq-Decides y x).1 w) refl)
change_or_want x (Want t y v) w changes want = want tt
change_or_want x (WantAdd t y v) w changes want = want tt
change_or_want x (Read t y v) w changes want = absurd w
change_or_want x (Commit t) w changes want = absurd w
change_or_want x (Refuse t) w changes want = absurd w
change_or_want x (Withdraw t) w changes want = absurd w

-- and has its item
pub change-item : (x : Name) (e : Entry) (c : Change) → change_of x e ≡ Some c → item_of e ≡ Some x
change-item x (Write t y v) c h = ap Some ((bytes_eq-Decides y x).0 (cond_some (bytes_eq y x) (change.Put v) c h).0)
change-item x (Add t y v) c h = ap Some ((bytes_eq-Decides y x).0 (cond_some (bytes_eq y x) (change.Add v) c h).0)
change-item x _ c h = absurd cc

pub read_is : (x : Name) (e : Entry) → Reads x e → (v : ℕ) × (e ≡ Read (tx_of e) x v)
read_is x (Read t y v) r = (v, ap (λ (z : Name). Read t z v) r)
read_is x _ r = absurd r

module _ (t : ℕ) (x : Name) where
  pub tx_of-change_entry : (c : Change) → tx_of (change_entry t x c) ≡ t
  tx_of-change_entry (change.Put v) = refl
  tx_of-change_entry (change.Add v) = refl

  pub Writes-change_entry : (c : Change) → Writes x (change_entry t x c)
  Writes-change_entry (change.Put v) = refl
  Writes-change_entry (change.Add v) = refl

  pub is_increment-change_entry : (c : Change) → is_increment (change_entry t x c) ≡ adds c
  is_increment-change_entry (change.Put v) = refl
  is_increment-change_entry (change.Add v) = refl

  pub change_of-change_entry : (y : Name) (c : Change) → x ≡ y → change_of y (change_entry t x c) ≡ Some c
  change_of-change_entry y (change.Put v) same = rw ((bytes_eq-Decides x y).1 same) refl
  change_of-change_entry y (change.Add v) same = rw ((bytes_eq-Decides x y).1 same) refl

-- and it is the item that it writes
pub writes_one : (t : ℕ) (x : Name) (c : Change) (y : Name) → Writes y (change_entry t x c) → x ≡ y
writes_one t x (change.Put v) y writes = writes
writes_one t x (change.Add v) y writes = writes
