-- What the code does to a record, and asks of its acts.
use Rattle.std.specs.Prelude.{◌≡◌, ◌&&◌, ◌||◌, ◌++◌, ◌<◌, ℕ, Bool, true, false, not, IsTrue, List}
use Rattle.sgt_names.specs.declared.entry.Entry.{Entry}
use Rattle.sgt_names.specs.declared.entry.Kind.{Kind}
use Rattle.sgt_names.specs.declared.entry.Kind.TheVariants.{Wr, Rw, Ww}
use Rattle.sgt_audit_cells.specs.Records.{Record, deed_of}
use Rattle.sgt_audit_cells.specs.declared.act.Act.{Act}
use Rattle.sgt_audit_cells.specs.declared.act.Deed.{Deed}
use Rattle.sgt_audit_cells.specs.declared.act.Done.{Done}
use Rattle.sgt_audit_cells.specs.declared.act.Deed.TheVariants as deed

-- the operation at this place among the entries, which does this
abbrev pub act_of : ℕ → Done → Act
act_of at d = record { place = d.place; deed = d.deed; at = at }

-- what the entry does, on the item at this place
abbrev pub done : ℕ → Entry → Done
done i e = record { place = i; deed = deed_of e }

-- the entry at this place, on the item at that place
abbrev pub act : (at place : ℕ) → Entry → Act
act at i e = act_of at (done i e)

abbrev pub changes : Deed → Bool
changes deed.Read = false
changes deed.Put = true
changes deed.Add = true

abbrev pub adds : Deed → Bool
adds deed.Read = false
adds deed.Put = false
adds deed.Add = true

-- the one and then the other, on one item, are a conflict of this kind
abbrev pub deeds_clash : Kind → Deed → Deed → Bool
deeds_clash Wr d e = changes d && not (changes e)
deeds_clash Rw d e = not (changes d) && changes e
deeds_clash Ww d e = changes d && changes e && not (adds d && adds e)

-- the act is on the item at this place, and reads or changes it
abbrev pub IsOf : ℕ → Bool → Act → Type 0
IsOf place change a = (a.place ≡ place) × (changes a.deed ≡ change)

-- the other comes later, on the same item, and they are a conflict of this kind
abbrev pub ClashesWith : Kind → Act → Act → Type 0
ClashesWith kind a b = (b.place ≡ a.place) × (a.at < b.at) × IsTrue (deeds_clash kind a.deed b.deed)

-- the record after one more entry in the section, which did this, and ended the transaction or not
pub record IsTouched (acts : List Act) (ends : Bool) (old new : Record) : Type 0 where
  pub touched : IsTrue new.touched
  pub end : new.ended ≡ (old.ended || ends)
  pub did : new.acts ≡ old.acts ++ acts
