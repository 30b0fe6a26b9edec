-- What an entry reads and does to its item, as the list of entries tells it.
use Rattle.std.proofs.Common.{◌≡◌, ℕ, Option, Some, None, is_some, false, refl, sym, ap, ◌∙◌, Bor}
use Rattle.std.specs.Option.{option_map}
use Rattle.sgt_names.specs.Name.{Name}
use Rattle.sgt_names.specs.declared.entry.Change.TheVariants as change
use Rattle.sgt_names.specs.declared.entry.Entry.{Entry}
use Rattle.sgt_names.specs.declared.entry.Entry.TheVariants.{Read, Write, Add, Want, WantAdd, Commit, Refuse, Withdraw}
use Rattle.sgt_compact.specs.Said.{added_said, lent, read_said, written_said}
use Rattle.sgt_serial.specs.declared.entries.SiteEntry.{SiteEntry}
use Rattle.sgt_serial.specs.declared.report.SiteChange.{SiteChange}
use Rattle.sgt_serial.specs.declared.report.SiteValue.{SiteValue}
use Rattle.sgt_serial.specs.Report.{read_at, write_at}
use Rattle.sgt_serial.specs.private.Reads.{change_by, read_by}

abbrev value_of : ℕ → Name × ℕ → SiteValue
value_of s p = record { site = s; item = p.0; value = p.1 }

abbrev put_of : ℕ → Name × ℕ → SiteChange
put_of s p = record { site = s; item = p.0; change = change.Put p.1 }

abbrev add_of : ℕ → Name × ℕ → SiteChange
add_of s p = record { site = s; item = p.0; change = change.Add p.1 }

value-read : (s : ℕ) (e : Entry) → option_map (value_of s) (read_said e) ≡ read_at s e
value-read s (Read tx x v) = refl
value-read s (Write tx x v) = refl
value-read s (Add tx x v) = refl
value-read s (Want tx x v) = refl
value-read s (WantAdd tx x v) = refl
value-read s (Commit tx) = refl
value-read s (Refuse tx) = refl
value-read s (Withdraw tx) = refl

put-written : (s : ℕ) (e : Entry) (x : Name) (v : ℕ) → Some (x, v) ≡ written_said e
    → Some (put_of s (x, v)) ≡ write_at s e
put-written s (Read tx y w) x v said = absurd cc
put-written s (Write tx y w) x v said = ap (option_map (put_of s)) said
put-written s (Add tx y w) x v said = absurd cc
put-written s (Want tx y w) x v said = absurd cc
put-written s (WantAdd tx y w) x v said = absurd cc
put-written s (Commit tx) x v said = absurd cc
put-written s (Refuse tx) x v said = absurd cc
put-written s (Withdraw tx) x v said = absurd cc

add-added : (s : ℕ) (e : Entry) (x : Name) (v : ℕ) → Some (x, v) ≡ added_said e
    → Some (add_of s (x, v)) ≡ write_at s e
add-added s (Read tx y w) x v said = absurd cc
add-added s (Write tx y w) x v said = absurd cc
add-added s (Add tx y w) x v said = ap (option_map (add_of s)) said
add-added s (Want tx y w) x v said = absurd cc
add-added s (WantAdd tx y w) x v said = absurd cc
add-added s (Commit tx) x v said = absurd cc
add-added s (Refuse tx) x v said = absurd cc
add-added s (Withdraw tx) x v said = absurd cc

no-change : (s : ℕ) (e : Entry) → None ≡ written_said e → None ≡ added_said e → None ≡ write_at s e
no-change s (Read tx y w) unwritten unadded = refl
no-change s (Write tx y w) unwritten unadded = absurd cc
no-change s (Add tx y w) unwritten unadded = absurd cc
no-change s (Want tx y w) unwritten unadded = refl
no-change s (WantAdd tx y w) unwritten unadded = refl
no-change s (Commit tx) unwritten unadded = refl
no-change s (Refuse tx) unwritten unadded = refl
no-change s (Withdraw tx) unwritten unadded = refl

-- a read, and none
pub reads : (site : ℕ) (e : SiteEntry) (x : Name) (v : ℕ) → site ≡ e.site → Some (x, v) ≡ read_said e.entry
    → Some (value_of site (x, v)) ≡ read_by e
reads site e x v same said =
    ap (λ s. Some (value_of s (x, v))) same ∙ ap (option_map (value_of e.site)) said ∙ value-read e.site e.entry

pub reads-none : (e : SiteEntry) → None ≡ read_said e.entry → None ≡ read_by e
reads-none e said = ap (option_map (value_of e.site)) said ∙ value-read e.site e.entry

-- a write, an increment, and neither
pub puts : (site : ℕ) (e : SiteEntry) (x : Name) (v : ℕ) → site ≡ e.site → Some (x, v) ≡ written_said e.entry
    → Some (put_of site (x, v)) ≡ change_by e
puts site e x v same said = ap (λ s. Some (put_of s (x, v))) same ∙ put-written e.site e.entry x v said

pub adds : (site : ℕ) (e : SiteEntry) (x : Name) (v : ℕ) → site ≡ e.site → Some (x, v) ≡ added_said e.entry
    → Some (add_of site (x, v)) ≡ change_by e
adds site e x v same said = ap (λ s. Some (add_of s (x, v))) same ∙ add-added e.site e.entry x v said

pub changes-none : (e : SiteEntry) → None ≡ written_said e.entry → None ≡ added_said e.entry → None ≡ change_by e
changes-none e unwritten unadded = no-change e.site e.entry unwritten unadded

-- whether there is one
some-lent : (o : Option (Bor Name × ℕ)) → is_some (lent o) ≡ is_some o
some-lent None = refl
some-lent (Some r) = refl

some-map : {A B : Type 0} (f : A → B) (o : Option A) → is_some (option_map f o) ≡ is_some o
some-map f None = refl
some-map f (Some a) = refl

added-change : (s : ℕ) (e : Entry) → None ≡ written_said e → is_some (added_said e) ≡ is_some (write_at s e)
added-change s (Read tx y w) unwritten = refl
added-change s (Write tx y w) unwritten = absurd cc
added-change s (Add tx y w) unwritten = refl
added-change s (Want tx y w) unwritten = refl
added-change s (WantAdd tx y w) unwritten = refl
added-change s (Commit tx) unwritten = refl
added-change s (Refuse tx) unwritten = refl
added-change s (Withdraw tx) unwritten = refl

pub some-read : (e : SiteEntry) (o : Option (Bor Name × ℕ)) → lent o ≡ read_said e.entry
    → is_some o ≡ is_some (read_by e)
some-read e o said = sym (some-lent o) ∙ ap is_some said ∙ sym (some-map (value_of e.site) (read_said e.entry))
    ∙ ap is_some (value-read e.site e.entry)

pub some-added : (e : SiteEntry) (o : Option (Bor Name × ℕ)) → None ≡ written_said e.entry → lent o ≡ added_said e.entry
    → is_some o ≡ is_some (change_by e)
some-added e o unwritten said = sym (some-lent o) ∙ ap is_some said ∙ added-change e.site e.entry unwritten

-- what isn't there
pub none-of : {A : Type 0} (o : Option A) → is_some o ≡ false → o ≡ None
none-of None same = refl
none-of (Some a) same = absurd cc
