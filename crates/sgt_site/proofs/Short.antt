-- Logs whose entries are held in 16 bytes, when there is one more.
use Rattle.std.proofs.Common.{◌≡◌, ℕ, ◌<◌, ◌≤◌, List, [], ◌∷◌, ◌++◌, length, map, Option, Some, None, Bool, slice_get, refl, sym, ap, ap₂, ◌∙◌, subst, arith}
use Rattle.std.specs.List.{filter_map, list_any}
use Rattle.std.proofs.lemmas.List.Elements.{filter_map-append, All-push}
use Rattle.std.proofs.lemmas.List.{append-nil}
use Rattle.std.proofs.lemmas.Option.{none-some}
use Rattle.sgt_names.specs.Name.{Name}
use Rattle.sgt_names.specs.Entry.{item_of, is_increment}
use Rattle.sgt_names.specs.declared.entry.Entry.{Entry}
use Rattle.sgt_names.proofs.Elements.{map-push}
use Rattle.sgt_compact_entry.specs.Compact.{HasNumber, IsNumberOf, entry_of}
use Rattle.sgt_compact_entry.specs.declared.entry.Act.{Act}
use Rattle.sgt_compact_entry.specs.declared.entry.Act.TheVariants.{Read, Write, Add, Want, WantAdd, Commit, Refuse, Withdraw}
use Rattle.sgt_compact_entry.specs.declared.entry.CompactEntry.{CompactEntry}
use Rattle.sgt_site.specs.State.{LogState, committed_in}
use Rattle.sgt_site.specs.declared.cell.Install.{Install}
use Rattle.sgt_site.specs.declared.entry_log.ShortEntry.{ShortEntry}
use Rattle.sgt_site.specs.private.Short.{IsPlaced, adds_by, install_by, install_in, meant, whole}

-- what isn't the entry of a commit has no handle
uncommitted_by : (a : Act) (tx v : ℕ) (x : Name) → committed_in (entry_of a tx x v) ≡ None → install_by a tx v ≡ None
uncommitted_by Commit tx v x none = absurd (none-some _ (sym none))
uncommitted_by Read tx v x none = refl
uncommitted_by Write tx v x none = refl
uncommitted_by Add tx v x none = refl
uncommitted_by Want tx v x none = refl
uncommitted_by WantAdd tx v x none = refl
uncommitted_by Refuse tx v x none = refl
uncommitted_by Withdraw tx v x none = refl

-- an entry of an item is no commit
placed_by : (a : Act) (tx v : ℕ) (y x : Name) → item_of (entry_of a tx y v) ≡ Some x → install_by a tx v ≡ None
placed_by Commit tx v y x is = absurd (none-some _ is)
placed_by Read tx v y x is = refl
placed_by Write tx v y x is = refl
placed_by Add tx v y x is = refl
placed_by Want tx v y x is = refl
placed_by WantAdd tx v y x is = refl
placed_by Refuse tx v y x is = refl
placed_by Withdraw tx v y x is = refl

-- it is an increment as its act says
adds_same : (a : Act) (tx v : ℕ) (x : Name) → is_increment (entry_of a tx x v) ≡ adds_by a
adds_same Read tx v x = refl
adds_same Write tx v x = refl
adds_same Add tx v x = refl
adds_same Want tx v x = refl
adds_same WantAdd tx v x = refl
adds_same Commit tx v x = refl
adds_same Refuse tx v x = refl
adds_same Withdraw tx v x = refl

pub any_adds : (items : List Name) (es : List ShortEntry)
    → list_any is_increment (map (meant items) es) ≡ list_any (λ (e : ShortEntry). adds_by e.act) es
any_adds items [] = refl
any_adds items (e ∷ es) = rw (adds_same e.act e.tx e.value _, any_adds items es) refl

-- two logs of the same items
pub same_state : (items : List Name) (es fs : List Entry) (is js : List Install) (s t : ℕ) → es ≡ fs → is ≡ js → s ≡ t
    → ◌≡◌ {A = LogState} (record { items = items; entries = es; installed = is; spare = s })
    (record { items = items; entries = fs; installed = js; spare = t })
same_state items es fs is js s t e i n =
    ap₂ (λ (x : List Entry) (y : List Install). record { items = items; entries = x; installed = y; spare = s }) e i
    ∙ ap (λ (m : ℕ). record { items = items; entries = fs; installed = js; spare = m }) n

-- the item at a place has its place as number
pub placed-numbered : (items : List Name) (e : Entry) (n : ℕ) → IsPlaced items e n → IsNumberOf items (item_of e) n
placed-numbered items e n (x, is, at) = subst (λ o. IsNumberOf items o n) (sym is) at

-- one more entry, held so
module _ (items : List Name) (es es' : List ShortEntry) (c : ShortEntry) (pushed : es' ≡ es ++ c ∷ []) where
  pub entries-pushed : (now : List Entry) (e : Entry) → map (meant items) es ≡ now → meant items c ≡ e
      → map (meant items) es' ≡ now ++ e ∷ []
  entries-pushed now e view same = ap (map (meant items)) pushed ∙ map-push (meant items) es c
      ∙ ap₂ (λ ts y. ts ++ y ∷ []) view same

  installs : filter_map install_in es' ≡ filter_map install_in es ++ filter_map install_in (c ∷ [])
  installs = ap (filter_map install_in) pushed ∙ filter_map-append install_in es (c ∷ [])

  pub installed-kept : (now : List Install) → filter_map install_in es ≡ now → install_in c ≡ None
      → filter_map install_in es' ≡ now
  installed-kept now view none = installs
      ∙ rw none (append-nil (filter_map install_in es) ∙ view)

  pub installed-pushed : (now : List Install) (i : Install) → filter_map install_in es ≡ now → install_in c ≡ Some i
      → filter_map install_in es' ≡ now ++ i ∷ []
  installed-pushed now i view is = installs ∙ rw is (ap (λ us. us ++ i ∷ []) view)

  pub operation-kept : (now : List Install) (e : Entry) (x : Name) → filter_map install_in es ≡ now
      → meant items c ≡ e → item_of e ≡ Some x → filter_map install_in es' ≡ now
  operation-kept now e x view same is = installed-kept now view
      (placed_by c.act c.tx c.value _ x (ap item_of same ∙ is))

  pub end-kept : (now : List Install) (e : Entry) → filter_map install_in es ≡ now → meant items c ≡ e
      → committed_in e ≡ None → filter_map install_in es' ≡ now
  end-kept now e view same none = installed-kept now view
      (uncommitted_by c.act c.tx c.value _ (ap committed_in same ∙ none))
