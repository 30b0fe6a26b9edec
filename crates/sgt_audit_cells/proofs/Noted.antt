-- The cells after one more entry.
use Rattle.std.proofs.Common.{◌≡◌, ◌≢◌, ℕ, ◌<◌, List, [], ◌∷◌, ◌++◌, Option, Some, None, Bool, true, false, cond, refl, sym, ap, ◌∙◌, subst, inl, inr, AllPairs, get_or, set, length, option_map}
use Rattle.std.specs.Prelude.{slice_get, fold}
use Rattle.std.specs.List.{filter_map, cons_option}
use Rattle.std.specs.Str.{bytes_eq}
use Rattle.std.proofs.Math.Seq.{map-set_same}
use Rattle.std.proofs.lemmas.Bool.{cases_order, cases_eq}
use Rattle.std.proofs.lemmas.List.{get_or-set_same, get_or-set_other, length-set}
use Rattle.std.proofs.lemmas.List.Elements.{filter_map-append}
use Rattle.std.proofs.lemmas.List.Sums.{fold-append}
use Rattle.std.proofs.lemmas.Option.{same_Some, slice_get-map, slice_get-get_or}
use Rattle.std.proofs.lemmas.Slice.Eq.{bytes_eq-Decides}
use Rattle.sgt_names.proofs.Places.{AllPairs_at}
use Rattle.sgt_names.specs.Name.{Name}
use Rattle.sgt_names.specs.Entry.{tx_of, item_of, change_of, Reads}
use Rattle.sgt_names.specs.Log.{names, value_in, value_with, value_after, value_at}
use Rattle.sgt_names.specs.declared.entry.Change.{Change}
use Rattle.sgt_names.specs.declared.entry.Change.TheVariants as change
use Rattle.sgt_names.specs.declared.entry.Entry.{Entry}
use Rattle.sgt_names.specs.declared.entry.Entry.TheVariants.{Read, Write, Add, Want, WantAdd, Commit, Refuse, Withdraw}
use Rattle.sgt_names.specs.declared.entry.Holding.{Holding}
use Rattle.sgt_bundle.specs.Certificate.{IsDecidedOnce}
use Rattle.sgt_bundle.specs.declared.certificate.Decision.{Decision}
use Rattle.sgt_audit_cells.specs.declared.cell.Cell.{Cell}
use Rattle.sgt_audit_cells.specs.Cells.{IsGreatest, IsRankedWith, Puts, Increments, IsCell, AreCells, IsRankOf}
use Rattle.sgt_audit_cells.specs.private.Noted.{raised, noted}
use Rattle.sgt_audit_cells.proofs.Ranked.{greatest-left, greatest-raised, ranked-only, same-name}
use Rattle.sgt_names.proofs.Elements.{false-unless_true, bytes_eq-other}

-- what the entry does to the value of an item
value-push : (items : List Holding) (entries : List Entry) (e : Entry) (x : Name) (u : ℕ)
    → value_at items entries x ≡ Some u → value_at items (entries ++ e ∷ []) x ≡ value_after (Some u) (e ∷ []) x
value-push items entries e x u is =
    ap (fold value_with (value_in items x)) (filter_map-append (change_of x) entries (e ∷ []))
    ∙ fold-append value_with (value_in items x) (filter_map (change_of x) entries) (cons_option (change_of x e) [])
    ∙ ap (λ o. value_after o (e ∷ []) x) is

value-changed : (x : Name) (e : Entry) (u : ℕ) (o : Option Change) → change_of x e ≡ o
    → value_after (Some u) (e ∷ []) x ≡ fold value_with (Some u) (cons_option o [])
value-changed x e u o is = ap (λ p. fold value_with (Some u) (cons_option p [])) is

same_bytes : (x y : Name) → x ≡ y → bytes_eq x y ≡ true
same_bytes x y e = (bytes_eq-Decides x y).1 e

-- an entry on another item, or an end
change-none : (x : Name) (e : Entry) → (item_of e ≡ Some x → ⊥) → change_of x e ≡ None
change-none x (Write tx y v) other =
    ap (λ b. cond b (Some (change.Put v)) None) (bytes_eq-other y x (λ eq. other (ap Some eq)))
change-none x (Add tx y v) other =
    ap (λ b. cond b (Some (change.Add v)) None) (bytes_eq-other y x (λ eq. other (ap Some eq)))
change-none x (Read tx y v) other = refl
change-none x (Want tx y v) other = refl
change-none x (WantAdd tx y v) other = refl
change-none x (Commit tx) other = refl
change-none x (Refuse tx) other = refl
change-none x (Withdraw tx) other = refl

reads-none : (x : Name) (e : Entry) → (item_of e ≡ Some x → ⊥) → Reads x e → ⊥
reads-none x (Read tx y v) other r = other (ap Some r)
reads-none x _ other r = r

puts-none : (x : Name) (e : Entry) → (item_of e ≡ Some x → ⊥) → Puts x e → ⊥
puts-none x (Write tx y v) other w = other (ap Some w)
puts-none x (Want tx y v) other w = other (ap Some w)
puts-none x _ other w = w

increments-none : (x : Name) (e : Entry) → (item_of e ≡ Some x → ⊥) → Increments x e → ⊥
increments-none x (Add tx y v) other w = other (ap Some w)
increments-none x (WantAdd tx y v) other w = other (ap Some w)
increments-none x _ other w = w

module _ (ds : List Decision) (items : List Holding) (entries : List Entry) (c : Cell)
    (is : IsCell ds items entries c) where
  value-left : (e : Entry) → change_of c.name e ≡ None → value_at items (entries ++ e ∷ []) c.name ≡ Some c.value
  value-left e silent = value-push items entries e c.name c.value is.value ∙ value-changed c.name e c.value None silent

  value-is : (e : Entry) (d : Change) → change_of c.name e ≡ Some d
      → value_at items (entries ++ e ∷ []) c.name ≡ value_with (Some c.value) d
  value-is e d does = value-push items entries e c.name c.value is.value ∙ value-changed c.name e c.value (Some d) does

  reader-left : (e : Entry) → (Reads c.name e → ⊥)
      → IsGreatest (IsRankedWith ds (Reads c.name)) (entries ++ e ∷ []) c.reader
  reader-left e not = greatest-left (IsRankedWith ds (Reads c.name)) entries c.reader e (λ r has. not has.0) is.reader

  writer-left : (e : Entry) → (Puts c.name e → ⊥)
      → IsGreatest (IsRankedWith ds (Puts c.name)) (entries ++ e ∷ []) c.writer
  writer-left e not = greatest-left (IsRankedWith ds (Puts c.name)) entries c.writer e (λ r has. not has.0) is.writer

  adder-left : (e : Entry) → (Increments c.name e → ⊥)
      → IsGreatest (IsRankedWith ds (Increments c.name)) (entries ++ e ∷ []) c.adder
  adder-left e not = greatest-left (IsRankedWith ds (Increments c.name)) entries c.adder e (λ r has. not has.0) is.adder

  module _ (rank : Option ℕ) (once : IsDecidedOnce ds) where
    writer-raised : (e : Entry) → Puts c.name e → IsRankOf ds (tx_of e) rank
        → IsGreatest (IsRankedWith ds (Puts c.name)) (entries ++ e ∷ []) (raised c.writer rank)
    writer-raised e does by =
        greatest-raised (IsRankedWith ds (Puts c.name)) entries c.writer rank e
        (ranked-only ds (Puts c.name) e rank once does by) is.writer

    adder-raised : (e : Entry) → Increments c.name e → IsRankOf ds (tx_of e) rank
        → IsGreatest (IsRankedWith ds (Increments c.name)) (entries ++ e ∷ []) (raised c.adder rank)
    adder-raised e does by = greatest-raised (IsRankedWith ds (Increments c.name)) entries c.adder rank e
        (ranked-only ds (Increments c.name) e rank once does by) is.adder

  -- the cell after an entry on its item
  pub noted-cell : (e : Entry) (rank : Option ℕ) → IsDecidedOnce ds → item_of e ≡ Some c.name
      → IsRankOf ds (tx_of e) rank → IsCell ds items (entries ++ e ∷ []) (noted c e rank)
  noted-cell (Read tx y v) rank once on by = record {
    value = value-left (Read tx y v) refl;
    reader = greatest-raised (IsRankedWith ds (Reads c.name)) entries c.reader rank (Read tx y v)
        (ranked-only ds (Reads c.name) (Read tx y v) rank once (same-name y c.name on) by) is.reader;
    writer = writer-left (Read tx y v) (λ w. w);
    adder = adder-left (Read tx y v) (λ w. w);
  }
  noted-cell (Write tx y v) rank once on by = record {
    value = value-is (Write tx y v) (change.Put v)
        (ap (λ b. cond b (Some (change.Put v)) None) (same_bytes y c.name (same-name y c.name on)));
    reader = reader-left (Write tx y v) (λ r. r);
    writer = writer-raised rank once (Write tx y v) (same-name y c.name on) by;
    adder = adder-left (Write tx y v) (λ w. w);
  }
  noted-cell (Want tx y v) rank once on by = record {
    value = value-left (Want tx y v) refl;
    reader = reader-left (Want tx y v) (λ r. r);
    writer = writer-raised rank once (Want tx y v) (same-name y c.name on) by;
    adder = adder-left (Want tx y v) (λ w. w);
  }
  noted-cell (Add tx y v) rank once on by = record {
    value = value-is (Add tx y v) (change.Add v)
        (ap (λ b. cond b (Some (change.Add v)) None) (same_bytes y c.name (same-name y c.name on)));
    reader = reader-left (Add tx y v) (λ r. r);
    writer = writer-left (Add tx y v) (λ w. w);
    adder = adder-raised rank once (Add tx y v) (same-name y c.name on) by;
  }
  noted-cell (WantAdd tx y v) rank once on by = record {
    value = value-left (WantAdd tx y v) refl;
    reader = reader-left (WantAdd tx y v) (λ r. r);
    writer = writer-left (WantAdd tx y v) (λ w. w);
    adder = adder-raised rank once (WantAdd tx y v) (same-name y c.name on) by;
  }
  noted-cell (Commit tx) rank once on by = absurd cc
  noted-cell (Refuse tx) rank once on by = absurd cc
  noted-cell (Withdraw tx) rank once on by = absurd cc

  -- an entry on another item, or an end, leaves the cell
  pub other-cell : (e : Entry) → (item_of e ≡ Some c.name → ⊥) → IsCell ds items (entries ++ e ∷ []) c
  other-cell e other = record {
    value = value-left e (change-none c.name e other);
    reader = reader-left e (reads-none c.name e other);
    writer = writer-left e (puts-none c.name e other);
    adder = adder-left e (increments-none c.name e other);
  }

pub noted-name : (c : Cell) (e : Entry) (rank : Option ℕ) → (noted c e rank).name ≡ c.name
noted-name c (Read tx y v) rank = refl
noted-name c (Write tx y v) rank = refl
noted-name c (Want tx y v) rank = refl
noted-name c (Add tx y v) rank = refl
noted-name c (WantAdd tx y v) rank = refl
noted-name c (Commit tx) rank = refl
noted-name c (Refuse tx) rank = refl
noted-name c (Withdraw tx) rank = refl

abbrev Apart : Name → Name → Type 0
Apart x y = x ≢ y

-- the cells after one more entry, which changes the cell of its item alone
module _ (ds : List Decision) (items : List Holding) (entries : List Entry) (cells : List Cell) (place : ℕ)
    (v d : Cell) (e : Entry) (lt : place < length cells) (is : AreCells ds items entries cells)
    (apart : AllPairs Apart (names items))
    (on : item_of e ≡ Some (get_or cells place d).name) (same : v.name ≡ (get_or cells place d).name)
    (new : IsCell ds items (entries ++ e ∷ []) v) where
  name-at : (k : ℕ) (f : Cell) → k < length cells → slice_get (names items) k ≡ Some (get_or cells k f).name
  name-at k f less = ap (λ ns. slice_get ns k) (sym is.names) ∙ slice_get-map (λ (c : Cell). c.name) cells k
      ∙ ap (option_map (λ (c : Cell). c.name)) (slice_get-get_or cells k f less)

  elsewhere : (k : ℕ) (f : Cell) → k < length cells → k ≢ place → item_of e ≡ Some (get_or cells k f).name → ⊥
  elsewhere k f less other here =
      let equal : (get_or cells place d).name ≡ (get_or cells k f).name =
      same_Some (get_or cells place d).name (get_or cells k f).name (sym on ∙ here) in
      elim (cases_order k place) [
        | inl eq ↦ other eq
        | inr (inl lower) ↦ AllPairs_at Apart (names items) k place (get_or cells k f).name
            (get_or cells place d).name apart lower (name-at k f less) (name-at place d lt) (sym equal)
        | inr (inr higher) ↦ AllPairs_at Apart (names items) place k (get_or cells place d).name
            (get_or cells k f).name apart higher (name-at place d lt) (name-at k f less) equal
      ]

  each-cell : (k : ℕ) (f : Cell) → k < length (set cells place v)
      → IsCell ds items (entries ++ e ∷ []) (get_or (set cells place v) k f)
  each-cell k f less =
      elim (cases_eq k place) [
        | inl eq ↦ subst (λ n. IsCell ds items (entries ++ e ∷ []) (get_or (set cells place v) n f)) (sym eq)
            (subst (IsCell ds items (entries ++ e ∷ [])) (sym (get_or-set_same cells place v f lt)) new)
        | inr other ↦
            let within : k < length cells = subst (λ n. k < n) (length-set cells place v) less in
            subst (IsCell ds items (entries ++ e ∷ [])) (sym (get_or-set_other cells place k v f other))
            (other-cell ds items entries (get_or cells k f) (is.each k f within) e (elsewhere k f within other))
      ]

  pub cells-entered : AreCells ds items (entries ++ e ∷ []) (set cells place v)
  cells-entered = record {
    names = map-set_same (λ (c : Cell). c.name) cells place v d same ∙ is.names;
    each = each-cell;
  }
