-- The cells, where an entry has an item and where it has none.
use Rattle.std.proofs.Common.{◌≡◌, ℕ, ◌≤◌, List, [], ◌∷◌, ◌++◌, Option, Some, None, refl, sym, ap, ◌∙◌, subst, arith, inl, inr, length, option_map, Contains, Result, Ok, Err}
use Rattle.std.specs.Prelude.{slice_get, IfOk, OnOk, IfSome, IfNone}
use Rattle.std.specs.Option.{ForSome}
use Rattle.std.proofs.lemmas.Option.{none-some, same_Some, slice_get-map, slice_get_within}
use Rattle.sgt_names.proofs.Places.{All_at, All-from_at}
use Rattle.sgt_names.proofs.Lists.{option_cases}
use Rattle.sgt_names.specs.Name.{Name}
use Rattle.sgt_names.specs.Entry.{item_of}
use Rattle.sgt_names.specs.Log.{names}
use Rattle.sgt_names.specs.declared.entry.Entry.{Entry}
use Rattle.sgt_names.specs.declared.entry.Holding.{Holding}
use Rattle.sgt_bundle.specs.declared.certificate.Decision.{Decision}
use Rattle.sgt_audit_cells.specs.Cells.{IsCell, AreCells}
use Rattle.sgt_audit_cells.specs.private.Noted.{IsPlaceOf}
use Rattle.sgt_audit_cells.specs.declared.cell.Cell.{Cell}
use Rattle.sgt_audit_cells.specs.Tracks.{TracksOpen, IsPlaceAmong}
use Rattle.sgt_audit_cells.specs.declared.state.SiteState.{SiteState}
use Rattle.sgt_audit_cells.proofs.Noted.{other-cell}
use Rattle.sgt_names.proofs.Elements.{none-unless_some}
use Rattle.sgt_bundle.proofs.InRange.{on_ok-anyway}

module _ (ds : List Decision) (items : List Holding) (entries : List Entry) (cells : List Cell)
    (are : AreCells ds items entries cells) (e : Entry) where
  pub cell-there : (i : ℕ) → IsPlaceOf (names items) e (Some i) → (c : Cell) × (slice_get cells i ≡ Some c)
      × (item_of e ≡ Some c.name)
  cell-there i (x, at, on) = found (sym (slice_get-map (λ (c : Cell). c.name) cells i)
      ∙ ap (λ ns. slice_get ns i) are.names ∙ at)
    where
      found : option_map (λ (c : Cell). c.name) (slice_get cells i) ≡ Some x
          → (c : Cell) × (slice_get cells i ≡ Some c) × (item_of e ≡ Some c.name)
      found h = elim (option_cases (slice_get cells i)) [
        | inl none ↦ absurd (none-some x (sym (ap (option_map (λ (c : Cell). c.name)) none) ∙ h))
        | inr some ↦ (some.0, some.1, on ∙ sym (sym (ap (option_map (λ (c : Cell). c.name)) some.1) ∙ h))
      ]

  pub past-cells : (i : ℕ) → IsPlaceOf (names items) e (Some i) → length cells ≤ i → ⊥
  past-cells i on past = let c = cell-there i on in let within = slice_get_within cells i c.0 c.1 in
      absurd (omega (arith, within, past))

  cells-left : item_of e ≡ None → AreCells ds items (entries ++ e ∷ []) cells
  cells-left none = record {
    names = are.names;
    each = All-from_at (IsCell ds items (entries ++ e ∷ [])) cells
        (λ i c at. other-cell ds items entries c (All_at (IsCell ds items entries) cells i c are.each at) e
        (λ on. none-some c.name (sym none ∙ on)));
  }

  pub cells-ended : (place : Option ℕ) → ((i : ℕ) → place ≡ Some i → ⊥) → IsPlaceOf (names items) e place
      → AreCells ds items (entries ++ e ∷ []) cells
  cells-ended None not on = cells-left on
  cells-ended (Some i) not on = absurd (not i refl)

pub placed-item : (ds : List Decision) (items : List Holding) (entries : List Entry) (s : SiteState) (e : Entry)
    (x : Name) (o : Option ℕ) → TracksOpen ds items entries s → item_of e ≡ Some x
    → IfSome o (λ place. (ds : List Decision) (items : List Holding) (entries : List Entry)
    → TracksOpen ds items entries s → slice_get (names items) place ≡ Some x)
    → IfNone o ((ds : List Decision) (items : List Holding) (entries : List Entry) → TracksOpen ds items entries s
    → Contains (names items) x → ⊥) → IsPlaceAmong (names items) e o
placed-item ds items entries s e x (Some place) t on some none = (x, some ds items entries t, on)
placed-item ds items entries s e x None t on some none =
    λ y here listed. none ds items entries t (subst (Contains (names items)) (same_Some y x (sym here ∙ on)) listed)

-- where an entry's item is listed, its place is found
pub placed-listed : (ns : List Name) (e : Entry) (o : Option ℕ) → ForSome (item_of e) (Contains ns)
    → IsPlaceAmong ns e o → IsPlaceOf ns e o
placed-listed ns e (Some i) listed among = among
placed-listed ns e None listed among =
    elim (option_cases (item_of e)) [ inl none ↦ none | inr some ↦ absurd (among some.0 some.1 (listed some.0 some.1)) ]

pub none-map : {A P Q : Type 0} (o : Option A) → (P → Q) → IfNone o P → IfNone o Q
none-map None f p = f p
none-map (Some a) f p = p
