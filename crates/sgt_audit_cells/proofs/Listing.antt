-- What is kept, with one more item before any entry.
use Rattle.std.proofs.Common.{◌≡◌, ◌≢◌, ℕ, List, [], ◌∷◌, ◌++◌, Some, None, cond, refl, sym, ap, ◌∙◌, subst, arith, inl, inr, All, Contains, length, map}
use Rattle.std.specs.Prelude.{slice_get}
use Rattle.std.specs.List.{AllByRecursion}
use Rattle.std.specs.Str.{bytes_eq}
use Rattle.std.proofs.lemmas.Bool.{cases_Bool}
use Rattle.std.proofs.lemmas.Option.{none-some}
use Rattle.std.proofs.lemmas.List.Elements.{Contains-push_cases, recursion_from_All}
use Rattle.std.proofs.lemmas.Slice.Eq.{bytes_eq-Decides}
use Rattle.sgt_names.proofs.Places.{All_at, All-from_at, Contains_at, Contains-from_at}
use Rattle.sgt_names.specs.Name.{Name}
use Rattle.sgt_names.specs.Log.{names, value_in}
use Rattle.sgt_names.specs.declared.entry.Entry.{Entry}
use Rattle.sgt_names.specs.declared.entry.Holding.{Holding}
use Rattle.sgt_bundle.specs.Certificate.{decided_tx}
use Rattle.sgt_bundle.specs.declared.certificate.Decision.{Decision}
use Rattle.sgt_audit_cells.specs.Cells.{IsGreatest, IsCell, AreCells}
use Rattle.sgt_audit_cells.specs.Records.{Recorded, live_among}
use Rattle.sgt_audit_cells.specs.Tracks.{EndsBy, TracksOpen}
use Rattle.sgt_audit_cells.specs.declared.cell.Cell.{Cell}
use Rattle.sgt_audit_cells.specs.declared.state.SiteState.{SiteState}
use Rattle.sgt_audit_cells.proofs.Doing.{record-renamed}
use Rattle.sgt_names.proofs.Elements.{map-push}

-- ---- values

value_in-more : (items more : List Holding) (x : Name) (v : ℕ) → value_in items x ≡ Some v
    → value_in (items ++ more) x ≡ Some v
value_in-more [] more x v h = absurd (none-some v h)
value_in-more (i ∷ items) more x v h =
    elim (cases_Bool (bytes_eq i.item x)) [
      | inl hit ↦ ap (λ b. cond b (Some i.value) (value_in (items ++ more) x)) hit
          ∙ sym (ap (λ b. cond b (Some i.value) (value_in items x)) hit) ∙ h
      | inr miss ↦ ap (λ b. cond b (Some i.value) (value_in (items ++ more) x)) miss
          ∙ value_in-more items more x v (sym (ap (λ b. cond b (Some i.value) (value_in items x)) miss) ∙ h)
    ]

value_in-new : (items : List Holding) (h : Holding) → AllByRecursion (λ x. x ≢ h.item) (names items)
    → value_in (items ++ h ∷ []) h.item ≡ Some h.value
value_in-new [] h new = ap (λ b. cond b (Some h.value) None) ((bytes_eq-Decides h.item h.item).1 refl)
value_in-new (i ∷ items) h new =
    elim (cases_Bool (bytes_eq i.item h.item)) [
      | inl hit ↦ absurd (new.0 ((bytes_eq-Decides i.item h.item).0 hit))
      | inr miss ↦ ap (λ b. cond b (Some i.value) (value_in (items ++ h ∷ []) h.item)) miss ∙ value_in-new items h new.1
    ]

pub no-entry : (f : Entry) → Contains [] f → ⊥
no-entry f here = absurd (omega (arith, here.1))

abbrev pub fresh : Holding → Cell
fresh h = record { name = h.item; value = h.value; reader = None; writer = None; adder = None }

module _ (ds : List Decision) (items : List Holding) (h : Holding) where
  old-cell : (c : Cell) → IsCell ds items [] c → IsCell ds (items ++ h ∷ []) [] c
  old-cell c is = record {
    value = value_in-more items (h ∷ []) c.name c.value is.value;
    reader = is.reader;
    writer =
        is.writer;
    adder = is.adder;
  }

  new-cell : All (λ x. x ≢ h.item) (names items) → IsCell ds (items ++ h ∷ []) [] (fresh h)
  new-cell new = record {
    value = value_in-new items h (recursion_from_All (λ x. x ≢ h.item) (names items) new);
    reader = λ f r here has. no-entry f here;
    writer = λ f r here has. no-entry f here;
    adder = λ f r here has. no-entry f here;
  }

  more-cells : (cells : List Cell) → All (λ x. x ≢ h.item) (names items) → AreCells ds items [] cells
      → AreCells ds (items ++ h ∷ []) [] (cells ++ fresh h ∷ [])
  more-cells cells new are = record {
    names = map-push (λ (c : Cell). c.name) cells (fresh h) ∙ ap (λ ns. ns ++ h.item ∷ []) are.names
        ∙ sym (map-push (λ (i : Holding). i.item) items h);
    each = All-from_at (IsCell ds (items ++ h ∷ []) []) (cells ++ fresh h ∷ [])
        (λ k c at. elim (Contains-push_cases cells (fresh h) c (Contains-from_at (cells ++ fresh h ∷ []) k c at)) [
          | inl old ↦ let place = Contains_at cells c old in
              old-cell c (All_at (IsCell ds items []) cells place.0 c are.each place.1)
          | inr now ↦ subst (IsCell ds (items ++ h ∷ []) []) now (new-cell new)
        ]);
  }

  pub listed : (old new : SiteState) → All (λ x. x ≢ h.item) (names items) → TracksOpen ds items [] old
      → new.cells.items ≡ old.cells.items ++ fresh h ∷ []
      → new.records ≡ old.records → new.live ≡ old.live → new.last_end ≡ old.last_end
      → TracksOpen ds (items ++ h ∷ []) [] new
  listed old new apart t cells records live order = record {
    cells = subst (AreCells ds (items ++ h ∷ []) []) (sym cells) (more-cells old.cells.items apart t.cells);
    many = ap (λ (q : Recorded). length q.each) records ∙ t.many;
    records = λ k d r at_k at_r.
        record-renamed (names items) (names (items ++ h ∷ [])) (decided_tx d) r
        (t.records k d r at_k (ap (λ (q : Recorded). slice_get q.each k) (sym records) ∙ at_r));
    live = live ∙ t.live ∙ ap (λ (q : Recorded). live_among q.each) (sym records);
    count = ap (λ (q : Recorded). q.count) records ∙ t.count;
    order = subst (IsGreatest (EndsBy ds) []) (sym order) t.order;
    decided = t.decided;
    listed = λ f here. absurd (no-entry f here);
  }
