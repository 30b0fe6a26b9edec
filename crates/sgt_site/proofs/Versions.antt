-- The versions of the cells, side by side.
use Rattle.std.proofs.Common.{◌≡◌, ℕ, suc, List, [], ◌∷◌, ◌++◌, length, map, take, drop, set, Some, refl, sym, ap, ap₂, ◌∙◌, arith, Result, Ok, Err, OnOk, OnErr, All}
use Rattle.std.specs.Prelude.{slice_get}
use Rattle.std.proofs.lemmas.List.{map-set}
use Rattle.std.specs.Ordering.{nat_cmp}
use Rattle.std.specs.Cmp.Lexicographic.{slice_cmp}
use Rattle.std.proofs.lemmas.Option.{get_or_from_slice_get, same_Some, slice_get_within}
use Rattle.sgt_names.proofs.Ranged.{rising-set}
use Rattle.std.proofs.Math.Seq.{map-set_same, take-append_seam}
use Rattle.sgt_names.specs.Log.{names}
use Rattle.sgt_names.specs.declared.draft.Seen.{Seen}
use Rattle.sgt_names.specs.declared.entry.Entry.{Entry}
use Rattle.sgt_names.specs.declared.entry.Holding.{Holding}
use Rattle.sgt_names.proofs.Places.{All_at, All-from_at}
use Rattle.sgt_site.specs.State.{SiteState, IsSite, version_at}
use Rattle.sgt_site.specs.private.Cells.{Contents, items_of, versions_of, CellsRise, IsAnswered, AreChanged}
use Rattle.sgt_site.specs.private.Kept.{IsCell}
use Rattle.sgt_site.proofs.Keeps.{found_version}
use Rattle.sgt_names.proofs.Elements.{All-tail}

-- a slice that was lent, back in its list
pub written-back : (items new : List ℕ) (n : ℕ) → n ≡ length new → take n (new ++ drop (length new) items) ≡ new
written-back items new n long = ap (λ m. take m (new ++ drop (length new) items)) long
    ∙ take-append_seam new (drop (length new) items)

-- a change that leaves the number of writers leaves the versions
pub versions-changed : (R : Contents → Contents → Type 0)
    → ((c d : Contents) → R c d → length d.writers ≡ length c.writers)
    → (old new : List Contents) → AreChanged R old new → versions_of new ≡ versions_of old
versions-changed R same [] [] changed = refl
versions-changed R same [] (d ∷ new) changed = absurd (omega (arith, changed.as_many))
versions-changed R same (c ∷ old) [] changed = absurd (omega (arith, changed.as_many))
versions-changed R same (c ∷ old) (d ∷ new) changed =
    ap₂ (λ (v : ℕ) (vs : List ℕ). v ∷ vs) (same c d (changed.each 0 c d refl refl))
    (versions-changed R same old new
    (record { as_many = omega (arith, changed.as_many); each = λ n e f at_e at_f. changed.each (suc n) e f at_e at_f }))

-- so does an answer
pub answer-keeps : {E : Type 0} (r : Result Seen E) (old new : Contents) (tx : ℕ) → OnOk r (IsAnswered old new tx)
    → OnErr r (new ≡ old)
    → length new.writers ≡ length old.writers
answer-keeps (Ok seen) old new tx ok err = ap (λ (c : Contents). length c.writers) ok.same
answer-keeps (Err e) old new tx ok err = ap (λ (c : Contents). length c.writers) err

-- one cell is changed
pub versions-answered : (cells : List Contents) (n : ℕ) (old new : Contents) → slice_get cells n ≡ Some old
    → length new.writers ≡ length old.writers → versions_of (set cells n new) ≡ versions_of cells
versions-answered cells n old new at same =
    map-set_same (λ (c : Contents). length c.writers) cells n new old
    (same ∙ ap (λ (c : Contents). length c.writers) (sym (get_or_from_slice_get cells n old old at)))

pub versions-noted : (cells : List Contents) (versions : List ℕ) (n : ℕ) (new : Contents) → versions ≡ versions_of cells
    → set versions n (length new.writers) ≡ versions_of (set cells n new)
versions-noted cells versions n new are =
    ap (λ vs. set vs n (length new.writers)) are ∙ sym (map-set (λ (c : Contents). length c.writers) cells n new)

-- nor does it change the item
pub answer-item : {E : Type 0} (r : Result Seen E) (old new : Contents) (tx : ℕ) → OnOk r (IsAnswered old new tx)
    → OnErr r (new ≡ old)
    → new.item ≡ old.item
answer-item (Ok seen) old new tx ok err = ap (λ (c : Contents). c.item) ok.same
answer-item (Err e) old new tx ok err = ap (λ (c : Contents). c.item) err

pub answered-rises : (cells : List Contents) (n : ℕ) (old new : Contents) → slice_get cells n ≡ Some old
    → new.item ≡ old.item → CellsRise cells
    → CellsRise (set cells n new)
answered-rises cells n old new at same rising = rising-set (λ (c : Contents). c.item) (slice_cmp nat_cmp) cells n new
    (record {
      within = slice_get_within cells n old at;
      is = λ c here. ap (λ (d : Contents). d.item) (same_Some c old (sym here ∙ at)) ∙ sym same;
    }) rising

-- the versions are those of the log, by items
by_item : (s : SiteState) → IsSite s → (cells : List Contents) → All (IsCell s.items s.installed s.entries) cells
    → versions_of cells ≡ map (version_at s.entries) (items_of cells)
by_item s site [] each = refl
by_item s site (c ∷ cells) each =
    ap₂ (λ (v : ℕ) (vs : List ℕ). v ∷ vs)
    (found_version s site c (All_at (IsCell s.items s.installed s.entries) (c ∷ cells) 0 c each refl))
    (by_item s site cells (All-tail (IsCell s.items s.installed s.entries) c cells each))

by_holding : (es : List Entry) (hs : List Holding)
    → map (version_at es) (names hs) ≡ map (λ (h : Holding). version_at es h.item) hs
by_holding es [] = refl
by_holding es (h ∷ hs) = ap (λ vs. version_at es h.item ∷ vs) (by_holding es hs)

pub versions-logged : (s : SiteState) → IsSite s → (cells : List Contents) → items_of cells ≡ names s.items
    → All (IsCell s.items s.installed s.entries) cells
    → versions_of cells ≡ map (λ (h : Holding). version_at s.entries h.item) s.items
versions-logged s site cells same each =
    by_item s site cells each ∙ ap (map (version_at s.entries)) same ∙ by_holding s.entries s.items
