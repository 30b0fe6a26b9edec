-- The edges at the places of their sites.
use Rattle.std.proofs.Common.{◌≡◌, ◌↔◌, ◌∙◌, ◌≤◌, ◌<◌, ℕ, List, [], ◌∷◌, ◌++◌, length, Some, sym, ap, subst, arith, inl, inr, Contains, Vec, Global}
use Rattle.std.specs.Prelude.{slice_get}
use Rattle.std.proofs.lemmas.Option.{same_Some}
use Rattle.sgt_names.proofs.Places.{Contains_at, Contains-from_at}
use Rattle.sgt_service_settle.specs.declared.handed.Handed.{Handed}
use Rattle.sgt_service_settle.specs.private.Words.{At, Pushed, AreBySite}
use Rattle.sgt_service_settle.proofs.Lists.{push_contains, push_old, push_new}
use Rattle.sgt_service_settle.proofs.Rowing.{at_pushed, pushed_old, pushed_last}
use Rattle.sgt_names.proofs.Elements.{contains-none}

pub sited_none : (rows : List (Vec Handed Global)) → ((k n : ℕ) (h : Handed) → At rows k n h → ⊥) → AreBySite [] rows
sited_none rows none = record {
  these = λ site n h there. absurd (none site n h there);
  all = λ h has low. absurd (contains-none h has);
}

-- an edge of a site that is there, put at its place
pub sited_hit : (before : List Handed) (h : Handed) (rows new : List (Vec Handed Global))
    → Pushed rows h.edge.label.site h new → length new ≡ length rows → AreBySite before rows
    → AreBySite (before ++ h ∷ []) new
sited_hit before h rows new pushed long old =
    let site = h.edge.label.site in
    record {
      these = λ k m other there.
          elim (at_pushed rows site h new pushed k m other there) [
            | inl early ↦
                let known = old.these k m other early in
                (push_old before h other known.0, known.1)
            | inr last ↦ (
              subst (Contains (before ++ h ∷ [])) last.2 (push_new before h),
              ap (λ (x : Handed). x.edge.label.site) (sym last.2) ∙ sym last.0,
            )
          ];
      all = λ other has low.
          elim (push_contains before h other has) [
            | inl early ↦
                let known = old.all other early (omega (arith, low, long)) in
                (known.0, pushed_old rows site h new pushed other.edge.label.site known.0 other known.1)
            | inr last ↦
                subst (λ (x : Handed). (m : ℕ) × At new x.edge.label.site m x) last
                (length pushed.before.items, pushed_last rows site h new pushed)
          ];
    }

-- one of a site that isn't there
pub sited_miss : (before : List Handed) (h : Handed) (rows : List (Vec Handed Global))
    → length rows ≤ h.edge.label.site → AreBySite before rows → AreBySite (before ++ h ∷ []) rows
sited_miss before h rows past old =
    record {
      these = λ k m other there. let known = old.these k m other there in (push_old before h other known.0, known.1);
      all = λ other has low.
          elim (push_contains before h other has) [
            | inl early ↦ old.all other early low
            | inr last ↦ let same = ap (λ (x : Handed). x.edge.label.site) last in
                absurd (omega (arith, low, past, same))
          ];
    }

-- the row of a site that is there
pub sited_row : (handed : List Handed) (rows : List (Vec Handed Global)) (site : ℕ) (row : Vec Handed Global)
    → AreBySite handed rows
    → site < length rows → slice_get rows site ≡ Some row → (h : Handed)
    → Contains row.items h ↔ (Contains handed h × (h.edge.label.site ≡ site))
sited_row handed rows site row are low here h = (
  λ has. let at = Contains_at row.items h has in are.these site at.0 h (row, here, at.1),
  λ k.
      let at = are.all h k.0 (omega (arith, low, k.1)) in
      let same : at.1.0 ≡ row = same_Some at.1.0 row (sym at.1.1 ∙ (ap (slice_get rows) k.1 ∙ here)) in
      Contains-from_at row.items at.0 h (ap (λ (v : Vec Handed Global). slice_get v.items at.0) (sym same) ∙ at.1.2),
)
