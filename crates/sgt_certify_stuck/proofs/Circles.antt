-- A circle, by the sets that its check makes.
use Rattle.std.proofs.Common.{◌≡◌, inl, inr, ℕ, true, false, List, [], ◌∷◌, BTreeSet, sym, ◌∙◌, Contains}
use Rattle.std.specs.BTreeSet.{contains}
use Rattle.std.specs.Ordering.{nat_cmp}
use Rattle.std.proofs.lemmas.Bool.{true≢false}
use Rattle.sgt_names.specs.Entry.{tx_of}
use Rattle.sgt_bundle.specs.declared.bundle.SiteLog.{SiteLog}
use Rattle.sgt_certify_stuck.proofs.Elements.{only-one, the-one}
use Rattle.sgt_certify_stuck.proofs.StuckSets.{bool_or}
use Rattle.sgt_certify_stuck.specs.Apart.{AreApart, HasTx}
use Rattle.sgt_certify_stuck.specs.Circles.{IsBeyond, IsCircle, LeadNowhere}
use Rattle.sgt_certify_stuck.specs.declared.stuck.Circle.{Circle}

abbrev pub AreAllApart : List SiteLog → (sources barred : BTreeSet ℕ) → Type 0
AreAllApart sites sources barred = (log : SiteLog) → Contains sites log → AreApart log.entries sources barred

nowhere-from : (sites : List SiteLog) (sources barred : BTreeSet ℕ) (From To : ℕ → Type 0)
    → ((t : ℕ) → From t → HasTx sources t)
    → ((t : ℕ) → To t → HasTx barred t) → AreAllApart sites sources barred → LeadNowhere sites From To
nowhere-from sites sources barred From To from to apart log here kind x p q e f lt at_p at_q source bars clash =
    apart log here kind x p q e f lt at_p at_q (from (tx_of e) source) (to (tx_of f) bars) clash

apart-of : (sites : List SiteLog) (sources barred : BTreeSet ℕ) (From To : ℕ → Type 0)
    → ((t : ℕ) → HasTx sources t → From t)
    → ((t : ℕ) → HasTx barred t → To t) → LeadNowhere sites From To → AreAllApart sites sources barred
apart-of sites sources barred From To from to nowhere log here kind x p q e f lt at_p at_q source bars clash =
    nowhere log here kind x p q e f lt at_p at_q (from (tx_of e) source) (to (tx_of f) bars) clash

module _ (sites : List SiteLog) (committed : List ℕ) (circle : Circle) (own met beyond : BTreeSet ℕ)
    (own_has : (t : ℕ) → Contains (circle.tx ∷ []) t → HasTx own t)
    (own_only : (t : ℕ) → HasTx own t → Contains (circle.tx ∷ []) t)
    (met_has : (t : ℕ) → Contains circle.met.items t → HasTx met t)
    (met_only : (t : ℕ) → HasTx met t → Contains circle.met.items t)
    (beyond_has : (t : ℕ) → Contains committed t → contains nat_cmp met t ≡ false → HasTx beyond t)
    (beyond_only : (t : ℕ) → HasTx beyond t → Contains committed t × (contains nat_cmp met t ≡ false)) where
  its : (t : ℕ) → t ≡ circle.tx → HasTx own t
  its t is = own_has t (the-one circle.tx t is)

  its-only : (t : ℕ) → HasTx own t → t ≡ circle.tx
  its-only t has = only-one circle.tx t (own_only t has)

  far : (t : ℕ) → IsBeyond committed circle t → HasTx beyond t
  far t b =
      beyond_has t b.0 (elim (bool_or met t) [ inl inside ↦ absurd (b.1 (met_only t inside)) | inr out ↦ out ])

  far-only : (t : ℕ) → HasTx beyond t → IsBeyond committed circle t
  far-only t has = let b = beyond_only t has in (b.0, λ inside. true≢false (sym (met_has t inside) ∙ b.1))

  pub circle-from : AreAllApart sites own beyond → AreAllApart sites met beyond → AreAllApart sites met own
      → IsCircle sites committed circle
  circle-from first onward back = record {
    first = nowhere-from sites own beyond (λ (t : ℕ). t ≡ circle.tx) (IsBeyond committed circle) its far first;
    onward = nowhere-from sites met beyond (Contains circle.met.items) (IsBeyond committed circle) met_has far onward;
    back = nowhere-from sites met own (Contains circle.met.items) (λ (t : ℕ). t ≡ circle.tx) met_has its back;
  }

  pub first-of-circle : IsCircle sites committed circle → AreAllApart sites own beyond
  first-of-circle c =
      apart-of sites own beyond (λ (t : ℕ). t ≡ circle.tx) (IsBeyond committed circle) its-only far-only c.first

  pub onward-of-circle : IsCircle sites committed circle → AreAllApart sites met beyond
  onward-of-circle c = apart-of sites met beyond (Contains circle.met.items) (IsBeyond committed circle) met_only
      far-only c.onward

  pub back-of-circle : IsCircle sites committed circle → AreAllApart sites met own
  back-of-circle c = apart-of sites met own (Contains circle.met.items) (λ (t : ℕ). t ≡ circle.tx) met_only its-only
      c.back
