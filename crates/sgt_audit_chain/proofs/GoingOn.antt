-- Lists whose fronts are the same, and the line on which they aren't.
use Rattle.std.proofs.Common.{◌≡◌, ◌≢◌, ℕ, ◌+◌, true, false, List, [], ◌∷◌, ◌++◌, length, map, take, Option, Some, None, refl, sym, ap, ap₂, ◌∙◌, subst, arith, add-one, inl, inr}
use Rattle.std.specs.Prelude.{slice_get, nat_eq, ◌&&◌, option_map}
use Rattle.std.specs.Cmp.Derive.{both_true}
use Rattle.std.specs.Str.{bytes_eq}
use Rattle.std.proofs.lemmas.Bool.{cases_Bool, eq-eqb, eqb-true, true≢false}
use Rattle.std.proofs.lemmas.List.{length-append}
use Rattle.std.proofs.lemmas.Option.{slice_get-map}
use Rattle.std.proofs.lemmas.Slice.Eq.{bytes_eq-Decides}
use Rattle.sgt_names.specs.Name.{Name}
use Rattle.sgt_names.specs.declared.entry.Holding.{Holding}
use Rattle.sgt_names.proofs.Places.{take-next}
use Rattle.sgt_bundle.specs.Text.{section_lines, sections_from}
use Rattle.sgt_bundle.specs.declared.bundle.SiteLog.{SiteLog}
use Rattle.sgt_audit.proofs.MayFollow.{sections-append}
use Rattle.sgt_audit_chain.specs.Break.{BreaksHere, site_line}
use Rattle.sgt_audit_chain.specs.Chain.{initial_of}

-- one more that is the same
pub front-next : {A : Type 0} (xs ys : List A) (n : ℕ) (a : A) → take n xs ≡ take n ys → slice_get xs n ≡ Some a
    → slice_get ys n ≡ Some a → take (n + 1) xs ≡ take (n + 1) ys
front-next xs ys n a same here there =
    ap (λ k. take k xs) (add-one n) ∙ take-next xs n a here ∙ ap (λ zs. zs ++ a ∷ []) same
    ∙ sym (take-next ys n a there) ∙ ap (λ k. take k ys) (sym (add-one n))

holding-of : Name → ℕ → Holding
holding-of x v = record { item = x; value = v }

-- the test of two holdings
pub holding-same : (h k : Holding) → (bytes_eq h.item k.item && nat_eq h.value k.value) ≡ true → h ≡ k
unfolding holding-of
holding-same h k both = elim (cases_Bool (bytes_eq h.item k.item)) [
  | inl hit ↦ elim (cases_Bool (nat_eq h.value k.value)) [
    | inl same ↦ ap₂ holding-of ((bytes_eq-Decides h.item k.item).0 hit) (eqb-true h.value k.value same)
    | inr miss ↦ absurd (true≢false (sym both ∙ ap₂ (λ a b. a && b) hit miss))
  ]
  | inr miss ↦ absurd (true≢false (sym both ∙ ap (λ t. t && nat_eq h.value k.value) miss))
]

pub holding-other : (h k : Holding) → (bytes_eq h.item k.item && nat_eq h.value k.value) ≡ false → h ≢ k
holding-other h k not same =
    true≢false
    (sym (both_true ((bytes_eq-Decides h.item k.item).1 (ap (λ (h : Holding). h.item) same))
    (eq-eqb h.value k.value (ap (λ (h : Holding). h.value) same))) ∙ not)

-- the line behind one more section
pub line-next : (logs : List SiteLog) (n : ℕ) (log : SiteLog) → slice_get logs n ≡ Some log
    → site_line logs (n + 1) ≡ site_line logs n + length (section_lines (length (take n logs)) log)
line-next logs n log at =
    let before = take n logs in
    let here = section_lines (0 + length before) log in
    let front = ap (λ k. take k logs) (add-one n) ∙ take-next logs n log at in
    let lines = ap (sections_from 0) front ∙ sections-append 0 before (log ∷ []) in
    let more = length-append (sections_from 0 before) (here ++ []) in
    let last = length-append here [] in
    let same = ap (λ k. length (section_lines k log)) (let e : 0 + length before ≡ length before = omega arith in e) in
    let all = ap length lines in
    omega (arith, all, more, last, same)

-- the items of a site and what was left of it
pub breaks-at : (items left : Option (List Holding)) (xs ys : List Holding) (here place : ℕ) → items ≡ Some xs
    → left ≡ Some ys → take place xs ≡ take place ys → slice_get xs place ≢ slice_get ys place
    → BreaksHere items left here (here + place + 1)
breaks-at items left xs ys here place are was same other =
    subst (λ o. BreaksHere o left here (here + place + 1)) (sym are)
    (subst (λ o. BreaksHere (Some xs) o here (here + place + 1)) (sym was) (place, same, other, refl))

pub missing-at : (items left : Option (List Holding)) (ys : List Holding) (here : ℕ) → items ≡ None → left ≡ Some ys
    → BreaksHere items left here here
missing-at items left ys here are was =
    subst (λ o. BreaksHere o left here here) (sym are) (subst (λ o. BreaksHere None o here here) (sym was) refl)

-- the items of a site
pub items-at : (logs : List SiteLog) (n : ℕ) (log : SiteLog) → slice_get logs n ≡ Some log
    → slice_get (map initial_of logs) n ≡ Some log.items
items-at logs n log at = slice_get-map initial_of logs n ∙ ap (option_map initial_of) at
