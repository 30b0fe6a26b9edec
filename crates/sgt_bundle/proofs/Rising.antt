-- Names that rise, as a loop over them finds it.
use Rattle.std.proofs.Common.{◌≡◌, ℕ, ◌+◌, ◌<◌, ◌≤◌, List, [], ◌∷◌, length, drop, get_or, refl, sym, subst, arith, AllPairs, ap, ◌∙◌, zero, suc, add-one, drop-cons}
use Rattle.std.specs.Prelude.{◌↔◌}
use Rattle.std.proofs.lemmas.List.{drop_all}
use Rattle.std.proofs.lemmas.List.Kept.{AllPairs-cons}
use Rattle.std.proofs.lemmas.Cmp.{nat_list_cmp_total}
use Rattle.sgt_names.specs.Log.{names}
use Rattle.sgt_names.specs.Name.{Name}
use Rattle.sgt_names.specs.declared.entry.Holding.{Holding}
use Rattle.sgt_names.proofs.Places.{AllPairs-tail}
use Rattle.sgt_bundle.specs.Parts.{ComesBefore}

-- two names in a row that rise, in front of others
rise-step : (x y : Name) (more : List Name) → ComesBefore x y → AllPairs ComesBefore (x ∷ y ∷ more)
    ↔ AllPairs ComesBefore (y ∷ more)
rise-step x y more before = (
  λ h. AllPairs-tail ComesBefore x (y ∷ more) h,
  λ h. AllPairs-cons ComesBefore x (y ∷ more)
      (elim [
        | zero ↦ λ d within. before
        | suc k ↦ λ d within. nat_list_cmp_total.trans x y (get_or more k d) before
            (h 0 (suc k) d (omega arith) within)
      ]) h,
)

pub rise-one : (x : Name) → AllPairs ComesBefore (x ∷ [])
rise-one x i j d less within = absurd (omega arith)

next-name : (xs : List Holding) (i : ℕ) (x : Holding) → i < length xs → x ≡ get_or xs i x
    → names (drop i xs) ≡ x.item ∷ names (drop (i + 1) xs)
next-name xs i x within is =
    let cut : drop i xs ≡ get_or xs i x ∷ drop (i + 1) xs = rw (add-one, drop-cons xs i x) refl in
    ap names cut ∙ ap (λ (h : Holding). h.item ∷ names (drop (i + 1) xs)) (sym is)

-- the same, at a place of a list
pub rise-more : (all : List Name) (last : Name) (xs : List Holding) (i : ℕ) (x : Holding) → i < length xs
    → x ≡ get_or xs i x → ComesBefore last x.item
    → AllPairs ComesBefore (last ∷ names (drop i xs)) ↔ AllPairs ComesBefore all
    → AllPairs ComesBefore (x.item ∷ names (drop (i + 1) xs)) ↔ AllPairs ComesBefore all
rise-more all last xs i x within is before h =
    let e = ap (λ (ns : List Name). last ∷ ns) (next-name xs i x within is) in
    let step = rise-step last x.item (names (drop (i + 1) xs)) before in
    (λ g. h.0 (subst (AllPairs ComesBefore) (sym e) (step.1 g)), λ g. step.0 (subst (AllPairs ComesBefore) e (h.1 g)))

pub rise-not : (all : List Name) (last : Name) (xs : List Holding) (i : ℕ) (x : Holding) → i < length xs
    → x ≡ get_or xs i x → (ComesBefore last x.item → ⊥)
    → AllPairs ComesBefore (last ∷ names (drop i xs)) ↔ AllPairs ComesBefore all → AllPairs ComesBefore all → ⊥
rise-not all last xs i x within is fails h g =
    fails (subst (AllPairs ComesBefore) (ap (λ (ns : List Name). last ∷ ns) (next-name xs i x within is))
    (h.1 g) 0 1 last (omega arith) (omega arith))

pub rise-end : (all : List Name) (last : Name) (xs : List Holding) (i : ℕ) → length xs ≤ i
    → AllPairs ComesBefore (last ∷ names (drop i xs)) ↔ AllPairs ComesBefore all → AllPairs ComesBefore all
rise-end all last xs i past h =
    h.0 (subst (λ (ys : List Holding). AllPairs ComesBefore (last ∷ names ys)) (sym (drop_all i xs past))
    (rise-one last))
