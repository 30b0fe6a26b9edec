-- The operations of a script, one after another.
use Rattle.std.proofs.Common.{◌≡◌, ◌+◌, ℕ, zero, suc, List, [], ◌∷◌, ◌++◌, take, drop, Some, true, false, true≢false, refl, sym, ap, ◌∙◌, subst, inl, inr}
use Rattle.std.specs.Prelude.{slice_get}
use Rattle.std.proofs.lemmas.Option.{same_Some}
use Rattle.sgt_names.proofs.Lists.{take_next}
use Rattle.sgt_names.specs.declared.draft.Touch.{Touch}
use Rattle.sgt_notation.specs.declared.script.Op.{Op}
use Rattle.sgt_service.specs.Operations.{Does, DoesAll, op_fits}

-- one more is done
pub does_next : (ops : List Op) (op : Op) (old mid new : List Touch) (reads heard reads' : List ℕ)
    → DoesAll ops true old mid reads heard
    → op_fits mid op ≡ true → Does op mid new heard reads' → DoesAll (ops ++ op ∷ []) true old new reads reads'
does_next [] op old mid new reads heard reads' so fits does =
    inr (
      ap (λ d. op_fits d op) (sym so.1)
          ∙ fits,
      (
        new,
        reads',
        subst (λ d. Does op d new reads reads') so.1 (subst (λ r. Does op mid new r reads') so.2 does),
        (refl, refl, refl),
      ),
    )
does_next (o ∷ ops) op old mid new reads heard reads' so fits does = elim so [
  | inl stop ↦ absurd (true≢false stop.1)
  | inr on ↦ inr (on.0, (on.1.0, on.1.1, on.1.2, does_next ops op on.1.0 mid new on.1.1 heard reads' on.1.3 fits does))
]

-- the next one's sum is too large, and nothing behind it is done
pub does_stop : (ops : List Op) (op : Op) (rest : List Op) (old mid : List Touch) (reads heard : List ℕ)
    → DoesAll ops true old mid reads heard
    → op_fits mid op ≡ false → DoesAll (ops ++ op ∷ rest) false old mid reads heard
does_stop [] op rest old mid reads heard so fits = inl (ap (λ d. op_fits d op) (sym so.1) ∙ fits, refl, so.1, so.2)
does_stop (o ∷ ops) op rest old mid reads heard so fits = elim so [
  | inl stop ↦ absurd (true≢false stop.1)
  | inr on ↦ inr (on.0, (on.1.0, on.1.1, on.1.2, does_stop ops op rest on.1.0 mid on.1.1 heard on.1.3 fits))
]

-- so it is in a list of which these are the first
pub does_stop_at : (ops : List Op) (n : ℕ) (op : Op) (old mid : List Touch) (reads heard : List ℕ)
    → slice_get ops n ≡ Some op
    → DoesAll (take n ops) true old mid reads heard → op_fits mid op ≡ false → DoesAll ops false old mid reads heard
does_stop_at ops n op old mid reads heard at so fits =
    subst (λ xs. DoesAll xs false old mid reads heard) (sym (split_at_place ops n op at))
    (does_stop (take n ops) op (drop (suc n) ops) old mid reads heard so fits)
  where
    split_at_place : (xs : List Op) (k : ℕ) (x : Op) → slice_get xs k ≡ Some x → xs ≡ take k xs ++ x ∷ drop (suc k) xs
    split_at_place [] k x h = absurd cc
    split_at_place (y ∷ ys) zero x h = ap (λ z. z ∷ ys) (same_Some y x h)
    split_at_place (y ∷ ys) (suc k) x h = ap (λ zs. y ∷ zs) (split_at_place ys k x h)

pub does_next_at : (ops : List Op) (n : ℕ) (op : Op) (old mid new : List Touch) (reads heard reads' : List ℕ)
    → slice_get ops n ≡ Some op
    → DoesAll (take n ops) true old mid reads heard → op_fits mid op ≡ true → Does op mid new heard reads'
    → DoesAll (take (n + 1) ops) true old new reads reads'
does_next_at ops n op old mid new reads heard reads' at so fits does =
    subst (λ xs. DoesAll xs true old new reads reads') (sym (take_next ops n op at))
    (does_next (take n ops) op old mid new reads heard reads' so fits does)
