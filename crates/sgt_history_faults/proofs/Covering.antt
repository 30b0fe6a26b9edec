-- What covers a fault, and what contradicts its own transaction.
use Rattle.std.proofs.Common.{◌≡◌, ◌≢◌, ℕ, zero, suc, ◌+◌, ◌<◌, ◌≤◌, true, List, Option, Some, None, length, refl, sym, ap, ◌∙◌, subst, arith, inl, inr, ◌⊎◌}
use Rattle.std.specs.Prelude.{slice_get}
use Rattle.std.proofs.lemmas.Bool.{cases_lt}
use Rattle.sgt_history.specs.declared.history.Kind.{Kind}
use Rattle.sgt_history.specs.declared.history.Kind.TheVariants.{Read, Write}
use Rattle.sgt_history.specs.declared.history.Operation.{Operation}
use Rattle.sgt_history.specs.declared.named.Flaw.TheVariants.{Internal}
use Rattle.sgt_history.specs.Transaction.{Transaction}
use Rattle.sgt_history.specs.Flaws.{HasFlaw, IsFaulty, IsToldFirst, rank_of}
use Rattle.sgt_history_faults.specs.declared.fault.Fault.{Fault}
use Rattle.sgt_history_faults.specs.Mine.{ContradictsOwn}
use Rattle.sgt_history_faults.specs.Noted.{Covers, IsReal}
use Rattle.sgt_history_faults.specs.Touch.{IsContradicted, TellsContradiction}

-- what covers a fault covers each that is told later
pub covers-on : (first : Option Fault) (l r p l' r' p' : ℕ) → Covers first l r p → IsToldFirst l r p l' r' p'
    → Covers first l' r' p'
covers-on None l r p l' r' p' c told = c
covers-on (Some f) l r p l' r' p' c told = told-on f.line (rank_of f.flaw) f.place l r p l' r' p' c told
  where
    told-on : (a b c l r p l' r' p' : ℕ) → IsToldFirst a b c l r p → IsToldFirst l r p l' r' p'
        → IsToldFirst a b c l' r' p'
    told-on a b c l r p l' r' p' (inl x) (inl y) = inl (omega (arith, x, y))
    told-on a b c l r p l' r' p' (inl x) (inr (e, y)) = inl (omega (arith, x, e))
    told-on a b c l r p l' r' p' (inr (e, x)) (inl y) = inl (omega (arith, e, y))
    told-on a b c l r p l' r' p' (inr (e, inl x)) (inr (f, inl y)) = inr (e ∙ f, inl (omega (arith, x, y)))
    told-on a b c l r p l' r' p' (inr (e, inl x)) (inr (f, inr (g, y))) = inr (e ∙ f, inl (omega (arith, x, g)))
    told-on a b c l r p l' r' p' (inr (e, inr (k, x))) (inr (f, inl y)) = inr (e ∙ f, inl (omega (arith, k, y)))
    told-on a b c l r p l' r' p' (inr (e, inr (k, x))) (inr (f, inr (g, y))) =
        inr (e ∙ f, inr (k ∙ g, omega (arith, x, y)))

pub kinds : (k : Kind) → (k ≡ Read) ⊎ (k ≡ Write)
kinds Read = inl refl
kinds Write = inr refl

pub contradiction-noted : (next : Option Fault) (line first place : ℕ) (done : List (Operation ℕ ℕ))
    → TellsContradiction done (length done) (Some first)
    → IsContradicted done place → Covers next line 0 first → Covers next line 0 place
contradiction-noted next line first place done tells is c =
    covers-on next line 0 first line 0 place c (inr (
      refl,
      inr (
        refl,
        elim (cases_lt place first) [
          | inl less ↦ absurd (tells.2 place less is)
          | inr most ↦ most
        ],
      ),
    ))
