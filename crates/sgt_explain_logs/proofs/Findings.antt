-- Whether logs have a transaction: where the lines end that are looked at.
use Rattle.std.proofs.Common.{◌≡◌, ◌≢◌, Bool, ℕ, List, ◌++◌, codes, Option, Some, None, inl, inr, refl, subst, ap, arith}
use Rattle.std.specs.Prelude.{get_or}
use Rattle.sgt_names.specs.declared.outcome.Outcome.{Outcome}
use Rattle.sgt_names.specs.declared.outcome.Outcome.TheVariants.{Yes, No, Unreadable}
use Rattle.sgt_certify.specs.Answer.{IsAnswer, refusal_text}
use Rattle.sgt_certify.specs.declared.refuting.Refusal.{Refusal}
use Rattle.sgt_certify.specs.declared.refuting.Refusal.TheVariants.{Order, Ranks, Walk}
use Rattle.sgt_certify_faults.specs.Faults.{IsFaultless}
use Rattle.sgt_explain_transaction.specs.Dealings.{IsAnyOwn}
use Rattle.sgt_explain_logs.specs.Explained.{IsFound, IsFoundBefore}

-- the line of a refusal is no fault's
pub no-fault_line : (r : Refusal) (lines rest : List ℕ) → refusal_text r ++ lines ≡ codes "no line " ++ rest → ⊥
no-fault_line Order lines rest e = absurd (omega (arith, ap (λ (l : List ℕ). get_or l 3 0) e))
no-fault_line Ranks lines rest e = absurd (omega (arith, ap (λ (l : List ℕ). get_or l 3 0) e))
no-fault_line Walk lines rest e = absurd (omega (arith, ap (λ (l : List ℕ). get_or l 3 0) e))

-- of a text without a fault all lines are looked at
pub behind-all : (bytes : List ℕ) (outcome : Outcome) (text : List ℕ) (end : ℕ) → outcome ≢ Yes
    → IsAnswer bytes outcome text → IsFaultless bytes
    → ((r : Refusal) (lines : List ℕ) → text ≡ refusal_text r ++ lines → end ≡ 18446744073709551615)
    → end ≡ 18446744073709551615
behind-all bytes Yes text end other is faultless of_refusal = absurd (other refl)
behind-all bytes No text end other (inl refused) faultless of_refusal =
    of_refusal refused.refusal refused.lines refused.told
behind-all bytes No text end other (inr faulty) faultless of_refusal =
    absurd (faultless faulty.line faulty.fault faulty.shown.has)
behind-all bytes Unreadable text end other is faultless of_refusal = absurd is

pub found-whole : (bytes : List ℕ) (end : ℕ) (asked : Option ℕ) (found : Bool)
    → (IsFaultless bytes → end ≡ 18446744073709551615) → IsFoundBefore bytes end asked found
    → IsFound bytes asked found
found-whole bytes end None found ends is = is
found-whole bytes end (Some tx) found ends is = λ faultless. subst (λ n. IsAnyOwn bytes n tx found) (ends faultless) is
