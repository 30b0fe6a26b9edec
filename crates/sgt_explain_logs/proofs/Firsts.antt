-- First lines: of an answer of a no, and of logs.
use Rattle.std.proofs.Common.{◌≡◌, ◌++◌, ◌∷◌, ℕ, List, [], codes, decimal, inl, inr, refl, subst}
use Rattle.sgt_notation.specs.Spelling.{HasNoLf}
use Rattle.sgt_notation.proofs.OneSpelling.{HasNot}
use Rattle.sgt_notation.proofs.Texts.{has_no_lf}
use Rattle.sgt_names.specs.declared.outcome.Outcome.TheVariants.{No}
use Rattle.sgt_certify.specs.Answer.{fault_text, refusal_text, IsAnswer}
use Rattle.sgt_certify.specs.declared.refuting.Refusal.{Refusal}
use Rattle.sgt_certify.specs.declared.refuting.Refusal.TheVariants.{Order, Ranks, Walk}

behind : (xs ys : List ℕ) → HasNot 10 (xs ++ ys) → HasNot 10 ys
behind [] ys h = h
behind (x ∷ xs) ys h = behind xs ys h.1

of-refusal : (r : Refusal) (lines : List ℕ) → HasNot 10 (refusal_text r ++ lines) → ⊥
of-refusal Order lines h = (behind (codes "no order") (10 ∷ lines) h).0 refl
of-refusal Ranks lines h = (behind (codes "no ranks") (10 ∷ lines) h).0 refl
of-refusal Walk lines h = (behind (codes "no walk") (10 ∷ lines) h).0 refl

of-fault : (line number : ℕ) → HasNot 10 (fault_text line number) → ⊥
of-fault line number h =
    let behind-line = behind (decimal line) (codes " F" ++ (decimal number ++ codes "\n"))
    (behind (codes "no line ") _ h) in
    (behind (decimal number) (codes "\n") (behind (codes " F") _ behind-line)).0 refl

-- an answer of a no has an LF
pub no_has_lf : (bytes text : List ℕ) → IsAnswer bytes No text → HasNoLf text → ⊥
no_has_lf bytes text (inl refused) h =
    of-refusal refused.refusal refused.lines (subst (HasNot 10) refused.told (has_no_lf text h))
no_has_lf bytes text (inr faulty) h =
    of-fault faulty.line _ (subst (HasNot 10) faulty.told (has_no_lf text h))
