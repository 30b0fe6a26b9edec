-- What is told of bytes that can't be read.
use Rattle.std.proofs.Common.{ℕ, List, Option, Some, None, IfSome, refl}
use Rattle.sgt_names.specs.declared.outcome.Outcome.{Outcome}
use Rattle.sgt_names.specs.declared.outcome.Outcome.TheVariants as outcome
use Rattle.sgt_input.proofs.SitedLines.{input-no_fault}
use Rattle.sgt_service.specs.Report.{IsAnswer, TellsUnreadable}
use Rattle.sgt_service.proofs.OneInput.{scripts-kind}

-- an answer calls the bytes unreadable, or there is an input that they spell
pub answer-unreadable : (tries : ℕ) (told : Option (List ℕ)) (o : Outcome) (text : List ℕ)
    → IsAnswer tries told o text → IfSome told (λ bytes. TellsUnreadable bytes o)
answer-unreadable tries None o text a = tt
answer-unreadable tries (Some bytes) outcome.Yes text a = ((λ same. absurd cc), λ none. absurd (none a.0 a.1))
answer-unreadable tries (Some bytes) outcome.No text a = ((λ same. absurd cc), λ none. absurd (none a.0 a.1))
answer-unreadable tries (Some bytes) outcome.Unreadable text a =
    ((λ same input spells. input-no_fault scripts-kind bytes input a.0 a.1 spells a.3), λ none. refl)
