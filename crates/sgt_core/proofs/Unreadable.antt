-- What is told of bytes that can't be read.
use Rattle.std.proofs.Common.{ℕ, List, Option, Some, None, IfSome, refl}
use Rattle.sgt_names.specs.declared.outcome.Outcome.{Outcome}
use Rattle.sgt_names.specs.declared.outcome.Outcome.TheVariants as outcome
use Rattle.sgt_input.proofs.SitedLines.{input-no_fault}
use Rattle.sgt_core.specs.Replay.{IsAnswer, TellsUnreadable}
use Rattle.sgt_core.proofs.OneInput.{events-kind}

-- an answer calls the bytes unreadable, or there is an input that they spell
pub answer-unreadable : (told : Option (List ℕ)) (o : Outcome) (text : List ℕ) → IsAnswer told o text
    → IfSome told (λ bytes. TellsUnreadable bytes o)
answer-unreadable None o text a = tt
answer-unreadable (Some bytes) outcome.Yes text a = ((λ same. absurd cc), λ none. absurd (none a.0 a.1))
answer-unreadable (Some bytes) outcome.No text a = ((λ same. absurd cc), λ none. absurd (none a.0 a.1))
answer-unreadable (Some bytes) outcome.Unreadable text a =
    ((λ same input spells. input-no_fault events-kind bytes input a.0 a.1 spells a.3), λ none. refl)
