-- Whether something comes, by what was read of it.
use Rattle.std.proofs.Common.{◌≡◌, ◌≢◌, ℕ, List, [], length, Option, Some, None, IfSome, sym, ap, ◌∙◌, arith, ◌⊎◌, inl, inr}
use Rattle.std.specs.Prelude.{Result, Ok}
use Rattle.std.specs.Io.KnownBytes.{Consumes}
use Rattle.std.proofs.lemmas.List.{length-append}
use Rattle.sgt_names.specs.Limits.{max_line}
use Rattle.sgt_names.specs.declared.outcome.EngineFail.{EngineFail}
use Rattle.sgt_notation.specs.Lines.{Ahead, IsLongerThan}
use Rattle.sgt_audit_workers.specs.Reads.{Reader}
use Rattle.sgt_audit_workers.specs.declared.cutting.Stop.{Stop}
use Rattle.sgt_audit_workers.specs.declared.cutting.Stop.TheVariants as stop
use Rattle.sgt_audit_workers.specs.private.Texts.{IsOpen}
use Rattle.sgt_audit_workers.proofs.Taken.{some-comes}

-- where a section is open
pub open-comes : (first now : Reader) (lines : Ahead) (most : ℕ) (left : Option (List ℕ)) (bytes : List ℕ)
    (s : Result Stop EngineFail) → IsOpen first lines most now left bytes s → (bytes ≢ []) ⊎ (s ≡ Ok stop.Long)
    → IfSome left (λ rest. rest ≢ [])
open-comes first now lines most left bytes s is (inl some) = some-comes left is.behind bytes is.read some
open-comes first now lines most left bytes s is (inr long) = by-left left is.behind is.read (long-behind s long is)
  where
    long-behind : (s : Result Stop EngineFail) → s ≡ Ok stop.Long → (o : IsOpen first lines most now left bytes s)
        → IfSome o.behind (IsLongerThan max_line)
    long-behind s long o = rw long at o.stops

    by-left : (left behind : Option (List ℕ)) → Consumes left behind bytes → IfSome behind (IsLongerThan max_line)
        → IfSome left (λ rest. rest ≢ [])
    by-left None behind read long = tt
    by-left (Some xs) None read long = absurd read
    by-left (Some xs) (Some ys) read long =
        λ none. absurd (omega (arith, long.0, ap length (sym read ∙ none), length-append bytes ys))
