-- No two faults have one number.
use Rattle.std.proofs.Common.{◌≡◌, ℕ, refl, sym, ap, ◌∙◌, cond}
use Rattle.std.specs.Prelude.{◌==◌}
use Rattle.sgt_audit.specs.declared.faults.Fault.{Fault}
use Rattle.sgt_audit.specs.declared.faults.Fault.TheVariants as fault
use Rattle.sgt_audit.specs.Faults.{fault_number}

abbrev fault_of : ℕ → Fault
fault_of n =
    cond (n == 1) fault.Format
    (cond (n == 2) fault.Notation
    (cond (n == 3) fault.Certificate
    (cond (n == 4) fault.Ranks (cond (n == 5) fault.DecidedTwice (cond (n == 6) fault.WalkShape
    (cond (n == 7) fault.Section
    (cond (n == 8) fault.Item
    (cond (n == 9) fault.Twice
    (cond (n == 10) fault.ReadValue (cond (n == 11) fault.RankOrder (cond (n == 12) fault.Block
    (cond (n == 13) fault.End
    (cond (n == 14) fault.DecisionOrder
    (cond (n == 15) fault.NotEnded
    (cond (n == 16) fault.Final
    (cond (n == 17) fault.WalkStep (cond (n == 18) fault.Truncated fault.Trailing)))))))))))))))))

back : (f : Fault) → fault_of (fault_number f) ≡ f
back fault.Format = refl
back fault.Notation = refl
back fault.Certificate = refl
back fault.Ranks = refl
back fault.DecidedTwice = refl
back fault.WalkShape = refl
back fault.Section = refl
back fault.Item = refl
back fault.Twice = refl
back fault.ReadValue = refl
back fault.RankOrder = refl
back fault.Block = refl
back fault.End = refl
back fault.DecisionOrder = refl
back fault.NotEnded = refl
back fault.Final = refl
back fault.WalkStep = refl
back fault.Truncated = refl
back fault.Trailing = refl

pub number-one : (f g : Fault) → fault_number f ≡ fault_number g → f ≡ g
number-one f g e = sym (back f) ∙ ap fault_of e ∙ back g
