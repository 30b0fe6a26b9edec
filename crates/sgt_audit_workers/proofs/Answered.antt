-- Verdicts, by how often the reader was asked for them.
use Rattle.std.proofs.Common.{Bool, true, false, IsTrue, refl, ◌≡◌, ℕ, ◌+◌, ◌-◌, ◌*◌, ◌≤◌, List, [], ◌∷◌, length, Option, Some, None, IfSome, sym, subst, arith}
use Rattle.std.specs.Prelude.{Result, Ok, Err, if◌then◌else◌}
use Rattle.std.specs.Arc.{arc_value}
use Rattle.std.proofs.Math.Nat.{add-mul, mul-le-mul_right}
use Rattle.sgt_names.specs.declared.outcome.EngineFail.TheVariants.{Memory, ReadFault}
use Rattle.sgt_notation.specs.Lines.{ReadFaultIsDue}
use Rattle.sgt_audit.specs.Faults.{FirstFault, HasNoFault, reach}
use Rattle.sgt_audit.specs.Verdict.{IsVerdict}
use Rattle.sgt_audit.specs.declared.faults.Fault.{Fault}
use Rattle.sgt_audit.specs.declared.verdict.Verdict.{Verdict}
use Rattle.sgt_audit.specs.declared.verdict.Verdict.TheVariants.{Yes, No}
use Rattle.sgt_audit.proofs.OneFault.{first_fault-excluded}
use Rattle.sgt_audit_workers.specs.Cut.{longest}
use Rattle.sgt_audit_workers.specs.Reads.{IsFailOf, IsYes, Reader, ReadsLittleFurther, room}
use Rattle.sgt_audit_workers.specs.declared.sections.Section.{Section}
use Rattle.sgt_audit_workers.specs.declared.sections.Text.{Text}
use Rattle.sgt_audit_workers.specs.declared.workers.Workers.{Workers}
use Rattle.sgt_audit_workers.specs.private.Begun.{IsVerdictNear}
use Rattle.sgt_audit_workers.specs.private.Tallied.{IsAnswer, IsFound, second_size}
use Rattle.sgt_audit_workers.specs.private.Texts.{HasAsked, HasRead, IsAsked, spare}
use Rattle.sgt_audit_workers.specs.private.Working.{GoesOn, NextGoes}
use Rattle.sgt_audit_workers.proofs.Left.{ahead-bytes, left-asked, spare-few}
use Rattle.sgt_audit_workers.proofs.Taken.{answer-more, answer-of, found-on}

-- so many sections and these were read behind it, and perhaps an open one
pub read-answer : (second few many : ℕ) (first now : Reader) (from : Option (List ℕ)) (ahead : List Section)
    (text : Text) (v : Verdict) → IsFound second first.told from (few * longest text.most) v
    → HasRead first from ahead text now → IsAsked first text now
    → few + length ahead + 1 ≤ many → IsAnswer second first now (many * longest text.most) v
read-answer second few many first now from ahead text v found has asked le =
    let each = longest text.most in
    let here = few + length ahead in
    let more = ahead-bytes text.most from has.0 ahead has.1 in
    let all = found-on second (few * each) (length ahead * each) (here * each) first.told from has.0 more.0 v found
    more.1 more.2 (omega (arith, add-mul few (length ahead) each)) in
    let open_one : spare text.state * each ≤ 1 * each = mul-le-mul_right each (spare-few text.state) in
    let held : (here + 1) * each ≤ many * each = mul-le-mul_right each le in
    answer-of second (here * each) (spare text.state * each) (many * each) first now has.0 v all
    (left-asked first now text has.0 asked has.2) (omega (arith, open_one, held, add-mul here 1 each))

-- these were read behind it
pub text-answer : (second many : ℕ) (first now : Reader) (from : Option (List ℕ)) (ahead : List Section) (text : Text)
    (v : Verdict) → IsFound second first.told from 0 v → HasRead first from ahead text now → IsAsked first text now
    → length ahead + 1 ≤ many
    → IsAnswer second first now (many * longest text.most) v
text-answer second many first now from ahead text v found has asked le =
    let none : 0 ≡ 0 * longest text.most = omega arith in
    read-answer second 0 many first now from ahead text v (subst (λ n. IsFound second first.told from n v) none found)
    has asked (omega (arith, le))

-- none was read
pub nothing-ahead : (first now : Reader) (from : Option (List ℕ)) (ahead : List Section) (text : Text)
    → length ahead ≡ 0 → HasRead first from ahead text now → HasRead first from [] text now
nothing-ahead first now from [] text none has = has
nothing-ahead first now from (s ∷ ahead) text none has = absurd (omega (arith, none))

-- what comes behind all sections was read
pub end-answer : (second many most few : ℕ) (first now : Reader) (left : Option (List ℕ)) (v : Verdict)
    → IsFound second first.told left 0 v → HasAsked first left (longest few) now → few ≡ most
    → IsAnswer second first now ((many + 1) * longest most) v
end-answer second many most few first now left v found asked same =
    let each = longest most in
    answer-of second 0 each ((many + 1) * each) first now left v found
    (subst (λ m. HasAsked first left (longest m) now) same asked) (omega (arith, add-mul many 1 each))

-- it goes little further than the fault
pub near : (workers second behind : ℕ) (first now : Reader) (v : Verdict) → IsAnswer second first now behind v
    → behind ≤ workers * room + second → IsVerdictNear workers first now v
near workers second behind first now v answer le = known first.told answer
  where
    known : (told : Option (List ℕ))
        → IfSome told (λ bytes. IsVerdict bytes v × ((n : ℕ) (f : Fault) (fault : FirstFault bytes n f)
        → (second ≤ reach bytes n f fault) × (now.asked ≤ first.asked + reach bytes n f fault + behind)))
        → IfSome told (λ bytes. IsVerdict bytes v × ReadsLittleFurther workers bytes (now.asked - first.asked))
    known None answer = tt
    known (Some bytes) answer = (answer.0, λ n f fault. let far = answer.1 n f fault in omega (arith, far.0, far.1, le))

-- a verdict that workers found, where these sections were read behind those that they have
pub next-found : (second few : ℕ) (first now : Reader) (from : Option (List ℕ)) (ahead : List Section) (text : Text)
    (w : Workers) (v : Verdict) → IsFound second first.told from (few * longest w.most) v → text.most ≡ w.most
    → HasRead first from ahead text now → IsAsked first text now
    → few + length ahead + 1 ≤ 2 * w.count → IsAnswer second first now (2 * w.count * longest w.most) v
next-found second few first now from ahead text w v found same has asked le =
    subst (λ m. IsAnswer second first now (2 * w.count * longest m) v) same
    (read-answer second few (2 * w.count) first now from ahead text v
    (subst (λ m. IsFound second first.told from (few * longest m) v) (sym same) found) has asked le)

pub goes-next : {X : Type 0} (first now : Reader) (from : Option (List ℕ)) (few : ℕ) (ahead : List Section)
    (text : Text) (w : Workers) (r : Result X Verdict) → GoesOn first.told from few w r → text.most ≡ w.most
    → HasRead first from ahead text now → IsAsked first text now
    → few + length ahead + 1 ≤ 2 * w.count → NextGoes first w ahead text now r
goes-next first now from few ahead text w (Ok x) works same has asked le = (from, works, has)
goes-next first now from few ahead text w (Err v) found same has asked le =
    next-found (second_size (arc_value w.head)) few first now from ahead text w v found same has asked le

-- a verdict on the section that was open
pub open-next : (second : ℕ) (first now : Reader) (most : ℕ) (w : Workers) (v : Verdict)
    → IsAnswer second first now (2 * longest most) v → most ≡ w.most → 2 ≤ w.count
    → IsAnswer second first now (2 * w.count * longest w.most) v
open-next second first now most w v answer same two =
    let each = longest w.most in
    answer-more second (2 * each) (2 * w.count * each) first now v
    (subst (λ m. IsAnswer second first now (2 * longest m) v) same answer)
    (mul-le-mul_right each (omega (arith, two)))

-- ---- what is answered where there is no verdict

pub fail-is : (first now : Reader) (failed : Bool)
    → (IsTrue failed → ReadFaultIsDue first.told first.failures now.failures first.asked now.asked)
    → (failed ≡ false → now.failures ≡ first.failures) → IsFailOf first now (if failed then ReadFault else Memory)
fail-is first now true due quiet = due refl
fail-is first now false due quiet = quiet refl

-- of a text with no fault
pub valid-yes : (bytes : List ℕ) (v : Verdict) → HasNoFault bytes → IsVerdict bytes v → IsYes v
valid-yes bytes (Yes committed refused withdrawn) good is = tt
valid-yes bytes (No n f) good is = absurd (first_fault-excluded bytes n f is good)
