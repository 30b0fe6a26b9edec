use Rattle.std.proofs.Common.{ℕ, List, ◌++◌, ◌∷◌, sym, ap, ◌∙◌, subst, append_assoc}
use Rattle.sgt_bundle.specs.Text.{format_line}
use Rattle.sgt_certify_faults.specs.Faults.{HasNoFaultWithin, IsFirstFault}
use Rattle.sgt_certify_faults.proofs.ReadLines.{first-line}
use Rattle.sgt_certify_faults.proofs.Within.{no-line, none-within}
use Rattle.sgt_certify_faults.proofs.first.fault_within.Goals as goal

pub returns-in_default-clause-none : goal.returns-in_default-clause-none
returns-in_default-clause-none c = no-line c.args.text.now c.in_default.ensures.none

pub returns-in_default-read_format-clause-found : goal.returns-in_default-read_format-clause-found
returns-in_default-read_format-clause-found c more =
    let split = c.in-Some.ensures.some in
    first-line c.args.text.now c.in-Some.first.now c.in-Some.behind.now more split.0 split.1
    c.in_default-read_format.ensures.none

pub returns-in-Ok-clause-none : goal.returns-in-Ok-clause-none
returns-in-Ok-clause-none c =
    let split = c.in-Some.ensures.some in
    let text = split.1 ∙ ap (λ (l : List ℕ). l ++ 10 ∷ c.in-Some.behind.now) c.in-Some-read_format.ensures.some in
    let left = rw c.in-Ok.is at c.in_ok-read_lines.ensures.left in
    subst HasNoFaultWithin (sym text)
    (none-within c.in-Some-read_format.second c.in-Some.behind.now _ left.2.sections _ left.2.read left.0)

pub returns-clause-found : goal.returns-clause-found
returns-clause-found c more =
    let split = c.in-Some.ensures.some in
    let text = split.1 ∙ ap (λ (l : List ℕ). l ++ 10 ∷ c.in-Some.behind.now) c.in-Some-read_format.ensures.some in
    let found = rw c.in-Err.is at c.in_ok-read_lines.ensures.fault in
    let front = format_line c.in-Some-read_format.second in
    let P : List ℕ → Type 0 = λ t. IsFirstFault t c.in-Err.first.line c.in-Err.first.fault in
    subst (λ (t : List ℕ). P (t ++ more)) (sym text)
    (subst P (sym (append_assoc front (10 ∷ c.in-Some.behind.now) more)) (found more))
