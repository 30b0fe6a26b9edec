-- Calls, one behind the other.
use Rattle.std.proofs.Common.{◌≡◌, ◌<◌, ◌+◌, ◌++◌, ◌∷◌, [], ℕ, List, Option, Some, None, Result, Ok, Err, String, string_bytes, refl, sym, ap, subst, ◌∙◌, append_assoc, arith}
use Rattle.sgt_folder.specs.Call.{Call, Came, Step, store, link, sync, unlink, remove, make, name}
use Rattle.sgt_folder.specs.Keeping.{Keeps, Makes, Names, Tells, refusal_of, refusals_of, telling, made, failed, full, named, unstored, unlinked, unsynced, kept, unnamed, unmade}
use Rattle.sgt_folder.specs.declared.fault.FolderFault.{FolderFault}
use Rattle.sgt_folder.specs.declared.fault.FolderFault.TheVariants.{Memory, Taken}

abbrev err_number : FolderFault → Result ℕ FolderFault
err_number fault = Err fault

abbrev err_came : FolderFault → Came
err_came fault = Err fault

abbrev ok_came : Came
ok_came = Ok tt

abbrev ok_number : ℕ → Result ℕ FolderFault
ok_number n = Ok n

abbrev ok_told : {A : Type 0} → Option (String A) → Result (Option (String A)) FolderFault
ok_told told = Ok told

number_not : {P : Type 0} (n : ℕ) (fault : FolderFault) → ok_number n ≡ err_number fault → P
number_not n fault e = cc

same_number : (m n : ℕ) → ok_number m ≡ ok_number n → n ≡ m
same_number m n e = cc

pub then : (a b c xs ys : List Call) → b ≡ a ++ xs → c ≡ b ++ ys → c ≡ a ++ (xs ++ ys)
then a b c xs ys p q = q ∙ (ap (λ (l : List Call). l ++ ys) p ∙ append_assoc a xs ys)

pub telling_more : (names : List (List ℕ)) (text : List ℕ) → telling (names ++ text ∷ []) ≡ telling names ++ (name text, Ok tt) ∷ []
telling_more [] text = refl
telling_more (first ∷ names) text = ap (λ (l : List Call). (name first, Ok tt) ∷ l) (telling_more names text)

refusals_on : (before calls : List Call) → refusals_of (before ++ calls) ≡ refusals_of before + refusals_of calls
refusals_on [] calls = omega arith
refusals_on (call ∷ before) calls = let h = refusals_on before calls in omega (arith, h)

-- one of the calls told that a growth was refused
abbrev TellsMemory : List Call → Type 0
TellsMemory calls = 0 < refusals_of calls

memory_on : (before calls behind : List Call) → TellsMemory calls → TellsMemory (before ++ (calls ++ behind))
memory_on before calls behind t =
    let h = refusals_on before (calls ++ behind) in let k = refusals_on calls behind in omega (arith, h, k, t)

memory_last : (before : List Call) (step : Step) (came : Came) → came ≡ err_came Memory → TellsMemory (before ++ (step, came) ∷ [])
memory_last before step came e =
    let h = refusals_on before ((step, came) ∷ []) in
    let k : refusal_of came ≡ 1 = ap refusal_of e in
    omega (arith, h, k)

pub refusals_grow : (before after calls : List Call) → after ≡ before ++ calls → 0 < refusals_of calls
    → refusals_of before < refusals_of after
refusals_grow before after calls e t =
    let h = refusals_on before calls in let k : refusals_of after ≡ refusals_of (before ++ calls) = ap refusals_of e in
    omega (arith, h, k, t)

ok_not : {P : Type 0} → ok_came ≡ err_came Memory → P
ok_not e = cc

taken_not : {P : Type 0} → err_came Taken ≡ err_came Memory → P
taken_not e = cc

makes_memory : (number : ℕ) (calls : List Call) (came : Came) → Makes number calls came → came ≡ Err Memory → TellsMemory calls
makes_memory number _ _ (made {n} {calls} tries) e = ok_not e
makes_memory number _ _ (failed {n} {calls} {fault} tries other) e = memory_last calls (make number n) (Err fault) e
makes_memory number _ _ (full {calls} tries) e = taken_not e

names_memory : (number : ℕ) (text : List ℕ) (calls : List Call) (came : Came) → Names number text calls came → came ≡ Err Memory
    → TellsMemory calls
names_memory number text _ _ named e = ok_not e
names_memory number text _ _ (unstored {fault}) e = memory_last [] (store text) (Err fault) e
names_memory number text _ _ (unlinked {fault}) e = memory_last ((store text, Ok tt) ∷ []) (link number) (Err fault) e
names_memory number text _ _ (unsynced {fault} came) e =
    memory_on ((store text, Ok tt) ∷ (link number, Ok tt) ∷ []) ((sync, Err fault) ∷ []) ((unlink number, came) ∷ [])
    (memory_last [] sync (Err fault) e)

fault_of : (fault : FolderFault) → err_number fault ≡ Err Memory → fault ≡ Memory
fault_of fault e = cc

-- the same fault of another result
err_of : (fault : FolderFault) → err_number fault ≡ Err Memory → err_came fault ≡ Err Memory
err_of fault e = let h : fault ≡ Memory = fault_of fault e in ap err_came h

-- memory is told only where a call told it
pub keeps_memory : (number : ℕ) (text : List ℕ) (calls : List Call) (result : Result ℕ FolderFault) → Keeps number text calls result
    → result ≡ Err Memory → TellsMemory calls
keeps_memory number text _ _ (kept {made} {named} came m n) e = number_not number Memory e
keeps_memory number text _ _ (unnamed {made} {named} {fault} came m n) e =
    memory_on made named ((remove, came) ∷ []) (names_memory number text named (Err fault) n (err_of fault e))
keeps_memory number text _ _ (unmade {made} {fault} m) e = makes_memory number made (Err fault) m (err_of fault e)

-- ---- courses at the values of a run

pub unstored_at : (number : ℕ) (text : List ℕ) (fault : FolderFault) (result : Came) → result ≡ Err fault
    → Names number text ((store text, Err fault) ∷ []) result
unstored_at number text fault result e = subst (λ (r : Came). Names number text ((store text, Err fault) ∷ []) r) (sym e) unstored

pub unlinked_at : (number : ℕ) (text : List ℕ) (fault : FolderFault) (result : Came) → result ≡ Err fault
    → Names number text ((store text, Ok tt) ∷ (link number, Err fault) ∷ []) result
unlinked_at number text fault result e =
    subst (λ (r : Came). Names number text ((store text, Ok tt) ∷ (link number, Err fault) ∷ []) r) (sym e) unlinked

pub unmade_at : (number : ℕ) (text : List ℕ) (calls : List Call) (fault : FolderFault) (result : Result ℕ FolderFault)
    → result ≡ Err fault → Makes number calls (Err fault) → Keeps number text calls result
unmade_at number text calls fault result e m = subst (λ (r : Result ℕ FolderFault). Keeps number text calls r) (sym e) (unmade m)

pub kept_at : (number : ℕ) (text : List ℕ) (makes names : List Call) (came so : Came) → so ≡ Ok tt
    → Makes number makes (Ok tt) → Names number text names so
    → Keeps number text (makes ++ (names ++ (remove, came) ∷ [])) (Ok number)
kept_at number text makes names came so e m n = kept came m (subst (λ (c : Came). Names number text names c) e n)

pub unnamed_at : (number : ℕ) (text : List ℕ) (makes names : List Call) (came so : Came) (fault : FolderFault)
    → so ≡ Err fault → Makes number makes (Ok tt) → Names number text names so
    → Keeps number text (makes ++ (names ++ (remove, came) ∷ [])) (Err fault)
unnamed_at number text makes names came so fault e m n = unnamed came m (subst (λ (c : Came). Names number text names c) e n)

-- ---- what a folder tells

pub tells_some : {A : Type 0} (calls calls' : List Call) (told : Option (String A)) (text : String A) → told ≡ Some text
    → Tells calls (ok_told told) calls' → calls' ≡ calls ++ (name (string_bytes text), Ok tt) ∷ []
tells_some calls calls' told text e h = subst (λ (t : Option (String _)). Tells calls (ok_told t) calls') e h

pub tells_none : {A : Type 0} (calls calls' : List Call) (told : Option (String A)) → told ≡ None
    → Tells calls (ok_told told) calls' → calls' ≡ calls
tells_none calls calls' told e h = subst (λ (t : Option (String _)). Tells calls (ok_told t) calls') e h
