-- What some words say of a run.
use Rattle.std.proofs.Common.{◌≡◌, ℕ, [], ◌∷◌, refl, sym, ◌∙◌, codes, arith, length, ap}
use Rattle.clap.specs.Words.{fault_of}
use Rattle.clap.proofs.OnLiterals.{clap_on_literals}
use Rattle.sgt_command_line.specs.Options.{SaysRun, run_line}

-- without options: one worker, four tries
alone : SaysRun (codes "run" ∷ []) 1 4
unfolding clap_on_literals
alone = record {
  taken = refl;
  by_workers = (codes "1", refl, (omega arith, (omega arith, tt)), refl);
  by_tries = (codes "4", refl, (omega arith, (omega arith, tt)), refl);
  some_workers = (omega arith, omega arith);
  some_tries = (omega arith, omega arith);
}

-- in any order, and with `=`
both : SaysRun (codes "run" ∷ codes "--tries=2" ∷ codes "--workers" ∷ codes "16" ∷ []) 16 2
unfolding clap_on_literals
both = record {
  taken = refl;
  by_workers = (codes "16", refl, (omega arith, (omega arith, (omega arith, tt))), refl);
  by_tries = (codes "2", refl, (omega arith, (omega arith, tt)), refl);
  some_workers = (omega arith, omega arith);
  some_tries = (omega arith, omega arith);
}

faults_of_seventeen : length (fault_of run_line (codes "run" ∷ codes "--workers" ∷ codes "17" ∷ [])) ≡ 1
unfolding clap_on_literals
faults_of_seventeen = refl

-- not seventeen workers
seventeen : (workers tries : ℕ) → SaysRun (codes "run" ∷ codes "--workers" ∷ codes "17" ∷ []) workers tries → ⊥
seventeen workers tries says =
    let none : 0 ≡ 1 = sym (ap length says.taken) ∙ faults_of_seventeen in
    absurd (omega (arith, none))
