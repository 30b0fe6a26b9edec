-- Sections that are judged in threads of their own.
use Rattle.std.specs.Prelude.{◌≡◌, ℕ, ◌+◌, List, [], ◌∷◌, Option}
use Rattle.std.specs.Io.KnownBytes.{Consumes}
use Rattle.sgt_audit_workers.specs.declared.head.Head.{Head}
use Rattle.sgt_audit_workers.specs.declared.job.Job.{Job}
use Rattle.sgt_audit_workers.specs.declared.running.Running.{Running}
use Rattle.sgt_audit_workers.specs.declared.running.Running.TheVariants.{There, Here}
use Rattle.sgt_audit_workers.specs.private.Jobs.{HasRun, IsGiven}

-- what comes back is this job, judged
abbrev pub Will : Head → Job → Running → Type 0
Will h job (There handle) =
    (handle.promise.head.value ≡ h) × (handle.promise.job.value ≡ job)
Will h job (Here done) = HasRun h job done

-- the sections of the sites from this one on, which came one after another
abbrev pub AreRunning : Head → (most : ℕ) → (old : Option (List ℕ)) → ℕ → List Running
    → Option (List ℕ) → Type 0
AreRunning h most old k [] new = Consumes old new []
AreRunning h most old k (r ∷ running) new = (job : Job) × (next : Option (List ℕ))
    × IsGiven most old k job next × Will h job r × AreRunning h most next (k + 1) running new
