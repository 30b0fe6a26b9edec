-- A section with the worker that is to judge it, or has.
use Rattle.std.specs.Prelude.{◌≡◌, ℕ, ◌+◌, List, Option, IfOk, IfSome}
use Rattle.sgt_audit.specs.Alone.{IsReadyAlone}
use Rattle.sgt_audit.specs.declared.alone.Alone.{Alone}
use Rattle.sgt_audit_sections.specs.Judged.{IsJudgedSection, IsWhole}
use Rattle.sgt_audit_workers.specs.declared.head.Head.{Head}
use Rattle.sgt_audit_workers.specs.declared.job.Job.{Job}
use Rattle.sgt_audit_workers.specs.Tallies.{IsLost}
use Rattle.sgt_audit_workers.specs.private.Texts.{IsNextSection}

-- nothing of the section of this site or a later one was met
abbrev pub MayJudge : Head → ℕ → Alone → Type 0
MayJudge h k alone = IsReadyAlone h.certificate k alone × (alone.second ≡ h.second)

-- the worker, if it was made, may judge the section of this site
abbrev pub IsIdle : Head → ℕ → Job → Type 0
IsIdle h k job = IfSome job.alone (MayJudge h k)

-- the worker has the section of this site, which came next
pub record IsGiven (most : ℕ) (old : Option (List ℕ)) (k : ℕ) (job : Job) (new : Option (List ℕ)) : Type 0 where
  pub site : job.site ≡ k
  pub section : IsNextSection most old job.section new

-- the worker has judged its section, and may judge those behind it, where that is whole
pub record HasJudged (h : Head) (job : Job) : Type 0 where
  pub judged : IfOk job.judged
      (IsJudgedSection h.second h.certificate job.site job.section.bytes.items)
  pub ready : IfOk job.judged (λ j. IsWhole j → IsIdle h (job.site + 1) job)

-- the same section, before and behind that
pub record HasRun (h : Head) (old new : Job) : Type 0 where
  pub site : new.site ≡ old.site
  pub section : new.section ≡ old.section
  pub done : HasJudged h new

-- where there was memory to judge the section, it is one that is not added behind so many lines
abbrev pub IsLostJob : (lines : ℕ) → Job → Type 0
IsLostJob lines done = IfOk done.judged (IsLost lines done.section.is_last)
