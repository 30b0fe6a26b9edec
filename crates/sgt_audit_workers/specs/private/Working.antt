-- Workers, with the sections that they judge.
use Rattle.std.specs.Prelude.{◌≡◌, ◌≤◌, ℕ, ◌+◌, ◌*◌, List, length, Option, Some, None, Result, Ok, Err}
use Rattle.std.specs.Arc.{arc_value}
use Rattle.sgt_audit.specs.declared.verdict.Verdict.{Verdict}
use Rattle.sgt_audit_workers.specs.Cut.{longest}
use Rattle.sgt_audit_workers.specs.Reads.{Reader}
use Rattle.sgt_audit_workers.specs.declared.sections.Section.{Section}
use Rattle.sgt_audit_workers.specs.declared.sections.Text.{Text}
use Rattle.sgt_audit_workers.specs.declared.workers.Workers.{Workers}
use Rattle.sgt_audit_workers.specs.private.Running.{AreRunning}
use Rattle.sgt_audit_workers.specs.private.Tallied.{IsAnswer, IsFound, IsTallied, second_size}
use Rattle.sgt_audit_workers.specs.private.Texts.{HasRead}

-- how many sections were given to them
abbrev pub given : Workers → ℕ
given w = w.tally.whole + length w.running.items

-- what they have judged and what they judge is the text so far
pub record Works (told left : Option (List ℕ)) (w : Workers) : Type 0 where
  pub middle : Option (List ℕ)
  pub tallied : IsTallied (arc_value w.head) told middle w.tally
  pub running : AreRunning (arc_value w.head) w.most middle w.tally.whole w.running.items left

-- they are what some text so far has made them
abbrev pub CanWork : Workers → Type 0
CanWork w = (told : Option (List ℕ)) × (left : Option (List ℕ)) × Works told left w

-- the same workers
pub record SameWorkers (old new : Workers) : Type 0 where
  pub head : new.head ≡ old.head
  pub count : new.count ≡ old.count
  pub most : new.most ≡ old.most

-- so far the text has no fault; or this is the verdict on it, and no more than so many sections were read behind its
-- fault
abbrev pub GoesOn : {X : Type 0} → (told left : Option (List ℕ)) → (sections : ℕ) → Workers
    → Result X Verdict → Type 0
GoesOn told left sections w (Ok x) = Works told left w
GoesOn told left sections w (Err v) =
    IsFound (second_size (arc_value w.head)) told left (sections * longest w.most) v

-- all sections that were given are judged, and the text has no fault so far; or this is the verdict
abbrev pub Ends : (told left : Option (List ℕ)) → (sections : ℕ) → Workers → Option Verdict
    → Type 0
Ends told left sections w None = IsTallied (arc_value w.head) told left w.tally
Ends told left sections w (Some v) =
    IsFound (second_size (arc_value w.head)) told left (sections * longest w.most) v

-- no more sections are judged than there are workers, and with one that is open twice as many are held
pub record IsWithin (w : Workers) (ahead : List Section) (text : Text) : Type 0 where
  pub judged : length w.running.items ≤ w.count
  pub held : length w.running.items + length ahead + 1 ≤ 2 * w.count
  pub most : text.most ≡ w.most

-- the next section is judged, or this is the verdict on the text, and no more than so many sections were read behind
-- its fault
abbrev pub NextGoes : {X : Type 0} → (first : Reader) → Workers → List Section → Text
    → (now : Reader) → Result X Verdict → Type 0
NextGoes first w ahead text now (Ok x) = (left : Option (List ℕ)) × Works first.told left w
    × HasRead first left ahead text now
NextGoes first w ahead text now (Err v) =
    IsAnswer (second_size (arc_value w.head)) first now (2 * w.count * longest w.most) v
