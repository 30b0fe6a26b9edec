-- What is known of an order and a numbered history on the way.
use Rattle.std.specs.Prelude.{◌≡◌, ◌⊎◌, ◌↔◌, ℕ, ◌+◌, ◌≤◌, Bool, true, false, List, [], ◌∷◌, ◌++◌, length, Option, Some, None, slice_get, get_or, take, Contains}
use Rattle.json.specs.Json.{Json}
use Rattle.sgt_names.specs.declared.outcome.Outcome.{Outcome}
use Rattle.sgt_names.specs.declared.outcome.Outcome.TheVariants.{Yes, No, Unreadable}
use Rattle.sgt_history.specs.Serial.{Follows, Has, IsCommitted, IsOrder, RunsRight, StandOnce, operations_in, run_of}
use Rattle.sgt_history.specs.Transaction.{Transaction}
use Rattle.sgt_history.specs.declared.history.Operation.{Operation}
use Rattle.sgt_history_kept.specs.Unkept.{IsFirstUnkept, KeepsTo}
use Rattle.sgt_history_kept.specs.declared.asked.Asked.{Asked}
use Rattle.sgt_history_time.specs.Kept.{IsBefore, IsEarlier, KeepsRealTime, KeepsSessions}
use Rattle.sgt_history_time.specs.declared.times.Times.{Times}
use Rattle.sgt_check.specs.Text.{Spelling}
use Rattle.sgt_check.specs.Told.{IsFaultyTold, spelled, text_at}
use Rattle.sgt_check_kept.specs.declared.setting.Setting.{Setting}
use Rattle.sgt_check_order.specs.Answer.{IsJudged}
use Rattle.sgt_check_order.specs.Kept.{Kept}
use Rattle.sgt_check_order.specs.Order.{AreCommitted, IsFirstStray, IsStray, NameEach, Names, lines_of}
use Rattle.sgt_check_order.specs.Run.{IsBreak}
use Rattle.sgt_check_order.specs.Text.{back_text, break_text}
use Rattle.sgt_check_order.specs.declared.breaking.FirstBreak.{FirstBreak}
use Rattle.sgt_check_order.specs.declared.breaking.FirstBreak.TheVariants.{Operation as Operates, Step}
use Rattle.sgt_check_order.specs.declared.order.Named.{Named}
use Rattle.sgt_check_order.specs.declared.order.Named.TheVariants.{Each, Stray}
use Rattle.sgt_check_order.specs.declared.roll.Roll.{Roll}
use Rattle.sgt_check_order.specs.declared.run.Broken.{Broken}

-- ---- the roll

-- who was called, in this order: committed transactions, each once
pub record IsRoll (h : List (Transaction ℕ ℕ)) (roll : Roll) : Type 0 where
  pub size : length roll.called.items ≡ length h
  pub committed : AreCommitted h roll.order.items
  pub once : StandOnce roll.order.items
  pub called : (number : ℕ) → slice_get roll.called.items number ≡ Some true ↔ Contains roll.order.items number

-- it is called now; or it isn't committed, or was called before
abbrev pub IsCalled : List (Transaction ℕ ℕ) → (old : Roll) → ℕ → Bool → (new : Roll) → Type 0
IsCalled h old number true new = IsRoll h new × (new.order.items ≡ old.order.items ++ number ∷ [])
IsCalled h old number false new = (t : Transaction ℕ ℕ) → IsCommitted h number t → Contains old.order.items number

-- the line names one more that is called now; or no committed transaction but those before
abbrev pub IsTaken : List (Transaction ℕ ℕ) → List Json → (old : Roll) → List ℕ → Bool → (new : Roll) → Type 0
IsTaken h ids old line true new =
    IsRoll h new × (number : ℕ) × Names ids line number × (new.order.items ≡ old.order.items ++ number ∷ [])
IsTaken h ids old line false new = IsStray h ids old.order.items (Some line)

-- all lines were read, and name those on the roll; or the first that is wrong has this number
abbrev pub IsRead : List (Transaction ℕ ℕ) → List Json → List ℕ → Roll → Option ℕ → Type 0
IsRead h ids bytes roll None = IsRoll h roll × NameEach ids (lines_of bytes) roll.order.items
IsRead h ids bytes roll (Some number) = IsFirstStray h ids bytes number

abbrev pub IsNamed : List (Transaction ℕ ℕ) → List Json → List ℕ → Named → Type 0
IsNamed h ids bytes (Each order) = IsOrder h order.items × NameEach ids (lines_of bytes) order.items
IsNamed h ids bytes (Stray number) = IsFirstStray h ids bytes number

-- ---- the run

-- each item has the version that is kept of it, or 0 where none is
abbrev pub Tells : List (Operation ℕ ℕ) → List ℕ → Type 0
Tells run versions = (item : ℕ) → Has run (length run) item (get_or versions item 0)

-- the operation follows, and is run; or its item has another version
abbrev pub IsRun : List (Operation ℕ ℕ) → Operation ℕ ℕ → List ℕ → Option ℕ → Type 0
IsRun run o versions None = Follows run (length run) o × Tells (run ++ o ∷ []) versions
IsRun run o versions (Some found) = Has run (length run) o.item found × (Follows run (length run) o → ⊥)

-- the operations are run; or this one is the first that doesn't follow
abbrev pub AreRun : List (Operation ℕ ℕ) → List (Operation ℕ ℕ) → List ℕ → Option (ℕ × ℕ) → Type 0
AreRun run operations versions None = RunsRight (run ++ operations) × Tells (run ++ operations) versions
AreRun run operations versions (Some broken) = (o : Operation ℕ ℕ) × (slice_get operations broken.0 ≡ Some o)
    × IsBreak (run ++ operations) (length run + broken.0) o broken.1

-- where the order breaks
pub record IsBroken (h : List (Transaction ℕ ℕ)) (order : List ℕ) (broken : Broken) : Type 0 where
  pub in_order : slice_get order broken.place ≡ Some broken.line
  pub at : ℕ
  pub there : slice_get (operations_in (slice_get h broken.line)) at ≡ Some broken.operation
  pub breaks : IsBreak (run_of h order) (length (run_of h (take broken.place order)) + at) broken.operation broken.found

abbrev pub IsRunOf : List (Transaction ℕ ℕ) → List ℕ → Option Broken → Type 0
IsRunOf h order None = RunsRight (run_of h order)
IsRunOf h order (Some broken) = IsBroken h order broken

-- ---- what breaks it first

-- what is asked of it, by numbers
abbrev pub kept_of : Setting → Kept ℕ
kept_of s = record {
  times = s.asked.times.items;
  sessions = s.asked.sessions.items;
  session = λ n. n;
  name =
      text_at s.sessions;
}

-- nobody was done before it began
abbrev pub AreRuns : List (Option Times) → Type 0
AreRuns times = (line : ℕ) (x : Times) → slice_get times line ≡ Some (Some x) → x.begin ≤ x.done

-- of an order that serves and keeps nothing; an operation goes before a step of the same transaction
abbrev pub IsFirstBroken : List (Transaction ℕ ℕ) → Asked → List ℕ → Option FirstBreak → Type 0
IsFirstBroken h a order None = RunsRight (run_of h order)
    × (KeepsRealTime order a.times.items × KeepsSessions order a.sessions.items)
IsFirstBroken h a order (Some (Operates broken)) =
    IsBroken h order broken × (KeepsTo (IsBefore a.times.items) order broken.place
    × KeepsTo (IsEarlier a.sessions.items) order broken.place)
IsFirstBroken h a order (Some (Step u)) = IsFirstUnkept order a u × RunsRight (run_of h (take (u.place + 1) order))

-- how it is told
abbrev pub first_text : Spelling ℕ ℕ → (ℕ → List ℕ) → FirstBreak → List ℕ
first_text s name (Operates broken) = break_text s broken.line broken.operation broken.found
first_text s name (Step u) = back_text s name u

-- ---- the answer

abbrev pub IsTold : List ℕ → List Json → Setting → List (Transaction ℕ ℕ) → Outcome → List ℕ → Type 0
IsTold bytes ids s h Yes text = IsJudged bytes ids (spelled s.naming) (kept_of s) h Yes text
IsTold bytes ids s h No text = IsFaultyTold s.naming h text
    ⊎ IsJudged bytes ids (spelled s.naming) (kept_of s) h No text
IsTold bytes ids s h Unreadable text = ⊥
