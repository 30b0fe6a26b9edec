-- What is told of a text: the history that it spells, numbered, or its first line that can't be read.
use Rattle.std.specs.Prelude.{◌≡◌, ℕ, ◌<◌, List, [], map, length, All, Option, Some, None, IfSome, get_or}
use Rattle.json.specs.Json.{Json, null}
use Rattle.sgt_history.specs.History.{closed_of}
use Rattle.sgt_history.specs.Serial.{KeepApart}
use Rattle.sgt_history.specs.Transaction.{Transaction, renamed}
use Rattle.sgt_history.specs.declared.history.Operation.{Operation}
use Rattle.sgt_history_text.specs.Built.{AreMoments, AreSessions, IsBuilt}
use Rattle.sgt_history_text.specs.Moment.{Tell}
use Rattle.sgt_history_text.specs.Name.{compact}
use Rattle.sgt_history_text.specs.Text.{IsFirstUnreadable, Spells}
use Rattle.sgt_history_text.specs.declared.building.Builder.{Builder}
use Rattle.sgt_history_text.specs.declared.fault.LineFault.{LineFault}
use Rattle.sgt_history_text.specs.declared.moments.Moments.{Moments}
use Rattle.sgt_history_text.specs.declared.reading.HistoryText.{HistoryText}
use Rattle.sgt_history_text.specs.declared.reading.HistoryText.TheVariants.{Read, Unreadable}
use Rattle.sgt_history_text.specs.declared.reading.Reading.{Reading}
use Rattle.sgt_history_text.specs.declared.reading.Stop.{Stop}
use Rattle.sgt_history_text.specs.declared.reading.Stop.TheVariants.{Ended, At}
use Rattle.sgt_history_text.specs.declared.wanted.Wanted.{Wanted}

-- the value with this number
abbrev pub nth : List Json → ℕ → Json
nth js n = get_or js n null

-- its item and value have numbers below these
pub record IsWithin (items values : ℕ) (o : Operation ℕ ℕ) : Type 0 where
  pub item : o.item < items
  pub value : IfSome o.value (λ v. v < values)

-- The bytes spell the numbered history, with each number of an item or a value named, and tell what is wanted. No two
-- names are equal.
pub record IsReading (w : Wanted) (bytes : List ℕ) (r : Reading) : Type 0 where
  pub ids : List Json
  pub items : List Json
  pub values : List Json
  pub spells : Spells bytes ids (map (renamed (nth items) (nth values)) (closed_of r.history))
  pub apart : KeepApart (nth items) (nth values) (closed_of r.history)
  pub id_texts : r.ids ≡ map compact ids
  pub item_texts : r.items ≡ map compact items
  pub value_texts : r.values ≡ map compact values
  pub count : length ids ≡ length r.history.lines.items
  pub within : All (IsWithin (length items) (length values)) r.history.operations.items
  pub sessions : List (Option Json)
  pub tell : Tell w spells.lines (map (renamed (nth items) (nth values)) (closed_of r.history)) r.times.items sessions
  pub sessions_are : AreSessions r.session_names r.sessions.items sessions

abbrev pub IsToldOf : Wanted → List ℕ → HistoryText → Type 0
IsToldOf w bytes (Read r) = IsReading w bytes r
IsToldOf w bytes (Unreadable line fault) = IsFirstUnreadable w bytes line fault

-- ---- where the lines end

abbrev pub stop_of : ℕ → Option LineFault → Stop
stop_of line None = Ended
stop_of line (Some fault) = At line fault

-- the bytes told spell and tell what is kept, or the first line that can't be read is this one
abbrev pub IsStop : Wanted → Option (List ℕ) → Builder → Moments → Stop → Type 0
IsStop w told b m Ended = (ids : List Json) × (h : List (Transaction Json Json)) × IsBuilt b ids h []
    × IfSome told (λ bytes. (spells : Spells bytes ids h) × AreMoments w m spells.lines h)
IsStop w told b m (At line fault) = IfSome told (λ bytes. IsFirstUnreadable w bytes line fault)
