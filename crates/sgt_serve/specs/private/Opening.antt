-- The sites that a talk begins with, line by line.
use Rattle.std.specs.Io.KnownBytes.{IsAtEnd as NoneLeft}
use Rattle.std.specs.Prelude.{◌≡◌, ◌≢◌, ◌⊎◌, ℕ, ◌+◌, Bool, true, List, [], ◌∷◌, ◌++◌, length, map, take, drop, Option, None, Some, Result, Ok, Err}
use Rattle.sgt_notation.specs.Events.{IsEventLine, IsSiteLine, event_text, site_text}
use Rattle.sgt_notation.specs.Spelling.{text_of_lines}
use Rattle.sgt_notation.specs.declared.event.EventLine.{EventLine}
use Rattle.sgt_notation.specs.declared.event.SiteLine.{SiteLine}
use Rattle.sgt_notation.specs.declared.fault.NotationFault.TheVariants.{NotALine}
use Rattle.sgt_core.specs.Input.{IsBegun}
use Rattle.sgt_pipe.specs.Fronts.{IsLineOf, IsPart}
use Rattle.sgt_pipe.specs.declared.history.History.{History}
use Rattle.sgt_serve.specs.declared.opening.Opened.{Opened}
use Rattle.sgt_serve.specs.declared.opening.Opened.TheVariants.{Begun, Ended, Unreadable}
use Rattle.sgt_serve.specs.declared.fail.ServeFail.{ServeFail}
use Rattle.sgt_serve.specs.declared.fail.ServeFail.TheVariants as fail
use Rattle.sgt_serve.specs.declared.last.Last.TheVariants.{Done}
use Rattle.sgt_courses.specs.Course.{cut_line}
use Rattle.sgt_serve.specs.Ended.{IsMisplaced, IsUnreadable}
use Rattle.sgt_serve.specs.Talk.{AreAnswered}

-- the line asks for an event or a cut
abbrev pub Asks : List ℕ → Type 0
Asks line = (line ≡ cut_line) ⊎ ((e : EventLine) × IsEventLine e × (line ≡ event_text e))

-- the lines of these sites were taken, and nothing was written
pub record HasSites (sites : List SiteLine) (history : History) (held : List ℕ) : Type 0 where
  pub begun : IsBegun (record { sites = sites; events = [] })
  pub given : history.given ≡ text_of_lines (map site_text sites) ++ held
  pub written : history.written ≡ []
  pub answered : AreAnswered history.waits

-- the first n bytes are the line of the next site, which was taken; or what they are else
abbrev pub TakesNext : ℕ → (sites sites' : List SiteLine) → (held held' : List ℕ) → Option Opened → Type 0
TakesNext n sites sites' held held' None = (l : SiteLine) × IsSiteLine l × (l.site ≡ length sites)
    × (take n held ≡ site_text l) × (sites' ≡ sites ++ l ∷ []) × (held' ≡ drop (n + 1) held)
TakesNext n sites sites' held held' (Some (Begun m)) = (m ≡ n) × (sites ≢ [])
    × Asks (take n held) × (sites' ≡ sites) × (held' ≡ held)
TakesNext n sites sites' held held' (Some (Unreadable NotALine)) = IsMisplaced sites (take n held)
    × (sites' ≡ sites) × (held' ≡ held)
TakesNext n sites sites' held held' (Some _) = ⊥

-- one more read: some bytes came; or it was the end; or the reader failed
abbrev pub ReadsFront : Result (Option Opened) ServeFail → Bool → Option (List ℕ) → (held held' : List ℕ)
    → (old new : History) → Type 0
ReadsFront result any left held held' old new =
    ReadsMore result any left held held' old new × (new.written ≡ old.written)
    × ((new.waits ≡ old.waits) ⊎ (new.waits ≡ old.waits ++ (old.given, old.written) ∷ []))
  where
    ReadsMore : Result (Option Opened) ServeFail → Bool → Option (List ℕ) → (held held' : List ℕ)
        → (old new : History) → Type 0
    ReadsMore (Ok None) any left held held' old new = (bytes : List ℕ) × (held' ≡ held ++ bytes)
        × (new.given ≡ old.given ++ bytes)
    ReadsMore (Ok (Some Ended)) any left held held' old new = NoneLeft left × (any ≡ true) × (held ≡ [])
        × (held' ≡ held) × (new.given ≡ old.given)
    ReadsMore (Ok (Some (Unreadable NotALine))) any left held held' old new = NoneLeft left
        × (held ≡ [] → any ≡ true → ⊥) × (held' ≡ held) × (new.given ≡ old.given)
    ReadsMore (Err (fail.ReadFault l)) any left held held' old new = (l ≡ Done) × (held' ≡ held)
        × (new.given ≡ old.given)
    ReadsMore _ any left held held' old new = ⊥

-- how many growths were refused where this is the result
abbrev pub refused_by : ServeFail → ℕ
refused_by fail.Memory = 1
refused_by _ = 0

abbrev pub refused_in : {A : Type 0} → Result A ServeFail → ℕ
refused_in (Ok a) = 0
refused_in (Err e) = refused_by e

-- the lines of some sites were taken, and behind them comes this; or there was a fault
abbrev pub OpensSo : Result Opened ServeFail → Option (List ℕ) → List SiteLine → History → List ℕ → Type 0
OpensSo (Ok (Begun n)) left sites history held = HasSites sites history held × (sites ≢ [])
    × IsLineOf held n × Asks (take n held)
OpensSo (Ok Ended) left sites history held = NoneLeft left × HasSites sites history held
    × (sites ≢ []) × (held ≡ [])
OpensSo (Ok (Unreadable fault)) left sites history held = HasSites sites history held
    × IsUnreadable sites left held fault
OpensSo (Err (fail.ReadFault l)) left sites history held = (l ≡ Done)
    × HasSites sites history held × IsPart held
OpensSo (Err fail.Memory) left sites history held = (some : List SiteLine) × HasSites some history held
OpensSo (Err _) left sites history held = ⊥

-- so, or there is more to take
abbrev pub OpensOn : Result (Option Opened) ServeFail → Option (List ℕ) → List SiteLine → History → List ℕ → Type 0
OpensOn (Ok None) left sites history held = HasSites sites history held
OpensOn (Ok (Some opened)) left sites history held = OpensSo (Ok opened) left sites history held
OpensOn (Err fault) left sites history held = OpensSo (Err fault) left sites history held
