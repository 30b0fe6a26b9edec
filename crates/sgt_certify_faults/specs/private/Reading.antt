-- The lines of a text of logs that were read.
use Rattle.std.specs.Prelude.{◌≡◌, ℕ, ◌+◌, Bool, List, ◌++◌, length, map, All, Option, Some, None}
use Rattle.std.specs.List.{filter_map}
use Rattle.sgt_names.specs.Limits.{max_sites}
use Rattle.sgt_notation.specs.Spelling.{line_text, text_of_lines}
use Rattle.sgt_bundle.specs.Valid.{IsDecided}
use Rattle.sgt_bundle.specs.declared.certificate.Decision.{Decision}
use Rattle.sgt_audit.specs.Faults.{Breaks, logged_in, whole}
use Rattle.sgt_audit.specs.Kept.{IsPlace, Tracks}
use Rattle.sgt_audit.specs.Reading.{Begun, IsBegun, lines_read}
use Rattle.sgt_audit.specs.declared.faults.Fault.{Fault}
use Rattle.sgt_certify_faults.specs.Faults.{AreKept, RuleAlone, behind}
use Rattle.sgt_certify_faults.specs.declared.reading.Reading.{Reading}

-- these sections stand in so many lines at the front of the bytes, none of which has a fault, and
-- then comes the rest
pub record IsReadTo (second : Bool) (bytes : List ℕ) (count : ℕ) (b : Begun) (rest : List ℕ) : Type 0 where
  pub begun : IsBegun b
  pub sites : b.sites ≡ max_sites
  pub kept : AreKept second (lines_read b)
  pub text : bytes ≡ text_of_lines (map line_text (lines_read b)) ++ rest
  pub many : length (lines_read b) ≡ count

-- they are kept so, and their entries are decided
pub record HasRead (second : Bool) (ds : List Decision) (bytes : List ℕ) (count : ℕ) (r : Reading)
    (rest : List ℕ) : Type 0 where
  pub sections : Begun
  pub read : IsReadTo second bytes count sections rest
  pub place : IsPlace sections r.place
  pub open_site : Tracks ds sections r.state
  pub decided : All (λ e. (number : ℕ) × IsDecided ds e number)
      (filter_map logged_in (lines_read sections))

-- after a line with its LF: one more was read, or this is its least fault
abbrev pub Follows : Bool → List Decision → List ℕ → ℕ → (old new : Reading)
    → (rest line more : List ℕ) → Option Fault → Type 0
Follows second ds bytes count old new rest line more None =
    HasRead second ds bytes (count + 1) new more
Follows second ds bytes count old new rest line more (Some f) = (b : Begun)
    × IsReadTo second bytes count b rest
    × Breaks (RuleAlone (behind second (lines_read b)) (whole line)) f
