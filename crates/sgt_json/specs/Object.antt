-- An answer as an object of JSON: whose answer it is, the verdict and what its first line tells, and its further lines,
-- each with what it tells.
use Rattle.std.specs.Prelude.{◌==◌, ◌&&◌, ◌||◌, ℕ, Bool, false, List, [], ◌∷◌, ◌++◌, codes, if◌then◌else◌, length}
use Rattle.std.specs.List.{fold}
use Rattle.json.specs.Print.{quoted}
use Rattle.sgt_json.specs.Forms.{members_of}
use Rattle.sgt_json.specs.Scan.{begins}
use Rattle.sgt_json.specs.declared.object.Ended.{Ended}
use Rattle.sgt_json.specs.declared.object.Ended.TheVariants.{Nothing, First, More}
use Rattle.sgt_json.specs.declared.object.Writing.{Writing}

-- the first line says yes
abbrev pub says_yes : List ℕ → Bool
says_yes line = begins line (codes "yes ") || begins line (codes "a certificate exists: ")

-- what the first line says
unfoldable pub verdict_of : List ℕ → List ℕ
verdict_of line =
    if says_yes line then codes "yes"
    else if begins line (codes "no ") then codes "no"
    else if begins line (codes "! ") then codes "unread"
    else codes "other"

-- a line whole, and what it tells
abbrev pub told_text : (key line : List ℕ) → List ℕ
told_text key line = key ++ (quoted line ++ members_of line)

-- a line in the object, where so many lines stand before it
abbrev pub line_text : Ended → List ℕ → List ℕ
line_text Nothing line =
    codes ",\"verdict\":" ++ (quoted (verdict_of line) ++ (told_text (codes ",\"text\":") line ++ codes ",\"lines\":["))
line_text First line = told_text (codes "{\"text\":") line ++ codes "}"
line_text More line = told_text (codes ",{\"text\":") line ++ codes "}"

abbrev pub after : Ended → Ended
after Nothing = First
after First = More
after More = More

-- the object as far as it is written, the line that isn't written yet, and how many are
pub record State : Type 0 where
  pub out : List ℕ
  pub line : List ℕ
  pub ended : Ended

abbrev pub state_of : Writing → State
state_of w = record { out = w.out.items; line = w.line.items; ended = w.ended }

abbrev pub ended_line : State → State
ended_line s = record { out = s.out ++ line_text s.ended s.line; line = []; ended = after s.ended }

-- one more byte
abbrev pub taken_byte : State → ℕ → State
taken_byte s b = if b == 10 then ended_line s else record s { line = s.line ++ (b ∷ []) }

abbrev pub taken : State → List ℕ → State
taken s text = fold taken_byte s text

abbrev pub is_closed : State → Bool
is_closed s = elim s.ended [
  | Nothing ↦ false
  | _ ↦ length s.line == 0
]

-- a line without its end is one, and so is an answer without a line
abbrev pub closed : State → State
closed s = if is_closed s then s else ended_line s

abbrev pub head_text : (command file : List ℕ) → List ℕ
head_text command file = codes "{\"command\":" ++ (quoted command ++ (codes ",\"file\":" ++ quoted file))

abbrev pub started : (command file : List ℕ) → State
started command file = record { out = head_text command file; line = []; ended = Nothing }

abbrev pub object_of : (command file answer : List ℕ) → List ℕ
object_of command file answer = (closed (taken (started command file) answer)).out ++ codes "]}\n"
