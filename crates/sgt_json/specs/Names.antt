-- The longer names of faults and cycles.
use Rattle.std.specs.Prelude.{◌==◌, ◌&&◌, ℕ, Bool, List, [], ◌∷◌, ◌++◌, codes, if◌then◌else◌, length}
use Rattle.json.specs.Print.{quoted}
use Rattle.sgt_json.specs.Scan.{begins}
use Rattle.sgt_json.specs.declared.names.Row.{Row as AnyRow}

-- the two are the same
abbrev pub is_text : (text other : List ℕ) → Bool
is_text text other = (length text == length other) && begins text other

-- a name, and the longer one
pub record NameRow : Type 0 where
  pub short : List ℕ
  pub long : List ℕ

abbrev pub row_of : AnyRow → NameRow
row_of row = record { short = row.short.now; long = row.long.now }

abbrev pub row : (short long : List ℕ) → NameRow
row short long = record { short = short; long = long }

-- the longer name that the table has for this one, or else the other
abbrev pub long_name : List NameRow → (name other : List ℕ) → List ℕ
long_name [] name other = other
long_name (r ∷ table) name other = if is_text name r.short then r.long else long_name table name other

abbrev pub line_two : List NameRow
line_two = row (codes "F1") (codes "Format")
    ∷ row (codes "F2") (codes "Notation")
    ∷ row (codes "F3") (codes "Certificate")
    ∷ row (codes "F4") (codes "Ranks")
    ∷ row (codes "F5") (codes "DecidedTwice")
    ∷ row (codes "F6") (codes "WalkShape")
    ∷ []

abbrev pub log_lines : List NameRow
log_lines = row (codes "F7") (codes "Section")
    ∷ row (codes "F8") (codes "Item")
    ∷ row (codes "F9") (codes "Twice")
    ∷ row (codes "F10") (codes "ReadValue")
    ∷ row (codes "F11") (codes "RankOrder")
    ∷ row (codes "F12") (codes "Block")
    ∷ row (codes "F13") (codes "End")
    ∷ []

abbrev pub log_ends : List NameRow
log_ends = row (codes "F14") (codes "DecisionOrder")
    ∷ row (codes "F15") (codes "NotEnded")
    ∷ row (codes "F16") (codes "Final")
    ∷ row (codes "F17") (codes "WalkStep")
    ∷ row (codes "F18") (codes "Truncated")
    ∷ row (codes "F19") (codes "Trailing")
    ∷ row (codes "C1") (codes "ChainBroken")
    ∷ []

abbrev pub history_lines : List NameRow
history_lines = row (codes "L1") (codes "NotALine")
    ∷ row (codes "L2") (codes "TooLong")
    ∷ row (codes "L3") (codes "IdRepeated")
    ∷ row (codes "internal") (codes "Contradicts Itself")
    ∷ row (codes "duplicate") (codes "Version Written Twice")
    ∷ row (codes "unwritten") (codes "Version Nobody Wrote")
    ∷ row (codes "value") (codes "Two Values Of A Version")
    ∷ []

abbrev pub cycles : List NameRow
cycles = row (codes "G0") (codes "Write Cycle")
    ∷ row (codes "G1a") (codes "Aborted Read")
    ∷ row (codes "G1b") (codes "Intermediate Read")
    ∷ row (codes "G1c") (codes "Circular Information Flow")
    ∷ row (codes "G-single") (codes "Single Anti-dependency Cycle")
    ∷ row (codes "G2-item") (codes "Item Anti-dependency Cycle")
    ∷ []

-- the longer name of a fault or a cycle, as `sgt explain` has it; else the name again
abbrev pub name_of : List ℕ → List ℕ
name_of name = long_name line_two name (long_name log_lines name (long_name log_ends name
    (long_name history_lines name (long_name cycles name name))))

-- the name of a fault or a cycle, with its longer name
abbrev pub named : List ℕ → List ℕ
named name = codes ",\"fault\":" ++ (quoted name ++ (codes ",\"name\":" ++ quoted (name_of name)))
