-- What a line tells, by the pieces that it is made of.
use Rattle.std.specs.Prelude.{◌-◌, ℕ, zero, suc, List, [], ◌∷◌, ◌++◌, Option, Some, None, codes, drop, if◌then◌else◌, length, take}
use Rattle.std.specs.Option.{option_and_then, option_map, unwrap_or}
use Rattle.json.specs.Print.{quoted}
use Rattle.sgt_json.specs.Scan.{begins, blanks, digits, end_of, json_end}
use Rattle.sgt_json.specs.Names.{named}
use Rattle.sgt_json.specs.declared.piece.Piece.{Piece as AnyPiece}
use Rattle.sgt_json.specs.declared.piece.Piece.TheVariants as any

-- a piece of a line; a key has the comma in front of it, its quotes and its colon
pub data Piece : Type 0 where
  -- this text, which tells nothing
  Fixed : List ℕ → Piece
  -- blanks, or none
  Blanks : Piece
  -- digits, one at least: the key, and the number
  Number : List ℕ → Piece
  -- a string of JSON or digits: the key, and that
  Json : List ℕ → Piece
  -- what stands in front of the second text, and this: the key, and what stands there as a string
  Text : List ℕ → List ℕ → Piece
  -- all that is left: the key, and it as a string
  Rest : List ℕ → Piece
  -- all that is left: the name of a fault, with its longer name
  Fault : Piece
  -- nothing: this text
  Member : List ℕ → Piece

abbrev pub piece_of : AnyPiece → Piece
piece_of (any.Fixed text) = Fixed text.now
piece_of any.Blanks = Blanks
piece_of (any.Number key) = Number key.now
piece_of (any.Json key) = Json key.now
piece_of (any.Text key mark) = Text key.now mark.now
piece_of (any.Rest key) = Rest key.now
piece_of any.Fault = Fault
piece_of (any.Member text) = Member text.now

abbrev pub at_least_one : ℕ → Option ℕ
at_least_one zero = None
at_least_one (suc size) = Some (suc size)

-- how many bytes the piece takes off the front, if it stands there
abbrev pub size_of : Piece → List ℕ → Option ℕ
size_of (Fixed text) line = if begins line text then Some (length text) else None
size_of Blanks line = Some (blanks line)
size_of (Number key) line = at_least_one (digits line)
size_of (Json key) line = at_least_one (json_end line)
size_of (Text key mark) line = end_of mark line
size_of (Rest key) line = Some (length line)
size_of Fault line = Some (length line)
size_of (Member text) line = Some 0

-- what the piece tells that took this text
abbrev pub shown : Piece → List ℕ → List ℕ
shown (Fixed text) taken = []
shown Blanks taken = []
shown (Number key) taken = key ++ taken
shown (Json key) taken = key ++ taken
shown (Text key mark) taken = key ++ quoted (take (length taken - length mark) taken)
shown (Rest key) taken = key ++ quoted taken
shown Fault taken = named taken
shown (Member text) taken = text

-- what a line of these pieces tells; None, if it isn't one
abbrev pub told : List Piece → List ℕ → Option (List ℕ)
told [] [] = Some []
told [] (b ∷ line) = None
told (p ∷ form) line =
    option_and_then (λ size. option_map (λ (more : List ℕ). shown p (take size line) ++ more) (told form (drop size line)))
    (size_of p line)
