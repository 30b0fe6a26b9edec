-- The parts of a command line.
use Rattle.std.specs.Prelude.{◌≡◌, ◌⊎◌, ℕ, Bool, true, false, List, [], ◌∷◌, ◌++◌, Option, Some, None, codes, map, string_bytes}
use Rattle.std.specs.Option.{option_map}
use Rattle.sgt_line.specs.declared.line.Line.{Line}
use Rattle.sgt_line.specs.declared.name.CommandName.{CommandName}
use Rattle.sgt_line.specs.declared.name.CommandName.TheVariants.{Audit}

-- what is left for the program, the files to be read, the place to be written, the file of an order,
-- and which switches stand there
pub record Parts : Type 0 where
  pub words : List (List ℕ)
  pub files : List (List ℕ)
  pub place : Option (List ℕ)
  pub against : Option (List ℕ)
  pub expected : Option (List ℕ)
  pub output : Option (List ℕ)
  pub names_rule : Bool
  pub is_quiet : Bool
  pub is_strict : Bool
  pub is_chain : Bool
  pub tells_lines : Bool
  pub tells_why : Bool
  pub is_json : Bool
  pub is_page : Bool

-- a line that has these words alone
abbrev pub bare : List (List ℕ) → Parts
bare words = record {
  words = words;
  files = [];
  place = None;
  against = None;
  expected = None;
  output = None;
  names_rule = false;
  is_quiet = false;
  is_strict = false;
  is_chain = false;
  tells_lines = false;
  tells_why = false;
  is_json = false;
  is_page = false;
}

-- one more word is left for the program
abbrev pub left : Parts → List ℕ → Parts
left p word = record p { words = p.words ++ (word ∷ []) }

-- one more file is to be read
abbrev pub with_file : Parts → List ℕ → Parts
with_file p file = record p { files = p.files ++ (file ∷ []) }

-- a rule's name is left for the program
abbrev pub with_rule : Parts → List ℕ → Parts
with_rule p word = record (left p word) { names_rule = true }

-- one file too many: it is left for the program behind `--`, which the program takes nowhere
abbrev pub with_extra : Parts → List ℕ → Parts
with_extra p file = left (left p (codes "--")) file

-- one more file may be read: any number by an audit, else one where no rule is named
abbrev pub HasRoom : CommandName → Parts → Type 0
HasRoom command p = (command ≡ Audit) ⊎ ((p.files ≡ []) × (p.names_rule ≡ false))

-- the parts of a line, as texts
abbrev pub parts_of : Line → Parts
parts_of line = record {
  words = map string_bytes line.words.items;
  files = map string_bytes line.files.items;
  place = option_map string_bytes line.place;
  against = option_map string_bytes line.against;
  expected = option_map string_bytes line.expected;
  output = option_map string_bytes line.output;
  names_rule = line.names_rule;
  is_quiet = line.is_quiet;
  is_strict = line.is_strict;
  is_chain = line.is_chain;
  tells_lines = line.tells_lines;
  tells_why = line.tells_why;
  is_json = line.is_json;
  is_page = line.is_page;
}
