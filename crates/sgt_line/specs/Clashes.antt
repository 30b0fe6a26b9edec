-- Options that don't go with an order that is given, and files that would be written over what is read.
use Rattle.std.specs.Prelude.{◌≡◌, ◌≢◌, ◌⊎◌, ℕ, Any, List, ◌∷◌, Option, None, Some, codes, drop, true}
use Rattle.sgt_line.specs.Names.{command_text}
use Rattle.sgt_line.specs.Parts.{Parts, left}
use Rattle.sgt_line.specs.declared.name.CommandName.TheVariants.{Check}

-- behind the program's name stands `check`, and maybe more
abbrev pub IsCheck : Parts → Type 0
IsCheck p = (options : List (List ℕ)) × (drop 1 p.words ≡ command_text Check ∷ options)

-- this word is one of them
abbrev pub HasWord : List ℕ → List (List ℕ) → Type 0
HasWord word words = Any (λ it. it ≡ word) words

-- a picture, or which order is to be told, by the text with which it is refused
abbrev pub IsBeside : Parts → (text : List ℕ) → Type 0
IsBeside p text = ((p.place ≢ None) × (text ≡ codes "--svg (with --against)"))
    ⊎ (HasWord (codes "--order") p.words × (text ≡ codes "--order (with --against)"))

-- such an option stands beside an order that is given
abbrev pub IsBesideOrder : Parts → (text : List ℕ) → Type 0
IsBesideOrder p text = (IsCheck p × (p.against ≢ None)) × IsBeside p text

-- a status alone, a page, or what a rule says, where an object of JSON is asked for; or a status alone, or what a rule
-- says, where a page is; by the text with which it is refused
abbrev pub IsBesideObject : Parts → (text : List ℕ) → Type 0
IsBesideObject p text = ((p.is_json ≡ true) × (((p.is_quiet ≡ true) × (text ≡ codes "--quiet (with --json)"))
    ⊎ (((p.is_page ≡ true) × (text ≡ codes "--html (with --json)"))
    ⊎ ((p.names_rule ≡ true) × (text ≡ codes "RULE (with --json)")))))
    ⊎ ((p.is_page ≡ true) × (((p.is_quiet ≡ true) × (text ≡ codes "--quiet (with --html)"))
    ⊎ ((p.names_rule ≡ true) × (text ≡ codes "RULE (with --html)"))))

-- this file, if there is one, is among those
abbrev pub IsAmong : Option (List ℕ) → List (List ℕ) → Type 0
IsAmong file files = (name : List ℕ) × (file ≡ Some name) × HasWord name files

-- what is written would take the place of a file that is read
abbrev pub WritesOverInput : Parts → Type 0
WritesOverInput p = IsAmong p.place p.files ⊎ IsAmong p.output p.files

abbrev pub Clashes : Parts → (text : List ℕ) → Type 0
Clashes p text = (IsBesideOrder p text ⊎ IsBesideObject p text)
    ⊎ (WritesOverInput p × (text ≡ codes "FILE (read, and to be written)"))

-- the same line; or where something clashes, its text is left for the program too
abbrev pub Settles : (old new : Parts) → Type 0
Settles old new = ((new ≡ old) × ((text : List ℕ) → Clashes old text → ⊥))
    ⊎ ((text : List ℕ) × (Clashes old text × (new ≡ left old text)))
