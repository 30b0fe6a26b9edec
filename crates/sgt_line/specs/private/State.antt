-- How far a command line is read.
use Rattle.std.specs.Prelude.{◌≡◌, ◌≢◌, ◌⊎◌, ℕ, List, [], ◌∷◌, ◌++◌, None, Some}
use Rattle.sgt_line.specs.Kinds.{IsKind, JoinsPlace}
use Rattle.sgt_line.specs.Names.{IsNameOf}
use Rattle.sgt_line.specs.Parts.{HasRoom, Parts, left, with_extra, with_rule}
use Rattle.sgt_line.specs.Reads.{Behind, Reads}
use Rattle.sgt_line.specs.declared.kind.Kind.{Kind}
use Rattle.sgt_line.specs.declared.kind.Kind.TheVariants.{Against, Dashes, Expected, Numbered, Output, Place, Plain}
use Rattle.sgt_line.specs.declared.name.CommandName.{CommandName}

-- all but the last word is read, and that is an option of this kind, which waits for the word behind it
pub record Waits (command : CommandName) (first : Parts) (words : List (List ℕ)) (kind : Kind)
    (without : Parts) : Type 0 where
  pub before : List (List ℕ)
  pub option : List ℕ
  pub cut : words ≡ before ++ (option ∷ [])
  pub is_kind : IsKind command option kind
  pub reads : Reads command first before without

-- the words are read to these parts, where the last is of this kind
abbrev pub IsReadTo : CommandName → Parts → List (List ℕ) → Kind → Parts → Type 0
IsReadTo command first words Numbered parts = (without : Parts)
    × ((w : Waits command first words Numbered without) × (parts ≡ left without w.option))
IsReadTo command first words Place parts = Waits command first words Place parts × (parts.place ≡ None)
IsReadTo command first words Against parts = Waits command first words Against parts
    × (parts.against ≡ None)
IsReadTo command first words Output parts = Waits command first words Output parts
    × (parts.output ≡ None)
IsReadTo command first words Expected parts = Waits command first words Expected parts
    × (parts.expected ≡ None)
IsReadTo command first words Dashes parts = Behind command first words parts
IsReadTo command first words kind parts = Reads command first words parts

-- a file or a rule's name was added, where there is room, and else left as one too many
abbrev pub Adds : CommandName → (old added : Parts) → (word : List ℕ) → (new : Parts) → Type 0
Adds command old added word new = (HasRoom command old × (new ≡ added))
    ⊎ ((HasRoom command old → ⊥) × (new ≡ with_extra old word))

-- the same of the name of a rule that the word spells
abbrev pub AddsRule : CommandName → (old : Parts) → (word : List ℕ) → (new : Parts) → Type 0
AddsRule command old word new = (name : List ℕ) × IsNameOf word name
    × Adds command old (with_rule old name) word new

-- behind the option of a place its word is waited for, if there is no place yet; else it is left
abbrev pub WaitsForPlace : (old : Parts) → (word : List ℕ) → (after : Kind) → (new : Parts) → Type 0
WaitsForPlace old word after new = ((after ≡ Place) × (old.place ≡ None) × (new ≡ old))
    ⊎ ((after ≡ Plain) × (old.place ≢ None) × (new ≡ left old word))

-- behind the option of an order likewise
abbrev pub WaitsForOrder : (old : Parts) → (word : List ℕ) → (after : Kind) → (new : Parts) → Type 0
WaitsForOrder old word after new = ((after ≡ Against) × (old.against ≡ None) × (new ≡ old))
    ⊎ ((after ≡ Plain) × (old.against ≢ None) × (new ≡ left old word))

-- behind the option of the file of an answer likewise
abbrev pub WaitsForOutput : (old : Parts) → (word : List ℕ) → (after : Kind) → (new : Parts) → Type 0
WaitsForOutput old word after new = ((after ≡ Output) × (old.output ≡ None) × (new ≡ old))
    ⊎ ((after ≡ Plain) × (old.output ≢ None) × (new ≡ left old word))

-- the file or folder that the word has in itself is put, if there is no place yet; else the word is left
abbrev pub PutsPlace : CommandName → (old : Parts) → (word : List ℕ) → (new : Parts) → Type 0
PutsPlace command old word new = ((file : List ℕ) × JoinsPlace command word file × (old.place ≡ None)
    × (new ≡ record old { place = Some file })) ⊎ ((old.place ≢ None) × (new ≡ left old word))

-- behind the option of a count likewise
abbrev pub WaitsForCount : (old : Parts) → (word : List ℕ) → (after : Kind) → (new : Parts) → Type 0
WaitsForCount old word after new = ((after ≡ Expected) × (old.expected ≡ None) × (new ≡ old))
    ⊎ ((after ≡ Plain) × (old.expected ≢ None) × (new ≡ left old word))
