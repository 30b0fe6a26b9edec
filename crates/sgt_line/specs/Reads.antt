-- How a command line is read, word by word.
use Rattle.std.specs.Prelude.{◌≡◌, ◌≢◌, ◌⊎◌, ℕ, true, List, [], ◌∷◌, ◌++◌, Some, None, codes}
use Rattle.sgt_line.specs.Kinds.{IsKind, JoinsPlace}
use Rattle.sgt_line.specs.Names.{IsNameOf, command_text}
use Rattle.sgt_line.specs.Parts.{HasRoom, Parts, bare, left, with_extra, with_file, with_rule}
use Rattle.sgt_line.specs.declared.kind.Kind.TheVariants.{Against, Chain, Dashes, Expected, File, Joined, JoinedPlace, Json, Numbered, Output, Page, Place, Plain, Progress, Quiet, RuleName, Strict, Why}
use Rattle.sgt_line.specs.declared.name.CommandName.{CommandName}

-- what takes a place of which there is one: the place that is there stays, and the word is a plain one
abbrev pub IsLeft : CommandName → Parts → List ℕ → Type 0
IsLeft command p word = IsKind command word Plain
    ⊎ (((IsKind command word Place ⊎ IsKind command word JoinedPlace) × (p.place ≢ None))
    ⊎ ((IsKind command word Against × (p.against ≢ None))
    ⊎ ((IsKind command word Output × (p.output ≢ None))
    ⊎ (IsKind command word Expected × (p.expected ≢ None)))))

-- these words, behind those that the first parts are of, are read as these parts
pub data Reads (command : CommandName) (first : Parts) : List (List ℕ) → Parts → Type 0 where
  none : Reads command first [] first
  plain : {ws : List (List ℕ)} {p : Parts} (w : List ℕ) → Reads command first ws p → IsLeft command p w
      → Reads command first (ws ++ (w ∷ [])) (left p w)
  -- `--workers N`: both words are left
  number : {ws : List (List ℕ)} {p : Parts} (o n : List ℕ) → Reads command first ws p → IsKind command o Numbered
      → Reads command first ((ws ++ (o ∷ [])) ++ (n ∷ [])) (left (left p o) n)
  -- `--workers=N` as two words
  joined : {ws : List (List ℕ)} {p : Parts} (w n : List ℕ) → Reads command first ws p → IsKind command w Joined → w ≡ codes "--workers=" ++ n
      → Reads command first (ws ++ (w ∷ [])) (left (left p (codes "--workers")) n)
  file : {ws : List (List ℕ)} {p : Parts} (w : List ℕ) → Reads command first ws p → IsKind command w File
      → HasRoom command p
      → Reads command first (ws ++ (w ∷ [])) (with_file p w)
  -- a rule by its name, however the word spells it
  rule : {ws : List (List ℕ)} {p : Parts} (w n : List ℕ) → Reads command first ws p → IsKind command w RuleName
      → IsNameOf w n → HasRoom command p
      → Reads command first (ws ++ (w ∷ [])) (with_rule p n)
  extra : {ws : List (List ℕ)} {p : Parts} (w : List ℕ) → Reads command first ws p
      → IsKind command w File ⊎ IsKind command w RuleName
      → (HasRoom command p → ⊥) → Reads command first (ws ++ (w ∷ [])) (with_extra p w)
  -- `--bundle FILE`: neither word is left
  place : {ws : List (List ℕ)} {p : Parts} (o f : List ℕ) → Reads command first ws p → IsKind command o Place
      → p.place ≡ None
      → Reads command first ((ws ++ (o ∷ [])) ++ (f ∷ [])) (record p { place = Some f })
  -- `--bundle=FILE` too
  joined_place : {ws : List (List ℕ)} {p : Parts} (w f : List ℕ) → Reads command first ws p
      → IsKind command w JoinedPlace → JoinsPlace command w f → p.place ≡ None
      → Reads command first (ws ++ (w ∷ [])) (record p { place = Some f })
  -- `--against ORDER` likewise
  against : {ws : List (List ℕ)} {p : Parts} (o f : List ℕ) → Reads command first ws p → IsKind command o Against
      → p.against ≡ None
      → Reads command first ((ws ++ (o ∷ [])) ++ (f ∷ [])) (record p { against = Some f })
  -- `-o FILE` likewise
  output : {ws : List (List ℕ)} {p : Parts} (o f : List ℕ) → Reads command first ws p → IsKind command o Output
      → p.output ≡ None
      → Reads command first ((ws ++ (o ∷ [])) ++ (f ∷ [])) (record p { output = Some f })
  -- `--expect-committed N` likewise
  expected : {ws : List (List ℕ)} {p : Parts} (o f : List ℕ) → Reads command first ws p → IsKind command o Expected
      → p.expected ≡ None
      → Reads command first ((ws ++ (o ∷ [])) ++ (f ∷ [])) (record p { expected = Some f })
  quiet : {ws : List (List ℕ)} {p : Parts} (w : List ℕ) → Reads command first ws p → IsKind command w Quiet
      → Reads command first (ws ++ (w ∷ [])) (record p { is_quiet = true })
  strict : {ws : List (List ℕ)} {p : Parts} (w : List ℕ) → Reads command first ws p → IsKind command w Strict
      → Reads command first (ws ++ (w ∷ [])) (record p { is_strict = true })
  chain : {ws : List (List ℕ)} {p : Parts} (w : List ℕ) → Reads command first ws p → IsKind command w Chain
      → Reads command first (ws ++ (w ∷ [])) (record p { is_chain = true })
  progress : {ws : List (List ℕ)} {p : Parts} (w : List ℕ) → Reads command first ws p → IsKind command w Progress
      → Reads command first (ws ++ (w ∷ [])) (record p { tells_lines = true })
  why : {ws : List (List ℕ)} {p : Parts} (w : List ℕ) → Reads command first ws p → IsKind command w Why
      → Reads command first (ws ++ (w ∷ [])) (record p { tells_why = true })
  json : {ws : List (List ℕ)} {p : Parts} (w : List ℕ) → Reads command first ws p → IsKind command w Json
      → Reads command first (ws ++ (w ∷ [])) (record p { is_json = true })
  page : {ws : List (List ℕ)} {p : Parts} (w : List ℕ) → Reads command first ws p → IsKind command w Page
      → Reads command first (ws ++ (w ∷ [])) (record p { is_page = true })

-- the same with `--`, behind which each word is a file
pub data Behind (command : CommandName) (first : Parts) : List (List ℕ) → Parts → Type 0 where
  dashes : {ws : List (List ℕ)} {p : Parts} (w : List ℕ) → Reads command first ws p → IsKind command w Dashes
      → Behind command first (ws ++ (w ∷ [])) p
  file_behind : {ws : List (List ℕ)} {p : Parts} (w : List ℕ) → Behind command first ws p → HasRoom command p
      → Behind command first (ws ++ (w ∷ [])) (with_file p w)
  extra_behind : {ws : List (List ℕ)} {p : Parts} (w : List ℕ) → Behind command first ws p → (HasRoom command p → ⊥)
      → Behind command first (ws ++ (w ∷ [])) (with_extra p w)

-- the same with an option at the end that lacks the word behind it: it is left
pub record IsCut (command : CommandName) (first : Parts) (words : List (List ℕ)) (parts : Parts) : Type 0 where
  pub before : List (List ℕ)
  pub option : List ℕ
  pub without : Parts
  pub cut : words ≡ before ++ (option ∷ [])
  pub kind : IsKind command option Numbered ⊎ (IsKind command option Place ⊎ (IsKind command option Against
      ⊎ (IsKind command option Output ⊎ IsKind command option Expected)))
  pub reads : Reads command first before without
  pub is : parts ≡ left without option

-- these words, behind those that the first parts are of, are all that there is, and are read as these
-- parts
abbrev pub IsRead : CommandName → Parts → List (List ℕ) → Parts → Type 0
IsRead command first words parts = Reads command first words parts
    ⊎ (Behind command first words parts ⊎ IsCut command first words parts)

-- these are the parts of the line of these words, the program's name first: behind a command's name as
-- they are read there; `sgt help` is `sgt --help`, and `sgt help COMMAND` is `sgt COMMAND --help`; of
-- other words nothing is taken
pub record IsLineOf (words : List (List ℕ)) (parts : Parts) : Type 0 where
  pub read : (name : List ℕ) (command : CommandName) (behind : List (List ℕ))
      → words ≡ name ∷ command_text command ∷ behind
      → IsRead command (bare (name ∷ command_text command ∷ [])) behind parts
  pub help : (name : List ℕ) → words ≡ name ∷ codes "help" ∷ []
      → parts ≡ bare (name ∷ codes "--help" ∷ [])
  pub help_of : (name command : List ℕ) → words ≡ name ∷ codes "help" ∷ command ∷ []
      → parts ≡ bare (name ∷ command ∷ codes "--help" ∷ [])
  pub other : ((name : List ℕ) (command : CommandName) (behind : List (List ℕ))
      → words ≢ name ∷ command_text command ∷ behind) → ((name : List ℕ) → words ≢ name ∷ codes "help" ∷ [])
      → ((name command : List ℕ) → words ≢ name ∷ codes "help" ∷ command ∷ []) → parts ≡ bare words
