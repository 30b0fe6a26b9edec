-- The names of commands, and of rules.
use Rattle.std.specs.Prelude.{◌≡◌, ◌≢◌, ◌⊎◌, ◌≤◌, ◌==◌, ℕ, All, List, [], ◌∷◌, codes, cond, map}
use Rattle.std.specs.Char.{to_ascii_lowercase, to_ascii_uppercase}
use Rattle.sgt_line.specs.declared.name.CommandName.{CommandName}
use Rattle.sgt_line.specs.declared.name.CommandName.TheVariants.{Audit, Certify, Check, Draw, Explain, Replay, Run, Serial, Serve}

-- the word by which a command is called
abbrev pub command_text : CommandName → List ℕ
command_text Audit = codes "audit"
command_text Serial = codes "serial"
command_text Replay = codes "replay"
command_text Run = codes "run"
command_text Serve = codes "serve"
command_text Certify = codes "certify"
command_text Check = codes "check"
command_text Explain = codes "explain"
command_text Draw = codes "draw"

-- a byte as it is compared in a name: a letter of either case, and a hyphen as a blank
abbrev pub folded : ℕ → ℕ
folded byte = cond (byte == 45) 32 (to_ascii_lowercase byte)

-- the word spells the name, in letters of either case, with hyphens or blanks
abbrev pub Spells : (word name : List ℕ) → Type 0
Spells word name = map folded word ≡ map folded name

-- a letter that rules' names begin with
abbrev pub IsTopicLetter : ℕ → Type 0
IsTopicLetter letter = (((letter ≡ 70) ⊎ (letter ≡ 75)) ⊎ ((letter ≡ 69) ⊎ (letter ≡ 76)))
    ⊎ (((letter ≡ 86) ⊎ (letter ≡ 80)) ⊎ (letter ≡ 67))

-- a letter of either case and a number, as F10, c1 or E8
abbrev pub IsNumbered : List ℕ → Type 0
IsNumbered word = (letter : ℕ) × (digits : List ℕ) × (word ≡ letter ∷ digits)
    × IsTopicLetter (to_ascii_uppercase letter) × (digits ≢ []) × All (λ digit. (48 ≤ digit) × (digit ≤ 57)) digits

-- the name of a cycle with steps of sessions or of time
abbrev pub IsKeptName : List ℕ → Type 0
IsKeptName word = ((word ≡ codes "G1c-process") ⊎ ((word ≡ codes "G-single-process") ⊎ (word ≡ codes "G2-item-process")))
    ⊎ ((word ≡ codes "G1c-realtime") ⊎ ((word ≡ codes "G-single-realtime") ⊎ (word ≡ codes "G2-item-realtime")))

-- the name of a cycle in a history
abbrev pub IsCycleName : List ℕ → Type 0
IsCycleName word = (((word ≡ codes "G0") ⊎ (word ≡ codes "G1c"))
    ⊎ ((word ≡ codes "G-single") ⊎ (word ≡ codes "G2-item"))) ⊎ IsKeptName word

-- the name of a fault of a history's line
abbrev pub IsFaultName : List ℕ → Type 0
IsFaultName word = (((word ≡ codes "internal") ⊎ (word ≡ codes "duplicate"))
    ⊎ ((word ≡ codes "G1a") ⊎ (word ≡ codes "unwritten")))
    ⊎ ((word ≡ codes "G1b") ⊎ (word ≡ codes "value"))

-- a reason of `certify`, or what `check --against` says
abbrev pub IsReasonName : List ℕ → Type 0
IsReasonName word = (word ≡ codes "no order") ⊎ ((word ≡ codes "no ranks") ⊎ (word ≡ codes "no walk"))

-- the name of a rule that has no number
abbrev pub IsPlainName : List ℕ → Type 0
IsPlainName name = (IsCycleName name ⊎ IsFaultName name) ⊎ IsReasonName name

-- a number with its letter, or B, which has none
abbrev pub IsShortName : List ℕ → Type 0
IsShortName word = IsNumbered word ⊎ (word ≡ codes "B")

-- this is the name of a rule, or a reply's, that the word spells
abbrev pub IsNameOf : (word name : List ℕ) → Type 0
IsNameOf word name = (IsShortName word × (name ≡ map to_ascii_uppercase word))
    ⊎ (IsPlainName name × Spells word name)

-- the word is of the form of a rule's name, or a reply's
abbrev pub NamesRule : List ℕ → Type 0
NamesRule word = (name : List ℕ) × IsNameOf word name
