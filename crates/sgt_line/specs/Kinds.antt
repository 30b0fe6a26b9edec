-- What a word is, behind a command.
use Rattle.std.specs.Prelude.{◌≡◌, ◌≢◌, ◌⊎◌, ℕ, List, ◌++◌, codes, ⊤}
use Rattle.sgt_line.specs.Names.{NamesRule}
use Rattle.sgt_line.specs.declared.kind.Kind.{Kind}
use Rattle.sgt_line.specs.declared.kind.Kind.TheVariants.{Against, Chain, Dashes, Expected, File, Joined, JoinedPlace, Json, Numbered, Output, Page, Place, Plain, Progress, Quiet, RuleName, Strict, Why}
use Rattle.sgt_line.specs.declared.name.CommandName.{CommandName}
use Rattle.sgt_line.specs.declared.name.CommandName.TheVariants.{Audit, Certify, Check, Draw, Explain, Replay, Run, Serial, Serve}

-- the word begins with a dash
abbrev pub IsDashed : List ℕ → Type 0
IsDashed word = (rest : List ℕ) × (word ≡ codes "-" ++ rest)

-- the command tells of the lines that it reads
abbrev pub TellsLines : CommandName → Type 0
TellsLines command = ((command ≡ Audit) ⊎ (command ≡ Check))
    ⊎ (((command ≡ Serial) ⊎ (command ≡ Replay)) ⊎ (command ≡ Certify))

-- the word is the option of a place with the file or folder in itself
abbrev pub JoinsPlace : CommandName → (word file : List ℕ) → Type 0
JoinsPlace command word file = (((command ≡ Replay) ⊎ (command ≡ Run)) × (word ≡ codes "--bundle=" ++ file))
    ⊎ (((command ≡ Serve) × (word ≡ codes "--bundles=" ++ file))
    ⊎ ((command ≡ Check) × (word ≡ codes "--svg=" ++ file)))

-- what the word is, but Plain: a switch of the command, `--`, an option of it with what stands behind
-- it, a rule's name, or a file
abbrev pub IsNoted : CommandName → List ℕ → Kind → Type 0
IsNoted command word Quiet = (((command ≡ Audit) ⊎ (command ≡ Check)) ⊎ ((command ≡ Certify) ⊎ (command ≡ Serial)))
    × ((word ≡ codes "-q") ⊎ (word ≡ codes "--quiet"))
IsNoted command word Strict = (command ≡ Replay) × (word ≡ codes "--strict")
IsNoted command word Chain = (command ≡ Audit) × (word ≡ codes "--chain")
IsNoted command word Progress = TellsLines command × (word ≡ codes "--progress")
IsNoted command word Why = (command ≢ Serve) × (word ≡ codes "--why")
IsNoted command word Json = (((command ≡ Audit) ⊎ (command ≡ Certify)) ⊎ ((command ≡ Explain) ⊎ (command ≡ Check)))
    × (word ≡ codes "--json")
IsNoted command word Page = ((command ≡ Explain) ⊎ (command ≡ Check)) × (word ≡ codes "--html")
IsNoted command word Dashes = word ≡ codes "--"
IsNoted command word Place = (((command ≡ Replay) ⊎ (command ≡ Run)) × (word ≡ codes "--bundle"))
    ⊎ (((command ≡ Serve) × (word ≡ codes "--bundles")) ⊎ ((command ≡ Check) × (word ≡ codes "--svg")))
IsNoted command word Against = (command ≡ Check) × (word ≡ codes "--against")
IsNoted command word Output = (command ≢ Serve) × ((word ≡ codes "-o") ⊎ (word ≡ codes "--output"))
IsNoted command word Expected = (command ≡ Audit) × (word ≡ codes "--expect-committed")
IsNoted command word Numbered = (((command ≡ Audit) ⊎ (command ≡ Run)) × (word ≡ codes "--workers"))
    ⊎ (((command ≡ Run) × (word ≡ codes "--tries"))
    ⊎ (((command ≡ Explain) ⊎ (command ≡ Draw)) × (word ≡ codes "--tx")))
IsNoted command word Joined = (command ≡ Audit)
    × ((number : List ℕ) × (word ≡ codes "--workers=" ++ number))
IsNoted command word JoinedPlace = (file : List ℕ) × JoinsPlace command word file
IsNoted command word RuleName = (command ≡ Explain) × NamesRule word
IsNoted command word File = ((command ≡ Explain) × NamesRule word → ⊥)
    × ((word ≡ codes "-") ⊎ (IsDashed word → ⊥))
IsNoted command word Plain = ⊥

-- and else Plain
abbrev pub IsKind : CommandName → List ℕ → Kind → Type 0
IsKind command word Plain = (kind : Kind) → IsNoted command word kind → ⊥
IsKind command word kind = IsNoted command word kind

-- an option with a word behind it, or in itself
abbrev pub IsOption : Kind → Type 0
IsOption Place = ⊤
IsOption Against = ⊤
IsOption Expected = ⊤
IsOption Output = ⊤
IsOption Numbered = ⊤
IsOption Joined = ⊤
IsOption JoinedPlace = ⊤
IsOption kind = ⊥

-- a switch, or `--`
abbrev pub IsSwitch : Kind → Type 0
IsSwitch Quiet = ⊤
IsSwitch Strict = ⊤
IsSwitch Chain = ⊤
IsSwitch Progress = ⊤
IsSwitch Why = ⊤
IsSwitch Json = ⊤
IsSwitch Page = ⊤
IsSwitch Dashes = ⊤
IsSwitch kind = ⊥
