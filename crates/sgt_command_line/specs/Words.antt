-- What the words of the command line ask for.
use Rattle.std.specs.Prelude.{◌≡◌, ◌≢◌, ◌<◌, ◌≤◌, ◌^◌, ℕ, ◌⊎◌, Any, Bool, true, false, List, [], ◌∷◌, ◌++◌, Option, Some, None, drop, codes, length, string_bytes, ⊤}
use Rattle.sgt_explain.specs.Topics.{topic_name}
use Rattle.sgt_explain.specs.declared.asked.Asked.{Asked}
use Rattle.sgt_explain.specs.declared.asked.Asked.TheVariants as asking
use Rattle.sgt_names.specs.Limits.{max_workers}
use Rattle.sgt_line.specs.Names.{command_text}
use Rattle.sgt_command_line.specs.Check.{SaysCheck}
use Rattle.sgt_command_line.specs.Options.{ReadsNumber, SaysRun}
use Rattle.sgt_command_line.specs.declared.choice.Choice.{Choice}
use Rattle.sgt_command_line.specs.declared.choice.Choice.TheVariants.{Audit, AuditWith, Certify, Check, Draw, DrawWith, Explain, Replay, Rule, Run, Serial}
use Rattle.sgt_command_line.specs.declared.choice.NoChoice.{NoChoice}
use Rattle.sgt_command_line.specs.declared.choice.NoChoice.TheVariants.{Help, Usage, Bare, Memory}
use Rattle.sgt_line.specs.declared.name.CommandName.{CommandName}
use Rattle.sgt_line.specs.declared.name.CommandName.TheVariants as command

-- the text is this number of workers
abbrev pub SaysWorkers : List ℕ → ℕ → Type 0
SaysWorkers text n = ReadsNumber (Some text) n × (1 ≤ n) × (n ≤ max_workers)

-- the text is the number of this transaction
abbrev pub SaysTx : List ℕ → ℕ → Type 0
SaysTx text tx = ReadsNumber (Some text) tx × (1 ≤ tx) × (tx < 2 ^ 32)

-- the words tell this transaction: `--tx N`, or in one word `--tx=N`
abbrev pub TellsTx : List (List ℕ) → ℕ → Type 0
TellsTx words tx = (text : List ℕ) × SaysTx text tx
    × ((words ≡ codes "--tx" ∷ text ∷ []) ⊎ (words ≡ (codes "--tx=" ++ text) ∷ []))

-- the options of a picture: `--dot`, a transaction, or both, whichever is first
abbrev pub TellsPicture : List (List ℕ) → Option ℕ → Bool → Type 0
TellsPicture options None true = options ≡ codes "--dot" ∷ []
TellsPicture options (Some tx) false = TellsTx options tx
TellsPicture options (Some tx) true = (words : List (List ℕ)) × TellsTx words tx
    × ((options ≡ codes "--dot" ∷ words) ⊎ (options ≡ words ++ (codes "--dot" ∷ [])))
TellsPicture options None false = ⊥

-- what is asked for besides an explanation: nothing, that no refused transaction is left out, or what one did
abbrev pub TellsAsked : List (List ℕ) → Asked → Type 0
TellsAsked options asking.First = options ≡ []
TellsAsked options asking.All = options ≡ codes "--all" ∷ []
TellsAsked options (asking.Transaction tx) = TellsTx options tx

-- the command that is asked for
abbrev pub command_of : Choice → CommandName
command_of Audit = command.Audit
command_of (AuditWith workers) = command.Audit
command_of Serial = command.Serial
command_of Replay = command.Replay
command_of Certify = command.Certify
command_of (Explain asked) = command.Explain
command_of (Rule topic) = command.Explain
command_of Draw = command.Draw
command_of (DrawWith tx is_dot) = command.Draw
command_of (Check wanted) = command.Check
command_of (Run workers tries) = command.Run

-- what stands behind the command's name says this: nothing where the command stands alone; the number of workers; what
-- is asked for besides an explanation; a rule's name; options of a picture or of a check; of a run what clap finds
abbrev pub Says : List (List ℕ) → Choice → Type 0
Says options (AuditWith workers) = (text : List ℕ) × SaysWorkers text workers
    × (options ≡ codes "--workers" ∷ text ∷ [])
Says options (Explain asked) = TellsAsked options asked
Says options (Rule topic) = options ≡ topic_name topic ∷ []
Says options (DrawWith tx is_dot) = TellsPicture options tx is_dot
Says options (Check wanted) = SaysCheck options wanted
Says options (Run workers tries) = SaysRun (codes "run" ∷ options) workers tries
Says options choice = options ≡ []

-- the words behind the program's name ask for this: the command's name, and what says it; with no
-- word, for the audit
abbrev pub Asks : List (List ℕ) → Choice → Type 0
Asks words choice = ((words ≡ []) × (choice ≡ Audit))
    ⊎ ((options : List (List ℕ)) × (words ≡ command_text (command_of choice) ∷ options)
    × Says options choice)

-- the same of all words, the program's name first
abbrev pub AsksFor : List (List ℕ) → Choice → Type 0
AsksFor words choice = Asks (drop 1 words) choice

-- behind the program's name stands `serve`, alone
abbrev pub AsksTalk : List (List ℕ) → Type 0
AsksTalk words = drop 1 words ≡ command_text command.Serve ∷ []

-- the command keeps all that it reads: `explain` and `draw`
abbrev pub KeepsInput : CommandName → Type 0
KeepsInput name = (name ≡ command.Explain) ⊎ (name ≡ command.Draw)

-- behind the program's name stands such a command, and maybe more
abbrev pub NamesKeeper : List (List ℕ) → Type 0
NamesKeeper words = (name : CommandName) × KeepsInput name × ((options : List (List ℕ))
    × (drop 1 words ≡ command_text name ∷ options))

-- other words are help or no command
abbrev pub AsksNone : List (List ℕ) → Type 0
AsksNone words = (choice : Choice) → AsksFor words choice → ⊥

-- a run has a worker and a try
abbrev pub CanRun : Choice → Type 0
CanRun (Run workers tries) = (1 ≤ workers) × (1 ≤ tries)
CanRun _ = ⊤

-- the word asks for help, or for the version
abbrev pub NamesHelp : List ℕ → Type 0
NamesHelp word = ((word ≡ codes "--help") ⊎ (word ≡ codes "-h"))
    ⊎ ((word ≡ codes "--version") ⊎ (word ≡ codes "-V"))

-- a word behind the program's name does
abbrev pub AsksHelp : List (List ℕ) → Type 0
AsksHelp words = Any NamesHelp (drop 1 words)

-- the words behind the program's name are those of a run
abbrev pub BeginsRun : List (List ℕ) → Type 0
BeginsRun words = (options : List (List ℕ)) × (words ≡ command_text command.Run ∷ options)

-- memory may be wanting where help is to be written, and where clap reads a run's words
abbrev pub MayLackMemory : List (List ℕ) → Type 0
MayLackMemory words = AsksHelp words ⊎ BeginsRun (drop 1 words)

-- what is said of words that ask for no command: help exactly where one of them asks for it
abbrev pub TellsHelp : List (List ℕ) → NoChoice → Type 0
TellsHelp words (Help text) = AsksHelp words
TellsHelp words (Usage text) = AsksHelp words → ⊥
TellsHelp words Bare = AsksHelp words → ⊥
TellsHelp words Memory = ⊤

-- what is said is never empty
abbrev pub HasText : NoChoice → Type 0
HasText (Help text) = 0 < length (string_bytes text)
HasText (Usage text) = 0 < length (string_bytes text)
HasText Bare = ⊤
HasText Memory = ⊤

-- the words are no command
abbrev pub IsUsage : NoChoice → Type 0
IsUsage (Usage text) = ⊤
IsUsage _ = ⊥
