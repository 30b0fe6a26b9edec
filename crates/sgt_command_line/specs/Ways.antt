-- In which way a command line is answered.
use Rattle.std.specs.Prelude.{◌≡◌, ◌≢◌, ◌⊎◌, ◌<◌, ◌≤◌, [], None, Result, Ok, Err, IsTrue, length, ⊤}
use Rattle.sgt_line.specs.Parts.{Parts}
use Rattle.sgt_command_line.specs.Words.{AsksTalk}
use Rattle.sgt_command_line.specs.declared.choice.Choice.{Choice}
use Rattle.sgt_command_line.specs.declared.choice.Choice.TheVariants as made
use Rattle.sgt_command_line.specs.declared.choice.NoChoice.{NoChoice}
use Rattle.sgt_command_line.specs.declared.way.Way.{Way}
use Rattle.sgt_command_line.specs.declared.way.Way.TheVariants.{Talk, Against, Drawn, Chain, Each, Held, Quiet, Plain}

-- a command is asked for
abbrev pub Chooses : Result Choice NoChoice → Type 0
Chooses (Ok choice) = ⊤
Chooses (Err why) = ⊥

abbrev pub ChoosesCheck : Result Choice NoChoice → Type 0
ChoosesCheck (Ok (made.Check wanted)) = ⊤
ChoosesCheck _ = ⊥

abbrev pub ChoosesAudit : Result Choice NoChoice → Type 0
ChoosesAudit (Ok made.Audit) = ⊤
ChoosesAudit (Ok (made.AuditWith workers)) = ⊤
ChoosesAudit _ = ⊥

-- a command is asked for that reads something: all but the one that says what a rule is
abbrev pub ChoosesInput : Result Choice NoChoice → Type 0
ChoosesInput (Ok (made.Rule topic)) = ⊥
ChoosesInput (Ok choice) = ⊤
ChoosesInput (Err why) = ⊥

-- events are to be served, of one file at most
abbrev pub IsTalk : Parts → Type 0
IsTalk p = AsksTalk p.words × (length p.files < 2)

-- what the line has for this way
abbrev pub Fits : Parts → Result Choice NoChoice → Way → Type 0
Fits p chosen Talk = IsTalk p
Fits p chosen Against = ChoosesCheck chosen × (p.against ≢ None)
Fits p chosen Drawn = ChoosesCheck chosen × (p.place ≢ None)
Fits p chosen Chain = (ChoosesAudit chosen × IsTrue p.is_chain) × (p.files ≢ [])
Fits p chosen Each = Chooses chosen × (2 ≤ length p.files)
Fits p chosen Held = Chooses chosen × ((p.place ≢ None) ⊎ IsTrue p.is_strict)
Fits p chosen Quiet = Chooses chosen × IsTrue p.is_quiet
Fits p chosen Plain = ⊤

abbrev pub Misses : Parts → Result Choice NoChoice → Way → Type 0
Misses p chosen way = Fits p chosen way → ⊥

-- neither these ways fit
abbrev pub NorAgainst : Parts → Result Choice NoChoice → Type 0
NorAgainst p chosen = Misses p chosen Talk × Misses p chosen Against

abbrev pub NorChain : Parts → Result Choice NoChoice → Type 0
NorChain p chosen = (NorAgainst p chosen × Misses p chosen Drawn) × Misses p chosen Chain

-- no way before this one fits
abbrev pub NoneBefore : Parts → Result Choice NoChoice → Way → Type 0
NoneBefore p chosen Talk = ⊤
NoneBefore p chosen Against = Misses p chosen Talk
NoneBefore p chosen Drawn = NorAgainst p chosen
NoneBefore p chosen Chain = NorAgainst p chosen × Misses p chosen Drawn
NoneBefore p chosen Each = NorChain p chosen
NoneBefore p chosen Held = NorChain p chosen × Misses p chosen Each
NoneBefore p chosen Quiet = (NorChain p chosen × Misses p chosen Each) × Misses p chosen Held
NoneBefore p chosen Plain = ((NorChain p chosen × Misses p chosen Each) × Misses p chosen Held) × Misses p chosen Quiet

-- something is read
abbrev pub Reads : Parts → Result Choice NoChoice → Type 0
Reads p chosen = IsTalk p ⊎ ChoosesInput chosen
