-- What the first line of an answer says, and the sentence that a page makes of it.
use Rattle.std.specs.Prelude.{◌≡◌, ◌≢◌, ◌⊎◌, ◌<◌, ◌++◌, ◌∷◌, ◌==◌, ℕ, List, Option, Some, None, codes, length, slice_index}
use Rattle.std.specs.List.{before_first}
use Rattle.sgt_page.specs.declared.verdict.OfHistory.{OfHistory}
use Rattle.sgt_page.specs.declared.verdict.OfHistory.TheVariants as history
use Rattle.sgt_page.specs.declared.verdict.OfLogs.{OfLogs}
use Rattle.sgt_page.specs.declared.verdict.OfLogs.TheVariants as logs

abbrev pub EndsSo : (text word : List ℕ) → Type 0
EndsSo text word = (front : List ℕ) × (text ≡ front ++ word)

abbrev pub Lacks : ℕ → List ℕ → Type 0
Lacks b text = (n : ℕ) → n < length text → slice_index text n ≢ b

-- the name that a serializable history has where no order keeps the sessions, or the real time, that was asked for
abbrev pub KeepsNotAsked : List ℕ → Type 0
KeepsNotAsked name = EndsSo name (codes "-process") ⊎ EndsSo name (codes "-realtime")

-- ---- of a history of a database

-- the line says this of the history, and nothing else
abbrev pub SaysOfHistory : List ℕ → OfHistory → Type 0
SaysOfHistory line (history.Serializable counts) = line ≡ codes "yes " ++ counts.now
SaysOfHistory line (history.Unread place) = line ≡ codes "! " ++ place.now
SaysOfHistory line history.AgainstOrder = line ≡ codes "no order"
SaysOfHistory line (history.KeptNot name) = (line ≡ codes "no " ++ name.now) × KeepsNotAsked name.now
SaysOfHistory line (history.Anomalous name) = (line ≡ codes "no " ++ name.now) × (name.now ≢ codes "order")
    × (KeepsNotAsked name.now → ⊥)
SaysOfHistory line (history.Other whole) = (line ≡ whole.now) × ((rest : List ℕ) → line ≢ codes "yes " ++ rest)
    × ((rest : List ℕ) → line ≢ codes "! " ++ rest) × ((rest : List ℕ) → line ≢ codes "no " ++ rest)

abbrev pub sentence_of_history : OfHistory → List ℕ
sentence_of_history (history.Serializable counts) = codes "Yes: the history is serializable, with "
    ++ (counts.now ++ codes ".")
sentence_of_history (history.Unread place) = codes "The history can't be read: " ++ (place.now ++ codes ".")
sentence_of_history history.AgainstOrder = codes "No: the order that is given doesn't explain the history."
sentence_of_history (history.KeptNot name) = codes "No: no order explains the history and keeps what is asked for ("
    ++ (name.now ++ codes ").")
sentence_of_history (history.Anomalous name) = codes "No: the history is not serializable (" ++ (name.now ++ codes ").")
sentence_of_history (history.Other whole) = whole.now

-- the anomaly; of a line that can't be read what is wrong with it, the first word
abbrev pub rule_of_history : OfHistory → Option (List ℕ)
rule_of_history (history.Unread place) = Some (before_first (λ b. b == 32) place.now)
rule_of_history (history.KeptNot name) = Some name.now
rule_of_history (history.Anomalous name) = Some name.now
rule_of_history _ = None

-- ---- of a bundle, or of logs

-- the line tells the first line with a fault, and the fault; or it tells none
abbrev pub TellsFault : (line number fault : List ℕ) → Type 0
TellsFault line number fault = (line ≡ codes "no line " ++ (number ++ 32 ∷ fault)) × Lacks 32 number

abbrev pub TellsNoFault : List ℕ → Type 0
TellsNoFault line = (place : List ℕ) → line ≡ codes "no line " ++ place → Lacks 32 place

-- the line says this of them, and nothing else
abbrev pub SaysOfLogs : List ℕ → OfLogs → Type 0
SaysOfLogs line (logs.Valid counts) = line ≡ codes "yes " ++ counts.now
SaysOfLogs line (logs.Certified counts) = line ≡ codes "a certificate exists: " ++ counts.now
SaysOfLogs line (logs.Faulty number fault) = TellsFault line number.now fault.now
SaysOfLogs line (logs.Uncertified whole) = (line ≡ whole.now) × ((rest : List ℕ) × (line ≡ codes "no " ++ rest))
    × TellsNoFault line
SaysOfLogs line (logs.Other whole) = (line ≡ whole.now) × ((rest : List ℕ) → line ≢ codes "yes " ++ rest)
    × ((rest : List ℕ) → line ≢ codes "a certificate exists: " ++ rest) × ((rest : List ℕ) → line ≢ codes "no " ++ rest)

abbrev pub fault_text : (number fault : List ℕ) → List ℕ
fault_text number fault = codes "No: line " ++ (number ++ (codes " is the first with a fault, "
    ++ (fault ++ codes ".")))

abbrev pub sentence_of_logs : OfLogs → List ℕ
sentence_of_logs (logs.Valid counts) = codes "Yes: the bundle is valid, with " ++ (counts.now ++ codes ".")
sentence_of_logs (logs.Certified counts) = codes "Yes: a certificate exists for these logs, with "
    ++ (counts.now ++ codes ".")
sentence_of_logs (logs.Faulty number fault) = fault_text number.now fault.now
sentence_of_logs (logs.Uncertified whole) = codes "No: there is no certificate for these logs ("
    ++ (whole.now ++ codes ").")
sentence_of_logs (logs.Other whole) = whole.now

-- the fault; of logs without a certificate why they have none
abbrev pub rule_of_logs : OfLogs → Option (List ℕ)
rule_of_logs (logs.Faulty number fault) = Some fault.now
rule_of_logs (logs.Uncertified whole) = Some whole.now
rule_of_logs _ = None

-- ---- of an answer of either

-- the sentence is that of what the line says: of a history where the command is `check`
abbrev pub IsVerdict : (command line sentence : List ℕ) → Type 0
IsVerdict command line sentence = (command ≡ codes "check"
    → (said : OfHistory) × SaysOfHistory line said × (sentence ≡ sentence_of_history said))
    × (command ≢ codes "check" → (said : OfLogs) × SaysOfLogs line said × (sentence ≡ sentence_of_logs said))
