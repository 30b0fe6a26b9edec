-- What an order and the text of a history are answered by.
use Rattle.std.specs.Prelude.{◌≡◌, ◌⊎◌, ℕ, ◌+◌, List, [], take, Option, IfSome}
use Rattle.std.specs.Io.KnownBytes.{Appends}
use Rattle.json.specs.Json.{Json}
use Rattle.sgt_names.specs.Device.{AppendsOrForgets, WritesFront}
use Rattle.sgt_names.specs.declared.outcome.Outcome.{Outcome}
use Rattle.sgt_names.specs.declared.outcome.Outcome.TheVariants.{Yes, No, Unreadable}
use Rattle.sgt_history.specs.Flaws.{IsFaultless}
use Rattle.sgt_history.specs.Serial.{IsOrder, RunsRight, run_of}
use Rattle.sgt_history.specs.Transaction.{Transaction}
use Rattle.sgt_history.specs.declared.history.Operation.{Operation}
use Rattle.sgt_history_kept.specs.declared.passed.Unkept.{Unkept}
use Rattle.sgt_history_text.specs.Text.{SpellsWith}
use Rattle.sgt_history_text.specs.declared.wanted.Wanted.{Wanted}
use Rattle.sgt_history_time.specs.declared.times.Times.{Times}
use Rattle.sgt_history_time.specs.Serializable.{ServesKeeping}
use Rattle.sgt_check.specs.Answer.{IsFaultTold, IsUnreadable, compactly}
use Rattle.sgt_check.specs.Text.{Spelling, aborted_of, committed_of, counts_text}
use Rattle.sgt_check_order.specs.Kept.{AreKeptTo, IsFirstStep, Kept, kept_by}
use Rattle.sgt_check_order.specs.Order.{IsFirstStray, NameEach, lines_of}
use Rattle.sgt_check_order.specs.Run.{IsFirstBreak}
use Rattle.sgt_check_order.specs.Text.{back_text, break_text, stray_text}

-- ---- of a history

-- the text of the order names all committed transactions, each once, in an order that serves, and keeps what it is to
pub record IsServed {I V S : Type 0} (bytes : List ℕ) (ids : List Json) (k : Kept S) (h : List (Transaction I V))
    (text : List ℕ) : Type 0 where
  pub order : List ℕ
  pub names : NameEach ids (lines_of bytes) order
  pub keeps : ServesKeeping h k.times k.sessions order
  pub text_is : text ≡ counts_text (committed_of h) (aborted_of h)

-- no line has a fault; the order's line of this number is the first that is wrong
pub record IsStrayTold {I V : Type 0} (bytes : List ℕ) (ids : List Json) (h : List (Transaction I V))
    (text : List ℕ) : Type 0 where
  pub faultless : IsFaultless h
  pub number : ℕ
  pub first : IsFirstStray h ids bytes number
  pub text_is : text ≡ stray_text number

-- no line has a fault; the order names each committed transaction once, and this operation is the first that breaks
-- it; no transaction before has to stand before one in front of it
pub record IsBreakTold {I V S : Type 0} (bytes : List ℕ) (ids : List Json) (s : Spelling I V) (k : Kept S)
    (h : List (Transaction I V)) (text : List ℕ) : Type 0 where
  pub faultless : IsFaultless h
  pub order : List ℕ
  pub names : NameEach ids (lines_of bytes) order
  pub ordered : IsOrder h order
  pub line : ℕ
  pub o : Operation I V
  pub found : ℕ
  pub first : IsFirstBreak h order line o found
  pub before : AreKeptTo k order first.place
  pub text_is : text ≡ break_text s line o found

-- the same, but this transaction is the first that has to stand before one in front of it; no operation up to its
-- last breaks the order
pub record IsBackTold {I V S : Type 0} (bytes : List ℕ) (ids : List Json) (s : Spelling I V) (k : Kept S)
    (h : List (Transaction I V)) (text : List ℕ) : Type 0 where
  pub faultless : IsFaultless h
  pub order : List ℕ
  pub names : NameEach ids (lines_of bytes) order
  pub ordered : IsOrder h order
  pub u : Unkept
  pub first : IsFirstStep k order u
  pub right : RunsRight (run_of h (take (u.place + 1) order))
  pub text_is : text ≡ back_text s k.name u

abbrev pub IsJudged : {I V S : Type 0} → List ℕ → List Json → Spelling I V → Kept S → List (Transaction I V) → Outcome
    → List ℕ → Type 0
IsJudged bytes ids s k h Yes text = IsServed bytes ids k h text
IsJudged bytes ids s k h No text = IsStrayTold bytes ids h text
    ⊎ (IsBreakTold bytes ids s k h text ⊎ IsBackTold bytes ids s k h text)
IsJudged bytes ids s k h Unreadable text = ⊥

-- ---- of bytes

-- the order is judged by the history that the bytes spell, and by what they tell of what is wanted
pub record IsOrderJudged (w : Wanted) (order bytes : List ℕ) (outcome : Outcome) (text : List ℕ) : Type 0 where
  pub ids : List Json
  pub h : List (Transaction Json Json)
  pub times : List (Option Times)
  pub sessions : List (Option Json)
  pub spells : SpellsWith w bytes ids h times sessions
  pub names : List Json
  pub judged : IsJudged order ids (compactly ids) (kept_by times sessions names) h outcome text

-- a fault of the history goes before, as `check` tells it
abbrev pub IsAnswer : Wanted → (order bytes : List ℕ) → Outcome → List ℕ → Type 0
IsAnswer w order bytes Yes text = IsOrderJudged w order bytes Yes text
IsAnswer w order bytes No text = IsFaultTold bytes text ⊎ IsOrderJudged w order bytes No text
IsAnswer w order bytes Unreadable text = IsUnreadable w bytes text

-- the order names each committed transaction of the history that the bytes spell once, serves, and keeps what is wanted
abbrev pub SpellsServed : Wanted → (order bytes : List ℕ) → Type 0
SpellsServed w order bytes = (ids : List Json) × (h : List (Transaction Json Json)) × (times : List (Option Times))
    × (sessions : List (Option Json))
    × SpellsWith w bytes ids h times sessions × (numbers : List ℕ) × NameEach ids (lines_of order) numbers
    × ServesKeeping h times sessions numbers

-- ---- of what readers tell

abbrev pub IsToldAnswer : Wanted → (order told : Option (List ℕ)) → Outcome → List ℕ → Type 0
IsToldAnswer w order told outcome text =
    IfSome told (λ bytes. IfSome order (λ lines. IsAnswer w lines bytes outcome text))

-- that text was written
abbrev pub WroteAnswer : Wanted → (order told : Option (List ℕ)) → Outcome → (old new : Option (List ℕ)) → Type 0
WroteAnswer w order told outcome old new = (text : List ℕ) × IsToldAnswer w order told outcome text
    × Appends old new text

-- nothing was written, or a front of that text, and less than the whole
abbrev pub WroteAnswerFront : Wanted → (order told old new : Option (List ℕ)) → Type 0
WroteAnswerFront w order told old new = AppendsOrForgets old new []
    ⊎ ((outcome : Outcome) × (text : List ℕ) × IsToldAnswer w order told outcome text × WritesFront old new text)
