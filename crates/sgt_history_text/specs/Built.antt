-- What is kept of the lines that were read: a numbered history, and the texts that the numbers stand for.
use Rattle.std.specs.Prelude.{◌≡◌, ℕ, Bool, true, false, List, [], ◌∷◌, ◌++◌, map, Option, Some, None, slice_get, Contains}
use Rattle.json.specs.Json.{Json}
use Rattle.json.specs.Tree.{HasNumbers}
use Rattle.sgt_history.specs.History.{closed_of, open_of}
use Rattle.sgt_history.specs.Serial.{StandOnce}
use Rattle.sgt_history.specs.Transaction.{Transaction}
use Rattle.sgt_history.specs.declared.history.Operation.{Operation}
use Rattle.sgt_history_text.specs.Line.{IsLine}
use Rattle.sgt_history_text.specs.Moment.{IsLineWith, Tell}
use Rattle.sgt_history_text.specs.Name.{compact}
use Rattle.sgt_history_text.specs.declared.building.Builder.{Builder}
use Rattle.sgt_history_text.specs.declared.fault.LineFault.{LineFault}
use Rattle.sgt_history_text.specs.declared.fault.LineFault.TheVariants.{NotALine, TooLong, IdAgain}
use Rattle.sgt_history_text.specs.declared.moments.Moments.{Moments}
use Rattle.sgt_history_text.specs.declared.wanted.Wanted.{Wanted}

-- the texts are those of these values, of which no two are equal; and each can be written
pub record AreKept (texts : List (List ℕ)) (js : List Json) : Type 0 where
  pub texts_are : texts ≡ map compact js
  pub once : StandOnce js
  pub writable : (n : ℕ) (j : Json) → slice_get js n ≡ Some j → HasNumbers j

-- of the texts that are kept then, behind those of the values before, this one is the value's
pub record IsNumbered (old : List Json) (j : Json) (texts : List (List ℕ)) (number : ℕ) : Type 0 where
  pub more : List Json
  pub kept : AreKept texts (old ++ more)
  pub there : slice_get (old ++ more) number ≡ Some j

-- ---- names

-- the number stands for the value, or there is neither
abbrev pub NamesValue : List Json → Option ℕ → Option Json → Type 0
NamesValue values None None = Unit {0}
NamesValue values None (Some j) = ⊥
NamesValue values (Some n) None = ⊥
NamesValue values (Some n) (Some j) = slice_get values n ≡ Some j

-- the operation is the other one, with numbers for its item and value
pub record NamesOperation (items values : List Json) (o : Operation ℕ ℕ) (p : Operation Json Json) : Type 0 where
  pub version_is : o.version ≡ p.version
  pub kind_is : o.kind ≡ p.kind
  pub item_is : slice_get items o.item ≡ Some p.item
  pub value_is : NamesValue values o.value p.value

abbrev pub NamesOperations : (items values : List Json) → List (Operation ℕ ℕ) → List (Operation Json Json) → Type 0
NamesOperations items values [] [] = Unit {0}
NamesOperations items values [] (p ∷ ps) = ⊥
NamesOperations items values (o ∷ os) [] = ⊥
NamesOperations items values (o ∷ os) (p ∷ ps) = NamesOperation items values o p × NamesOperations items values os ps

abbrev pub NamesHistory : (items values : List Json) → List (Transaction ℕ ℕ) → List (Transaction Json Json) → Type 0
NamesHistory items values [] [] = Unit {0}
NamesHistory items values [] (u ∷ us) = ⊥
NamesHistory items values (t ∷ ts) [] = ⊥
NamesHistory items values (t ∷ ts) (u ∷ us) =
    (t.commits ≡ u.commits) × NamesOperations items values t.operations u.operations × NamesHistory items values ts us

-- ---- what is kept

-- the transactions of the lines that were read, with their ids, and the operations that were read of the next
pub record IsBuilt (b : Builder) (ids : List Json) (h : List (Transaction Json Json))
    (begun : List (Operation Json Json)) : Type 0 where
  pub items : List Json
  pub values : List Json
  pub ids_kept : AreKept b.ids ids
  pub items_kept : AreKept b.items items
  pub values_kept : AreKept b.values values
  pub closed : NamesHistory items values (closed_of b.history) h
  pub opened : NamesOperations items values (open_of b.history) begun

-- the number of each session stands for it, and no line has one where none is known
abbrev pub NamesEach : List Json → List (Option ℕ) → List (Option Json) → Type 0
NamesEach names [] [] = Unit {0}
NamesEach names [] (e ∷ es) = ⊥
NamesEach names (n ∷ ns) [] = ⊥
NamesEach names (n ∷ ns) (e ∷ es) = NamesValue names n e × NamesEach names ns es

-- the texts are those of the sessions that the numbers stand for
pub record AreSessions (texts : List (List ℕ)) (numbers : List (Option ℕ)) (sessions : List (Option Json)) : Type 0
  where
    pub names : List Json
    pub kept : AreKept texts names
    pub each : NamesEach names numbers sessions

-- what these lines, which spell these transactions, tell of what is wanted
pub record AreMoments (w : Wanted) (m : Moments) (lines : List (List ℕ)) (h : List (Transaction Json Json)) : Type 0
  where
    pub sessions : List (Option Json)
    pub wanted_is : m.wanted ≡ w
    pub sessions_are : AreSessions m.names m.sessions.items sessions
    pub tell : Tell w lines h m.times.items sessions

-- ---- one more

-- the same of a value that needn't be
abbrev pub IsNumberedValue : List Json → Option Json → List (List ℕ) → Option ℕ → Type 0
IsNumberedValue old None texts None = AreKept texts old
IsNumberedValue old None texts (Some n) = ⊥
IsNumberedValue old (Some j) texts None = ⊥
IsNumberedValue old (Some j) texts (Some n) = IsNumbered old j texts n

-- and of an operation's item and value
pub record IsNumberedOperation (items values : List Json) (p : Operation Json Json)
    (item_texts value_texts : List (List ℕ))
    (o : Operation ℕ ℕ) : Type 0 where
  pub version_is : o.version ≡ p.version
  pub kind_is : o.kind ≡ p.kind
  pub item_is : IsNumbered items p.item item_texts o.item
  pub value_is : IsNumberedValue values p.value value_texts o.value

-- the line's transaction was added, or an earlier one has its id
abbrev pub IsAdded : List Json → List (Transaction Json Json) → (id : Json) → Transaction Json Json → Builder → Bool
    → Type 0
IsAdded ids h id t b true = (Contains ids id → ⊥) × IsBuilt b (ids ++ id ∷ []) (h ++ t ∷ []) []
IsAdded ids h id t b false = Contains ids id

-- what was told of a line, behind lines that were read
abbrev pub IsTaken : Wanted → List (List ℕ) → List Json → List (Transaction Json Json) → List ℕ → Builder → Moments
    → Option LineFault → Type 0
IsTaken w lines ids h line b m None = (id : Json) × (t : Transaction Json Json) × IsLine line id t × (Contains ids id
    → ⊥)
    × IsBuilt b (ids ++ id ∷ []) (h ++ t ∷ []) [] × AreMoments w m (lines ++ line ∷ []) (h ++ t ∷ [])
IsTaken w lines ids h line b m (Some NotALine) = (id : Json) (t : Transaction Json Json) → IsLineWith w line id t → ⊥
IsTaken w lines ids h line b m (Some TooLong) = ⊥
IsTaken w lines ids h line b m (Some IdAgain) = (id : Json) × (t : Transaction Json Json) × IsLineWith w line id t
    × Contains ids id
