-- What a line tells besides, where it is wanted: when its transaction ran, and of which session it is.
use Rattle.std.specs.Prelude.{◌≡◌, ℕ, ◌<◌, ◌≤◌, ◌^◌, Bool, true, false, IsTrue, List, [], ◌∷◌, ◌++◌, Option, Some, None, codes, decimal}
use Rattle.json.specs.Json.{Json, number, object, Members}
use Rattle.json.specs.Find.{get_member}
use Rattle.sgt_history.specs.Transaction.{Transaction}
use Rattle.sgt_history_time.specs.declared.times.Times.{Times}
use Rattle.sgt_history_text.specs.Line.{IsLine, IsTextOf}
use Rattle.sgt_history_text.specs.Name.{IsItem}
use Rattle.sgt_history_text.specs.declared.wanted.Wanted.{Wanted}

-- the line's object says when its transaction ran: by two whole numbers, of which the first isn't the greater
pub record HasTimes (line : List ℕ) (x : Times) : Type 0 where
  pub members : Members
  pub is_object : IsTextOf line (object members)
  pub begin : get_member (codes "begin") members ≡ Some (number (decimal x.begin))
  pub done : get_member (codes "done") members ≡ Some (number (decimal x.done))
  pub in_order : x.begin ≤ x.done
  pub fits : x.done < 2 ^ 64

-- and its session, which is named as an item is
pub record HasSession (line : List ℕ) (session : Json) : Type 0 where
  pub members : Members
  pub is_object : IsTextOf line (object members)
  pub there : get_member (codes "session") members ≡ Some session
  pub session_is : IsItem session

-- the line spells the transaction, and tells what is wanted of one that commits
pub record IsLineWith (w : Wanted) (line : List ℕ) (id : Json) (t : Transaction Json Json) : Type 0 where
  pub line_is : IsLine line id t
  pub timed : IsTrue w.real_time → IsTrue t.commits → (x : Times) × HasTimes line x
  pub sessioned : IsTrue w.sessions → IsTrue t.commits → (session : Json) × HasSession line session

-- ---- of all lines

-- a line's entry: what it tells, if its transaction commits; else none
abbrev pub IsEntry : {E : Type 0} → (E → Type 0) → (commits : Bool) → Option E → Type 0
IsEntry Is true (Some e) = Is e
IsEntry Is true None = ⊥
IsEntry Is false (Some e) = ⊥
IsEntry Is false None = Unit {0}

abbrev pub AreEntries : {E : Type 0} → (List ℕ → E → Type 0) → List (List ℕ) → List (Transaction Json Json)
    → List (Option E) → Type 0
AreEntries Has [] [] [] = Unit {0}
AreEntries Has [] [] (e ∷ es) = ⊥
AreEntries Has [] (t ∷ ts) es = ⊥
AreEntries Has (line ∷ lines) [] es = ⊥
AreEntries Has (line ∷ lines) (t ∷ ts) [] = ⊥
AreEntries Has (line ∷ lines) (t ∷ ts) (e ∷ es) = IsEntry (Has line) t.commits e × AreEntries Has lines ts es

-- the lines' entries, where they are wanted; else there are none
abbrev pub AreTold : {E : Type 0} → (List ℕ → E → Type 0) → (wanted : Bool) → List (List ℕ)
    → List (Transaction Json Json) → List (Option E) → Type 0
AreTold Has true lines h es = AreEntries Has lines h es
AreTold Has false lines h es = es ≡ []

-- the lines, which spell these transactions, tell what is wanted: when they ran, and their sessions
pub record Tell (w : Wanted) (lines : List (List ℕ)) (h : List (Transaction Json Json)) (times : List (Option Times))
    (sessions : List (Option Json)) : Type 0 where
  pub timed : AreTold HasTimes w.real_time lines h times
  pub sessioned : AreTold HasSession w.sessions lines h sessions

-- ---- one line, as it is kept

-- its entry, where one is wanted
abbrev pub IsWantedEntry : {E : Type 0} → (E → Type 0) → (wanted commits : Bool) → Option E → Type 0
IsWantedEntry Is true commits e = IsEntry Is commits e
IsWantedEntry Is false commits e = e ≡ None

-- one is wanted, and there is none
pub record LacksEntry {E : Type 0} (Is : E → Type 0) (wanted commits : Bool) : Type 0 where
  pub is_wanted : IsTrue wanted
  pub commits_is : IsTrue commits
  pub none : (e : E) → Is e → ⊥

-- behind those before, if it is kept
abbrev pub with_entry : {E : Type 0} → (wanted : Bool) → List (Option E) → Option E → List (Option E)
with_entry true es e = es ++ e ∷ []
with_entry false es e = es
