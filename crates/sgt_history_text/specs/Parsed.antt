-- What a line's value of JSON is.
use Rattle.std.specs.Prelude.{◌≡◌, ◌<◌, ◌≤◌, ◌^◌, ◌⊎◌, Bool, Option, Some, codes, decimal}
use Rattle.std.specs.Borrow.{Bor}
use Rattle.json.specs.Json.{Json, string, number}
use Rattle.json.specs.Find.{get}
use Rattle.json.specs.Value.{value_view}
use Rattle.json.specs.declared.value.Value.{Value}
use Rattle.sgt_history.specs.Transaction.{renamed_operation, renamed_value}
use Rattle.sgt_history.specs.declared.history.Operation.{Operation}
use Rattle.sgt_history_time.specs.declared.times.Times.{Times}
use Rattle.sgt_history_text.specs.Line.{end_word}
use Rattle.sgt_history_text.specs.Moment.{IsWantedEntry, LacksEntry}
use Rattle.sgt_history_text.specs.Name.{IsId, IsItem}
use Rattle.sgt_history_text.specs.declared.moment.LentMoment.{LentMoment}
use Rattle.sgt_history_text.specs.declared.wanted.Wanted.{Wanted}

-- the value of JSON that is lent
abbrev pub seen : {A : Type 0} → Bor (Value A) → Json
seen v = value_view v.now

-- the operation whose item and value are lent
abbrev pub seen_operation : {A : Type 0} → Operation (Bor (Value A)) (Bor (Value A)) → Operation Json Json
seen_operation o = renamed_operation seen seen o

-- the value of JSON is an object that says this id, and whether its transaction commits
pub record IsHead (j id : Json) (commits : Bool) : Type 0 where
  pub tx : get (codes "tx") j ≡ Some id
  pub end : get (codes "end") j ≡ Some (string (end_word commits))
  pub id_is : IsId id

-- and says when it ran
pub record AreTimes (j : Json) (x : Times) : Type 0 where
  pub begin : get (codes "begin") j ≡ Some (number (decimal x.begin))
  pub done : get (codes "done") j ≡ Some (number (decimal x.done))
  pub in_order : x.begin ≤ x.done
  pub fits : x.done < 2 ^ 64

-- and its session
pub record IsSession (j session : Json) : Type 0 where
  pub there : get (codes "session") j ≡ Some session
  pub session_is : IsItem session

-- what is wanted of it, of a transaction that commits or doesn't
pub record IsMoment (w : Wanted) (commits : Bool) (j : Json) (m : LentMoment) : Type 0 where
  pub times_are : IsWantedEntry (AreTimes j) w.real_time commits m.times
  pub session_is : IsWantedEntry (IsSession j) w.sessions commits (renamed_value seen m.session)

-- something of that isn't there
abbrev pub LacksMoment : Wanted → Bool → Json → Type 0
LacksMoment w commits j = LacksEntry (AreTimes j) w.real_time commits ⊎ LacksEntry (IsSession j) w.sessions commits
