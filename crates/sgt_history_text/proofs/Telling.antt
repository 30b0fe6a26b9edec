-- A line tells what is wanted exactly where the object that it is a text of does.
use Rattle.std.proofs.Common.{◌≡◌, ℕ, Bool, true, false, List, Option, Some, None, refl, sym, ap, ◌∙◌, inl, inr, codes, decimal, arith, ◌<◌, ◌^◌}
use Rattle.std.specs.Prelude.{IfSome, IsTrue}
use Rattle.std.proofs.lemmas.Fmt.{decimal_injective}
use Rattle.json.specs.Json.{Json, Members, number, object, string}
use Rattle.json.specs.Find.{get}
use Rattle.json.specs.Tree.{HasNumbers}
use Rattle.sgt_history.specs.Transaction.{Transaction, renamed_value}
use Rattle.sgt_history_time.specs.declared.times.Times.{Times}
use Rattle.sgt_history_text.specs.Line.{IsLine, IsTextOf, end_word}
use Rattle.sgt_history_text.specs.Moment.{HasSession, HasTimes, IsEntry, IsLineWith, IsWantedEntry}
use Rattle.sgt_history_text.specs.Parsed.{AreTimes, IsHead, IsMoment, IsSession, LacksMoment, seen}
use Rattle.sgt_history_text.specs.Members.{HasMembers}
use Rattle.sgt_history_text.specs.declared.moment.LentMoment.{LentMoment}
use Rattle.sgt_history_text.specs.declared.wanted.Wanted.{Wanted}
use Rattle.sgt_history_text.proofs.Kept.{key_numbers}
use Rattle.sgt_history_text.proofs.Solid.{session_back, session_on, times_back, times_on}
use Rattle.sgt_history_text.proofs.Trees.{same_tokens}

-- ---- entries

pub entry_there : {E : Type 0} (Is : E → Type 0) (wanted commits : Bool) (e : Option E)
    → IsWantedEntry Is wanted commits e → IsTrue wanted → IsTrue commits
    → (x : E) × Is x
entry_there Is true true None is w c = absurd is
entry_there Is true true (Some x) is w c = (x, is)
entry_there Is true false e is w c = absurd cc
entry_there Is false commits e is w c = absurd cc

entry_on : {E : Type 0} (Is Has : E → Type 0) (commits : Bool) (e : Option E) → ((x : E) → Is x → Has x)
    → IsEntry Is commits e → IsEntry Has commits e
entry_on Is Has true None on is = absurd is
entry_on Is Has true (Some x) on is = on x is
entry_on Is Has false None on is = tt
entry_on Is Has false (Some x) on is = absurd is

pub wanted_on : {E : Type 0} (Is Has : E → Type 0) (wanted commits : Bool) (e : Option E) → ((x : E) → Is x → Has x)
    → IsWantedEntry Is wanted commits e
    → IsWantedEntry Has wanted commits e
wanted_on Is Has true commits e on is = entry_on Is Has commits e on is
wanted_on Is Has false commits e on is = is

-- what a name is has numbers that can be written
pub session_numbers : (j : Json) (wanted commits : Bool) (e : Option Json)
    → IsWantedEntry (IsSession j) wanted commits e → IfSome e HasNumbers
session_numbers j wanted commits None is = tt
session_numbers j true true (Some s) is = key_numbers 0 1024 s is.session_is
session_numbers j true false (Some s) is = absurd is
session_numbers j false commits (Some s) is = absurd cc

-- ---- the line and its object

module _ (line : List ℕ) (ms : Members) (text : IsTextOf line (object ms)) (v : Json) (has : HasMembers ms v) where
  same_object : (ns : Members) → IsTextOf line (object ns) → object ms ≡ object ns
  same_object ns other = same_tokens (object ms) (object ns) (sym text.tokens_are ∙ other.tokens_are)

  has_times : (x : Times) → AreTimes v x → HasTimes line x
  has_times x read =
      let is = times_on ms v has x read in
      record {
        members = ms;
        is_object = text;
        begin = is.begin;
        done = is.done;
        in_order = is.in_order;
        fits =
            is.fits;
      }

  are_times : (x : Times) → HasTimes line x → AreTimes v x
  are_times x is =
      let same = same_object is.members is.is_object in
      times_back ms v has x (record {
        begin = ap (get (codes "begin")) same ∙ is.begin;
        done = ap (get (codes "done")) same ∙ is.done;
        in_order = is.in_order;
        fits = is.fits;
      })

  has_session : (s : Json) → IsSession v s → HasSession line s
  has_session s read =
      let is = session_on ms v has s read in
      record { members = ms; is_object = text; there = is.there; session_is = is.session_is }

  is_session : (s : Json) → HasSession line s → IsSession v s
  is_session s is =
      session_back ms v has s (record { there = ap (get (codes "session")) (same_object is.members is.is_object) ∙ is.there; session_is = is.session_is })

  pub lacks : (w : Wanted) (id : Json) (t : Transaction Json Json) (commits : Bool) → t.commits ≡ commits
      → LacksMoment w commits v
      → IsLineWith w line id t → ⊥
  lacks w id t commits same (inl l) is =
      let x = is.timed l.is_wanted (same ∙ l.commits_is) in l.none x.0 (are_times x.0 x.1)
  lacks w id t commits same (inr l) is =
      let s = is.sessioned l.is_wanted (same ∙ l.commits_is) in l.none s.0 (is_session s.0 s.1)

  module _ (w : Wanted) (commits : Bool) (m : LentMoment) (is : IsMoment w commits v m) where
    pub entry_times : IsWantedEntry (HasTimes line) w.real_time commits m.times
    entry_times = wanted_on (AreTimes v) (HasTimes line) w.real_time commits m.times
        has_times is.times_are

    pub entry_session : IsWantedEntry (HasSession line) w.sessions commits (renamed_value seen m.session)
    entry_session = wanted_on (IsSession v) (HasSession line) w.sessions commits
        (renamed_value seen m.session) has_session is.session_is

    pub line_with : (id : Json) (t : Transaction Json Json) → commits ≡ t.commits → IsLine line id t
        → IsLineWith w line id t
    line_with id t same line_is = record {
      line_is = line_is;
      timed = λ wanted c. entry_there (HasTimes line) w.real_time commits m.times entry_times wanted (same ∙ c);
      sessioned = λ wanted c. entry_there (HasSession line) w.sessions commits (renamed_value seen m.session)
          entry_session wanted (same ∙ c);
    }

-- ---- whether it commits

same_end : (b c : Bool) → Some (string (end_word b)) ≡ Some (string (end_word c)) → b ≡ c
same_end true true e = refl
same_end true false e = absurd cc
same_end false true e = absurd cc
same_end false false e = refl

pub same_commits : (j id id' : Json) (commits commits' : Bool) → IsHead j id commits → IsHead j id' commits'
    → commits ≡ commits'
same_commits j id id' commits commits' a b = same_end commits commits' (sym a.end ∙ b.end)

-- ---- when it ran

pub number_is : (s t : List ℕ) → Some (number s) ≡ Some (number t) → s ≡ t
number_is s t e = cc

-- the numbers that stand there are those
pub times_are : (j : Json) (begin done : ℕ) (x : Times) → get (codes "begin") j ≡ Some (number (decimal begin))
    → get (codes "done") j ≡ Some (number (decimal done)) → begin < 2 ^ 64 → done < 2 ^ 64 → AreTimes j x → (begin ≡ x.begin) × (done ≡ x.done)
times_are j begin done x b d small fits is = (
  decimal_injective begin x.begin small (omega (arith, is.in_order, is.fits))
      (number_is (decimal begin) (decimal x.begin) (sym b ∙ is.begin)),
  decimal_injective done x.done fits is.fits (number_is (decimal done) (decimal x.done) (sym d ∙ is.done)),
)
