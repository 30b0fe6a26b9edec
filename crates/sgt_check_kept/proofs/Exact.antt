-- An answer is a yes exactly where an order serves and keeps what is wanted.
use Rattle.std.proofs.Common.{◌≡◌, ℕ, List, Option, Some, None, refl, sym, subst, inl, inr, ◌↔◌}
use Rattle.std.specs.Prelude.{IfSome}
use Rattle.json.specs.Json.{Json}
use Rattle.sgt_names.specs.declared.outcome.Outcome.{Outcome}
use Rattle.sgt_names.specs.declared.outcome.Outcome.TheVariants.{Yes, No, Unreadable}
use Rattle.sgt_history.proofs.Excluded.{fault-excludes}
use Rattle.sgt_history.proofs.Forward as plain
use Rattle.sgt_history.specs.Serial.{IsSerializable}
use Rattle.sgt_history.specs.Transaction.{Transaction}
use Rattle.sgt_history_text.specs.Moment.{HasSession, HasTimes}
use Rattle.sgt_history_text.specs.Reading.{IsToldOf}
use Rattle.sgt_history_text.specs.Text.{Spells}
use Rattle.sgt_history_text.specs.declared.reading.HistoryText.{HistoryText}
use Rattle.sgt_history_text.specs.declared.wanted.Wanted.{Wanted}
use Rattle.sgt_history_time.proofs.Forward.{cycle-excludes}
use Rattle.sgt_history_time.specs.declared.times.Times.{Times}
use Rattle.sgt_history_time.specs.Serializable.{IsSerializableKeeping}
use Rattle.sgt_check.specs.declared.options.Options.{Options}
use Rattle.sgt_check.proofs.NoHistory.{unreadable-none}
use Rattle.sgt_check.proofs.OneHistory.{history-one}
use Rattle.sgt_check_kept.specs.Answer.{IsKeptAnswer, IsKeptCycleTold, SpellsKeeping}
use Rattle.sgt_check_kept.proofs.Committed.{told-commit}
use Rattle.sgt_check_kept.proofs.Telling.{same_history, same_sessions, same_times}

-- where the history that the bytes spell isn't serializable, none that they spell is with what is wanted
none-keeping : (w : Wanted) (bytes : List ℕ) (ids : List Json) (h : List (Transaction Json Json)) → Spells bytes ids h
    → (IsSerializable h → ⊥) → SpellsKeeping w bytes → ⊥
none-keeping w bytes ids h spells none (ids', h', times', sessions', spells', (order, keeps)) =
    none (subst (λ (k : List (Transaction Json Json)). IsSerializable k)
    (sym (history-one bytes ids ids' h h' spells spells'.spells).1) (order, keeps.serves))

none-round : (w : Wanted) (bytes text : List ℕ) → IsKeptCycleTold w bytes text → SpellsKeeping w bytes → ⊥
none-round w bytes text a (ids', h', times', sessions', spells', keeping) =
    let one = same_history w bytes a.ids ids' a.h h' a.times times' a.sessions sessions' a.spells spells' in
    let two = same_times w bytes a.ids ids' a.h h' a.times times' a.sessions sessions' a.spells spells' in
    let three = same_sessions w bytes a.ids ids' a.h h' a.times times' a.sessions sessions' a.spells spells' in
    cycle-excludes a.h a.times a.sessions
    (told-commit HasTimes w.real_time a.spells.spells.lines a.h a.times a.spells.tell.timed)
    (told-commit HasSession w.sessions a.spells.spells.lines a.h a.sessions a.spells.tell.sessioned)
    a.lines a.cycle
    (subst (λ (k : List (Transaction Json Json)). IsSerializableKeeping k a.times a.sessions) (sym one)
    (subst (λ (ts : List (Option Times)). IsSerializableKeeping h' ts a.sessions) (sym two)
    (subst (λ (ss : List (Option Json)). IsSerializableKeeping h' times' ss) (sym three) keeping)))

answer-exact : (w : Wanted) (options : Options) (bytes text : List ℕ) (outcome : Outcome)
    → IsKeptAnswer w options bytes outcome text
    → (outcome ≡ Yes) ↔ SpellsKeeping w bytes
answer-exact w options bytes text Yes a = (
  λ same. (a.ids, a.h, a.times, a.sessions, a.spells, (a.order, a.keeps)),
  λ spelled. refl,
)
answer-exact w options bytes text No (inl a) = (
  λ same. absurd (cc (same)),
  λ spelled. absurd (none-keeping w bytes a.ids a.h a.spells (fault-excludes a.h a.line a.flaw a.place a.first.faulty)
      spelled),
)
answer-exact w options bytes text No (inr (inl a)) = (
  λ same. absurd (cc (same)),
  λ spelled. absurd (none-keeping w bytes a.ids a.h a.spells (plain.cycle-excludes a.h a.graph a.has) spelled),
)
answer-exact w options bytes text No (inr (inr a)) =
    (λ same. absurd (cc (same)), λ spelled. absurd (none-round w bytes text a spelled))
answer-exact w options bytes text Unreadable a = (
  λ same. absurd (cc (same)),
  λ (ids, h, times, sessions, spells, keeping). absurd
      (unreadable-none w bytes a.line a.fault ids h times sessions a.first spells.spells spells.tell),
)

-- ---- of what a reader told

pub told-answers : (w : Wanted) (options : Options) (told : Option (List ℕ)) (t : HistoryText) (text : List ℕ)
    (outcome : Outcome)
    → IfSome told (λ bytes. IsToldOf w bytes t) → ((wanted : Wanted) (bytes : List ℕ) → IsToldOf wanted bytes t
    → IsKeptAnswer wanted options bytes outcome text)
    → IfSome told (λ bytes. IsKeptAnswer w options bytes outcome text)
told-answers w options None t text outcome is answers = tt
told-answers w options (Some bytes) t text outcome is answers = answers w bytes is

pub told-exact : (w : Wanted) (options : Options) (told : Option (List ℕ)) (text : List ℕ) (outcome : Outcome)
    → IfSome told (λ bytes. IsKeptAnswer w options bytes outcome text)
    → IfSome told (λ bytes. (outcome ≡ Yes) ↔ SpellsKeeping w bytes)
told-exact w options None text outcome a = tt
told-exact w options (Some bytes) text outcome a = answer-exact w options bytes text outcome a
