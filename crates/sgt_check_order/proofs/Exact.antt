-- An answer is a yes exactly where the order names each committed transaction once, serves, and keeps what is wanted.
use Rattle.std.proofs.Common.{◌≡◌, ℕ, List, Option, Some, None, refl, sym, subst, inl, inr, ◌↔◌}
use Rattle.std.specs.Prelude.{IfSome}
use Rattle.json.specs.Json.{Json}
use Rattle.sgt_names.specs.declared.outcome.Outcome.{Outcome}
use Rattle.sgt_names.specs.declared.outcome.Outcome.TheVariants.{Yes, No, Unreadable}
use Rattle.sgt_history.proofs.Excluded.{fault-excludes}
use Rattle.sgt_history.specs.Serial.{IsSerializable, Serves}
use Rattle.sgt_history.specs.Transaction.{Transaction}
use Rattle.sgt_history_text.specs.Reading.{IsToldOf}
use Rattle.sgt_history_text.specs.Text.{Spells, SpellsWith}
use Rattle.sgt_history_text.specs.declared.reading.HistoryText.{HistoryText}
use Rattle.sgt_history_text.specs.declared.wanted.Wanted.{Wanted}
use Rattle.sgt_history_time.specs.declared.times.Times.{Times}
use Rattle.sgt_history_time.specs.Serializable.{ServesKeeping}
use Rattle.sgt_check.specs.Answer.{compactly}
use Rattle.sgt_check.proofs.NoHistory.{unreadable-none}
use Rattle.sgt_check.proofs.OneHistory.{history-one}
use Rattle.sgt_check_kept.proofs.Telling.{same_sessions, same_times}
use Rattle.sgt_check_order.specs.Answer.{IsAnswer, IsJudged, IsToldAnswer, SpellsServed}
use Rattle.sgt_check_order.specs.Kept.{kept_by}
use Rattle.sgt_check_order.specs.Order.{NameEach, lines_of}
use Rattle.sgt_check_order.proofs.Excluding.{back-none, break-none, stray-none}
use Rattle.sgt_check_order.proofs.Lines.{each-one}

-- what is judged wrong serves and keeps in no way
module _ (w : Wanted) (order bytes : List ℕ) (ids : List Json) (h : List (Transaction Json Json))
    (times : List (Option Times)) (sessions : List (Option Json))
    (spells : SpellsWith w bytes ids h times sessions) where
  judged-none : (names : List Json) (text : List ℕ)
      → IsJudged order ids (compactly ids) (kept_by times sessions names) h No text
      → (numbers : List ℕ) → NameEach ids (lines_of order) numbers → ServesKeeping h times sessions numbers → ⊥
  judged-none names text (inl a) numbers each keeps =
      stray-none h ids order a.number numbers spells.spells.apart a.first each keeps.serves
  judged-none names text (inr (inl a)) numbers each keeps =
      break-none h a.order a.line a.o a.found a.first
      (subst (λ (o : List ℕ). Serves h o)
      (each-one ids spells.spells.apart (lines_of order) numbers a.order each a.names) keeps.serves)
  judged-none names text (inr (inr a)) numbers each keeps =
      back-none h (kept_by times sessions names) a.order a.u a.first
      (subst (λ (o : List ℕ). ServesKeeping h times sessions o)
      (each-one ids spells.spells.apart (lines_of order) numbers a.order each a.names) keeps)

  -- the same of whatever the bytes spell
  none-served : ((numbers : List ℕ) → NameEach ids (lines_of order) numbers → ServesKeeping h times sessions numbers
      → ⊥) → SpellsServed w order bytes → ⊥
  none-served none (ids', h', times', sessions', spells', numbers, each, keeps) =
      let same = history-one bytes ids ids' h h' spells.spells spells'.spells in
      let two = same_times w bytes ids ids' h h' times times' sessions sessions' spells spells' in
      let three = same_sessions w bytes ids ids' h h' times times' sessions sessions' spells spells' in
      none numbers (subst (λ (js : List Json). NameEach js (lines_of order) numbers) (sym same.0) each)
      (subst (λ (k : List (Transaction Json Json)). ServesKeeping k times sessions numbers) (sym same.1)
      (subst (λ (ts : List (Option Times)). ServesKeeping h' ts sessions numbers) (sym two)
      (subst (λ (ss : List (Option Json)). ServesKeeping h' times' ss numbers) (sym three) keeps)))

-- and where it isn't serializable
none-kept : (w : Wanted) (order bytes : List ℕ) (ids : List Json) (h : List (Transaction Json Json))
    → Spells bytes ids h → (IsSerializable h → ⊥)
    → SpellsServed w order bytes → ⊥
none-kept w order bytes ids h spells none (ids', h', times', sessions', spells', numbers, each, keeps) =
    none (
      numbers,
      subst (λ (k : List (Transaction Json Json)). Serves k numbers)
          (sym (history-one bytes ids ids' h h' spells spells'.spells).1) keeps.serves,
    )

pub answer-exact : (w : Wanted) (order bytes text : List ℕ) (outcome : Outcome) → IsAnswer w order bytes outcome text
    → (outcome ≡ Yes) ↔ SpellsServed w order bytes
answer-exact w order bytes text Yes a = (
  λ same. (a.ids, a.h, a.times, a.sessions, a.spells, a.judged.order, a.judged.names, a.judged.keeps),
  λ spelled. refl,
)
answer-exact w order bytes text No (inl a) = (
  λ same. absurd (cc (same)),
  λ spelled. absurd
      (none-kept w order bytes a.ids a.h a.spells (fault-excludes a.h a.line a.flaw a.place a.first.faulty) spelled),
)
answer-exact w order bytes text No (inr a) = (
  λ same. absurd (cc (same)),
  λ spelled. absurd (none-served w order bytes a.ids a.h a.times a.sessions a.spells
      (judged-none w order bytes a.ids a.h a.times a.sessions a.spells a.names text a.judged) spelled),
)
answer-exact w order bytes text Unreadable a = (
  λ same. absurd (cc (same)),
  λ (ids, h, times, sessions, spells, numbers, each, keeps). absurd
      (unreadable-none w bytes a.line a.fault ids h times sessions a.first spells.spells spells.tell),
)

-- ---- of what readers told

pub told-answers : (w : Wanted) (order told : Option (List ℕ)) (t : HistoryText) (text : List ℕ) (outcome : Outcome)
    → IfSome told (λ bytes. IsToldOf w bytes t)
    → ((wanted : Wanted) (bytes : List ℕ) → IsToldOf wanted bytes t
    → IfSome order (λ lines. IsAnswer wanted lines bytes outcome text))
    → IsToldAnswer w order told outcome text
told-answers w order None t text outcome is answers = tt
told-answers w order (Some bytes) t text outcome is answers = answers w bytes is

pub told-exact : (w : Wanted) (order told : Option (List ℕ)) (text : List ℕ) (outcome : Outcome)
    → IsToldAnswer w order told outcome text
    → IfSome told (λ bytes. IfSome order (λ lines. (outcome ≡ Yes) ↔ SpellsServed w lines bytes))
told-exact w order None text outcome a = tt
told-exact w None (Some bytes) text outcome a = tt
told-exact w (Some lines) (Some bytes) text outcome a = answer-exact w lines bytes text outcome a
