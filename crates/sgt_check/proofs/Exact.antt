-- An answer is a yes exactly where the bytes spell a serializable history.
use Rattle.std.proofs.Common.{◌≡◌, ℕ, List, Option, Some, None, refl, sym, subst, inl, inr, ◌↔◌}
use Rattle.std.specs.Prelude.{IfSome}
use Rattle.json.specs.Json.{Json}
use Rattle.sgt_names.specs.declared.outcome.Outcome.{Outcome}
use Rattle.sgt_names.specs.declared.outcome.Outcome.TheVariants.{Yes, No, Unreadable}
use Rattle.sgt_history.proofs.Excluded.{fault-excludes}
use Rattle.sgt_history.proofs.Forward.{cycle-excludes}
use Rattle.sgt_history.specs.Serial.{IsSerializable}
use Rattle.sgt_history.specs.Transaction.{Transaction}
use Rattle.sgt_history_text.specs.Reading.{IsToldOf}
use Rattle.sgt_history_text.specs.Text.{Spells}
use Rattle.sgt_history_text.specs.declared.reading.HistoryText.{HistoryText}
use Rattle.sgt_check.specs.Answer.{IsAnswer, SpellsSerializable, neither}
use Rattle.sgt_check.specs.declared.options.Options.{Options}
use Rattle.sgt_check.proofs.NoHistory.{none-told}
use Rattle.sgt_check.proofs.OneHistory.{history-one}

-- where the history that the bytes spell isn't serializable, none that they spell is
none-spelled : (bytes : List ℕ) (ids : List Json) (h : List (Transaction Json Json)) → Spells bytes ids h
    → (IsSerializable h → ⊥) → SpellsSerializable bytes → ⊥
none-spelled bytes ids h spells none (ids', h', spells', serves) =
    none (subst (λ (k : List (Transaction Json Json)). IsSerializable k)
    (sym (history-one bytes ids ids' h h' spells spells').1) serves)

pub answer-exact : (options : Options) (bytes text : List ℕ) (outcome : Outcome) → IsAnswer options bytes outcome text
    → (outcome ≡ Yes) ↔ SpellsSerializable bytes
answer-exact options bytes text Yes a = (λ same. (a.ids, a.h, a.spells, (a.order, a.serves)), λ spelled. refl)
answer-exact options bytes text No (inl a) = (
  λ same. absurd (cc (same)),
  λ spelled. absurd (none-spelled bytes a.ids a.h a.spells (fault-excludes a.h a.line a.flaw a.place a.first.faulty)
      spelled),
)
answer-exact options bytes text No (inr a) = (
  λ same. absurd (cc (same)),
  λ spelled. absurd (none-spelled bytes a.ids a.h a.spells (cycle-excludes a.h a.graph a.has) spelled),
)
answer-exact options bytes text Unreadable a = (
  λ same. absurd (cc (same)),
  λ (ids, h, spells, serves). absurd (none-told bytes a.line a.fault ids h a.first spells),
)

-- ---- of what a reader told

pub told-answers : (options : Options) (told : Option (List ℕ)) (t : HistoryText) (text : List ℕ) (outcome : Outcome)
    → IfSome told (λ bytes. IsToldOf neither bytes t)
    → ((bytes : List ℕ) → IsToldOf neither bytes t → IsAnswer options bytes outcome text)
    → IfSome told (λ bytes. IsAnswer options bytes outcome text)
told-answers options None t text outcome is answers = tt
told-answers options (Some bytes) t text outcome is answers = answers bytes is

pub told-exact : (options : Options) (told : Option (List ℕ)) (text : List ℕ) (outcome : Outcome)
    → IfSome told (λ bytes. IsAnswer options bytes outcome text)
    → IfSome told (λ bytes. (outcome ≡ Yes) ↔ SpellsSerializable bytes)
told-exact options None text outcome a = tt
told-exact options (Some bytes) text outcome a = answer-exact options bytes text outcome a
