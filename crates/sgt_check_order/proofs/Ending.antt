-- What is told, whether or not the readers tell their bytes.
use Rattle.std.proofs.Common.{◌≡◌, ℕ, ◌+◌, length, true, List, Option, Some, None, inr}
use Rattle.std.specs.Prelude.{IfSome, slice_get}
use Rattle.json.specs.Json.{Json}
use Rattle.sgt_names.specs.declared.outcome.Outcome.{Outcome}
use Rattle.sgt_names.specs.declared.outcome.Outcome.TheVariants.{Yes, No, Unreadable}
use Rattle.sgt_history.specs.Serial.{IsCommitted}
use Rattle.sgt_history.specs.Transaction.{Transaction}
use Rattle.sgt_check.specs.Told.{spelled}
use Rattle.sgt_check_kept.specs.declared.setting.Setting.{Setting}
use Rattle.sgt_check_order.specs.Answer.{IsJudged}
use Rattle.sgt_check_order.specs.Told.{IsNamed, IsRead, IsTold, kept_of}
use Rattle.sgt_check_order.specs.declared.order.Named.{Named}
use Rattle.sgt_check_order.specs.declared.order.Named.TheVariants.{Each, Stray}
use Rattle.sgt_check_order.specs.declared.roll.Roll.{Roll}
use Rattle.sgt_check_order.proofs.Going.{named-each, named-stray}

pub each-if : (told : Option (List ℕ)) (h : List (Transaction ℕ ℕ)) (js : List Json) (roll : Roll)
    → IfSome told (λ bytes. IsRead h js bytes roll None)
    → ((line : ℕ) (t : Transaction ℕ ℕ) → IsCommitted h line t → slice_get roll.called.items line ≡ Some true)
    → IfSome told (λ bytes. IsNamed h js bytes (Each roll.order))
each-if None h js roll read all = tt
each-if (Some bytes) h js roll read all = (named-each h js bytes roll read all, read.1)

pub stray-if : (told : Option (List ℕ)) (h : List (Transaction ℕ ℕ)) (js : List Json) (roll : Roll) (n : ℕ)
    → n ≡ length roll.order.items + 1
    → IfSome told (λ bytes. IsRead h js bytes roll None)
    → ((line : ℕ) × (t : Transaction ℕ ℕ) × IsCommitted h line t × (slice_get roll.called.items line ≡ Some true → ⊥))
    → IfSome told (λ bytes. IsNamed h js bytes (Stray n))
stray-if None h js roll n number read missing = tt
stray-if (Some bytes) h js roll n number read missing = named-stray h js bytes roll n number read missing

judged-told : (lines : List ℕ) (js : List Json) (s : Setting) (h : List (Transaction ℕ ℕ)) (outcome : Outcome)
    (text : List ℕ)
    → IsJudged lines js (spelled s.naming) (kept_of s) h outcome text → IsTold lines js s h outcome text
judged-told lines js s h Yes text a = a
judged-told lines js s h No text a = inr a
judged-told lines js s h Unreadable text a = a

pub judged-if : (told : Option (List ℕ)) (js : List Json) (s : Setting) (h : List (Transaction ℕ ℕ)) (named : Named)
    (outcome : Outcome) (text : List ℕ)
    → IfSome told (λ bytes. IsNamed h js bytes named)
    → ((ks : List Json) (bytes : List ℕ) → IsNamed h ks bytes named
    → IsJudged bytes ks (spelled s.naming) (kept_of s) h outcome text)
    → IfSome told (λ lines. IsTold lines js s h outcome text)
judged-if None js s h named outcome text is judged = tt
judged-if (Some lines) js s h named outcome text is judged = judged-told lines js s h outcome text (judged js lines is)
