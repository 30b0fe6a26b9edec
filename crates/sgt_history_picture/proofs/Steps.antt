-- A line tells one step.
use Rattle.std.proofs.Common.{◌≡◌, ◌==◌, ◌++◌, ℕ, List, ◌∷◌, get_or, if◌then◌else◌, refl, sym, ap, ◌∙◌, arith}
use Rattle.sgt_history_picture.specs.Words.{IsWord}
use Rattle.sgt_history_picture.specs.Told.{IsStep, Step, kind_text, step_text}
use Rattle.sgt_history_picture.specs.declared.told.Kind.{Kind}
use Rattle.sgt_history_picture.specs.declared.told.Kind.TheVariants.{WriteWrite, WriteRead, ReadWrite, Session, Moment, End}
use Rattle.sgt_history_picture.specs.declared.word.Place.TheVariants.{Outside}
use Rattle.sgt_history_picture.proofs.Words.{one-word}

pub kind-word : (kind : Kind) → IsWord (kind_text kind)
kind-word WriteWrite = ((λ _ is. absurd (omega (arith, is)), (λ _ is. absurd (omega (arith, is)), tt)), refl)
kind-word WriteRead = ((λ _ is. absurd (omega (arith, is)), (λ _ is. absurd (omega (arith, is)), tt)), refl)
kind-word ReadWrite = ((λ _ is. absurd (omega (arith, is)), (λ _ is. absurd (omega (arith, is)), tt)), refl)
kind-word Session = ((λ _ is. absurd (omega (arith, is)), (λ _ is. absurd (omega (arith, is)), tt)), refl)
kind-word Moment = ((λ _ is. absurd (omega (arith, is)), (λ _ is. absurd (omega (arith, is)), tt)), refl)
kind-word End = (
  (
    λ _ is. absurd (omega (arith, is)),
    (
      λ _ is. absurd (omega (arith, is)),
      (
        λ _ is. absurd (omega (arith, is)),
        (λ _ is. absurd (omega (arith, is)), (λ _ is. absurd (omega (arith, is)), (λ _ is. absurd (omega (arith, is)), tt))),
      ),
    ),
  ),
  refl,
)

-- behind its first word
pub behind-from : (line from behind : List ℕ) (s : Step) → IsWord from → line ≡ from ++ 32 ∷ behind → IsStep s
    → line ≡ step_text s
    → (from ≡ s.from) × (behind ≡ kind_text s.kind ++ 32 ∷ (s.to ++ 32 ∷ s.about))
behind-from line from behind s word cut is whole =
    one-word Outside from s.from behind (kind_text s.kind ++ 32 ∷ (s.to ++ 32 ∷ s.about)) word.0 word.1 is.0.0 is.0.1
    (sym cut ∙ whole)

-- behind the kind
pub behind-kind : (behind kind rest : List ℕ) (s : Step) → IsWord kind → behind ≡ kind ++ 32 ∷ rest
    → behind ≡ kind_text s.kind ++ 32 ∷ (s.to ++ 32 ∷ s.about)
    → (kind ≡ kind_text s.kind) × (rest ≡ s.to ++ 32 ∷ s.about)
behind-kind behind kind rest s word cut whole =
    let is = kind-word s.kind in
    one-word Outside kind (kind_text s.kind) rest (s.to ++ 32 ∷ s.about) word.0 word.1 is.0 is.1 (sym cut ∙ whole)

-- ---- a line tells one step

kind_in : List ℕ → Kind
kind_in word =
    if get_or word 0 0 == 119 then (if get_or word 1 0 == 119 then WriteWrite else WriteRead)
    else if get_or word 0 0 == 112 then Session
    else if get_or word 0 0 == 98 then End
    else (if get_or word 1 0 == 119 then ReadWrite else Moment)

kind-back : (kind : Kind) → kind_in (kind_text kind) ≡ kind
unfolding kind_in
kind-back WriteWrite = refl
kind-back WriteRead = refl
kind-back ReadWrite = refl
kind-back Session = refl
kind-back Moment = refl
kind-back End = refl

kind-one : (a b : Kind) → kind_text a ≡ kind_text b → a ≡ b
kind-one a b same = sym (kind-back a) ∙ ap kind_in same ∙ kind-back b

abbrev step : List ℕ → Kind → List ℕ → List ℕ → Step
step from kind to about = record { from = from; kind = kind; to = to; about = about }

same-step : (s t : Step) → s.from ≡ t.from → s.kind ≡ t.kind → s.to ≡ t.to → s.about ≡ t.about → s ≡ t
same-step s t from kind to about =
    ap (λ (x : List ℕ). step x s.kind s.to s.about) from ∙ ap (λ (k : Kind). step t.from k s.to s.about) kind
    ∙ ap (λ (x : List ℕ). step t.from t.kind x s.about) to ∙ ap (λ (x : List ℕ). step t.from t.kind t.to x) about

pub one-step : (s t : Step) → IsStep s → IsStep t → step_text s ≡ step_text t → s ≡ t
one-step s t is is' same =
    let first = behind-from (step_text s) s.from (kind_text s.kind ++ 32 ∷ (s.to ++ 32 ∷ s.about)) t is.0 refl is'
    same in
    let second = behind-kind _ (kind_text s.kind) (s.to ++ 32 ∷ s.about) t (kind-word s.kind) refl first.1 in
    let third = one-word Outside s.to t.to s.about t.about is.1.0 is.1.1 is'.1.0 is'.1.1 second.1 in
    same-step s t first.0 (kind-one s.kind t.kind second.0) third.0 third.1
