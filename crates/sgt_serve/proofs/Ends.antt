-- The end of a talk: what is asked of the core then, and its last bundle.
use Rattle.std.proofs.Common.{◌≡◌, ◌≢◌, ◌+◌, arith, ℕ, List, [], ◌∷◌, ◌++◌, length, map, refl, sym, ◌∙◌, ap, subst, inl, inr, Option, Some, None, Ok, Err}
use Rattle.std.specs.List.{range_with_len}
use Rattle.std.proofs.lemmas.List.{append-nil}
use Rattle.sgt_bundle.specs.Text.{text_of}
use Rattle.sgt_notation.specs.declared.event.Event.{Event}
use Rattle.sgt_notation.specs.declared.event.Event.TheVariants.{Withdraw}
use Rattle.sgt_core_model.specs.Core.{CoreState, bundle_of}
use Rattle.sgt_core_model.specs.Step.{MayStep, Run}
use Rattle.sgt_core_model.specs.declared.reply.Reply.{Reply}
use Rattle.sgt_core_machine.specs.Machine.{GoesOn, Parts, StandsFor}
use Rattle.sgt_pipe.specs.declared.handed.KeepFault.{KeepFault}
use Rattle.sgt_pipe.specs.declared.handed.KeepFault.TheVariants as keep
use Rattle.sgt_serve.specs.declared.last.Last.{Last}
use Rattle.sgt_serve.specs.declared.last.Last.TheVariants.{Done, Memory, Unwritten}
use Rattle.sgt_serve.specs.Ended.{Closes, installs_of, open_tx}
use Rattle.sgt_serve.specs.Place.{Kept}
use Rattle.sgt_serve.specs.private.Closing.{ClosesSo, HandsOut, lost_by}
use Rattle.sgt_courses.proofs.Courses.{run_on}

-- these are asked of it, whatever is replied
abbrev pub Asked : Parts → List Event → Parts → Type 0
Asked old events new = GoesOn (λ c d. (replies : List Reply) × Run c events replies d) old new

pub asked_none : (m : Parts) → Asked m [] m
asked_none m c stands = (c, ([], refl), stands)

pub asked_more : (m n o : Parts) (events : List Event) (e : Event) (reply : Reply) → Asked m events n
    → GoesOn (λ c d. MayStep c e reply d) n o → Asked m (events ++ e ∷ []) o
asked_more m n o events e reply asked goes c stands =
    let (d, ran, there) = asked c stands in
    let (x, may, last) = goes d there in
    (x, (ran.0 ++ reply ∷ [], run_on c d x events (e ∷ []) ran.0 (reply ∷ []) ran.1 (x, may, refl)), last)

-- the open step is installed
abbrev pub Installed : Parts → Parts → Type 0
Installed old new =
    GoesOn (λ c d. (replies : List Reply) × Run c (installs_of (open_tx c) (length c.items)) replies d) old new

pub installed_none : (m : Parts) → ((c : CoreState) → StandsFor m c → None ≡ open_tx c) → Installed m m
installed_none m none c stands = (
  c,
  subst (λ (tx : Option ℕ). (replies : List Reply) × Run c (installs_of tx (length c.items)) replies c)
      (none c stands) ([], refl),
  stands,
)

pub installed_some : (m n : Parts) (tx sites : ℕ) → ((c : CoreState) → StandsFor m c → Some tx ≡ open_tx c)
    → ((c : CoreState) → StandsFor m c → sites ≡ length c.items)
    → Asked m (installs_of (Some tx) sites) n → Installed m n
installed_some m n tx sites open_step count asked c stands =
    let (d, ran, there) = asked c stands in
    let all = subst (λ (k : ℕ). (replies : List Reply) × Run c (installs_of (Some tx) k) replies d)
    (count c stands) ran in (
      d,
      subst (λ (t : Option ℕ). (replies : List Reply) × Run c (installs_of t (length c.items)) replies d)
          (open_step c stands) all,
      there,
    )

-- ---- the last bundle

none_refused : (k n : ℕ) → n ≡ k → n ≡ k + 0
none_refused k n same = omega (arith, same)

closed_so : (last : Last) (c d : CoreState) (kept kept' : Kept) → c.certifier.begun ≢ 0 → Closes c d
    → HandsOut last d kept kept' → ClosesSo last c kept kept'
closed_so Done c d kept kept' some closes (idle, number, more, says, none) = (
  record { number = number; bundle = bundle_of d } ∷ [],
  Ok number ∷ [],
  0,
  (inr (some, d, closes, idle, number, refl), refl, refl),
  more,
  says,
  none_refused kept.refused kept'.refused none,
)
closed_so Memory c d kept kept' some closes (same, inl (says, one)) = (
  [],
  [],
  1,
  (some, refl, inl (refl, refl)),
  same ∙ sym (append-nil kept.items),
  says ∙ sym (append-nil kept.answers),
  one,
)
closed_so Memory c d kept kept' some closes (same, inr (says, none)) = (
  [],
  Err keep.Memory ∷ [],
  0,
  (some, refl, inr (refl, refl)),
  same ∙ sym (append-nil kept.items),
  says,
  none_refused kept.refused kept'.refused none,
)
closed_so Unwritten c d kept kept' some closes (same, says, none) = (
  [],
  Err keep.Refused ∷ [],
  0,
  (some, refl, refl, refl),
  same ∙ sym (append-nil kept.items),
  says,
  none_refused kept.refused kept'.refused none,
)

pub closed_over : (m n o : Parts) (begun : ℕ) (last : Last) (kept kept' : Kept)
    → ((c : CoreState) → StandsFor m c → begun ≡ c.certifier.begun) → begun ≢ 0
    → Installed m n → Asked n (map Withdraw (range_with_len 1 begun)) o
    → ((c : CoreState) → StandsFor o c → HandsOut last c kept kept')
    → (c : CoreState) → StandsFor m c → ClosesSo last c kept kept'
closed_over m n o begun last kept kept' count some installs withdraws hands c stands =
    let (d, ran, there) = installs c stands in
    let (e, then, at) = withdraws d there in
    let rest = subst (λ (k : ℕ). Run d (map Withdraw (range_with_len 1 k)) then.0 e) (count c stands) then.1 in
    closed_so last c e kept kept' (λ none. some (count c stands ∙ none)) (
      ran.0 ++ then.0,
      run_on c d e (installs_of (open_tx c) (length c.items)) (map Withdraw (range_with_len 1 c.certifier.begun))
          ran.0 then.0 ran.1 rest,
    ) (hands e at)

pub closed_none : (m : Parts) (begun : ℕ) (kept : Kept)
    → ((c : CoreState) → StandsFor m c → begun ≡ c.certifier.begun) → begun ≡ 0
    → (c : CoreState) → StandsFor m c → ClosesSo Done c kept kept
closed_none m begun kept count none c stands = (
  [],
  [],
  0,
  (inl (sym (count c stands) ∙ none, refl), refl, refl),
  sym (append-nil kept.items),
  sym (append-nil kept.answers),
  none_refused kept.refused kept.refused refl,
)

pub handed_out : (m : Parts) (text lent : List ℕ) (number : ℕ) (kept kept' : Kept)
    → ((c : CoreState) → StandsFor m c → text ≡ text_of (bundle_of c))
    → ((c : CoreState) → StandsFor m c → c.certifier.active ≡ []) → lent ≡ text
    → kept'.items ≡ kept.items ++ (number, lent) ∷ [] → kept'.answers ≡ kept.answers ++ Ok number ∷ []
    → kept'.refused ≡ kept.refused → (c : CoreState) → StandsFor m c → HandsOut Done c kept kept'
handed_out m text lent number kept kept' spelled idle same more says none c stands = (
  idle c stands,
  number,
  more ∙ ap (λ (t : List ℕ). kept.items ++ (number, t) ∷ []) (same ∙ spelled c stands),
  says,
  none,
)

-- no text was made, since a growth was refused
pub unhanded : (m : Parts) (kept kept' : Kept) → kept'.items ≡ kept.items → kept'.answers ≡ kept.answers
    → kept'.refused ≡ kept.refused + 1 → (c : CoreState) → StandsFor m c → HandsOut Memory c kept kept'
unhanded m kept kept' items answers one c stands = (items, inl (answers, one))

-- the place didn't keep it
pub lost_so : (f : KeepFault) (told : Last) (c : CoreState) (kept kept' : Kept) → told ≡ lost_by f
    → kept'.items ≡ kept.items → kept'.answers ≡ kept.answers ++ Err f ∷ [] → kept'.refused ≡ kept.refused
    → HandsOut told c kept kept'
lost_so keep.Memory told c kept kept' same items says none =
    subst (λ (l : Last). HandsOut l c kept kept') (sym same) (items, inr (says, none))
lost_so keep.Refused told c kept kept' same items says none =
    subst (λ (l : Last). HandsOut l c kept kept') (sym same) (items, says, none)
