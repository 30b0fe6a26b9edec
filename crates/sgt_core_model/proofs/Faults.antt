-- Each fault is tested, so an event is refused with one fault, or allowed.
use Rattle.std.proofs.Common.{◌≡◌, ◌<◌, ◌≤◌, ◌-◌, ◌^◌, ℕ, suc, Bool, true, false, List, [], ◌∷◌, length, refl, sym, ◌∙◌, arith, ◌⊎◌, inl, inr, Contains, Option, Some, None, subst, ap, lit<}
use Rattle.std.specs.Prelude.{◌==◌, ◌&&◌, not, nat_le, nat_lt, is_some, if◌then◌else◌, slice_get}
use Rattle.std.specs.List.{list_any, list_all}
use Rattle.std.specs.Bool.{Decides}
use Rattle.std.specs.Str.{bytes_eq}
use Rattle.std.proofs.lemmas.Bool.{cases_Bool, true≢false}
use Rattle.std.proofs.lemmas.Bool.Decides.{Decides-eqb, Decides-ltb, Decides-not, Decides-and, Decides-like, not_from_Decides, nat_tests}
use Rattle.std.proofs.lemmas.Option.{same_Some}
use Rattle.std.proofs.lemmas.Slice.Eq.{bytes_eq-Decides}
use Rattle.sgt_names.specs.Log.{names}
use Rattle.sgt_names.specs.declared.entry.Entry.{Entry}
use Rattle.sgt_certifier.specs.Certifier.{window_room}
use Rattle.sgt_certifier.proofs.Members.{cons_here}
use Rattle.sgt_notation.specs.declared.event.Event.{Event}
use Rattle.sgt_notation.specs.declared.event.Event.TheVariants.{Begin, Read, Put, Add, Gather, Decide, Install, Commit, Withdraw, Close}
use Rattle.sgt_core_model.specs.declared.reply.CoreFault.{CoreFault}
use Rattle.sgt_core_model.specs.declared.reply.CoreFault.TheVariants as fault
use Rattle.sgt_core_model.specs.Core.{OpenStep, CoreState, items_at, touches, touched, is_empty}
use Rattle.sgt_core_model.specs.Step.{StepIs, IsOwnOpen, IsOtherOpen, gathered_in, IsGathered, tx_in, HasEnded, IsOfSite, Fails, fault_place, IsRefused, IsAllowed}
use Rattle.sgt_names.proofs.Elements.{contains-cases, contains-later, contains-none}

-- ---- tests

module _ {A : Type 0} (test : A → A → Bool) (decides : (x y : A) → Decides (test x y) (x ≡ y)) where
  pub member-Decides : (a : A) (xs : List A) → Decides (list_any (λ x. test x a) xs) (Contains xs a)
  member-Decides a [] = (λ e. absurd (true≢false (sym e)), λ c. absurd (contains-none a c))
  member-Decides a (x ∷ xs) =
      elim (cases_Bool (test x a)) [
        | inl hit ↦ (λ e. subst (Contains (x ∷ xs)) ((decides x a).0 hit) (cons_here x xs), λ c. rw hit refl)
        | inr miss ↦ rw miss (
          λ e. contains-later x xs a ((member-Decides a xs).0 e),
          λ c. elim (contains-cases x xs a c) [
            | inl is ↦ absurd (true≢false (sym ((decides x a).1 is) ∙ miss))
            | inr later ↦ (member-Decides a xs).1 later
          ],
        )
      ]

-- a number is in the list
abbrev pub is_in : List ℕ → ℕ → Bool
is_in xs a = list_any (λ x. x == a) xs

pub is_in-Decides : (xs : List ℕ) (a : ℕ) → Decides (is_in xs a) (Contains xs a)
is_in-Decides xs a = member-Decides (λ x y. x == y) Decides-eqb a xs

at_most-Decides : (a b : ℕ) → Decides (nat_le a b) (a ≤ b)
at_most-Decides a b = (λ e. grind (arith, nat_tests), λ le. grind (arith, nat_tests))

true-Decides : (b : Bool) → Decides b (b ≡ true)
true-Decides b = (λ e. e, λ e. e)

false-Decides : (b : Bool) → Decides (not b) (b ≡ false)
false-Decides true = (λ e. absurd (true≢false (sym e)), λ e. absurd (true≢false e))
false-Decides false = (λ e. refl, λ e. refl)

never : Decides false ⊥
never = (λ e. absurd (true≢false (sym e)), λ n. absurd n)

abbrev pub is_some_num : List ℕ → Bool
is_some_num [] = false
is_some_num (x ∷ xs) = true

some_num-Decides : (xs : List ℕ) → Decides (is_some_num xs) (xs ≡ [] → ⊥)
some_num-Decides [] = (λ e. absurd (true≢false (sym e)), λ n. absurd (n refl))
some_num-Decides (x ∷ xs) = (λ e is. cc, λ n. refl)

empty-Decides : (es : List Entry) → Decides (is_empty es) (es ≡ [])
empty-Decides [] = (λ e. refl, λ e. refl)
empty-Decides (e ∷ es) = (λ t. absurd (true≢false (sym t)), λ is. absurd cc)

-- the open step's transaction passes a test
abbrev pub step_passes : (ℕ → Bool) → Option OpenStep → Bool
step_passes p None = false
step_passes p (Some step) = p step.tx

step-Decides : (p : ℕ → Bool) (P : ℕ → Type 0) → ((t : ℕ) → Decides (p t) (P t)) → (o : Option OpenStep)
    → Decides (step_passes p o) (StepIs P o)
step-Decides p P each None = never
step-Decides p P each (Some step) = each step.tx

open-Decides : (o : Option OpenStep) → Decides (is_some o) (o ≡ None → ⊥)
open-Decides None = (λ e. absurd (true≢false (sym e)), λ n. absurd (n refl))
open-Decides (Some step) = (λ e is. cc, λ n. refl)

-- the number is this one
abbrev pub is_num : ℕ → Option ℕ → Bool
is_num a None = false
is_num a (Some b) = b == a

num-Decides : (a : ℕ) (o : Option ℕ) → Decides (is_num a o) (o ≡ Some a)
num-Decides a None = (λ e. absurd (true≢false (sym e)), λ e. absurd cc)
num-Decides a (Some b) = Decides-like (b == a) (λ e. ap Some e) (λ e. same_Some b a e) (Decides-eqb b a)

-- the event's transaction passes a test
abbrev pub tx_passes : (ℕ → Bool) → Option ℕ → Bool
tx_passes p None = false
tx_passes p (Some t) = p t

tx-Decides : (p : ℕ → Bool) (P : ℕ → Type 0) → ((t : ℕ) → Decides (p t) (P t)) → (o : Option ℕ)
    → Decides (tx_passes p o) ((t : ℕ) × (o ≡ Some t) × P t)
tx-Decides p P each None = (λ e. absurd (true≢false (sym e)), λ r. let e = r.1 in absurd cc)
tx-Decides p P each (Some t) = (λ e. (t, refl, (each t).0 e), λ r. (each t).1 (subst P (sym (same_Some t r.0 r.1)) r.2))

-- ---- each fault

abbrev pub own_open : CoreState → ℕ → Bool
own_open c tx = step_passes (λ t. t == tx) c.step

abbrev pub other_open : CoreState → ℕ → Bool
other_open c tx = step_passes (λ t. not (t == tx)) c.step

abbrev pub has_item : CoreState → ℕ → List ℕ → Bool
has_item c s x = list_any (λ y. bytes_eq y x) (names (items_at c s))

abbrev pub is_gathered : CoreState → ℕ → ℕ → Bool
is_gathered c tx s = own_open c tx && is_in (gathered_in c.step) s

abbrev pub is_decided : CoreState → ℕ → Bool
is_decided c tx = is_num tx c.certifier.step

own-Decides : (c : CoreState) (tx : ℕ) → Decides (own_open c tx) (IsOwnOpen c tx)
own-Decides c tx = step-Decides (λ t. t == tx) (λ t. t ≡ tx) (λ t. Decides-eqb t tx) c.step

other-Decides : (c : CoreState) (tx : ℕ) → Decides (other_open c tx) (IsOtherOpen c tx)
other-Decides c tx = step-Decides (λ t. not (t == tx)) (λ t. t ≡ tx
    → ⊥) (λ t. Decides-not (t == tx) (Decides-eqb t tx)) c.step

item-Decides : (c : CoreState) (s : ℕ) (x : List ℕ) → Decides (not (has_item c s x)) (IsOfSite c s x → ⊥)
item-Decides c s x = Decides-not (has_item c s x) (member-Decides bytes_eq bytes_eq-Decides x (names (items_at c s)))

gathered-Decides : (c : CoreState) (tx s : ℕ) → Decides (is_gathered c tx s) (IsGathered c tx s)
gathered-Decides c tx s = Decides-and (own_open c tx) (is_in (gathered_in c.step) s) (own-Decides c tx)
    (is_in-Decides (gathered_in c.step) s)

-- a site that passes the test
some_site : (p : ℕ → Bool) (P : ℕ → Type 0) → ((s : ℕ) → Decides (p s) (P s)) → (sites : List ℕ)
    → Decides (list_any p sites) ((s : ℕ) × Contains sites s × P s)
some_site p P each [] = (λ e. absurd (true≢false (sym e)), λ r. absurd (contains-none r.0 r.1))
some_site p P each (s ∷ sites) =
    elim (cases_Bool (p s)) [
      | inl hit ↦ rw hit (λ e. (s, cons_here s sites, (each s).0 hit), λ r. refl)
      | inr miss ↦ rw miss (
        λ e. let r = (some_site p P each sites).0 e in (r.0, contains-later s sites r.0 r.1, r.2),
        λ r. elim (contains-cases s sites r.0 r.1) [
          | inl is ↦ absurd (true≢false (sym ((each s).1 (subst P (sym is) r.2)) ∙ miss))
          | inr later ↦ (some_site p P each sites).1 (r.0, later, r.2)
        ],
      )
    ]

-- the fault is there, as a test
abbrev pub fails : CoreState → Event → CoreFault → Bool
fails c event fault.Unknown = tx_passes (λ tx. nat_lt c.certifier.begun tx) (tx_in event)
fails c event fault.Ended = tx_passes (λ tx. nat_le tx c.certifier.begun && not (is_in c.certifier.active tx))
    (tx_in event)
fails c (Read tx s x) fault.StepOpen = own_open c tx
fails c (Put tx s x v) fault.StepOpen = own_open c tx
fails c (Add tx s x v) fault.StepOpen = own_open c tx
fails c (Gather tx s) fault.StepOpen = other_open c tx
fails c (Decide tx) fault.StepOpen = other_open c tx
fails c (Install tx s) fault.StepOpen = other_open c tx
fails c event fault.StepOpen = is_some c.step
fails c (Read tx s x) fault.UnknownItem = not (has_item c s x)
fails c (Put tx s x v) fault.UnknownItem = not (has_item c s x)
fails c (Add tx s x v) fault.UnknownItem = not (has_item c s x)
fails c (Gather tx s) fault.UnknownItem = nat_le (length c.items) s
fails c (Install tx s) fault.UnknownItem = nat_le (length c.items) s
fails c (Decide tx) fault.NotGathered = list_any (λ s. not (is_gathered c tx s)) (touched c tx)
fails c (Install tx s) fault.NotGathered = not (is_decided c tx)
fails c (Gather tx s) fault.AlreadyDone = is_gathered c tx s
fails c (Decide tx) fault.AlreadyDone = is_decided c tx
fails c (Install tx s) fault.AlreadyDone = touches c tx s && is_empty (c.due s)
fails c Begin fault.WindowFull = nat_le window_room (c.certifier.begun - c.certifier.before)
fails c Close fault.ActiveLeft = is_some_num c.certifier.active
fails c Close fault.GenerationsSpent = nat_le (2 ^ 32) (suc c.certifier.generation)
fails c Begin fault.NumbersSpent = nat_le (2 ^ 32) (suc c.certifier.begun)
fails c (Gather tx s) fault.NotTouched = not (touches c tx s)
fails c (Install tx s) fault.NotTouched = not (touches c tx s)
fails _ _ _ = false

ended-Decides : (c : CoreState) (tx : ℕ)
    → Decides (nat_le tx c.certifier.begun && not (is_in c.certifier.active tx)) (HasEnded c tx)
ended-Decides c tx = Decides-and (nat_le tx c.certifier.begun) (not (is_in c.certifier.active tx))
    (at_most-Decides tx c.certifier.begun)
    (Decides-not (is_in c.certifier.active tx) (is_in-Decides c.certifier.active tx))

pub fails-Decides : (c : CoreState) (event : Event) (f : CoreFault) → Decides (fails c event f) (Fails c event f)
fails-Decides c event fault.Unknown = tx-Decides (λ tx. nat_lt c.certifier.begun tx) (λ tx. c.certifier.begun < tx)
    (λ tx. Decides-ltb c.certifier.begun tx) (tx_in event)
fails-Decides c event fault.Ended =
    tx-Decides (λ tx. nat_le tx c.certifier.begun && not (is_in c.certifier.active tx)) (HasEnded c) (ended-Decides c)
    (tx_in event)
fails-Decides c (Read tx s x) fault.StepOpen = own-Decides c tx
fails-Decides c (Put tx s x v) fault.StepOpen = own-Decides c tx
fails-Decides c (Add tx s x v) fault.StepOpen = own-Decides c tx
fails-Decides c (Gather tx s) fault.StepOpen = other-Decides c tx
fails-Decides c (Decide tx) fault.StepOpen = other-Decides c tx
fails-Decides c (Install tx s) fault.StepOpen = other-Decides c tx
fails-Decides c event fault.StepOpen = open-Decides c.step
fails-Decides c (Read tx s x) fault.UnknownItem = item-Decides c s x
fails-Decides c (Put tx s x v) fault.UnknownItem = item-Decides c s x
fails-Decides c (Add tx s x v) fault.UnknownItem = item-Decides c s x
fails-Decides c (Gather tx s) fault.UnknownItem = at_most-Decides (length c.items) s
fails-Decides c (Install tx s) fault.UnknownItem = at_most-Decides (length c.items) s
fails-Decides c (Decide tx) fault.NotGathered =
    some_site (λ s. not (is_gathered c tx s)) (λ s. IsGathered c tx s
    → ⊥) (λ s. Decides-not (is_gathered c tx s) (gathered-Decides c tx s)) (touched c tx)
fails-Decides c (Install tx s) fault.NotGathered = Decides-not (is_decided c tx) (num-Decides tx c.certifier.step)
fails-Decides c (Gather tx s) fault.AlreadyDone = gathered-Decides c tx s
fails-Decides c (Decide tx) fault.AlreadyDone = num-Decides tx c.certifier.step
fails-Decides c (Install tx s) fault.AlreadyDone =
    Decides-and (touches c tx s) (is_empty (c.due s)) (true-Decides (touches c tx s)) (empty-Decides (c.due s))
fails-Decides c Begin fault.WindowFull = at_most-Decides window_room (c.certifier.begun - c.certifier.before)
fails-Decides c Close fault.ActiveLeft = some_num-Decides c.certifier.active
fails-Decides c Close fault.GenerationsSpent = at_most-Decides (2 ^ 32) (suc c.certifier.generation)
fails-Decides c Begin fault.NumbersSpent = at_most-Decides (2 ^ 32) (suc c.certifier.begun)
fails-Decides c (Gather tx s) fault.NotTouched = false-Decides (touches c tx s)
fails-Decides c (Install tx s) fault.NotTouched = false-Decides (touches c tx s)
fails-Decides _ _ _ = never

-- ---- the fault that is told

-- all faults that the state can show, in the order in which they are told
abbrev pub faults : List CoreFault
faults =
    fault.Unknown ∷ fault.Ended ∷ fault.StepOpen ∷ fault.UnknownItem ∷ fault.NotGathered ∷ fault.AlreadyDone
    ∷ fault.WindowFull
    ∷ fault.ActiveLeft ∷ fault.GenerationsSpent ∷ fault.NumbersSpent ∷ fault.NotTouched ∷ []

-- the first of these that is there
abbrev pub first_in : CoreState → Event → List CoreFault → Option CoreFault
first_in c event [] = None
first_in c event (f ∷ fs) = if fails c event f then Some f else first_in c event fs

abbrev pub told : CoreState → Event → Option CoreFault
told c event = first_in c event faults

listed : (f : CoreFault) → Contains faults f ⊎ (f ≡ fault.Memory)
listed fault.Unknown = inl (0, lit< tt, refl)
listed fault.Ended = inl (1, lit< tt, refl)
listed fault.StepOpen = inl (2, lit< tt, refl)
listed fault.UnknownItem = inl (3, lit< tt, refl)
listed fault.NotGathered = inl (4, lit< tt, refl)
listed fault.AlreadyDone = inl (5, lit< tt, refl)
listed fault.WindowFull = inl (6, lit< tt, refl)
listed fault.ActiveLeft = inl (7, lit< tt, refl)
listed fault.GenerationsSpent = inl (8, lit< tt, refl)
listed fault.NumbersSpent = inl (9, lit< tt, refl)
listed fault.NotTouched = inl (10, lit< tt, refl)
listed fault.Memory = inr refl

pub no_memory : (c : CoreState) (event : Event) → Fails c event fault.Memory → ⊥
no_memory c Begin h = h
no_memory c (Read tx s x) h = h
no_memory c (Put tx s x v) h = h
no_memory c (Add tx s x v) h = h
no_memory c (Gather tx s) h = h
no_memory c (Decide tx) h = h
no_memory c (Install tx s) h = h
no_memory c (Commit tx) h = h
no_memory c (Withdraw tx) h = h
no_memory c Close h = h

none_there : (c : CoreState) (event : Event) (fs : List CoreFault) → first_in c event fs ≡ None → (f : CoreFault)
    → Contains fs f → Fails c event f → ⊥
none_there c event [] none f m h = contains-none f m
none_there c event (g ∷ gs) none f m h =
    elim (cases_Bool (fails c event g)) [
      | inl hit ↦ absurd (let e : Some g ≡ None =
          subst (λ b. (if b then Some g else first_in c event gs) ≡ None) hit none in cc)
      | inr miss ↦ elim (contains-cases g gs f m) [
        | inl is ↦ not_from_Decides (fails c event g) (fails-Decides c event g) miss (subst (Fails c event) (sym is) h)
        | inr later ↦ none_there c event gs
            (subst (λ b. (if b then Some g else first_in c event gs) ≡ None) miss none) f later h
      ]
    ]

pub none_told : (c : CoreState) (event : Event) → told c event ≡ None → IsAllowed c event
none_told c event none f h = elim (listed f) [
  | inl m ↦ none_there c event faults none f m h
  | inr is ↦ no_memory c event (subst (Fails c event) is h)
]

-- the places rise
abbrev AreRising : List CoreFault → Type 0
AreRising [] = Unit {0}
AreRising (f ∷ fs) = ((g : CoreFault) → Contains fs g → fault_place f < fault_place g) × AreRising fs

first_there : (c : CoreState) (event : Event) (fs : List CoreFault) → AreRising fs → (f : CoreFault)
    → first_in c event fs ≡ Some f
    → Fails c event f × ((g : CoreFault) → Contains fs g → fault_place g < fault_place f → Fails c event g → ⊥)
first_there c event [] rising f first = absurd cc
first_there c event (h ∷ hs) rising f first =
    elim (cases_Bool (fails c event h)) [
      | inl hit ↦
          let is : h ≡ f =
          same_Some h f (subst (λ b. (if b then Some h else first_in c event hs) ≡ Some f) hit first) in (
            subst (Fails c event) is ((fails-Decides c event h).0 hit),
            λ g m lt there. elim (contains-cases h hs g m) [
              | inl same ↦ let e = ap fault_place (sym is ∙ same) in omega (arith, lt, e)
              | inr later ↦ let more = rising.0 g later in let e = ap fault_place is in omega (arith, lt, more, e)
            ],
          )
      | inr miss ↦
          let r = first_there c event hs rising.1 f
          (subst (λ b. (if b then Some h else first_in c event hs) ≡ Some f) miss first) in (
            r.0,
            λ g m lt there. elim (contains-cases h hs g m) [
              | inl same ↦ not_from_Decides (fails c event h) (fails-Decides c event h) miss
                  (subst (Fails c event) (sym same) there)
              | inr later ↦ r.1 g later lt there
            ],
          )
    ]

-- the same, as a test
abbrev rise : List CoreFault → Bool
rise [] = true
rise (f ∷ fs) = list_all (λ g. nat_lt (fault_place f) (fault_place g)) fs && rise fs

all_pass : (p : CoreFault → Bool) (fs : List CoreFault) (g : CoreFault) → list_all p fs ≡ true → Contains fs g
    → p g ≡ true
all_pass p [] g t c = absurd (contains-none g c)
all_pass p (f ∷ fs) g t c =
    let both = (Decides-and (p f) (list_all p fs) (true-Decides (p f)) (true-Decides (list_all p fs))).0 t in
    elim (contains-cases f fs g c) [
      | inl is ↦ subst (λ h. p h ≡ true) is both.0
      | inr later ↦ all_pass p fs g both.1 later
    ]

rise-true : (fs : List CoreFault) → rise fs ≡ true → AreRising fs
rise-true [] t = tt
rise-true (f ∷ fs) t =
    let first = list_all (λ g. nat_lt (fault_place f) (fault_place g)) fs in
    let both = (Decides-and first (rise fs) (true-Decides first) (true-Decides (rise fs))).0 t in (
      λ g m. (Decides-ltb (fault_place f) (fault_place g)).0
          (all_pass (λ g. nat_lt (fault_place f) (fault_place g)) fs g both.0 m),
      rise-true fs both.1,
    )

pub first_told : (c : CoreState) (event : Event) (f : CoreFault) → told c event ≡ Some f → IsRefused c event f
first_told c event f first =
    let r = first_there c event faults (rise-true faults refl) f first in (
      r.0,
      λ g lt there. elim (listed g) [
        | inl m ↦ r.1 g m lt there
        | inr is ↦ no_memory c event (subst (Fails c event) is there)
      ],
    )

-- each event is allowed, or refused
abbrev pub IsTold : CoreState → Event → Type 0
IsTold c event = IsAllowed c event ⊎ ((f : CoreFault) × IsRefused c event f)

unfoldable pub told_by : (c : CoreState) (event : Event) (o : Option CoreFault) → told c event ≡ o → IsTold c event
told_by c event None e = inl (none_told c event e)
told_by c event (Some f) e = inr (f, first_told c event f e)

unfoldable pub allowed_or_refused : (c : CoreState) (event : Event) → IsTold c event
allowed_or_refused c event = told_by c event (told c event) refl

-- the faults at their places
abbrev placed : List CoreFault
placed =
    fault.Unknown ∷ fault.Unknown ∷ fault.Ended ∷ fault.StepOpen ∷ fault.UnknownItem ∷ fault.NotGathered
    ∷ fault.AlreadyDone
    ∷ fault.WindowFull ∷ fault.ActiveLeft ∷ fault.ActiveLeft ∷ fault.GenerationsSpent ∷ fault.NumbersSpent
    ∷ fault.NotTouched
    ∷ fault.Memory ∷ []

at_place : (f : CoreFault) → slice_get placed (fault_place f) ≡ Some f
at_place fault.Unknown = refl
at_place fault.Ended = refl
at_place fault.StepOpen = refl
at_place fault.UnknownItem = refl
at_place fault.NotGathered = refl
at_place fault.AlreadyDone = refl
at_place fault.WindowFull = refl
at_place fault.ActiveLeft = refl
at_place fault.Memory = refl
at_place fault.GenerationsSpent = refl
at_place fault.NumbersSpent = refl
at_place fault.NotTouched = refl

-- and it is refused with one fault alone
pub one_refusal : (c : CoreState) (event : Event) (f g : CoreFault) → IsRefused c event f → IsRefused c event g → f ≡ g
one_refusal c event f g p q =
    let same : fault_place f ≡ fault_place g =
    level (fault_place f) (fault_place g) (λ lt. q.1 f lt p.0) (λ lt. p.1 g lt q.0) in
    same_Some f g (sym (at_place f) ∙ ap (slice_get placed) same ∙ at_place g)
  where
    level : (m n : ℕ) → (m < n → ⊥) → (n < m → ⊥) → m ≡ n
    level m n a b = omega (arith, a, b)
