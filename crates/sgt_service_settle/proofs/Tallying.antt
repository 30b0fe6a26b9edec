-- The tickets of the Dones, and how many of them have a number.
use Rattle.std.proofs.Common.{◌≡◌, ◌≢◌, ◌∙◌, ◌++◌, ◌∷◌, [], ◌+◌, ◌≤◌, ℕ, List, length, take, sym, ap, arith, Some, Bool, true, refl, inl, inr, Contains}
use Rattle.std.specs.Prelude.{slice_get, slice_set, count_by, cond, min, ◌==◌}
use Rattle.std.proofs.lemmas.Grind.{flat_map-append}
use Rattle.std.proofs.lemmas.List.{append-nil}
use Rattle.std.proofs.lemmas.List.Recursion.{is_count_by}
use Rattle.std.proofs.lemmas.Bool.{cases_Bool, cases_eq, eqb-true, eq-eqb, ne_eqb}
use Rattle.std.proofs.lemmas.Option.{same_Some, slice_get_within}
use Rattle.sgt_certifier.proofs.Members.{cons_here}
use Rattle.sgt_workers.specs.declared.ticket.Ticket.{Ticket}
use Rattle.sgt_workers.specs.declared.ticket.Done.{Done}
use Rattle.sgt_service_settle.specs.Settled.{tickets_of, count_of}
use Rattle.sgt_service_settle.specs.private.Tickets.{AreTallies}
use Rattle.sgt_names.proofs.Elements.{get-slice_set_same, get-slice_set_other, contains-later}
use Rattle.sgt_names.proofs.Lists.{take_next}

pub tickets_on : (dones : List Done) (n : ℕ) (d : Done) → slice_get dones n ≡ Some d
    → tickets_of (take (n + 1) dones) ≡ tickets_of (take n dones) ++ d.tickets.items
tickets_on dones n d at =
    ap tickets_of (take_next dones n d at)
    ∙ (flat_map-append (λ (x : Done). x.tickets.items) (take n dones) (d ∷ [])
    ∙ ap (λ xs. tickets_of (take n dones) ++ xs) (append-nil d.tickets.items))

-- a count, by recursion
counted : {A : Type 0} → (A → Bool) → List A → ℕ
counted p [] = 0
counted p (x ∷ xs) = cond (p x) (1 + counted p xs) (counted p xs)

counted_is : {A : Type 0} (p : A → Bool) (xs : List A) → counted p xs ≡ count_by p xs
unfolding counted
counted_is p xs = is_count_by (counted p) p refl (λ x ys. refl) xs

-- one more is counted, or not
pub count_next : {A : Type 0} (p : A → Bool) (x : A) (xs : List A)
    → count_by p (x ∷ xs) ≡ cond (p x) (1 + count_by p xs) (count_by p xs)
unfolding counted
count_next p x xs = sym (counted_is p (x ∷ xs)) ∙ ap (λ k. cond (p x) (1 + k) k) (counted_is p xs)

counted-append : {A : Type 0} (p : A → Bool) (xs ys : List A) → counted p (xs ++ ys) ≡ counted p xs + counted p ys
unfolding counted
counted-append p [] ys = omega arith
counted-append p (x ∷ xs) ys = elim (cases_Bool (p x)) [
  | inl hit ↦ let rest = counted-append p xs ys in rw hit (omega (arith, rest))
  | inr miss ↦ let rest = counted-append p xs ys in rw miss rest
]

counted_some : {A : Type 0} (p : A → Bool) (xs : List A) → 1 ≤ counted p xs → (x : A) × Contains xs x × (p x ≡ true)
unfolding counted
counted_some p [] h = absurd (omega (arith, h))
counted_some p (x ∷ xs) h = elim (cases_Bool (p x)) [
  | inl hit ↦ (x, cons_here x xs, hit)
  | inr miss ↦ let less : 1 ≤ counted p xs = rw miss at h in let r = counted_some p xs less in
      (r.0, contains-later x xs r.0 r.1, r.2)
]

pub count_of-append : (number : ℕ) (ts us : List Ticket)
    → count_of number (ts ++ us) ≡ count_of number ts + count_of number us
count_of-append number ts us =
    let p : Ticket → Bool = λ t. t.number == number in
    let whole = counted-append p ts us in
    let a = counted_is p (ts ++ us) in
    let b = counted_is p ts in
    let d = counted_is p us in
    omega (arith, whole, a, b, d)

-- what is counted is there
pub count_of-some : (number : ℕ) (ts : List Ticket) → 1 ≤ count_of number ts
    → (t : Ticket) × Contains ts t × (t.number ≡ number)
count_of-some number ts h =
    let p : Ticket → Bool = λ t. t.number == number in
    let a = counted_is p ts in
    let r = counted_some p ts (omega (arith, h, a)) in
    (r.0, r.1, eqb-true r.0.number number r.2)

-- ---- one more ticket

count_hit : (k : ℕ) (ts : List Ticket) (t : Ticket) → t.number ≡ k → count_of k (ts ++ t ∷ []) ≡ count_of k ts + 1
count_hit k ts t same =
    let p : Ticket → Bool = λ x. x.number == k in
    let one : count_of k (t ∷ []) ≡ 1 = count_next p t [] ∙ ap (λ b. cond b 1 0) (eq-eqb t.number k same) in
    count_of-append k ts (t ∷ []) ∙ ap (λ m. count_of k ts + m) one

count_miss : (k : ℕ) (ts : List Ticket) (t : Ticket) → t.number ≢ k → count_of k (ts ++ t ∷ []) ≡ count_of k ts
count_miss k ts t other =
    let p : Ticket → Bool = λ x. x.number == k in
    let none : count_of k (t ∷ []) ≡ 0 = count_next p t [] ∙ ap (λ b. cond b 1 0) (ne_eqb t.number k other) in
    let both = count_of-append k ts (t ∷ []) in
    omega (arith, both, none)

pub tallies_hit : (tallies : List ℕ) (ts : List Ticket) (t : Ticket) (tally more : ℕ)
    → slice_get tallies t.number ≡ Some tally → more ≡ min 2 (tally + 1) → AreTallies tallies ts
    → AreTallies (slice_set tallies t.number more) (ts ++ t ∷ [])
tallies_hit tallies ts t tally more here is are k found at =
    elim (cases_eq t.number k) [
      | inl same ↦
          let known : more ≡ found =
          same_Some more found
          (sym (get-slice_set_same tallies t.number more (slice_get_within tallies t.number tally here))
          ∙ (ap (slice_get (slice_set tallies t.number more)) same ∙ at)) in
          let was : tally ≡ min 2 (count_of t.number ts) = are t.number tally here in
          let old : count_of t.number ts ≡ count_of k ts = ap (λ j. count_of j ts) same in
          let now = count_hit k ts t same in
          omega (arith, known, is, was, old, now)
      | inr other ↦
          let was = are k found (sym (get-slice_set_other tallies t.number k more (λ e. other (sym e))) ∙ at) in
          let now = count_miss k ts t other in
          omega (arith, was, now)
    ]

-- a number that the table doesn't have
pub tallies_miss : (tallies : List ℕ) (ts : List Ticket) (t : Ticket) → length tallies ≤ t.number
    → AreTallies tallies ts → AreTallies tallies (ts ++ t ∷ [])
tallies_miss tallies ts t high are k found at =
    let low = slice_get_within tallies k found at in
    let was = are k found at in
    let now = count_miss k ts t (λ same. omega (arith, same, low, high)) in
    omega (arith, was, now)
