-- What the seats of a pool have together.
use Rattle.std.proofs.Common.{◌≡◌, ℕ, ◌+◌, ◌-◌, ◌^◌, ◌≤◌, ◌⊎◌, inl, inr, List, [], ◌∷◌, length, map, refl, sym, ◌∙◌, ap, arith}
use Rattle.std.specs.Prelude.{sum_by}
use Rattle.std.proofs.lemmas.Bool.{cases_lt}
use Rattle.std.proofs.Math.Nat.{min-eq_left, min-eq_right}
use Rattle.std.specs.List.{AllZip, flat_map}
use Rattle.std.proofs.lemmas.List.Concat.{length-flat_map}
use Rattle.std.proofs.lemmas.List.Sums.{sum_by-append, sum_by-cons}
use Rattle.std.proofs.lemmas.List.Sorted.{sum_by-IsPermutation}
use Rattle.sgt_workers.specs.Answers.{AreShared, IsShare, Runs}
use Rattle.sgt_workers.specs.declared.ticket.Done.{Done}
use Rattle.sgt_workers.specs.declared.ticket.Ticket.{Ticket}
use Rattle.sgt_notation.specs.declared.script.Op.{Op}
use Rattle.sgt_notation.specs.declared.script.Script.{Script}
use Rattle.sgt_service_locks.specs.Counts.{capped}
use Rattle.sgt_service_locks.specs.Together.{amount_of, begin_parts_of, begins_of, begun_of, parts_of}
use Rattle.sgt_service_locks.specs.declared.seat.Seat.{Seat}
use Rattle.sgt_service_settle.specs.Settled.{tickets_of}
use Rattle.sgt_service.specs.Tries.{AreTried, TriesJob}

sum_zip : {A B : Type 0} (f : A → ℕ) (h : B → ℕ) (xs : List A) (ys : List B) → AllZip (λ x y. h y ≡ f x) xs ys
    → sum_by h ys ≡ sum_by f xs
sum_zip f h [] [] z = refl
sum_zip f h [] (y ∷ ys) z = absurd z
sum_zip f h (x ∷ xs) [] z = absurd z
sum_zip f h (x ∷ xs) (y ∷ ys) z =
    sum_by-cons h y ys ∙ omega (arith, z.0, sum_zip f h xs ys z.1) ∙ sym (sum_by-cons f x xs)

-- how many tickets a Done has
abbrev pub told : Done → ℕ
told d = length d.tickets.items

pub tickets_told : (dones : List Done) → length (tickets_of dones) ≡ sum_by told dones
tickets_told dones = length-flat_map (λ (d : Done). d.tickets.items) dones

-- a sum is told as `f` has it: what is told of two numbers tells it of their sum
abbrev pub Sums : (ℕ → ℕ) → Type 0
Sums f = (a b c d : ℕ) → f a ≡ f b → f c ≡ f d → f (a + c) ≡ f (b + d)

-- each call adds as many to the amount as its Done has tickets
module _ {S C : Type 0} (does : S → ℕ → C → Done → S → Type 0) (scripts : List C) (amount : S → ℕ) (f : ℕ
    → ℕ) (sums : Sums f)
    (grows : (s : S) (n : ℕ) (c : C) (d : Done) (t : S) → does s n c d t → f (amount t) ≡ f (amount s + told d)) where
  runs_amount : (s t : S) (ds : List Done) → Runs does scripts s ds t → f (amount t) ≡ f (amount s + sum_by told ds)
  runs_amount s t [] runs = ap f (omega (arith, ap amount runs))
  runs_amount s t (d ∷ ds) runs =
      let u = runs.1 in
      let more =
      sums (amount u) (amount s + told d) (sum_by told ds) (sum_by told ds) (grows s d.job runs.0 d u runs.3)
      refl in
      runs_amount u t ds runs.4 ∙ (more ∙ ap f (omega (arith, sum_by-cons told d ds)))

  shares_amount : (states : List S) (shares : List (List Done × S))
      → AllZip (λ s (share : List Done × S). IsShare does scripts s share.0 share.1) states shares
      → f (sum_by amount (map (λ (share : List Done × S). share.1) shares)) ≡ f
      (sum_by amount states + sum_by told (flat_map (λ (share : List Done × S). share.0) shares))
  shares_amount [] [] z = refl
  shares_amount [] (share ∷ shares) z = absurd z
  shares_amount (s ∷ states) [] z = absurd z
  shares_amount (s ∷ states) (share ∷ shares) z =
      let rest = flat_map (λ (one : List Done × S). one.0) shares in
      let ends = map (λ (one : List Done × S). one.1) shares in
      let one = runs_amount s share.1 share.0 z.0.1 in
      let more = sums (amount share.1) (amount s + sum_by told share.0) (sum_by amount ends)
      (sum_by amount states + sum_by told rest) one (shares_amount states shares z.1) in
      ap f (sum_by-cons amount share.1 ends)
      ∙ (more ∙ ap f (omega (arith, sum_by-cons amount s states, sum_by-append told share.0 rest)))

  pub shared_amount : (states after : List S) (dones : List Done) → AreShared does scripts states dones after
      → f (sum_by amount after) ≡ f (sum_by amount states + length (tickets_of dones))
  shared_amount states after dones shared =
      let whole = shares_amount states shared.0 shared.1 in
      let moved = sum_by-IsPermutation told (flat_map (λ (share : List Done × S). share.0) shared.0) dones shared.3 in
      ap (λ ss. f (sum_by amount ss)) (sym shared.2) ∙ (whole ∙ ap f (omega (arith, moved, tickets_told dones)))

-- ---- numbers up to the greatest

full : (n : ℕ) → 2 ^ 64 - 1 ≤ n → capped n ≡ 2 ^ 64 - 1
full n past = min-eq_right past

capped_is : (n : ℕ) → (capped n ≡ n) ⊎ ((2 ^ 64 - 1 ≤ n) × (capped n ≡ 2 ^ 64 - 1))
capped_is n = elim (cases_lt n (2 ^ 64 - 1)) [
  | inl less ↦ inl (min-eq_left (omega (arith, less)))
  | inr past ↦ inr (past, full n past)
]

pub capped_twice : (n : ℕ) → capped (capped n) ≡ capped n
capped_twice n = elim (capped_is n) [
  | inl small ↦ ap capped small
  | inr large ↦ ap capped large.1 ∙ (full (2 ^ 64 - 1) (omega arith) ∙ sym large.1)
]

-- two numbers that read alike are one, or both are too large
alike : (a b : ℕ) → capped a ≡ capped b → (a ≡ b) ⊎ ((2 ^ 64 - 1 ≤ a) × (2 ^ 64 - 1 ≤ b))
alike a b same = elim (capped_is a) [
  | inl small ↦ elim (capped_is b) [
    | inl little ↦ inl (sym small ∙ (same ∙ little))
    | inr large ↦ let is : a ≡ 2 ^ 64 - 1 = sym small ∙ (same ∙ large.1) in inr (omega (arith, is), large.0)
  ]
  | inr large ↦ elim (capped_is b) [
    | inl little ↦ let is : b ≡ 2 ^ 64 - 1 = sym little ∙ (sym same ∙ large.1) in inr (large.0, omega (arith, is))
    | inr great ↦ inr (large.0, great.0)
  ]
]

pub capped_sums : Sums capped
capped_sums a b c d ab cd = elim (alike a b ab) [
  | inr first ↦ full (a + c) (omega (arith, first.0)) ∙ sym (full (b + d) (omega (arith, first.1)))
  | inl one ↦ elim (alike c d cd) [
    | inr last ↦ full (a + c) (omega (arith, last.0)) ∙ sym (full (b + d) (omega (arith, last.1)))
    | inl other ↦ ap capped (omega (arith, one, other))
  ]
]

module _ {L : Type 0} where
  abbrev KeepsParts : Seat L → Seat L → Type 0
  KeepsParts s t = (t.share.parts ≡ s.share.parts) × (t.begins.parts ≡ s.begins.parts)

  kept : (R : Seat L → Seat L → Type 0) (old new : List (Seat L)) → ((s t : Seat L) → KeepsParts s t → R s t)
      → AllZip KeepsParts old new → AllZip R old new
  kept R [] [] each stay = tt
  kept R [] (t ∷ new) each stay = absurd stay
  kept R (s ∷ old) [] each stay = absurd stay
  kept R (s ∷ old) (t ∷ new) each stay = (each s t stay.0, kept R old new each stay.1)

  pub parts_stay : (old new : List (Seat L)) → AllZip KeepsParts old new → parts_of new ≡ parts_of old
  parts_stay old new stay =
      sum_zip (λ (s : Seat L). s.share.parts) (λ (s : Seat L). s.share.parts) old new
      (kept (λ s t. t.share.parts ≡ s.share.parts) old new (λ s t h. h.0) stay)

  pub begin_parts_stay : (old new : List (Seat L)) → AllZip KeepsParts old new → begin_parts_of new ≡ begin_parts_of old
  begin_parts_stay old new stay =
      sum_zip (λ (s : Seat L). s.begins.parts) (λ (s : Seat L). s.begins.parts) old new
      (kept (λ s t. t.begins.parts ≡ s.begins.parts) old new (λ s t h. h.1) stay)

  -- as many decisions as tickets, and as many begins
  tried_amount : (ops : List Op) (tickets : List Ticket) (old new : Seat L) → AreTried ops tickets old new
      → new.share.amount ≡ old.share.amount + length tickets
  tried_amount ops [] old new same = omega (arith, ap (λ (s : Seat L). s.share.amount) same)
  tried_amount ops (t ∷ tickets) old new tried =
      omega (arith, tried.1.1.2.2, tried_amount ops tickets tried.0 new tried.2)

  tried_begun : (ops : List Op) (tickets : List Ticket) (old new : Seat L) → AreTried ops tickets old new
      → capped new.begun ≡ capped (old.begun + length tickets)
  tried_begun ops [] old new same = ap capped (omega (arith, ap (λ (s : Seat L). s.begun) same))
  tried_begun ops (t ∷ tickets) old new tried =
      let many = length tickets in
      let once = capped_sums tried.0.begun (old.begun + 1) many many (ap capped tried.1.1.2.0
      ∙ capped_twice (old.begun + 1)) refl in
      tried_begun ops tickets tried.0 new tried.2 ∙ (once ∙ ap capped (omega arith))

  tried_begins : (ops : List Op) (tickets : List Ticket) (old new : Seat L) → AreTried ops tickets old new
      → new.begins.amount ≡ old.begins.amount + length tickets
  tried_begins ops [] old new same = omega (arith, ap (λ (s : Seat L). s.begins.amount) same)
  tried_begins ops (t ∷ tickets) old new tried =
      omega (arith, tried.1.1.2.4, tried_begins ops tickets tried.0 new tried.2)

  pub begin_amounts_grow : (scripts : List Script) (old new : List (Seat L)) (dones : List Done)
      → AreShared TriesJob scripts old dones new
      → begins_of new ≡ begins_of old + length (tickets_of dones)
  begin_amounts_grow scripts old new dones shared =
      shared_amount TriesJob scripts (λ (s : Seat L). s.begins.amount) (λ n. n) (λ a b c d ab cd. omega (arith, ab, cd))
      (λ s n c d t does. tried_begins c.operations d.tickets.items s t does) old new dones shared

  pub amounts_grow : (scripts : List Script) (old new : List (Seat L)) (dones : List Done)
      → AreShared TriesJob scripts old dones new
      → amount_of new ≡ amount_of old + length (tickets_of dones)
  amounts_grow scripts old new dones shared =
      shared_amount TriesJob scripts (λ (s : Seat L). s.share.amount) (λ n. n) (λ a b c d ab cd. omega (arith, ab, cd))
      (λ s n c d t does. tried_amount c.operations d.tickets.items s t does) old new dones shared

  pub begins_grow : (scripts : List Script) (old new : List (Seat L)) (dones : List Done)
      → AreShared TriesJob scripts old dones new
      → begun_of new ≡ capped (begun_of old + length (tickets_of dones))
  begins_grow scripts old new dones shared =
      let begun : Seat L → ℕ = λ s. s.begun in
      let grown = shared_amount TriesJob scripts begun capped capped_sums
      (λ s n c d t does. tried_begun c.operations d.tickets.items s t does) old new dones shared in
      let many = length (tickets_of dones) in
      grown ∙ capped_sums (sum_by begun old) (capped (sum_by begun old)) many many
      (sym (capped_twice (sum_by begun old))) refl
