-- Conflicts in a longer and in a shorter log.
use Rattle.std.proofs.Common.{◌≡◌, ◌<◌, ◌≤◌, ◌+◌, ℕ, zero, suc, List, [], ◌∷◌, ◌++◌, length, refl, sym, ◌∙◌, arith, ◌⊎◌, inl, inr, Contains, Some, subst}
use Rattle.std.specs.Prelude.{slice_get}
use Rattle.std.proofs.lemmas.Option.{same_Some}
use Rattle.sgt_names.specs.Name.{Name}
use Rattle.sgt_names.specs.Entry.{tx_of, Reads, Writes, IsIncrement, Clash}
use Rattle.sgt_names.specs.Log.{Conflicts}
use Rattle.sgt_names.specs.declared.entry.Entry.{Entry}
use Rattle.sgt_names.specs.declared.entry.Change.{Change}
use Rattle.sgt_names.specs.declared.entry.Change.TheVariants.{Put, Add}
use Rattle.sgt_names.specs.declared.entry.Kind.{Kind}
use Rattle.sgt_names.specs.declared.entry.Kind.TheVariants.{Wr, Rw, Ww}
use Rattle.sgt_site.specs.State.{change_entry, want_entry}
use Rattle.sgt_core_model.specs.Core.{as_changes}
use Rattle.sgt_core_model.proofs.Entries.{as_wants}
use Rattle.sgt_names.proofs.Places.{Contains-from_at}
use Rattle.sgt_certifier.proofs.Members.{place_cases, place_right}
use Rattle.sgt_names.proofs.Lists.{front_at}

-- where an entry that isn't among ys stands without ys
record KeptPlace (xs ys zs : List Entry) (n : ℕ) (e : Entry) : Type 0 where
  pub place : ℕ
  pub found : slice_get (xs ++ zs) place ≡ Some e
  pub where_is : ((n < length xs) × (place ≡ n)) ⊎ ((length xs ≤ place) × (place + length ys ≡ n))

kept_place : (xs ys zs : List Entry) (n : ℕ) (e : Entry) → (Contains ys e → ⊥)
    → slice_get (xs ++ (ys ++ zs)) n ≡ Some e → KeptPlace xs ys zs n e
kept_place xs ys zs n e out h =
    elim (place_cases xs (ys ++ zs) n e h) [
      | inl front ↦ record { place = n; found = front_at xs zs n e front.1; where_is = inl (front.0, refl) }
      | inr rest ↦
          elim (place_cases ys zs rest.0 e rest.2) [
            | inl mid ↦ absurd (out (Contains-from_at ys rest.0 e mid.1))
            | inr back ↦ record {
              place = length xs + back.0;
              found = place_right xs zs back.0 e back.2;
              where_is = inr (omega arith, omega (arith, rest.1, back.1));
            }
          ]
    ]

-- a conflict is one without the entries of others
pub without_others : (xs ys zs : List Entry) (kind : Kind) (x : Name) (a b : ℕ)
    → ((e : Entry) → Contains ys e → tx_of e ≡ a → ⊥) → ((e : Entry) → Contains ys e → tx_of e ≡ b → ⊥)
    → Conflicts (xs ++ (ys ++ zs)) kind x a b → Conflicts (xs ++ zs) kind x a b
without_others xs ys zs kind x a b not_a not_b h =
    let first = kept_place xs ys zs h.p h.e (λ c. not_a h.e c h.from) h.first in
    let second = kept_place xs ys zs h.q h.f (λ c. not_b h.f c h.to) h.second in
    let lt = h.before in
    record {
      p = first.place;
      q = second.place;
      e = h.e;
      f = h.f;
      before = elim first.where_is [
        | inl i ↦ elim second.where_is [
          | inl j ↦ omega (arith, i.0, i.1, j.0, j.1)
          | inr j ↦ omega (arith, i.0, i.1, j.0, j.1)
        ]
        | inr i ↦ elim second.where_is [
          | inl j ↦ omega (arith, i.0, i.1, j.0, j.1)
          | inr j ↦ omega (arith, i.0, i.1, j.0, j.1)
        ]
      ];
      first = first.found;
      second = second.found;
      from = h.from;
      to = h.to;
      apart = h.apart;
      clash = h.clash;
    }

-- a conflict stays one in a longer log
pub in_longer : (xs ys : List Entry) (kind : Kind) (x : Name) (a b : ℕ) → Conflicts xs kind x a b
    → Conflicts (xs ++ ys) kind x a b
in_longer xs ys kind x a b h = record {
  p = h.p;
  q = h.q;
  e = h.e;
  f = h.f;
  before = h.before;
  first = front_at xs ys h.p h.e h.first;
  second = front_at xs ys h.q h.f h.second;
  from = h.from;
  to = h.to;
  apart = h.apart;
  clash = h.clash;
}

last_is : (g f : Entry) (k : ℕ) → slice_get (g ∷ []) k ≡ Some f → f ≡ g
last_is g f zero h = sym (same_Some g f h)
last_is g f (suc k) h = absurd cc

-- a conflict is one without a last entry that conflicts with none
pub without_last : (xs : List Entry) (g : Entry) (kind : Kind) (x : Name) (a b : ℕ)
    → ((e : Entry) → Clash kind x e g → ⊥) → Conflicts (xs ++ g ∷ []) kind x a b → Conflicts xs kind x a b
without_last xs g kind x a b free h =
    let lt = h.before in
    elim (place_cases xs (g ∷ []) h.q h.f h.second) [
      | inl front_q ↦
          elim (place_cases xs (g ∷ []) h.p h.e h.first) [
            | inl front_p ↦ record {
              p = h.p;
              q = h.q;
              e = h.e;
              f = h.f;
              before = h.before;
              first = front_p.1;
              second = front_q.1;
              from = h.from;
              to = h.to;
              apart = h.apart;
              clash = h.clash;
            }
            | inr back_p ↦ absurd (omega (arith, front_q.0, back_p.1))
          ]
      | inr back_q ↦ absurd (free h.e (subst (Clash kind x h.e) (last_is g h.f back_q.0 back_q.2) h.clash))
    ]

-- where an entry stands with others put in
moved_place : (xs ys zs : List Entry) (n : ℕ) (e : Entry) → slice_get (xs ++ zs) n ≡ Some e
    → (m : ℕ) × (slice_get (xs ++ (ys ++ zs)) m ≡ Some e)
    × (((n < length xs) × (m ≡ n)) ⊎ ((length xs ≤ n) × (m ≡ n + length ys)))
moved_place xs ys zs n e h =
    elim (place_cases xs zs n e h) [
      | inl front ↦ (n, front_at xs (ys ++ zs) n e front.1, inl (front.0, refl))
      | inr back ↦ (
        length xs + (length ys + back.0),
        place_right xs (ys ++ zs) (length ys + back.0) e (place_right ys zs back.0 e back.2),
        inr (omega (arith, back.1), omega (arith, back.1)),
      )
    ]

-- a conflict stays one with others' entries put in
pub with_others : (xs ys zs : List Entry) (kind : Kind) (x : Name) (a b : ℕ) → Conflicts (xs ++ zs) kind x a b
    → Conflicts (xs ++ (ys ++ zs)) kind x a b
with_others xs ys zs kind x a b h =
    let first = moved_place xs ys zs h.p h.e h.first in
    let second = moved_place xs ys zs h.q h.f h.second in
    let lt = h.before in
    record {
      p = first.0;
      q = second.0;
      e = h.e;
      f = h.f;
      before = elim first.2 [
        | inl i ↦ elim second.2 [
          | inl j ↦ omega (arith, i.0, i.1, j.0, j.1)
          | inr j ↦ omega (arith, i.0, i.1, j.0, j.1)
        ]
        | inr i ↦ elim second.2 [
          | inl j ↦ omega (arith, i.0, i.1, j.0, j.1)
          | inr j ↦ omega (arith, i.0, i.1, j.0, j.1)
        ]
      ];
      first = first.1;
      second = second.1;
      from = h.from;
      to = h.to;
      apart = h.apart;
      clash = h.clash;
    }

-- an entry does at least what the other does, and is no increment where that isn't
record IsLike (e f : Entry) : Type 0 where
  pub tx : tx_of f ≡ tx_of e
  pub reads : (x : Name) → Reads x e → Reads x f
  pub writes : (x : Name) → Writes x e → Writes x f
  pub increment : IsIncrement f → IsIncrement e

clash_like : (kind : Kind) (x : Name) (e e2 f f2 : Entry) → IsLike e e2 → IsLike f f2 → Clash kind x e f
    → Clash kind x e2 f2
clash_like Wr x e e2 f f2 i j k = (i.writes x k.0, j.reads x k.1)
clash_like Rw x e e2 f f2 i j k = (i.reads x k.0, j.writes x k.1)
clash_like Ww x e e2 f f2 i j k = (i.writes x k.0, j.writes x k.1, λ p q. k.2 (i.increment p) (j.increment q))

want_like : (i : ℕ) (x : Name) (change : Change) → IsLike (change_entry i x change) (want_entry i x change)
want_like i x (Put v) = record { tx = refl; reads = λ y k. k; writes = λ y k. k; increment = λ k. k }
want_like i x (Add v) = record { tx = refl; reads = λ y k. k; writes = λ y k. k; increment = λ k. k }

want_place : (i : ℕ) (cs : List (Name × Change)) (k : ℕ) (e : Entry) → slice_get (as_changes i cs) k ≡ Some e
    → (f : Entry) × (slice_get (as_wants i cs) k ≡ Some f) × IsLike e f
want_place i [] k e h = absurd cc
want_place i (d ∷ ds) zero e h = (
  want_entry i d.0 d.1,
  refl,
  subst (λ g. IsLike g (want_entry i d.0 d.1)) (same_Some (change_entry i d.0 d.1) e h)
      (want_like i d.0 d.1),
)
want_place i (d ∷ ds) (suc k) e h = want_place i ds k e h

like_place : (xs : List Entry) (i : ℕ) (cs : List (Name × Change)) (n : ℕ) (e : Entry)
    → slice_get (xs ++ as_changes i cs) n ≡ Some e
    → (f : Entry) × (slice_get (xs ++ as_wants i cs) n ≡ Some f) × IsLike e f
like_place xs i cs n e h =
    elim (place_cases xs (as_changes i cs) n e h) [
      | inl front ↦ (
        e,
        front_at xs (as_wants i cs) n e front.1,
        record {
          tx = refl;
          reads = λ x k. k;
          writes =
              λ x k. k;
          increment = λ k. k;
        },
      )
      | inr back ↦
          let w = want_place i cs back.0 e back.2 in (
            w.0,
            subst (λ k. slice_get (xs ++ as_wants i cs) k ≡ Some w.0) (sym back.1)
                (place_right xs (as_wants i cs) back.0 w.0 w.1),
            w.2,
          )
    ]

-- a conflict with private changes is one with the changes that were asked for
pub as_asked : (xs : List Entry) (i : ℕ) (cs : List (Name × Change)) (kind : Kind) (x : Name) (a b : ℕ)
    → Conflicts (xs ++ as_changes i cs) kind x a b → Conflicts (xs ++ as_wants i cs) kind x a b
as_asked xs i cs kind x a b h =
    let first = like_place xs i cs h.p h.e h.first in
    let second = like_place xs i cs h.q h.f h.second in
    record {
      p = h.p;
      q = h.q;
      e = first.0;
      f = second.0;
      before = h.before;
      first = first.1;
      second = second.1;
      from = first.2.tx ∙ h.from;
      to = second.2.tx ∙ h.to;
      apart = h.apart;
      clash = clash_like kind x h.e first.0 h.f second.0 first.2 second.2 h.clash;
    }
