-- What one mark changes, and one mark after another.
use Rattle.std.proofs.Common.{◌≡◌, ◌⊎◌, ℕ, zero, suc, ◌+◌, List, [], ◌∷◌, ◌++◌, length, take, Some, Bool, true, false, refl, sym, ap, ◌∙◌, subst, arith, inl, inr}
use Rattle.std.specs.Prelude.{slice_get, slice_set}
use Rattle.std.proofs.lemmas.Bool.{cases_eq, cases_Bool}
use Rattle.std.proofs.lemmas.List.{length_push}
use Rattle.std.proofs.lemmas.Option.{same_Some, none-some, slice_get_within}
use Rattle.sgt_order.proofs.Lists.{get_push_cases, get_take_next, get_take_more, get_take_last}
use Rattle.sgt_service_settle.specs.declared.link.Arc.{Arc}
use Rattle.sgt_service_settle.specs.declared.link.Cut.{Cut}
use Rattle.sgt_service_settle.specs.private.Search.{On, IsMarked, unmarked, Marked, IsTarget, Passes}
use Rattle.sgt_names.proofs.Elements.{length-slice_set, get-slice_set_same, get-slice_set_other, get-push_last}
use Rattle.sgt_names.proofs.Lists.{front_at}

pub unmarked_set : (marks : List Bool) (k : ℕ) → slice_get marks k ≡ Some false
    → unmarked (slice_set marks k true) + 1 ≡ unmarked marks
unmarked_set [] k h = absurd cc
unmarked_set (x ∷ xs) zero h = let same = same_Some x false h in rw same (omega arith)
unmarked_set (x ∷ xs) (suc k) h =
    let later = unmarked_set xs k h in
    elim (cases_Bool x) [
      | inl hit ↦ rw hit later
      | inr miss ↦ rw miss (omega (arith, later))
    ]

pub on_push : (xs : List ℕ) (a k : ℕ) → On (xs ++ a ∷ []) k → On xs k ⊎ (a ≡ k)
on_push xs a k o =
    elim (get_push_cases xs a k o.0 o.1) [
      | inl early ↦ inl (o.0, early)
      | inr last ↦ inr last.1
    ]

pub mark_new : (marks : List Bool) (stack : List ℕ) (to : ℕ) → slice_get marks to ≡ Some false
    → Marked (λ k. k ≡ to) marks stack (slice_set marks to true) (stack ++ to ∷ [])
mark_new marks stack to bare =
    let set = get-slice_set_same marks to true (slice_get_within marks to false bare) in
    let here : (k : ℕ) → k ≡ to → IsMarked (slice_set marks to true) k =
    λ k same. subst (IsMarked (slice_set marks to true)) (sym same) set in
    record {
      kept = λ k h.
          elim (cases_eq k to) [
            | inl same ↦ here k same
            | inr other ↦ get-slice_set_other marks to k true other ∙ h
          ];
      fresh = λ k h.
          elim (cases_eq k to) [
            | inl same ↦ inr (same, (length stack, get-push_last stack to ∙ ap Some (sym same)))
            | inr other ↦ inl (sym (get-slice_set_other marks to k true other) ∙ h)
          ];
      grew = λ k o. (o.0, front_at stack (to ∷ []) o.0 k o.1);
      known = λ k o.
          elim (on_push stack to k o) [
            | inl early ↦ inl early
            | inr last ↦ inr (here k (sym last))
          ];
      done = here;
      size = omega (arith, unmarked_set marks to bare, length_push stack to);
      long = length-slice_set marks to true;
    }

pub mark_old : (marks : List Bool) (stack : List ℕ) (to : ℕ) → IsMarked marks to
    → Marked (λ k. k ≡ to) marks stack marks stack
mark_old marks stack to had = record {
  kept = λ k h. h;
  fresh = λ k h. inl h;
  grew = λ k o. o;
  known = λ k o. inl o;
  done = λ k same. subst (IsMarked marks) (sym same) had;
  size = refl;
  long = refl;
}

-- first these, then those
pub marked_on : (P Q R : ℕ → Type 0) (a b d : List Bool) (x y z : List ℕ) → Marked P a x b y → Marked Q b y d z
    → ((k : ℕ) → P k → R k) → ((k : ℕ) → Q k → R k) → ((k : ℕ) → R k → P k ⊎ Q k) → Marked R a x d z
marked_on P Q R a b d x y z first then p q r = record {
  kept = λ k h. then.kept k (first.kept k h);
  fresh = λ k h.
      elim (then.fresh k h) [
        | inl had ↦ elim (first.fresh k had) [ inl old ↦ inl old | inr new ↦ inr (p k new.0, then.grew k new.1) ]
        | inr new ↦ inr (q k new.0, new.1)
      ];
  grew = λ k o. then.grew k (first.grew k o);
  known = λ k o.
      elim (then.known k o) [
        | inl had ↦ elim (first.known k had) [ inl old ↦ inl old | inr new ↦ inr (then.kept k new) ]
        | inr new ↦ inr new
      ];
  done = λ k h.
      elim (r k h) [
        | inl at ↦ then.kept k (first.done k at)
        | inr at ↦ then.done k at
      ];
  size = then.size ∙ first.size;
  long = then.long ∙ first.long;
}

-- one more edge: handed by then, or not
pub row_next : (row : List Arc) (cut : Cut) (n : ℕ) (arc : Arc) (a b d : List Bool) (x y z : List ℕ)
    → slice_get row n ≡ Some arc → Passes cut arc.label arc.number → Marked (IsTarget (take n row) cut) a x b y
    → Marked (λ k. k ≡ arc.to) b y d z → Marked (IsTarget (take (n + 1) row) cut) a x d z
row_next row cut n arc a b d x y z at early first then =
    marked_on (IsTarget (take n row) cut) (λ k. k ≡ arc.to) (IsTarget (take (n + 1) row) cut) a b d x y z first then
    (λ k t. (t.0, t.1, get_take_more row n t.0 t.1 t.2, t.3, t.4))
    (λ k same. (n, arc, get_take_last row n arc at, sym same, early))
    (λ k t.
    elim (get_take_next row n t.0 arc t.1 at t.2) [
      | inl before ↦ inl (t.0, t.1, before.1, t.3, t.4)
      | inr last ↦ inr (sym t.3 ∙ ap (λ v. v.to) (sym last.1))
    ])

pub row_skip : (row : List Arc) (cut : Cut) (n : ℕ) (arc : Arc) (a b : List Bool) (x y : List ℕ)
    → slice_get row n ≡ Some arc → (Passes cut arc.label arc.number → ⊥) → Marked (IsTarget (take n row) cut) a x b y
    → Marked (IsTarget (take (n + 1) row) cut) a x b y
row_skip row cut n arc a b x y at late first = record {
  kept = first.kept;
  fresh = λ k h.
      elim (first.fresh k h) [
        | inl old ↦ inl old
        | inr new ↦ let t = new.0 in inr ((t.0, t.1, get_take_more row n t.0 t.1 t.2, t.3, t.4), new.1)
      ];
  grew = first.grew;
  known = first.known;
  done = λ k t.
      elim (get_take_next row n t.0 arc t.1 at t.2) [
        | inl before ↦ first.done k (t.0, t.1, before.1, t.3, t.4)
        | inr last ↦ absurd (late (subst (λ (v : Arc). Passes cut v.label v.number) (sym last.1) t.4))
      ];
  size = first.size;
  long = first.long;
}
