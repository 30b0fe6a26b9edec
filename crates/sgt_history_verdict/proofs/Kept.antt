-- Lines whose transactions commit, kept in their order.
use Rattle.std.proofs.Common.{◌≡◌, ℕ, zero, suc, ◌<◌, Bool, true, false, List, [], ◌∷◌, Some, None, take, Contains, refl, sym, ap, ◌∙◌, subst, arith, inl, inr, ◌⊎◌}
use Rattle.std.specs.Prelude.{slice_get}
use Rattle.std.proofs.lemmas.Option.{same_Some}
use Rattle.sgt_names.proofs.Lists.{option_cases}
use Rattle.sgt_names.proofs.Places.{Contains_at, Contains-from_at}
use Rattle.sgt_history.specs.Transaction.{Transaction}
use Rattle.sgt_history.specs.Serial.{IsCommitted, StandOnce}
use Rattle.sgt_history_verdict.specs.Verdict.{with_committed, committed_in}
use Rattle.sgt_names.proofs.Elements.{bool_cases}

-- the first line is kept, or it isn't
kept-first : (h : List (Transaction ℕ ℕ)) (line : ℕ) (t : Transaction ℕ ℕ) (ls : List ℕ) → IsCommitted h line t
    → committed_in h (line ∷ ls) ≡ line ∷ committed_in h ls
kept-first h line t ls c = ap (λ o. with_committed o line (committed_in h ls)) c.0 ∙ rw c.1 refl

left-first : (h : List (Transaction ℕ ℕ)) (line : ℕ) (ls : List ℕ) → ((t : Transaction ℕ ℕ) → IsCommitted h line t → ⊥)
    → committed_in h (line ∷ ls) ≡ committed_in h ls
left-first h line ls not = left (option_cases (slice_get h line))
  where
    left : (slice_get h line ≡ None) ⊎ ((t : Transaction ℕ ℕ) × (slice_get h line ≡ Some t))
        → committed_in h (line ∷ ls) ≡ committed_in h ls
    left (inl none) = ap (λ o. with_committed o line (committed_in h ls)) none
    left (inr (t, is)) = elim (bool_cases t.commits) [
      | inl commits ↦ absurd (not t (is, commits))
      | inr aborts ↦ ap (λ o. with_committed o line (committed_in h ls)) is ∙ rw aborts refl
    ]

-- whether a line's transaction commits
decide : (h : List (Transaction ℕ ℕ)) (line : ℕ) → ((t : Transaction ℕ ℕ) × IsCommitted h line t)
    ⊎ ((t : Transaction ℕ ℕ) → IsCommitted h line t → ⊥)
decide h line = elim (option_cases (slice_get h line)) [
  | inl none ↦ inr (λ t c. let f = sym none ∙ c.0 in cc)
  | inr some ↦ elim (bool_cases some.0.commits) [
    | inl commits ↦ inl (some.0, (some.1, commits))
    | inr aborts ↦ inr (λ t c. let f = sym aborts
        ∙ ap (λ (u : Transaction ℕ ℕ). u.commits) (same_Some some.0 t (sym some.1 ∙ c.0)) ∙ c.1 in cc)
  ]
]

-- what stands in what is kept
pub record IsKept (h : List (Transaction ℕ ℕ)) (xs : List ℕ) (line : ℕ) : Type 0 where
  pub i : ℕ
  pub t : Transaction ℕ ℕ
  pub at : slice_get xs i ≡ Some line
  pub commits : IsCommitted h line t

pub kept-from : (h : List (Transaction ℕ ℕ)) (xs : List ℕ) (k line : ℕ) → slice_get (committed_in h xs) k ≡ Some line
    → IsKept h xs line
kept-from h [] k line at = absurd (cc (at))
kept-from h (x ∷ xs) k line at = from (decide h x) k at (λ m e. kept-from h xs m line e)
  where
    later : IsKept h xs line → IsKept h (x ∷ xs) line
    later r = record { i = suc r.i; t = r.t; at = r.at; commits = r.commits }

    from : ((t : Transaction ℕ ℕ) × IsCommitted h x t) ⊎ ((t : Transaction ℕ ℕ) → IsCommitted h x t → ⊥) → (n : ℕ)
        → slice_get (committed_in h (x ∷ xs)) n ≡ Some line
        → ((m : ℕ) → slice_get (committed_in h xs) m ≡ Some line → IsKept h xs line) → IsKept h (x ∷ xs) line
    from (inl c) zero e rest =
        let same : x ≡ line = same_Some x line (ap (λ ys. slice_get ys 0) (sym (kept-first h x c.0 xs c.1)) ∙ e) in
        record { i = 0; t = c.0; at = ap Some same; commits = subst (λ l. IsCommitted h l c.0) same c.1 }
    from (inl c) (suc n) e rest = later (rest n (ap (λ ys. slice_get ys (suc n)) (sym (kept-first h x c.0 xs c.1)) ∙ e))
    from (inr not) n e rest = later (rest n (ap (λ ys. slice_get ys n) (sym (left-first h x xs not)) ∙ e))

-- of two places the first line that is kept stays first
pub record ArePlaced (h : List (Transaction ℕ ℕ)) (xs : List ℕ) (first second : ℕ) : Type 0 where
  pub i : ℕ
  pub j : ℕ
  pub before : i < j
  pub first_at : slice_get (committed_in h xs) i ≡ Some first
  pub second_at : slice_get (committed_in h xs) j ≡ Some second

pub kept_at : (h : List (Transaction ℕ ℕ)) (xs : List ℕ) (i line : ℕ) (t : Transaction ℕ ℕ)
    → slice_get xs i ≡ Some line → IsCommitted h line t
    → (k : ℕ) × (slice_get (committed_in h xs) k ≡ Some line)
kept_at h [] i line t at c = absurd (cc (at))
kept_at h (x ∷ xs) zero line t at c =
    let same : x ≡ line = same_Some x line at in
    (0, ap (λ ys. slice_get ys 0) (kept-first h x t xs (subst (λ l. IsCommitted h l t) (sym same) c)) ∙ ap Some same)
kept_at h (x ∷ xs) (suc i) line t at c =
    let r = kept_at h xs i line t at c in
    elim (decide h x) [
      | inl d ↦ (suc r.0, ap (λ ys. slice_get ys (suc r.0)) (kept-first h x d.0 xs d.1) ∙ r.1)
      | inr not ↦ (r.0, ap (λ ys. slice_get ys r.0) (left-first h x xs not) ∙ r.1)
    ]

pub kept-both : (h : List (Transaction ℕ ℕ)) (xs : List ℕ) (i j a b : ℕ) (t u : Transaction ℕ ℕ) → i < j
    → slice_get xs i ≡ Some a → slice_get xs j ≡ Some b
    → IsCommitted h a t → IsCommitted h b u → ArePlaced h xs a b
kept-both h [] i j a b t u lt at at' c d = absurd (cc (at))
kept-both h (x ∷ xs) i zero a b t u lt at at' c d = absurd (omega arith)
kept-both h (x ∷ xs) zero (suc j) a b t u lt at at' c d =
    let same : x ≡ a = same_Some x a at in
    let c' = subst (λ l. IsCommitted h l t) (sym same) c in
    let r = kept_at h xs j b u at' d in
    record {
      i = 0;
      j = suc r.0;
      before = omega arith;
      first_at = ap (λ ys. slice_get ys 0) (kept-first h x t xs c') ∙ ap Some same;
      second_at = ap (λ ys. slice_get ys (suc r.0)) (kept-first h x t xs c') ∙ r.1;
    }
kept-both h (x ∷ xs) (suc i) (suc j) a b t u lt at at' c d =
    let r = kept-both h xs i j a b t u (omega arith) at at' c d in
    elim (decide h x) [
      | inl e ↦ record {
        i = suc r.i;
        j = suc r.j;
        before = omega (arith, r.before);
        first_at = ap (λ ys. slice_get ys (suc r.i)) (kept-first h x e.0 xs e.1) ∙ r.first_at;
        second_at = ap (λ ys. slice_get ys (suc r.j)) (kept-first h x e.0 xs e.1) ∙ r.second_at;
      }
      | inr not ↦ record {
        i = r.i;
        j = r.j;
        before = r.before;
        first_at = ap (λ ys. slice_get ys r.i) (left-first h x xs not) ∙ r.first_at;
        second_at = ap (λ ys. slice_get ys r.j) (left-first h x xs not) ∙ r.second_at;
      }
    ]

-- what stands once is kept once
pub kept-once : (h : List (Transaction ℕ ℕ)) (xs : List ℕ) → StandOnce xs → StandOnce (committed_in h xs)
kept-once h [] once i j x at at' = absurd (cc (at))
kept-once h (x ∷ xs) once i j y at at' =
    from (decide h x) i j at at' (kept-once h xs (λ a b z e f. suc-same a b (once (suc a) (suc b) z e f)))
  where
    suc-same : (a b : ℕ) → suc a ≡ suc b → a ≡ b
    suc-same a b e = omega (arith, e)

    nowhere : (k : ℕ) → slice_get (committed_in h xs) k ≡ Some x → ⊥
    nowhere k e =
        let r = kept-from h xs k x e in
        absurd (omega (arith, once 0 (suc r.i) x refl r.at))

    from : ((t : Transaction ℕ ℕ) × IsCommitted h x t) ⊎ ((t : Transaction ℕ ℕ) → IsCommitted h x t → ⊥) → (i j : ℕ)
        → slice_get (committed_in h (x ∷ xs)) i ≡ Some y → slice_get (committed_in h (x ∷ xs)) j ≡ Some y
        → StandOnce (committed_in h xs) → i ≡ j
    from (inl c) zero zero e f rest = refl
    from (inl c) zero (suc j) e f rest =
        let same : x ≡ y = same_Some x y (ap (λ ys. slice_get ys 0) (sym (kept-first h x c.0 xs c.1)) ∙ e) in
        absurd (nowhere j (ap (λ ys. slice_get ys (suc j)) (sym (kept-first h x c.0 xs c.1)) ∙ f ∙ ap Some (sym same)))
    from (inl c) (suc i) zero e f rest =
        let same : x ≡ y = same_Some x y (ap (λ ys. slice_get ys 0) (sym (kept-first h x c.0 xs c.1)) ∙ f) in
        absurd (nowhere i (ap (λ ys. slice_get ys (suc i)) (sym (kept-first h x c.0 xs c.1)) ∙ e ∙ ap Some (sym same)))
    from (inl c) (suc i) (suc j) e f rest =
        ap suc (rest i j y (ap (λ ys. slice_get ys (suc i)) (sym (kept-first h x c.0 xs c.1)) ∙ e)
        (ap (λ ys. slice_get ys (suc j)) (sym (kept-first h x c.0 xs c.1)) ∙ f))
    from (inr not) i j e f rest =
        rest i j y (ap (λ ys. slice_get ys i) (sym (left-first h x xs not))
        ∙ e) (ap (λ ys. slice_get ys j) (sym (left-first h x xs not)) ∙ f)

-- what is among the lines and commits is kept, and what is kept is among them
pub kept-among : (h : List (Transaction ℕ ℕ)) (xs : List ℕ) (line : ℕ) (t : Transaction ℕ ℕ) → IsCommitted h line t
    → Contains xs line → Contains (committed_in h xs) line
kept-among h xs line t c among =
    let at = Contains_at xs line among in
    let k = kept_at h xs at.0 line t at.1 c in
    Contains-from_at (committed_in h xs) k.0 line k.1

pub kept-back : (h : List (Transaction ℕ ℕ)) (xs : List ℕ) (line : ℕ) → Contains (committed_in h xs) line
    → Contains xs line
kept-back h xs line among =
    let at = Contains_at (committed_in h xs) line among in
    let k = kept-from h xs at.0 line at.1 in
    Contains-from_at xs k.i line k.at

-- where a line that is kept stands, and what is kept of those before it
pub record IsKeptAt (h : List (Transaction ℕ ℕ)) (xs : List ℕ) (place line : ℕ) : Type 0 where
  pub j : ℕ
  pub at : slice_get xs j ≡ Some line
  pub front : take place (committed_in h xs) ≡ committed_in h (take j xs)

pub kept-place : (h : List (Transaction ℕ ℕ)) (xs : List ℕ) (place line : ℕ)
    → slice_get (committed_in h xs) place ≡ Some line → IsKeptAt h xs place line
kept-place h [] place line at = absurd (cc (at))
kept-place h (x ∷ xs) place line at = from (decide h x) place at (λ m e. kept-place h xs m line e)
  where
    from : ((t : Transaction ℕ ℕ) × IsCommitted h x t) ⊎ ((t : Transaction ℕ ℕ) → IsCommitted h x t → ⊥) → (n : ℕ)
        → slice_get (committed_in h (x ∷ xs)) n ≡ Some line
        → ((m : ℕ) → slice_get (committed_in h xs) m ≡ Some line → IsKeptAt h xs m line) → IsKeptAt h (x ∷ xs) n line
    from (inl c) zero e rest =
        let same : x ≡ line = same_Some x line (ap (λ ys. slice_get ys 0) (sym (kept-first h x c.0 xs c.1)) ∙ e) in
        record { j = 0; at = ap Some same; front = refl }
    from (inl c) (suc n) e rest =
        let r = rest n (ap (λ ys. slice_get ys (suc n)) (sym (kept-first h x c.0 xs c.1)) ∙ e) in
        record {
          j = suc r.j;
          at = r.at;
          front = ap (take (suc n)) (kept-first h x c.0 xs c.1) ∙ ap (λ ys. x ∷ ys) r.front
              ∙ sym (kept-first h x c.0 (take r.j xs) c.1);
        }
    from (inr not) n e rest =
        let r = rest n (ap (λ ys. slice_get ys n) (sym (left-first h x xs not)) ∙ e) in
        record {
          j = suc r.j;
          at = r.at;
          front = ap (take n) (left-first h x xs not) ∙ r.front ∙ sym (left-first h x (take r.j xs) not);
        }
