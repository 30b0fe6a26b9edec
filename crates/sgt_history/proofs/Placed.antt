-- Where the operations of transactions stand in their run.
use Rattle.std.proofs.Common.{◌≡◌, ◌≢◌, ℕ, zero, suc, ◌+◌, ◌-◌, ◌<◌, ◌≤◌, List, [], ◌∷◌, ◌++◌, Option, Some, None, length, take, refl, sym, ap, ◌∙◌, subst, arith, inl, inr, length-append}
use Rattle.std.specs.Prelude.{slice_get}
use Rattle.std.proofs.lemmas.Bool.{cases_order}
use Rattle.std.proofs.lemmas.Option.{same_Some, slice_get_within}
use Rattle.sgt_names.proofs.Lists.{option_cases, front_at, back_at, within_at}
use Rattle.sgt_history.specs.declared.history.Operation.{Operation}
use Rattle.sgt_history.specs.Transaction.{Transaction}
use Rattle.sgt_history.specs.Serial.{operations_in, run_of}
use Rattle.sgt_history.proofs.Runs.{one_at}

-- where the operations of the order's i-th line begin
abbrev pub start_of : {I V : Type 0} → List (Transaction I V) → List ℕ → ℕ → ℕ
start_of h order i = length (run_of h (take i order))

-- the run's operation p is operation j of the order's i-th line
pub record IsPlaced {I V : Type 0} (h : List (Transaction I V)) (order : List ℕ) (p i line : ℕ) (t : Transaction I V)
    (j : ℕ)
    (o : Operation I V) : Type 0 where
  pub at : slice_get order i ≡ Some line
  pub in_line : slice_get h line ≡ Some t
  pub there : slice_get t.operations j ≡ Some o
  pub is : p ≡ start_of h order i + j

pub in_run : {I V : Type 0} (h : List (Transaction I V)) (order : List ℕ) (p i line : ℕ) (t : Transaction I V) (j : ℕ)
    (o : Operation I V)
    → IsPlaced h order p i line t j o → slice_get (run_of h order) p ≡ Some o
in_run h [] p i line t j o s = absurd (cc (s.at))
in_run h (l ∷ ls) p zero line t j o s =
    let e : l ≡ line = same_Some l line s.at in
    let ops : operations_in (slice_get h l) ≡ t.operations = ap (λ k. operations_in (slice_get h k)) e
    ∙ ap operations_in s.in_line in
    let here : slice_get (operations_in (slice_get h l)) j ≡ Some o = ap (λ os. slice_get os j) ops ∙ s.there in
    let q : p ≡ j = omega (arith, s.is) in
    rw q (front_at (operations_in (slice_get h l)) (run_of h ls) j o here)
in_run h (l ∷ ls) p (suc i) line t j o s =
    let len = length-append (operations_in (slice_get h l)) (run_of h (take i ls)) in
    let q : p ≡ length (operations_in (slice_get h l)) + (start_of h ls i + j) = omega (arith, s.is, len) in
    rw q (back_at (operations_in (slice_get h l)) (run_of h ls) (start_of h ls i + j)
    ∙ in_run h ls (start_of h ls i + j) i line t j o (record {
      at = s.at;
      in_line = s.in_line;
      there = s.there;
      is =
          refl;
    }))

pub record IsFound {I V : Type 0} (h : List (Transaction I V)) (order : List ℕ) (p : ℕ) (o : Operation I V) : Type 0
  where
    pub i : ℕ
    pub line : ℕ
    pub t : Transaction I V
    pub j : ℕ
    pub placed : IsPlaced h order p i line t j o

pub found_in_run : {I V : Type 0} (h : List (Transaction I V)) (order : List ℕ) (p : ℕ) (o : Operation I V)
    → slice_get (run_of h order) p ≡ Some o → IsFound h order p o
found_in_run h [] p o e = absurd (cc (e))
found_in_run {I} {V} h (l ∷ ls) p o e =
    elim (cases_order p (length (operations_in (slice_get h l)))) [
      | inl same ↦ behind (λ q e. found_in_run h ls q o e) (omega (arith, same))
      | inr (inl lt) ↦ here lt
      | inr (inr gt) ↦ behind (λ q e. found_in_run h ls q o e) (omega (arith, gt))
    ]
  where
    here : p < length (operations_in (slice_get h l)) → IsFound h (l ∷ ls) p o
    here lt =
        let found = within_at (operations_in (slice_get h l)) p lt in
        let front = front_at (operations_in (slice_get h l)) (run_of h ls) p found.0 found.1 in
        let same : found.0 ≡ o = same_Some found.0 o (sym front ∙ e) in
        elim (option_cases (slice_get h l)) [
          | inl none ↦
              let no : operations_in (slice_get h l) ≡ [] = ap operations_in none in
              absurd (omega (arith, lt, ap length no))
          | inr some ↦ record {
            i = zero;
            line = l;
            t = some.0;
            j = p;
            placed = record {
              at = refl;
              in_line = some.1;
              there = sym (ap (λ k. slice_get (operations_in k) p) some.1) ∙ found.1 ∙ ap Some same;
              is = omega arith;
            };
          }
        ]

    behind : ((q : ℕ) → slice_get (run_of h ls) q ≡ Some o → IsFound h ls q o)
        → length (operations_in (slice_get h l)) ≤ p → IsFound h (l ∷ ls) p o
    behind more le =
        let q = p - length (operations_in (slice_get h l)) in
        let sum : p ≡ length (operations_in (slice_get h l)) + q = omega (arith, le) in
        let back : slice_get (run_of h ls) q ≡ Some o =
        sym (back_at (operations_in (slice_get h l)) (run_of h ls) q)
        ∙ ap (slice_get (operations_in (slice_get h l) ++ run_of h ls)) (sym sum) ∙ e in
        let rest = more q back in
        let len = length-append (operations_in (slice_get h l)) (run_of h (take rest.i ls)) in
        record {
          i = suc rest.i;
          line = rest.line;
          t = rest.t;
          j = rest.j;
          placed = record {
            at = rest.placed.at;
            in_line = rest.placed.in_line;
            there = rest.placed.there;
            is = omega (arith, sum, rest.placed.is, len);
          };
        }

pub starts-rise : {I V : Type 0} (h : List (Transaction I V)) (order : List ℕ) (i k line : ℕ) (t : Transaction I V)
    → slice_get order i ≡ Some line → slice_get h line ≡ Some t → i < k
    → start_of h order i + length t.operations ≤ start_of h order k
starts-rise h [] i k line t at there lt = absurd (cc (at))
starts-rise h (l ∷ ls) zero zero line t at there lt = absurd (omega arith)
starts-rise h (l ∷ ls) zero (suc k) line t at there lt =
    let e : l ≡ line = same_Some l line at in
    let ops : operations_in (slice_get h l) ≡ t.operations = ap (λ k. operations_in (slice_get h k)) e
    ∙ ap operations_in there in
    omega (arith, length-append (operations_in (slice_get h l)) (run_of h (take k ls)), ap length ops)
starts-rise h (l ∷ ls) (suc i) zero line t at there lt = absurd (omega arith)
starts-rise h (l ∷ ls) (suc i) (suc k) line t at there lt =
    let rest = starts-rise h ls i k line t at there (omega arith) in
    omega (
      arith,
      length-append (operations_in (slice_get h l)) (run_of h (take i ls)),
      length-append (operations_in (slice_get h l)) (run_of h (take k ls)),
      rest,
    )

-- an operation of an earlier line stands before one of a later line
pub earlier-before : {I V : Type 0} (h : List (Transaction I V)) (order : List ℕ) (p i line : ℕ) (t : Transaction I V)
    (j : ℕ) (o : Operation I V)
    (p' i' line' : ℕ) (t' : Transaction I V) (j' : ℕ) (o' : Operation I V)
    → IsPlaced h order p i line t j o → IsPlaced h order p' i' line' t' j' o' → i < i' → p < p'
earlier-before h order p i line t j o p' i' line' t' j' o' s s' lt =
    let rise = starts-rise h order i i' line t s.at s.in_line lt in
    omega (arith, s.is, s'.is, slice_get_within t.operations j o s.there, rise)
