-- What is given, by one operation or one line more; and in order.
use Rattle.std.proofs.Common.{◌≡◌, ◌≢◌, ℕ, zero, suc, ◌+◌, ◌-◌, ◌<◌, ◌≤◌, Bool, true, false, List, [], ◌∷◌, ◌++◌, Option, Some, None, length, refl, sym, ap, ◌∙◌, subst, arith, inl, inr, ◌⊎◌, All, Contains, get_or, append_assoc, append-nil, nat_cmp, is_lt, add-one}
use Rattle.std.specs.Prelude.{slice_get}
use Rattle.std.specs.Ordering.{ordering_then}
use Rattle.std.proofs.lemmas.Bool.{cases_eq, cases_lt, cases_order}
use Rattle.std.proofs.lemmas.Option.{same_Some, slice_get_within, get_or_from_slice_get}
use Rattle.std.proofs.lemmas.List.Elements.{All-append}
use Rattle.sgt_names.proofs.Places.{Contains_at, Contains-from_at, All_at, All-from_at}
use Rattle.sgt_names.proofs.Lists.{front_at, back_at, middle_at, within_at}
use Rattle.sgt_history.specs.declared.history.Operation.{Operation}
use Rattle.sgt_history.specs.Transaction.{Transaction}
use Rattle.sgt_history.specs.Conflicts.{IsOperation}
use Rattle.sgt_history_faults.specs.declared.giving.Given.{Given}
use Rattle.sgt_history_faults.specs.Given.{IsGivenOf, IsGivenAt, TakesGiven, IsGiven, AreGivenTo, MayStandBefore, AreGivenInOrder}
use Rattle.sgt_history_faults.proofs.Sorted.{lex4}

pub given-more : (line : ℕ) (done : List (Operation ℕ ℕ)) (n : ℕ) (before now : List Given) (g : Given)
    → IsGivenOf line done g → g.place ≡ n → TakesGiven line done n before now
    → TakesGiven line done (n + 1) before (now ++ g ∷ [])
given-more line done n before now g is place_is t = record {
  more = t.more ++ g ∷ [];
  is = ap (λ xs. xs ++ g ∷ []) t.is ∙ append_assoc before t.more (g ∷ []);
  each = All-append (IsGivenOf line done) t.more (g ∷ []) t.each
      (All-from_at (IsGivenOf line done) (g ∷ []) (λ k u at. alone k u at));
  all = λ place u v lt there has. elim (cases_eq place n) [
    | inl same ↦ record {
      g = g;
      in_it = Contains-from_at (t.more ++ g ∷ []) (length t.more) g (middle_at t.more g []);
      line_is = is.line_is;
      place_is = place_is ∙ sym same;
    }
    | inr apart ↦
        let old = t.all place u v (omega arith) there has in
        let at = Contains_at t.more old.g old.in_it in
        record {
          g = old.g;
          in_it = Contains-from_at (t.more ++ g ∷ []) at.0 old.g (front_at t.more (g ∷ []) at.0 old.g at.1);
          line_is = old.line_is;
          place_is = old.place_is;
        }
  ];
}
  where
    alone : (k : ℕ) (u : Given) → slice_get (g ∷ []) k ≡ Some u → IsGivenOf line done u
    alone zero u at = subst (IsGivenOf line done) (same_Some g u at) is
    alone (suc k) u at = absurd (cc (at))

-- ---- a line more

pub given-line : (h : List (Transaction ℕ ℕ)) (n : ℕ) (t : Transaction ℕ ℕ) (old new : List Given)
    → slice_get h n ≡ Some t → t.commits ≡ true
    → AreGivenTo h n old → TakesGiven n t.operations (length t.operations) old new → AreGivenTo h (n + 1) new
given-line h n t old new in_line commits are taken = record {
  each = subst (All (IsGiven h)) (sym taken.is) (All-append (IsGiven h) old taken.more are.each
      (All-from_at (IsGiven h) taken.more (λ k g at.
      let of = All_at (IsGivenOf n t.operations) taken.more k g taken.each at in
      record {
        t = t;
        o = of.o;
        is = record { committed = (ap (slice_get h) of.line_is ∙ in_line, commits); there = of.there };
        item_is = of.item_is;
        version_is = of.version_is;
        value_is = of.value_is;
      })));
  all = λ line place u o v lt is has. elim (cases_eq line n) [
    | inl same ↦
        let u_is : u ≡ t = same_Some u t (sym is.committed.0 ∙ ap (slice_get h) same ∙ in_line) in
        let there = ap (λ (k : Transaction ℕ ℕ). slice_get k.operations place) (sym u_is) ∙ is.there in
        let f = taken.all place o v (slice_get_within t.operations place o there) there has in
        let at = Contains_at taken.more f.g f.in_it in
        record {
          g = f.g;
          in_it = Contains-from_at new (length old + at.0) f.g
              (ap (λ xs. slice_get xs (length old + at.0)) taken.is ∙ back_at old taken.more at.0 ∙ at.1);
          line_is = f.line_is ∙ sym same;
          place_is = f.place_is;
        }
    | inr apart ↦
        let f = are.all line place u o v (omega arith) is has in
        let at = Contains_at old f.g f.in_it in
        record {
          g = f.g;
          in_it = Contains-from_at new at.0 f.g (ap (λ xs. slice_get xs at.0) taken.is
              ∙ front_at old taken.more at.0 f.g at.1);
          line_is = f.line_is;
          place_is = f.place_is;
        }
  ];
}

pub given-aborted : (h : List (Transaction ℕ ℕ)) (n : ℕ) (t : Transaction ℕ ℕ) (given : List Given)
    → slice_get h n ≡ Some t → t.commits ≡ false
    → AreGivenTo h n given → AreGivenTo h (n + 1) given
given-aborted h n t given in_line aborts are = record {
  each = are.each;
  all = λ line place u o v lt is has. elim (cases_eq line n) [
    | inl same ↦
        let u_is : u ≡ t = same_Some u t (sym is.committed.0 ∙ ap (slice_get h) same ∙ in_line) in
        let f = sym is.committed.1 ∙ ap (λ (k : Transaction ℕ ℕ). k.commits) u_is ∙ aborts in cc
    | inr apart ↦ are.all line place u o v (omega arith) is has
  ];
}

-- ---- in order

pub stand-on : (a b c : Given) → MayStandBefore a b → MayStandBefore b c → MayStandBefore a c
stand-on a b c (inl x) (inl y) = inl (omega (arith, x, y))
stand-on a b c (inl x) (inr (e, y)) = inl (omega (arith, x, e))
stand-on a b c (inr (e, x)) (inl y) = inl (omega (arith, e, y))
stand-on a b c (inr (e, inl x)) (inr (f, inl y)) = inr (e ∙ f, inl (omega (arith, x, y)))
stand-on a b c (inr (e, inl x)) (inr (f, inr (g, y))) = inr (e ∙ f, inl (omega (arith, x, g)))
stand-on a b c (inr (e, inr (k, x))) (inr (f, inl y)) = inr (e ∙ f, inl (omega (arith, k, y)))
stand-on a b c (inr (e, inr (k, inl x))) (inr (f, inr (g, inl y))) = inr (e ∙ f, inr (k ∙ g, inl (omega (arith, x, y))))
stand-on a b c (inr (e, inr (k, inl x))) (inr (f, inr (g, inr (m, y)))) =
    inr (e ∙ f, inr (k ∙ g, inl (omega (arith, x, m))))
stand-on a b c (inr (e, inr (k, inr (m, x)))) (inr (f, inr (g, inl y))) =
    inr (e ∙ f, inr (k ∙ g, inl (omega (arith, m, y))))
stand-on a b c (inr (e, inr (k, inr (m, x)))) (inr (f, inr (g, inr (n, y)))) =
    inr (e ∙ f, inr (k ∙ g, inr (m ∙ n, omega (arith, x, y))))

-- each is compared with the one before
pub record AreGivenCompared (given : List Given) : Type 0 where
  pub each : (k : ℕ) (d : Given) → k + 1 < length given
      → is_lt (ordering_then
      (ordering_then (ordering_then (nat_cmp (get_or given (k + 1) d).item (get_or given k d).item)
      (nat_cmp (get_or given (k + 1) d).version (get_or given k d).version))
      (nat_cmp (get_or given (k + 1) d).line (get_or given k d).line))
      (nat_cmp (get_or given (k + 1) d).place (get_or given k d).place)) ≡ false

next-stands : (given : List Given) → AreGivenCompared given → (k : ℕ) (a b : Given) → slice_get given k ≡ Some a
    → slice_get given (suc k) ≡ Some b
    → MayStandBefore a b
next-stands given c k a b at at' =
    let lt = slice_get_within given (suc k) b at' in
    let one = get_or_from_slice_get given k a a at in
    let two : get_or given (k + 1) a ≡ b = rw add-one (get_or_from_slice_get given (suc k) b a at') in
    let h = c.each k a (omega (arith, lt)) in
    subst (λ x. MayStandBefore x b) one (subst (MayStandBefore (get_or given k a)) two
    (lex4 (get_or given (k + 1) a).item (get_or given k a).item (get_or given (k + 1) a).version
    (get_or given k a).version
    (get_or given (k + 1) a).line (get_or given k a).line (get_or given (k + 1) a).place (get_or given k a).place h))

pub given-in-order : (given : List Given) → AreGivenCompared given → AreGivenInOrder given
given-in-order given c i zero a b lt at at' = absurd (omega arith)
given-in-order given c i (suc m) a b lt at at' =
    elim (cases_order i m) [
      | inl e ↦ next-stands given c m a b (ap (slice_get given) (sym e) ∙ at) at'
      | inr (inl less) ↦
          let k = within_at given m (omega (arith, slice_get_within given (suc m) b at')) in
          stand-on a k.0 b (given-in-order given c i m a k.0 less at k.1) (next-stands given c m k.0 b k.1 at')
      | inr (inr more) ↦ absurd (omega (arith, lt, more))
    ]
