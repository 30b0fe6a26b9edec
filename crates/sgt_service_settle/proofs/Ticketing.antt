-- The decisions of a history, as a walk over its calls meets them.
use Rattle.std.proofs.Common.{◌≡◌, ◌↔◌, ◌≤◌, ◌<◌, ◌+◌, ℕ, suc, List, [], ◌∷◌, ◌++◌, drop, length, true, false, Some, refl, sym, ap, ◌∙◌, subst, arith, append_assoc}
use Rattle.std.specs.Prelude.{slice_get, count_by, cond}
use Rattle.std.proofs.lemmas.Option.{same_Some, slice_get_within}
use Rattle.sgt_certifier.specs.declared.call.Call.{Call}
use Rattle.sgt_certifier.specs.declared.call.Call.TheVariants as call
use Rattle.sgt_certifier.specs.declared.call.Decided.TheVariants as decided
use Rattle.sgt_certifier.specs.Certifier.{Ruling, withdrawn}
use Rattle.sgt_certifier.specs.Kept.{rulings_from, windows_after, ruling_of, tx_at}
use Rattle.std.proofs.lemmas.List.{length_push, append-nil, drop_all}
use Rattle.std.proofs.lemmas.List.Recursion.{is_count_by}
use Rattle.sgt_certifier.proofs.Certifying.{rulings_split, windows_few}
use Rattle.sgt_workers.specs.declared.ticket.Ticket.{Ticket}
use Rattle.sgt_service_settle.specs.Settled.{Tells, IsGood}
use Rattle.sgt_service_settle.specs.private.Tickets.{IsToldBy, is_decision}
use Rattle.sgt_names.proofs.Elements.{get-push_last}
use Rattle.sgt_names.proofs.Lists.{front_at, drop_next}

-- so many decisions were met, none of the ticket's number yet, and these are the rest
pub record IsWalked (history : List Call) (n begun before number sought : ℕ) : Type 0 where
  pub met : List Ruling
  pub whole : rulings_from 0 0 history ≡ met ++ rulings_from begun before (drop n history)
  pub many : length met ≡ number
  pub early : number ≤ sought
  pub few : begun ≤ n

-- a call that decides nothing, and one that decides
pub not_decision : (begun before : ℕ) (c : Call) → is_decision c ≡ false → rulings_from 0 before (c ∷ []) ≡ []
not_decision begun before (call.Begin tx h) other = refl
not_decision begun before (call.Decide h edges reply) other = absurd cc
not_decision begun before (call.Finish tx) other = refl
not_decision begun before (call.Withdraw h number) other = absurd cc
not_decision begun before (call.Close ranks) other = refl
not_decision begun before (call.Installed tx site items) other = refl

-- the decision of a call
abbrev pub Rules : ℕ → Call → Ruling → Type 0
Rules before c r = rulings_from 0 before (c ∷ []) ≡ r ∷ []

pub decision_rules : (before : ℕ) (c : Call) → is_decision c ≡ true → (r : Ruling) × Rules before c r
decision_rules before (call.Begin tx h) is = absurd cc
decision_rules before (call.Decide h edges reply) is = (ruling_of (tx_at before h) reply, refl)
decision_rules before (call.Finish tx) is = absurd cc
decision_rules before (call.Withdraw h number) is = (withdrawn (tx_at before h), refl)
decision_rules before (call.Close ranks) is = absurd cc
decision_rules before (call.Installed tx site items) is = absurd cc

pub step_on : (history : List Call) (n begun before : ℕ) (met : List Ruling) (c : Call)
    → rulings_from 0 0 history ≡ met ++ rulings_from begun before (drop n history) → slice_get history n ≡ Some c
    → rulings_from 0 0 history ≡ (met ++ rulings_from 0 before (c ∷ [])) ++ rulings_from
    (windows_after begun before c).0 (windows_after begun before c).1 (drop (n + 1) history)
step_on history n begun before met c whole at =
    let rest : rulings_from begun before (drop n history) ≡ rulings_from 0 before (c ∷ []) ++ rulings_from
    (windows_after begun before c).0 (windows_after begun before c).1 (drop (n + 1) history) =
    ap (rulings_from begun before) (drop_next history n c at) ∙ rulings_split begun before c (drop (n + 1) history) in
    whole ∙ (ap (λ xs. met ++ xs) rest ∙ sym (append_assoc met (rulings_from 0 before (c ∷ [])) _))

step_whole : (history : List Call) (n begun before number sought : ℕ) (c : Call)
    → IsWalked history n begun before number sought → slice_get history n ≡ Some c
    → (met : List Ruling)
    × (rulings_from 0 0 history ≡ (met ++ rulings_from 0 before (c ∷ [])) ++ rulings_from
    (windows_after begun before c).0 (windows_after begun before c).1 (drop (n + 1) history)) × (length met ≡ number)
step_whole history n begun before number sought c w at =
    (w.met, step_on history n begun before w.met c w.whole at, w.many)

head_same : (a b : Ruling) → a ∷ [] ≡ b ∷ [] → a ≡ b
head_same a b e = cc

-- the ticket tells the ruling of the call
told_by : (t : Ticket) (before : ℕ) (c : Call) (r : Ruling) → Rules before c r → IsToldBy t before c ↔ Tells t r
told_by t before (call.Begin tx h) r is = absurd cc
told_by t before (call.Decide h edges (decided.Committed number)) r is = let same = head_same _ r is in
    (λ k. subst (Tells t) same k, λ k. subst (Tells t) (sym same) k)
told_by t before (call.Decide h edges (decided.Refused number walk)) r is = let same = head_same _ r is in
    (λ k. subst (Tells t) same k, λ k. subst (Tells t) (sym same) k)
told_by t before (call.Finish tx) r is = absurd cc
told_by t before (call.Withdraw h number) r is = let same = head_same _ r is in
    (λ k. subst (Tells t) same k, λ k. subst (Tells t) (sym same) k)
told_by t before (call.Close ranks) r is = absurd cc
told_by t before (call.Installed tx site items) r is = absurd cc

pub walk_hit : (history : List Call) (n begun before number : ℕ) (t : Ticket) (c : Call)
    → IsWalked history n begun before number t.number → slice_get history n ≡ Some c → is_decision c ≡ true
    → number ≡ t.number → IsToldBy t before c ↔ IsGood (rulings_from 0 0 history) t
walk_hit history n begun before number t c w at is hit =
    let step = step_whole history n begun before number t.number c w at in
    let rule = decision_rules before c is in
    let rest = rulings_from (windows_after begun before c).0 (windows_after begun before c).1 (drop (n + 1) history) in
    let place : slice_get (rulings_from 0 0 history) t.number ≡ Some rule.0 =
    ap (λ xs. slice_get xs t.number) (step.1 ∙ ap (λ xs. (step.0 ++ xs) ++ rest) rule.1)
    ∙ front_at (step.0 ++ rule.0 ∷ []) rest t.number rule.0
    (ap (slice_get (step.0 ++ rule.0 ∷ [])) (sym hit ∙ sym step.2) ∙ get-push_last step.0 rule.0) in
    let told = told_by t before c rule.0 rule.1 in (
      λ k. (rule.0, place, told.0 k),
      λ good. told.1 (subst (Tells t) (same_Some good.0 rule.0 (sym good.1 ∙ place)) good.2),
    )

pub walk_decided : (history : List Call) (n begun before number sought : ℕ) (c : Call)
    → IsWalked history n begun before number sought → slice_get history n ≡ Some c → is_decision c ≡ true
    → number < sought → IsWalked history (n + 1) (windows_after begun before c).0 (windows_after begun before c).1
    (number + 1) sought
walk_decided history n begun before number sought c w at is early =
    let step = step_whole history n begun before number sought c w at in
    let rule = decision_rules before c is in
    let few = windows_few begun before c in
    record {
      met = step.0 ++ rule.0 ∷ [];
      whole = step.1
          ∙ ap (λ xs. (step.0 ++ xs) ++ rulings_from (windows_after begun before c).0 (windows_after begun before c).1
          (drop (n + 1) history)) rule.1;
      many = length_push step.0 rule.0 ∙ ap (λ k. k + 1) step.2;
      early = omega (arith, early);
      few = omega (arith, few, w.few);
    }

pub walk_on : (history : List Call) (n begun before number sought : ℕ) (c : Call)
    → IsWalked history n begun before number sought → slice_get history n ≡ Some c → is_decision c ≡ false
    → IsWalked history (n + 1) (windows_after begun before c).0 (windows_after begun before c).1 number sought
walk_on history n begun before number sought c w at other =
    let step = step_whole history n begun before number sought c w at in
    let few = windows_few begun before c in
    let rest = rulings_from (windows_after begun before c).0 (windows_after begun before c).1 (drop (n + 1) history) in
    record {
      met = step.0;
      whole = step.1 ∙ (ap (λ xs. (step.0 ++ xs) ++ rest) (not_decision begun before c other)
          ∙ ap (λ xs. xs ++ rest) (append-nil step.0));
      many = step.2;
      early = w.early;
      few = omega (arith, few, w.few);
    }

pub walk_ends : (history : List Call) (n begun before number : ℕ) (t : Ticket)
    → IsWalked history n begun before number t.number → length history ≤ n → IsGood (rulings_from 0 0 history) t → ⊥
walk_ends history n begun before number t w all good =
    let rest : rulings_from 0 0 history ≡ w.met = w.whole
    ∙ (ap (λ xs. w.met ++ rulings_from begun before xs) (drop_all n history all) ∙ append-nil w.met) in
    let low = slice_get_within w.met t.number good.0 (ap (λ xs. slice_get xs t.number) (sym rest) ∙ good.1) in
    omega (arith, low, w.many, w.early)

-- ---- counts

many_same : (begun before begun' before' : ℕ) (calls : List Call)
    → length (rulings_from begun before calls) ≡ length (rulings_from begun' before' calls)
many_same begun before begun' before' [] = refl
many_same begun before begun' before' (call.Begin tx h ∷ cs) = many_same (suc begun) before (suc begun') before' cs
many_same begun before begun' before' (call.Decide h edges reply ∷ cs) =
    ap suc (many_same begun before begun' before' cs)
many_same begun before begun' before' (call.Finish tx ∷ cs) = many_same begun before begun' before' cs
many_same begun before begun' before' (call.Withdraw h number ∷ cs) = ap suc (many_same begun before begun' before' cs)
many_same begun before begun' before' (call.Close ranks ∷ cs) = many_same begun begun begun' begun' cs
many_same begun before begun' before' (call.Installed tx site items ∷ cs) = many_same begun before begun' before' cs

abbrev many_of : List Call → ℕ
many_of calls = length (rulings_from 0 0 calls)

many_next : (c : Call) (cs : List Call) → many_of (c ∷ cs) ≡ cond (is_decision c) (1 + many_of cs) (many_of cs)
many_next (call.Begin tx h) cs = many_same 1 0 0 0 cs
many_next (call.Decide h edges reply) cs = omega arith
many_next (call.Finish tx) cs = refl
many_next (call.Withdraw h number) cs = omega arith
many_next (call.Close ranks) cs = refl
many_next (call.Installed tx site items) cs = refl

pub many_decisions : (history : List Call) → length (rulings_from 0 0 history) ≡ count_by is_decision history
many_decisions history = is_count_by many_of is_decision refl many_next history
