-- No two events are spelled alike; what bytes spell no event; what is written is read.
use Rattle.std.proofs.Common.{◌≡◌, ◌≢◌, ℕ, ◌≤◌, List, ◌∷◌, length, length-append, refl, sym, ap, ◌∙◌, arith, lit<, lit≤, Result, Ok, Err}
use Rattle.std.specs.Prelude.{decimal}
use Rattle.std.proofs.lemmas.Bool.{eqb-false}
use Rattle.std.proofs.lemmas.Fmt.{length-decimal-le}
use Rattle.std.proofs.lemmas.List.Elements.{All-from_recursion}
use Rattle.sgt_names.specs.Name.{Name}
use Rattle.sgt_names.proofs.Lists.{tails}
use Rattle.sgt_notation.specs.Events.{access, event_text, update, visit, IsEventLine}
use Rattle.sgt_notation.specs.PrivateEvents.{IsAccess, IsUpdate, IsVisit, access_text, update_text, visit_text}
use Rattle.sgt_notation.specs.Reading.{Reads, SpellsNone}
use Rattle.sgt_notation.specs.Spelling.{HasNoLf, IsSite}
use Rattle.sgt_notation.specs.declared.event.Event.TheVariants.{Begin, Read, Put, Add, Gather, Decide, Install, Commit, Withdraw, Close}
use Rattle.sgt_notation.specs.declared.event.EventLine.{EventLine}
use Rattle.sgt_notation.specs.declared.event.EventLine.TheVariants.{One, ToDecide}
use Rattle.sgt_notation.specs.declared.fault.NotationFault.{NotationFault}
use Rattle.sgt_notation.proofs.OneSpelling.{HasNot, apart, decimal-one_line, small-tx}
use Rattle.sgt_notation.proofs.EventParts.{access-one, access-without, tx-one, update-one, update-without, visit-one, visit-without}
use Rattle.sgt_notation.proofs.Pairs.{IsOne}
use Rattle.sgt_notation.proofs.Short.{tx-short, value-short}
use Rattle.sgt_names.proofs.Stored.{name-length}

pub event-one : IsOne IsEventLine event_text
event-one (One (Gather t s)) f h g e = absurd h
event-one (One (Decide t)) f h g e = absurd h
event-one (One Begin) (One Begin) h g e = refl
event-one (One Close) (One Close) h g e = refl
event-one (One (Read t s x)) (One (Read u r y)) h g e =
    let same = access-one (t, (s, x)) (u, (r, y)) h g (tails 114 114 (access t s x) (access u r y) e) in
    ap (λ (a : ℕ × (ℕ × Name)). One (Read a.0 a.1.0 a.1.1)) same
event-one (One (Put t s x v)) (One (Put u r y w)) h g e =
    let same = update-one ((t, (s, x)), v) ((u, (r, y)), w) h g (tails 119 119 (update t s x v) (update u r y w) e) in
    ap (λ (a : (ℕ × (ℕ × Name)) × ℕ). One (Put a.0.0 a.0.1.0 a.0.1.1 a.1)) same
event-one (One (Add t s x v)) (One (Add u r y w)) h g e =
    let same = update-one ((t, (s, x)), v) ((u, (r, y)), w) h g (tails 100 100 (update t s x v) (update u r y w) e) in
    ap (λ (a : (ℕ × (ℕ × Name)) × ℕ). One (Add a.0.0 a.0.1.0 a.0.1.1 a.1)) same
event-one (One (Install t s)) (One (Install u r)) h g e =
    ap (λ (a : ℕ × ℕ). One (Install a.0 a.1)) (visit-one (t, s) (u, r) h g (tails 105 105 (visit t s) (visit u r) e))
event-one (One (Commit t)) (One (Commit u)) h g e =
    ap (λ n. One (Commit n)) (tx-one t u h g (tails 99 99 (decimal t) (decimal u) e))
event-one (One (Withdraw t)) (One (Withdraw u)) h g e =
    ap (λ n. One (Withdraw n)) (tx-one t u h g (tails 97 97 (decimal t) (decimal u) e))
event-one (ToDecide t) (ToDecide u) h g e = ap ToDecide (tx-one t u h g (tails 118 118 (decimal t) (decimal u) e))
event-one (ToDecide t) (One Begin) h g e = absurd (apart (event_text (ToDecide t)) (event_text (One Begin)) refl e)
event-one d f h g e = absurd (apart (event_text d) (event_text f) refl e)

-- ---- behind the letter of a kind stands no such event

pub read_not : (line rest : List ℕ) → line ≡ 114 ∷ rest → SpellsNone IsAccess access_text rest
    → SpellsNone IsEventLine event_text line
read_not line rest is none (One (Read tx s x)) ok whole = none (tx, (s, x)) ok (tails _ _ _ _ (sym is ∙ whole))
read_not line rest is none e ok whole = absurd (apart (114 ∷ rest) (event_text e) refl (sym is ∙ whole))

pub put_not : (line rest : List ℕ) → line ≡ 119 ∷ rest → SpellsNone IsUpdate update_text rest
    → SpellsNone IsEventLine event_text line
put_not line rest is none (One (Put tx s x v)) ok whole = none ((tx, (s, x)), v) ok (tails _ _ _ _ (sym is ∙ whole))
put_not line rest is none e ok whole = absurd (apart (119 ∷ rest) (event_text e) refl (sym is ∙ whole))

pub add_not : (line rest : List ℕ) → line ≡ 100 ∷ rest → SpellsNone IsUpdate update_text rest
    → SpellsNone IsEventLine event_text line
add_not line rest is none (One (Add tx s x v)) ok whole = none ((tx, (s, x)), v) ok (tails _ _ _ _ (sym is ∙ whole))
add_not line rest is none e ok whole = absurd (apart (100 ∷ rest) (event_text e) refl (sym is ∙ whole))

pub install_not : (line rest : List ℕ) → line ≡ 105 ∷ rest → SpellsNone IsVisit visit_text rest
    → SpellsNone IsEventLine event_text line
install_not line rest is none (One (Install tx s)) ok whole = none (tx, s) ok (tails _ _ _ _ (sym is ∙ whole))
install_not line rest is none e ok whole = absurd (apart (105 ∷ rest) (event_text e) refl (sym is ∙ whole))

-- ---- an event is short, and has no LF

site-short : (s : ℕ) → IsSite s → length (decimal s) ≤ 2
site-short s h = length-decimal-le 2 s (lit< tt) (omega (arith, h)) (omega (arith, h))

access-short : (a : ℕ × (ℕ × Name)) → IsAccess a → length (access_text a) ≤ 31
access-short a h = simp length-append (omega (arith, tx-short a.0 h.0, site-short a.1.0 h.1.0, name-length a.1.1 h.1.1))

update-short : (u : (ℕ × (ℕ × Name)) × ℕ) → IsUpdate u → length (update_text u) ≤ 52
update-short u h =
    let both = length-append (access_text u.0) (61 ∷ decimal u.1) in
    omega (arith, both, access-short u.0 h.0, value-short u.1 h.1)

visit-short : (v : ℕ × ℕ) → IsVisit v → length (visit_text v) ≤ 13
visit-short v h = simp length-append (omega (arith, tx-short v.0 h.0, site-short v.1 h.1))

pub event-short : (e : EventLine) → IsEventLine e → length (event_text e) ≤ 53
event-short (One Begin) h = lit≤ tt
event-short (One Close) h = lit≤ tt
event-short (One (Gather tx s)) h = absurd h
event-short (One (Decide tx)) h = absurd h
event-short (One (Read tx s x)) h = let short = access-short (tx, (s, x)) h in omega (arith, short)
event-short (One (Put tx s x v)) h = let short = update-short ((tx, (s, x)), v) h in omega (arith, short)
event-short (One (Add tx s x v)) h = let short = update-short ((tx, (s, x)), v) h in omega (arith, short)
event-short (One (Install tx s)) h = let short = visit-short (tx, s) h in omega (arith, short)
event-short (One (Commit tx)) h = omega (arith, tx-short tx h)
event-short (One (Withdraw tx)) h = omega (arith, tx-short tx h)
event-short (ToDecide tx) h = omega (arith, tx-short tx h)

event-one_line : (e : EventLine) → IsEventLine e → HasNot 10 (event_text e)
event-one_line (One Begin) h = (eqb-false 98 10 refl, tt)
event-one_line (One Close) h = (eqb-false 122 10 refl, tt)
event-one_line (One (Gather tx s)) h = absurd h
event-one_line (One (Decide tx)) h = absurd h
event-one_line (One (Read tx s x)) h =
    (eqb-false 114 10 refl, access-without 10 decimal-one_line refl refl refl refl (tx, (s, x)) h)
event-one_line (One (Put tx s x v)) h =
    (eqb-false 119 10 refl, update-without 10 decimal-one_line refl refl refl refl refl ((tx, (s, x)), v) h)
event-one_line (One (Add tx s x v)) h =
    (eqb-false 100 10 refl, update-without 10 decimal-one_line refl refl refl refl refl ((tx, (s, x)), v) h)
event-one_line (One (Install tx s)) h = (eqb-false 105 10 refl, visit-without 10 decimal-one_line refl refl (tx, s) h)
event-one_line (One (Commit tx)) h = (eqb-false 99 10 refl, decimal-one_line tx (small-tx tx h))
event-one_line (One (Withdraw tx)) h = (eqb-false 97 10 refl, decimal-one_line tx (small-tx tx h))
event-one_line (ToDecide tx) h = (eqb-false 118 10 refl, decimal-one_line tx (small-tx tx h))

pub event-no_lf : (e : EventLine) → IsEventLine e → HasNoLf (event_text e)
event-no_lf e h = All-from_recursion (λ b. b ≢ 10) (event_text e) (event-one_line e h)

-- ---- what is written is read

pub event-back : (e : EventLine) (r : Result EventLine NotationFault) → IsEventLine e
    → Reads IsEventLine event_text (event_text e) r → r ≡ Ok e
event-back e (Ok f) is (ok, same) = ap Ok (event-one f e ok is (sym same))
event-back e (Err f) is (refuses, none) = absurd (none e is refl)
