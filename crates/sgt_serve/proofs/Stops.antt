-- A talk stops, or goes on.
use Rattle.std.proofs.Common.{◌≡◌, ◌≢◌, ◌<◌, ◌+◌, ℕ, List, [], ◌∷◌, ◌++◌, length, take, drop, refl, sym, ◌∙◌, ap, subst, inl, inr, Option, Some, None, Ok, Err}
use Rattle.std.proofs.lemmas.List.{append-nil}
use Rattle.std.specs.Prelude.{codes}
use Rattle.sgt_names.specs.Limits.{max_line}
use Rattle.sgt_notation.specs.Lines.{IsLongerThan}
use Rattle.sgt_core_machine.specs.Machine.{Parts}
use Rattle.sgt_courses.specs.declared.answer.Answer.{Answer}
use Rattle.sgt_pipe.specs.Acts.{WritesPart}
use Rattle.sgt_pipe.specs.Fronts.{IsPart}
use Rattle.sgt_pipe.specs.declared.history.History.{History}
use Rattle.sgt_serve.specs.declared.stop.Stop.{Stop}
use Rattle.sgt_serve.specs.declared.stop.Stop.TheVariants as stop
use Rattle.sgt_serve.specs.Place.{Kept}
use Rattle.sgt_serve.specs.Talk.{answer_line}
use Rattle.sgt_serve.specs.private.Turning.{Takes}
use Rattle.sgt_serve.specs.private.Talking.{ComesOn, Desk, Flushes, HasCome, SaysLast, Stops, StopsOr, TakesFront, desk}
use Rattle.sgt_serve.proofs.Talks.{flushed_on, said_last}

-- on, and then so
pub stops_then : (s : Stop) (a b c : Desk) → ComesOn a b → Stops s b c → Stops s a c
stops_then s a b c p q sites before h = q sites before (p sites before h)

pub stops_or_then : (o : Option Stop) (a b c : Desk) → ComesOn a b → StopsOr o b c → StopsOr o a c
stops_or_then None a b c p q = λ sites before h. q sites before (p sites before h)
stops_or_then (Some s) a b c p q = stops_then s a b c p q

-- ---- the last line

-- of a line that is too long
pub said_long : (result : Stop) (kept : Kept) (core : Parts) (old new : History) (held : List ℕ)
    → IsLongerThan max_line held
    → SaysLast result stop.TooLong (codes "! L2\n") old new
    → Stops result (desk kept core old [] held) (desk kept core new [] held)
said_long result kept core old new held long says =
    said_last result stop.TooLong (codes "! L2\n") kept core old new held says
    refl (λ t some. inr (inr (some, long, refl)))
    (λ t some written wrote. (codes "! L2\n", (some, long, refl), wrote))

-- of a part of a line, at the end
pub said_part : (result : Stop) (kept : Kept) (core : Parts) (old new : History) (held : List ℕ) → IsPart held
    → held ≢ []
    → SaysLast result stop.Ended (codes "! L1\n") old new
    → Stops result (desk kept core old [] held) (desk kept core new [] held)
said_part result kept core old new held part some says =
    said_last result stop.Ended (codes "! L1\n") kept core old new held says
    refl (λ t begun. inr (inl (inr (some, begun, part, refl))))
    (λ t begun written wrote. (codes "! L1\n", inr (some, begun, part, refl), wrote))

-- the answers are written first
pub flushed_none : (E : Type 0) (kept : Kept) (core : Parts) (old new : History) (g g' held : List ℕ)
    → Flushes {E = E} (Ok tt) old g new g' → g' ≡ []
    → ComesOn (desk kept core old g held) (desk kept core new [] held)
flushed_none E kept core old new g g' held flushes none sites before h =
    subst (λ (xs : List ℕ). HasCome sites before (desk kept core new xs held)) none
    (flushed_on {E = E} (Ok tt) kept core old new g g' held flushes sites before h)

pub flushed_some : (E : Type 0) (kept : Kept) (core : Parts) (old new : History) (g g' held : List ℕ)
    → Flushes {E = E} (Ok tt) old g new g'
    → ComesOn (desk kept core old g held) (desk kept core new g' held)
flushed_some E kept core old new g g' held flushes sites before h =
    flushed_on {E = E} (Ok tt) kept core old new g g' held flushes sites before h

pub unflushed : {E : Type 0} (e : E) (kept : Kept) (core : Parts) (old new : History) (g g' held : List ℕ)
    → Flushes {E = E} (Err e) old g new g'
    → Stops stop.WriteFault (desk kept core old g held) (desk kept core new g' held)
unflushed {E} e kept core old new g g' held flushes sites before h =
    flushed_on {E = E} (Err e) kept core old new g g' held flushes sites before h

pub comes_at : (o : Option Stop) (a b : Desk) → ((s : Stop) → o ≡ Some s → ⊥) → StopsOr o a b → ComesOn a b
comes_at None a b not p = p
comes_at (Some s) a b not p = absurd (not s refl)

-- ---- one call

pub took_front : (E : Type 0) (n : ℕ) (answer : Answer) (kept kept' : Kept) (core core' : Parts)
    (gathered gathered' held held' line : List ℕ) → line ≡ take n held
    → Takes core line answer kept kept' core' → gathered' ≡ gathered ++ (answer_line line answer ++ 10 ∷ [])
    → held' ≡ drop (n + 1) held
    → TakesFront {E = E} (Ok tt) n kept kept' core core' gathered gathered' held held'
took_front E n answer kept kept' core core' gathered gathered' held held' line same takes more left = (
  answer,
  subst (λ (l : List ℕ). Takes core l answer kept kept' core') same takes,
  more ∙ ap (λ (l : List ℕ). gathered ++ (answer_line l answer ++ 10 ∷ [])) same,
  left,
)

pub took_none : {E : Type 0} (e : E) (n : ℕ) (answer : Answer) (kept mid kept' : Kept) (core core' : Parts)
    (gathered gathered' held held' line : List ℕ) → line ≡ take n held
    → Takes core line answer kept mid core' → kept' ≡ record mid { refused = mid.refused + 1 }
    → gathered' ≡ gathered → held' ≡ held
    → TakesFront {E = E} (Err e) n kept kept' core core' gathered gathered' held held'
took_none {E} e n answer kept mid kept' core core' gathered gathered' held held' line same takes one more left =
    (answer, mid, subst (λ (l : List ℕ). Takes core l answer kept mid core') same takes, one, more, left)

pub stops_held : (s : Stop) (kept : Kept) (core : Parts) (old new : History) (g g' rest held : List ℕ) → rest ≡ held
    → Stops s (desk kept core old g rest) (desk kept core new g' rest)
    → Stops s (desk kept core old g held) (desk kept core new g' held)
stops_held s kept core old new g g' rest held same p =
    subst (λ (h : List ℕ). Stops s (desk kept core old g h) (desk kept core new g' h)) same p

-- nothing is gathered at the end
pub stops_left : (s : Stop) (a : Desk) (kept : Kept) (core : Parts) (new : History) (g held : List ℕ) → g ≡ []
    → Stops s a (desk kept core new [] held)
    → Stops s a (desk kept core new g held)
stops_left s a kept core new g held none p =
    subst (λ (xs : List ℕ). Stops s a (desk kept core new xs held)) (sym none) p

pub stops_or_left : (o : Option Stop) (a : Desk) (kept : Kept) (core : Parts) (new : History) (g held : List ℕ)
    → g ≡ [] → StopsOr o a (desk kept core new [] held)
    → StopsOr o a (desk kept core new g held)
stops_or_left o a kept core new g held none p =
    subst (λ (xs : List ℕ). StopsOr o a (desk kept core new xs held)) (sym none) p
