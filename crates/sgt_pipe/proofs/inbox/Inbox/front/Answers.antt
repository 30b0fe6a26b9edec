use Rattle.std.proofs.Common.{◌≡◌, ◌≢◌, ◌<◌, ◌≤◌, ◌+◌, ℕ, List, length, take, arith, subst}
use Rattle.std.proofs.lemmas.List.Elements.{All-take}
use Rattle.sgt_names.specs.Limits.{max_line}
use Rattle.sgt_notation.specs.Spelling.{HasNoLf}
use Rattle.sgt_notation.specs.Lines.{IsLongerThan}
use Rattle.sgt_pipe.proofs.inbox.Inbox.front.Goals as goal
use Rattle.std.proofs.lemmas.Grind.{common_steps}

takes_twice : (m n : ℕ) (xs : List ℕ) → m ≤ n → take m (take n xs) ≡ take m xs
takes_twice m n xs le = grind (arith, common_steps)

longer : (n : ℕ) (held : List ℕ) → n < length held → max_line < n → HasNoLf (take n held) → IsLongerThan max_line held
longer n held within lt none = (
  omega (arith, within, lt),
  subst HasNoLf (takes_twice (max_line + 1) n held (omega (arith, lt)))
      (All-take (λ (b : ℕ). b ≢ 10) (max_line + 1) (take n held) none),
)

pub returns-in_default : goal.returns-in_default
returns-in_default c =
    let held = c.held-held.ensures in
    let some = c.in-Some.ensures.some in
    subst (IsLongerThan max_line) held
    (longer c.in-Some.n c.held-held.result.now some.0 (omega (arith, c.if-n-le-MAX_LINE.false)) some.1)

pub returns-in_default-2 : goal.returns-in_default-2
returns-in_default-2 c =
    let held = c.held-held.ensures in
    subst (IsLongerThan max_line) held (
      omega (arith, c.if-held-le-MAX_LINE.false),
      All-take (λ (b : ℕ). b ≢ 10) (max_line + 1) c.held-held.result.now c.in-None.ensures.none,
    )
