use Rattle.std.proofs.Common.{◌≡◌, ℕ, List, ◌++◌, sym, subst}
use Rattle.json.specs.Print.{escape}
use Rattle.sgt_check.proofs.Escapes.{unescaped_end, unescaped_next}
use Rattle.sgt_check.proofs.key.string_bytes.Goals as goal

pub bytes-preserved : goal.bytes-preserved
bytes-preserved c = λ s e.
    subst (λ (bs : List ℕ). (x : List ℕ) × (s ≡ bs ++ x) × (c.in-Some.rest.now ≡ escape x))
    (sym c.in_ok-push.ensures.items)
    (unescaped_next s c.bytes.left.now c.bytes.bytes.items c.in-Some.byte c.in-Some.rest.now (c.bytes.invariant s e)
    c.in-Some.ensures.shorter c.in-Some.ensures.front)

pub returns : goal.returns
returns c = λ s e.
    unescaped_end s c.bytes.left.now c.bytes.bytes.items (c.bytes.invariant s e) c.in_default.ensures.front
