use Rattle.std.proofs.Common.{◌≡◌, ℕ, List, ◌++◌, length}
use Rattle.json.specs.Print.{escape}
use Rattle.sgt_check.proofs.key.string_bytes.Given as goal

abbrev pub invariant-bytes : goal.invariant-bytes
invariant-bytes l = (s : List ℕ) → l.text ≡ escape s
    → (more : List ℕ) × (s ≡ l.bytes.items ++ more) × (l.left ≡ escape more)

abbrev pub decreases-bytes : goal.decreases-bytes
decreases-bytes l = length l.left
