-- What a writer into memory holds behind an answer.
use Rattle.std.proofs.Common.{◌≡◌, ℕ, List, [], Bool, true, false, Option, Some, None, if◌then◌else◌, sym, subst}
use Rattle.std.specs.Io.KnownBytes.{Appends}

-- a text of this kind was written
abbrev pub Wrote : (List ℕ → Type 0) → (old new : Option (List ℕ)) → Type 0
Wrote P old new = (text : List ℕ) × P text × Appends old new text

behind : (P : List ℕ → Type 0) (short : Bool) (ys : List ℕ) → Wrote P (Some []) (if short then None else Some ys) → P ys
behind P true ys (text, is, same) = absurd same
behind P false ys (text, is, same) = subst P (sym same) is

-- a writer that had nothing and has lost nothing holds the answer
pub held : (P : List ℕ → Type 0) (was short : Bool) (xs ys : List ℕ) → was ≡ false → xs ≡ []
    → Wrote P (if was then None else Some xs) (if short then None else Some ys) → P ys
held P was short xs ys whole none h =
    behind P short ys
    (subst (λ zs. Wrote P (Some zs) (if short then None else Some ys)) none
    (subst (λ b. Wrote P (if b then None else Some xs) (if short then None else Some ys)) whole h))
