-- What a writer holds after some writes.
use Rattle.std.proofs.Common.{◌≡◌, ℕ, ◌-◌, List, [], ◌++◌, length, take, drop, Option, Some, None, sym, arith, append_assoc, append-nil}
use Rattle.std.proofs.lemmas.Grind.{common_steps}
use Rattle.std.specs.Io.KnownBytes.{Appends}
use Rattle.sgt_names.specs.Device.{AppendsOrForgets}

-- known bytes that grew by a, and then by b
pub appends_on : (told mid new : Option (List ℕ)) (a b : List ℕ) → Appends told mid a → Appends mid new b
    → Appends told new (a ++ b)
appends_on None mid new a b first later = tt
appends_on (Some xs) None new a b first later = absurd first
appends_on (Some xs) (Some ys) None a b first later = absurd later
appends_on (Some xs) (Some ys) (Some zs) a b first later = rw (later, first) (append_assoc xs a b)

pub tail_whole : (bs : List ℕ) (i : ℕ) → take (length bs - i) (drop i bs) ≡ drop i bs
tail_whole bs i = grind (arith, common_steps)

pub wrote_nothing : (held : Option (List ℕ)) → AppendsOrForgets held held []
wrote_nothing None = tt
wrote_nothing (Some xs) = sym (append-nil xs)
