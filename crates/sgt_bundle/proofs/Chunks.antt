-- Names and digits that are read from the first sixteen or eight bytes.
use Rattle.std.proofs.Common.{◌≡◌, ℕ, ◌+◌, ◌*◌, ◌%◌, ◌^◌, ◌<◌, List, ◌++◌, length, take, drop, sym, ap, subst, ◌∙◌, arith}
use Rattle.std.proofs.lemmas.List.{length-take-le, take-append-drop, take-take}
use Rattle.std.proofs.lemmas.Slice.{between_from_start}
use Rattle.std.specs.Array.{IsFirstChunk}
use Rattle.std.specs.Prelude.{slice_range}
use Rattle.std.specs.Str.Parse.{digits_value}
use Rattle.sgt_names.specs.Name.{IsName, SpellsFront}

-- a name at the front of the first bytes stands at the front of all
pub name-front : (bytes chunk item : List ℕ) (n : ℕ) → IsFirstChunk bytes chunk 16 → SpellsFront chunk n
    → item ≡ take n chunk
    → IsName item × (bytes ≡ item ++ drop n bytes)
name-front bytes chunk item n first front found =
    let long : length chunk ≡ 16 = ap length first.same ∙ length-take-le 16 bytes first.enough in
    let same : take n bytes ≡ item = sym (take-take n 16 bytes (omega (arith, front.0, long)))
    ∙ (ap (take n) (sym first.same) ∙ sym found) in
    (subst IsName (sym found) front.1, sym (take-append-drop n bytes) ∙ ap (λ t. t ++ drop n bytes) same)
