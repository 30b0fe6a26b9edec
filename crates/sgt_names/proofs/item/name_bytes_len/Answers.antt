use Rattle.std.proofs.Common.{ℕ, ltb, eqb, cond, not, bit_and, bit_or, refl}
use Rattle.std.proofs.lemmas.Simd.{zip2_splat, zip2_splat_left}
use Rattle.sgt_names.specs.Name.{is_name_byte}
use Rattle.sgt_names.proofs.Lanes.{joined, run_of}
use Rattle.sgt_names.proofs.item.name_bytes_len.Goals as goal

pub returns : goal.returns
returns c =
    let v = c.args.bytes.now in
    let long = c.told-bytes in
    let below = λ (y : ℕ). zip2_splat {X = ℕ} {Y = ℕ} {Z = ℕ} (λ a b. cond (ltb a b) 255 0) v 16 y long in
    let above = λ (y : ℕ). zip2_splat_left {X = ℕ} {Y = ℕ} {Z = ℕ} (λ a b. cond (ltb a b) 255 0) y 16 v long in
    let other = λ (y : ℕ). zip2_splat {X = ℕ} {Y = ℕ} {Z = ℕ} (λ a b. cond (not (eqb a b)) 255 0) v 16 y long in
    run_of is_name_byte v _ _ long c.fits-bytes c.first_set.ensures _
    (joined bit_and _ _ v
    (joined bit_and _ _ v (joined bit_or _ _ v (below 97) (above 122)) (joined bit_or _ _ v (below 48) (above 57)))
    (other 95)) refl
