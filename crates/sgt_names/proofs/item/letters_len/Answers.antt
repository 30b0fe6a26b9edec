use Rattle.std.proofs.Common.{ℕ, ltb, cond, bit_or, refl}
use Rattle.std.proofs.lemmas.Simd.{zip2_splat, zip2_splat_left}
use Rattle.sgt_names.specs.Name.{is_small_letter}
use Rattle.sgt_names.proofs.Lanes.{joined, run_of}
use Rattle.sgt_names.proofs.item.letters_len.Goals as goal

pub returns : goal.returns
returns c =
    let v = c.args.bytes.now in
    let long = c.told-bytes in
    let below = zip2_splat {X = ℕ} {Y = ℕ} {Z = ℕ} (λ a b. cond (ltb a b) 255 0) v 16 97 long in
    let above = zip2_splat_left {X = ℕ} {Y = ℕ} {Z = ℕ} (λ a b. cond (ltb a b) 255 0) 122 16 v long in
    run_of is_small_letter v _ _ long c.fits-bytes c.first_set.ensures _ (joined bit_or _ _ v below above) refl
