use Rattle.std.proofs.Common.{ℕ, refl}
use Rattle.std.proofs.lemmas.Simd.{zip2_splat}
use Rattle.sgt_names.specs.Stored.{is_positive}
use Rattle.sgt_names.proofs.Lanes.{run_of}
use Rattle.sgt_names.proofs.item.name_len.Goals as goal

pub returns : goal.returns
returns c = run_of is_positive c.args.bytes.now _ _ c.told-bytes c.fits-bytes c.first_set.ensures _
    (zip2_splat {Y = ℕ} _ c.args.bytes.now 16 0 c.told-bytes) refl
