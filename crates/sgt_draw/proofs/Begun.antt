-- One more part of a picture that is begun.
use Rattle.std.proofs.Common.{◌≡◌, ◌++◌, ◌∷◌, [], ◌∙◌, ℕ, Bool, true, false, List, if◌then◌else◌}
use Rattle.std.proofs.lemmas.List.{flat_map_more}
use Rattle.sgt_draw.specs.Parts.{part_text, parts_text}
use Rattle.sgt_draw.specs.Picture.{IsBegun, head_of}
use Rattle.sgt_draw.specs.declared.canvas.Part.{Part}

longer : (is_dot : Bool) (parts : List Part) (p : Part) (text new more : List ℕ)
    → text ≡ head_of is_dot ++ parts_text parts → more ≡ part_text p
    → new ≡ text ++ more → IsBegun is_dot new
longer is_dot parts p text new more begun is grown =
    (parts ++ p ∷ [], grown ∙ (rw (begun, is) (flat_map_more part_text (head_of is_dot) parts p)))

-- what a growth that may fail leaves, where what it writes is what a part is written as
pub begun-more : (is_dot done : Bool) (p : Part) (text new more : List ℕ) → IsBegun is_dot text → more ≡ part_text p
    → new ≡ (if done then text ++ more else text) → IsBegun is_dot new
begun-more is_dot true p text new more begun is grown = longer is_dot begun.0 p text new more begun.1 is grown
begun-more is_dot false p text new more begun is grown = (begun.0, grown ∙ begun.1)
