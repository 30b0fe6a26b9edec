use Rattle.std.proofs.Common.{◌≡◌, ℕ, List, [], ◌∷◌, map, refl, sym, ap, ◌∙◌}
use Rattle.std.proofs.Output.{has_written_append, has_written_of_eq}
use Rattle.std.proofs.lemmas.Iterator.{YieldsList-from_chars}
use Rattle.std.proofs.lemmas.Iterator.Consumers.{YieldsList-end}
use Rattle.std.specs.Str.{chars}
use Rattle.sgt_status.specs.Shown.{shown}
use Rattle.sgt_status.proofs.Shows.{shown_more}
use Rattle.sgt_status.proofs.name.write_name.Goals as goal

same_map : (letters : List ℕ) → map (λ letter. letter) letters ≡ letters
same_map [] = refl
same_map (letter ∷ letters) = ap (λ (behind : List ℕ). letter ∷ behind) (same_map letters)

pub loop-letter-preserved : goal.loop-letter-preserved
loop-letter-preserved g c = λ plain.
    let before = c.loop-letter.invariant plain in
    has_written_of_eq _ _ _ _ _ (sym (shown_more c.loop-letter.yielded c.in-Some.letter))
    (has_written_append _ _ _ _ _ _ before (c.in_ok-write_letter.ensures before.plain refl))

pub returns : goal.returns
returns g c = λ plain done.
    let all = YieldsList-end (YieldsList-from_chars c.args.name.now c.utf8.name cc) c.loop-letter.yielded _
    c.loop-letter.yielded_by _ _ c.in-None.is c.next.ensures.steps in
    let same : c.loop-letter.yielded ≡ chars c.args.name.now = sym (same_map c.loop-letter.yielded) ∙ all.0 in
    has_written_of_eq _ _ _ _ _ (ap shown same) (c.loop-letter.invariant plain)
