-- No two scripts are spelled alike; what is read from the text of a script is that script; there is no LF in it.
use Rattle.std.proofs.Common.{◌≡◌, ◌≢◌, ◌≤◌, ◌⊎◌, inl, inr, List, [], ◌∷◌, length, map, refl, sym, ap, ◌∙◌, arith, lit<, Result, Ok, Err}
use Rattle.std.specs.List.{AllByRecursion, join_with_byte}
use Rattle.std.proofs.lemmas.List.Elements.{All-from_recursion, recursion_from_All}
use Rattle.sgt_notation.specs.PrivateEvents.{words}
use Rattle.sgt_notation.specs.Scripts.{op_text, script_text, IsOp, IsScript, ReadsScript}
use Rattle.sgt_notation.specs.Spelling.{HasNoLf}
use Rattle.sgt_notation.specs.declared.script.Op.{Op}
use Rattle.sgt_notation.specs.declared.script.Script.{Script}
use Rattle.sgt_notation.specs.declared.fault.NotationFault.{NotationFault}
use Rattle.sgt_notation.specs.declared.fault.NotationFault.TheVariants.{NotALine, TooLong, Memory}
use Rattle.sgt_notation.proofs.OneSite.{join-one_line}
use Rattle.sgt_notation.proofs.OneSpelling.{HasNot}
use Rattle.sgt_notation.proofs.ScriptParts.{op-without}
use Rattle.sgt_notation.proofs.ScriptWords.{ops-one, words-of_script}

pub script-one : (s t : Script) → IsScript s → IsScript t → script_text s ≡ script_text t → s ≡ t
script-one s t a b e =
    let left = recursion_from_All IsOp s.operations a.each in
    let right = recursion_from_All IsOp t.operations b.each in
    let same = sym (words-of_script s.operations left a.some) ∙ ap words e
    ∙ words-of_script t.operations right b.some in
    ap (λ ops. record { operations = ops }) (ops-one s.operations t.operations left right same)

pub script-back : (s : Script) (r : Result Script NotationFault) → IsScript s → ReadsScript (script_text s) r
    → (r ≡ Ok s) ⊎ (r ≡ Err Memory)
script-back s (Ok t) is h = inl (ap Ok (script-one t s h.0 is (sym h.1)))
script-back s (Err Memory) is h = inr refl
script-back s (Err NotALine) is h = absurd (h.1 s is refl)
script-back s (Err TooLong) is h = absurd (h.1 s is refl)

ops-one_line : (ops : List Op) → AllByRecursion IsOp ops → AllByRecursion (HasNot 10) (map op_text ops)
ops-one_line [] all = tt
ops-one_line (op ∷ ops) all = (op-without 10 (lit< tt) refl op all.0, ops-one_line ops all.1)

one_line : (ops : List Op) → AllByRecursion IsOp ops → 1 ≤ length ops → HasNot 10 (join_with_byte 32 (map op_text ops))
one_line [] all some = absurd (omega (arith, some))
one_line (op ∷ ops) all some =
    join-one_line (op_text op) (map op_text ops) (op-without 10 (lit< tt) refl op all.0) (ops-one_line ops all.1)

pub script-no_lf : (s : Script) → IsScript s → HasNoLf (script_text s)
script-no_lf s is =
    All-from_recursion (λ b. b ≢ 10) (script_text s)
    (one_line s.operations (recursion_from_All IsOp s.operations is.each) is.some)
