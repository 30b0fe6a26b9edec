use Rattle.std.proofs.Common.{◌≡◌, ◌∙◌, [], ◌∷◌, Global, List, String, ℕ, arith, ap, map, string_bytes, subst, sym}
use Rattle.sgt_line.specs.private.State.{IsReadTo}
use Rattle.sgt_line.proofs.Steps.{taken_whole}
use Rattle.sgt_line.specs.Names.{command_text}
use Rattle.sgt_line.specs.Parts.{bare, left, parts_of}
use Rattle.sgt_line.specs.Reads.{Reads}
use Rattle.sgt_line.specs.Reads as reads
use Rattle.sgt_line.proofs.line.Line.read.Goals as goal

pub loop-word-init : goal.loop-word-init
loop-word-init c =
    let named : parts_of c.leave.new.self ≡ bare (c.args.name.now ∷ []) =
    c.in_ok-leave.ensures ∙ ap (λ p. left p c.args.name.now) c.empty-line.ensures in
    let whole : parts_of c.leave-2.new.self ≡ bare (c.args.name.now ∷ command_text c.args.command ∷ []) =
    c.in_ok-leave-2.ensures ∙ (ap (λ p. left p c.text_of.result.now) named
    ∙ ap (λ (t : List ℕ). bare (c.args.name.now ∷ t ∷ [])) c.text_of.ensures) in
    subst (Reads c.args.command (bare (c.args.name.now ∷ command_text c.args.command ∷ [])) []) (sym whole) reads.none

pub returns : goal.returns
returns c =
    let first = bare (c.args.name.now ∷ command_text c.args.command ∷ []) in
    let whole = taken_whole c.args.words.now c.loop-word.word-index (omega (arith, c.loop-word-test.false)) in
    c.in_ok-end.ensures first
    (subst (λ (ws : List (String Global)). IsReadTo c.args.command first (map string_bytes ws) c.loop-word.before
    (parts_of c.loop-word.line)) whole c.loop-word.invariant)
