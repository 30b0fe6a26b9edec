use Rattle.std.proofs.Common.{ℕ, List, Some, ap}
use Rattle.sgt_line.specs.Parts.{parts_of}
use Rattle.sgt_line.proofs.Steps.{counted, counted_on, filed_behind, ordered, sent, put}
use Rattle.sgt_line.proofs.line.Line.take.Goals as goal

pub returns-in-Dashes : goal.returns-in-Dashes
returns-in-Dashes c =
    λ first taken. filed_behind c.args.command first taken _ _ c.args.before _ c.in-Dashes.is
    c.in_ok-add_file-in-Dashes.ensures

pub returns-in_ok-leave-in-Numbered : goal.returns-in_ok-leave-in-Numbered
returns-in_ok-leave-in-Numbered c =
    λ first taken. counted c.args.command first taken _ _ c.args.before _ c.in-Numbered.is
    c.in_ok-leave-in-Numbered.ensures

pub returns-in_ok-from_str-in-Place : goal.returns-in_ok-from_str-in-Place
returns-in_ok-from_str-in-Place c = λ first taken.
    put c.args.command first taken (parts_of c.args.self.now) c.args.word.now c.args.before _ c.in-Place.is
    (ap (λ (t : List ℕ). record (parts_of c.args.self.now) { place = Some t }) c.in_ok-from_str-in-Place.ensures.ok)

pub returns-in_ok-from_str-in-Against : goal.returns-in_ok-from_str-in-Against
returns-in_ok-from_str-in-Against c = λ first taken.
    ordered c.args.command first taken (parts_of c.args.self.now) c.args.word.now c.args.before _ c.in-Against.is
    (ap (λ (t : List ℕ). record (parts_of c.args.self.now) { against = Some t }) c.in_ok-from_str-in-Against.ensures.ok)

pub returns-in_ok-from_str-in-Output : goal.returns-in_ok-from_str-in-Output
returns-in_ok-from_str-in-Output c = λ first taken.
    sent c.args.command first taken (parts_of c.args.self.now) c.args.word.now c.args.before _ c.in-Output.is
    (ap (λ (t : List ℕ). record (parts_of c.args.self.now) { output = Some t }) c.in_ok-from_str-in-Output.ensures.ok)

pub returns-in_ok-from_str-in-Expected : goal.returns-in_ok-from_str-in-Expected
returns-in_ok-from_str-in-Expected c = λ first taken.
    counted_on c.args.command first taken (parts_of c.args.self.now) c.args.word.now c.args.before _ c.in-Expected.is
    (ap (λ (t : List ℕ). record (parts_of c.args.self.now) { expected = Some t }) c.in_ok-from_str-in-Expected.ensures.ok)
