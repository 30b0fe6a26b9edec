use Rattle.std.proofs.Common.{List, Some, ap, inl, string_bytes, ℕ}
use Rattle.sgt_line.specs.Parts.{parts_of}
use Rattle.sgt_line.proofs.Finding.{nothing_mapped}
use Rattle.sgt_line.proofs.line.Line.put_place.Goals as goal

pub returns-in-None : goal.returns-in-None
returns-in-None c = absurd (c.in-None.ensures.none c.requires.0 c.requires.1)

pub returns-in_ok-from_str-in-Some : goal.returns-in_ok-from_str-in-Some
returns-in_ok-from_str-in-Some c =
    inl (
      c.in-Some.file.now,
      c.in-Some.ensures.some,
      nothing_mapped string_bytes c.args.self.now.place c.is_some.result c.is_some.ensures c.if-is_some.false,
      ap (λ (t : List ℕ). record (parts_of c.args.self.now) { place = Some t }) c.in_ok-from_str-in-Some.ensures.ok,
    )
