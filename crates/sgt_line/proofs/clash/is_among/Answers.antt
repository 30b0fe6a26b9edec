use Rattle.std.proofs.Common.{Some, ◌∙◌, ap, map, string_bytes, sym}
use Rattle.std.specs.Option.{option_map}
use Rattle.sgt_line.proofs.Clashing.{among_words}
use Rattle.sgt_line.proofs.clash.is_among.Goals as goal

pub returns-in-Some : goal.returns-in-Some
returns-in-Some c =
    let at = ap (option_map string_bytes) c.in-Some.is ∙ ap Some (sym c.deref.ensures) in
    among_words (option_map string_bytes c.args.file.now) c.deref.result.now (map string_bytes c.args.files.now) _ at
    c.has_word.ensures
