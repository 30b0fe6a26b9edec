use Rattle.std.proofs.Common.{◌≡◌, ◌∷◌, ◌∙◌, ap, map, string_bytes, sym, unwrap_or}
use Rattle.sgt_line.proofs.Steps.{named_line, on_ok}
use Rattle.sgt_line.proofs.line.Line.of.Goals as goal

pub returns-in-Some-named : goal.returns-in-Some-named
returns-in-Some-named c = on_ok c.read.result _ _
    (λ line reading. named_line _ _ _ _ _
    (c.in-Some.ensures ∙ ap (λ l. c.in-Some.name.now ∷ l)
    (c.in-Some-first_of.ensures
    ∙ ap (λ t. t ∷ map string_bytes c.in-Some-first_of.behind.now) c.in-Some-named.ensures.some))
    (λ other same. ap (λ o. unwrap_or o c.in-Some-named.command)
    (sym (c.named.ensures.all other (c.in-Some-named.ensures.some ∙ same)) ∙ c.in-Some-named.is))
    reading) c.read.ensures
