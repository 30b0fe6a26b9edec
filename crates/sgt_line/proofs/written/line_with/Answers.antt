use Rattle.std.proofs.Common.{◌≡◌, List, ℕ, subst, true, Some, None}
use Rattle.std.proofs.lemmas.Bool.Decides.{Decides-eqb}
use Rattle.std.proofs.lemmas.Slice.Eq.{starts_is}
use Rattle.memchr.specs.Find.{FindsNeedle}
use Rattle.sgt_line.proofs.Lines.{begins_first, finds_line, finds_none}
use Rattle.sgt_line.proofs.written.line_with.Goals as goal

pub returns-then-starts_with : goal.returns-then-starts_with
returns-then-starts_with c =
    let both = starts_is Decides-eqb c.args.text.now c.args.head.now c.starts_with.result c.starts_with.ensures.value in
    begins_first _ _ _ (both.0 c.if-starts_with.true)

pub returns-in-Some : goal.returns-in-Some
returns-in-Some c =
    let both = starts_is Decides-eqb c.args.text.now c.args.head.now c.starts_with.result c.starts_with.ensures.value in
    finds_line c.args.text.now c.args.head.now c.in-Some.place
    (λ rest e. let yes : c.starts_with.result ≡ true = both.1 rest e in absurd cc)
    (subst (λ (needle : List ℕ). FindsNeedle c.args.text.now needle 0 (Some c.in-Some.place)) c.requires
    c.in-Some.ensures)

pub returns-in-None : goal.returns-in-None
returns-in-None c =
    let both = starts_is Decides-eqb c.args.text.now c.args.head.now c.starts_with.result c.starts_with.ensures.value in
    finds_none c.args.text.now c.args.head.now
    (λ rest e. let yes : c.starts_with.result ≡ true = both.1 rest e in absurd cc)
    (subst (λ (needle : List ℕ). FindsNeedle c.args.text.now needle 0 None) c.requires c.in-None.ensures)
