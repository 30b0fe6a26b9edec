use Rattle.std.proofs.Common.{◌≡◌, ℕ, List, map, string_bytes}
use Rattle.sgt_line.proofs.Clashing.{of_the_others}
use Rattle.sgt_line.proofs.clash.+has_word.Goals as goal

pub returns : goal.returns
returns t c = of_the_others (λ (it : List ℕ). it ≡ c.args.word.now) c.in-Some.first.now
    (map string_bytes c.in-Some.behind.now) _ _ c.in-Some.ensures
    (λ same. let is_true = c.is.ensures.1 same in let is_false = c.if-is.false in absurd cc) c.has_word.ensures
