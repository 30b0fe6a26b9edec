use Rattle.std.proofs.Common.{◌≡◌, ◌++◌, ℕ, List, codes, sym, ap, subst, ◌∙◌, rules, arith}
use Rattle.std.proofs.lemmas.Grind.{common_steps}
use Rattle.std.proofs.lemmas.List.{append_cancel_right}
use Rattle.std.specs.Result.{result_ok}
use Rattle.std.specs.Str.Parse.{digits_value, ParsesUnsigned}
use Rattle.sgt_folder.proofs.Named.{eight_read, none_told}
use Rattle.sgt_folder.proofs.name.number_of.Goals as goal

pub returns-clause-none : goal.returns-clause-none
returns-clause-none c = none_told c.ok.result c.args.name.now (λ number b.
    let ends : c.args.name.now ≡ c.in_ok-digits.digits.now ++ codes ".sgt" = first_of (search rules, grind (arith, common_steps)) in
    let same : c.in_ok-digits.digits.now ≡ b.digits = append_cancel_right _ b.digits (codes ".sgt") (sym ends ∙ b.is) in
    let read = eight_read b.digits c.parse.result b.numeral b.eight
    (subst (λ (t : List ℕ). ParsesUnsigned 64 10 t c.parse.result) same c.parse.ensures.value.0) in
    (digits_value 10 b.digits, c.ok.ensures.value ∙ ap result_ok read))
