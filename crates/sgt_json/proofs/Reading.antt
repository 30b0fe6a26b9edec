-- What an object says is what the answer says.
use Rattle.std.specs.Prelude.{◌≡◌, ◌↔◌, ℕ, Bool, true, false, IsTrue, List, [], ◌∷◌, codes, if◌then◌else◌, length}
use Rattle.std.proofs.Common.{◌∙◌, ap, append-nil, arith, refl, sym}
use Rattle.std.proofs.lemmas.Bool.{true≢false}
use Rattle.json.specs.Lex.{tokens}
use Rattle.json.specs.Print.{ArePrintable, print_from, quoted}
use Rattle.json.specs.Token.{string}
use Rattle.json.proofs.Printed.Tokens.{tokens-print}
use Rattle.sgt_json.specs.Object.{says_yes, verdict_of}

-- a text that is written as a string is read back as it is
pub quoted-reads_back : (text : List ℕ) → tokens (quoted text) ≡ string text ∷ []
unfolding ArePrintable print_from
quoted-reads_back text = ap tokens (sym (append-nil (quoted text))) ∙ tokens-print (string text ∷ []) (tt, tt)

yes_alone : (a b c : Bool) → (if a then codes "yes" else if b then codes "no" else if c then codes "unread" else codes "other") ≡ codes "yes"
    → IsTrue a
yes_alone true b c e = refl
yes_alone false true c e = absurd (omega (arith, ap length e))
yes_alone false false true e = absurd (omega (arith, ap length e))
yes_alone false false false e = absurd (omega (arith, ap length e))

yes_there : (a b c : Bool) → IsTrue a
    → (if a then codes "yes" else if b then codes "no" else if c then codes "unread" else codes "other") ≡ codes "yes"
yes_there true b c e = refl
yes_there false b c e = absurd (true≢false (sym e))

-- the verdict is `yes` exactly where the first line says yes
pub verdict-yes : (line : List ℕ) → (verdict_of line ≡ codes "yes") ↔ IsTrue (says_yes line)
unfolding verdict_of
verdict-yes line = (yes_alone (says_yes line) _ _, yes_there (says_yes line) _ _)
