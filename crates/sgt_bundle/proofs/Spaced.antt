-- Why a line is no certificate's, from what is seen of its text.
use Rattle.std.proofs.Common.{◌≡◌, ℕ, true, List, Some, None, sym, ap, ◌∙◌}
use Rattle.std.specs.Prelude.{nat_le, IsUtf8}
use Rattle.std.specs.List.{list_any}
use Rattle.std.proofs.lemmas.Bool.{true≢false}
use Rattle.serde_json.specs.Data.{Data}
use Rattle.serde_json.specs.Read.{read}
use Rattle.sgt_bundle.specs.Line.{Refuses, is_certificate_object}
use Rattle.sgt_bundle.specs.declared.fault.CertFault.TheVariants.{NotJson, Range}
use Rattle.sgt_bundle.proofs.OneLine.{certificate-no_space}

pub not_utf8 : (line : List ℕ) → (IsUtf8 line → ⊥) → Refuses line NotJson
not_utf8 line not = λ d reads. not reads.0

pub no_value : (line text : List ℕ) → text ≡ line → read text ≡ None → Refuses line NotJson
no_value line text is none = λ d reads. let both : Some d ≡ None = sym reads.1 ∙ ap read (sym is) ∙ none in cc both

-- it has the shape of a certificate, and a space that is in none
pub has_spaces : (line text : List ℕ) → text ≡ line → IsUtf8 line
    → (d : Data) × (read text ≡ Some d) × (is_certificate_object d ≡ true)
    → list_any (λ b. nat_le b 32) line ≡ true → Refuses line Range
has_spaces line text is utf8 shaped spaced = (
  (shaped.0, (utf8, ap read (sym is) ∙ shaped.1), shaped.2),
  λ c h same. true≢false (sym spaced ∙ ap (list_any (λ b. nat_le b 32)) same ∙ certificate-no_space c h),
)
