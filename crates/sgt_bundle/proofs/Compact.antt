-- The compact text of a certificate, letter by letter.
use Rattle.std.proofs.Common.{◌≡◌, ℕ, ◌≤◌, true, false, List, [], ◌∷◌, ◌++◌, refl, sym, ap, ap₂, ◌∙◌, arith, append_assoc, inl, inr}
use Rattle.std.specs.Prelude.{IsTrue, codes, decimal, ◌&&◌, ◌||◌, ◌==◌, nat_le}
use Rattle.std.specs.List.{list_all}
use Rattle.std.proofs.lemmas.Bool.{and_parts, and_from, or_cases, or_left, eqb-true, leb-true, true≢false}
use Rattle.json.specs.Print.{escape, quoted}
use Rattle.json.proofs.Printed.Strings.{escape_byte_plain}
use Rattle.serde_json.specs.Written.{compact_text, items_text}
use Rattle.serde_json.proofs.OnLiterals.{serde_json_on_literals}
use Rattle.sgt_names.specs.Name.{Name, IsName, is_name_byte, is_small_letter}
use Rattle.sgt_names.specs.declared.entry.Kind.{Kind}
use Rattle.sgt_names.specs.declared.entry.Kind.TheVariants.{Wr, Rw, Ww}
use Rattle.sgt_bundle.specs.Text.{kind_name, step_data, decision_data, certificate_text, items_data}
use Rattle.sgt_bundle.specs.declared.certificate.Step.{Step}
use Rattle.sgt_bundle.specs.declared.certificate.Decision.{Decision}
use Rattle.sgt_bundle.specs.declared.certificate.Decision.TheVariants.{Commit, Refuse, Withdraw}
use Rattle.sgt_bundle.specs.declared.certificate.Certificate.{Certificate}

pub high : (c : ℕ) → is_name_byte c ≡ true → 33 ≤ c
high c h =
    elim (or_cases (is_small_letter c || (nat_le 48 c && nat_le c 57)) (c == 95) h) [
      | inl two ↦ elim (or_cases (is_small_letter c) (nat_le 48 c && nat_le c 57) two) [
        | inl letter ↦ let p = leb-true 97 c (and_parts (nat_le 97 c) (nat_le c 122) letter).0 in omega arith
        | inr digit ↦ let p = leb-true 48 c (and_parts (nat_le 48 c) (nat_le c 57) digit).0 in omega arith
      ]
      | inr line ↦ let p = eqb-true c 95 line in omega arith
    ]

fine : (c : ℕ) → IsTrue (is_name_byte c) → (c ≡ 34 → ⊥) × (c ≡ 92 → ⊥) × (32 ≤ c)
fine c h = (
  λ e. true≢false (sym h ∙ ap is_name_byte e),
  λ e. true≢false (sym h ∙ ap is_name_byte e),
  omega (arith, high c h),
)

-- no byte of a name is escaped
escape-plain : (x : List ℕ) → list_all is_name_byte x ≡ true → escape x ≡ x
escape-plain [] h = refl
escape-plain (c ∷ cs) h =
    let p = and_parts (is_name_byte c) (list_all is_name_byte cs) h in
    let f = fine c p.0 in
    ap₂ (λ (ys zs : List ℕ). ys ++ zs) (escape_byte_plain c f.0 f.1 f.2) (escape-plain cs p.1)

pub name-plain : (x : Name) → IsName x → quoted x ≡ 34 ∷ (x ++ 34 ∷ [])
name-plain [] h = absurd h
name-plain (c ∷ cs) h =
    let all =
    and_from (is_name_byte c) (list_all is_name_byte cs)
    (or_left (is_small_letter c || (nat_le 48 c && nat_le c 57)) (c == 95)
    (or_left (is_small_letter c) (nat_le 48 c && nat_le c 57) h.0)) h.1 in
    ap (λ (t : List ℕ). 34 ∷ (t ++ 34 ∷ [])) (escape-plain (c ∷ cs) all)

kind-plain : (k : Kind) → quoted (kind_name k) ≡ 34 ∷ (kind_name k ++ 34 ∷ [])
unfolding serde_json_on_literals
kind-plain Wr = refl
kind-plain Rw = refl
kind-plain Ww = refl

pub step-text : (s : Step) → IsName s.label.item → compact_text (step_data s)
    ≡ codes "{\"item\":\"" ++ (s.label.item ++ (codes "\",\"kind\":\"" ++ (kind_name s.label.kind ++ (codes "\",\"site\":" ++ (decimal s.label.site ++ (codes ",\"to\":" ++ (decimal s.to ++ codes "}")))))))
unfolding serde_json_on_literals
step-text s h =
    ap₂ (λ (q r : List ℕ). codes "{\"item\":" ++ (q ++ (codes ",\"kind\":" ++ (r ++ (codes ",\"site\":" ++ (decimal s.label.site ++ (codes ",\"to\":" ++ (decimal s.to ++ codes "}"))))))))
    (name-plain s.label.item h) (kind-plain s.label.kind)
    ∙ simp append_assoc

-- the same, of pieces that were found to be those of the step
pub step-pieces : (s : Step) (item kind : List ℕ) (site to : ℕ) → IsName s.label.item → item ≡ s.label.item
    → kind ≡ kind_name s.label.kind → site ≡ s.label.site → to ≡ s.to
    → codes "{\"item\":\"" ++ (item ++ (codes "\",\"kind\":\"" ++ (kind ++ (codes "\",\"site\":" ++ (decimal site ++ (codes ",\"to\":" ++ (decimal to ++ codes "}"))))))) ≡ compact_text (step_data s)
step-pieces s item kind site to h a b c d = rw (a, b, c, d) (sym (step-text s h))

pub commit-pieces : (d : Decision) (tx t rank : ℕ) → d ≡ Commit tx rank → t ≡ tx → codes "{\"commit\":" ++ (decimal t ++ (codes ",\"rank\":" ++ (decimal rank ++ codes "}"))) ≡ compact_text (decision_data d)
unfolding serde_json_on_literals
commit-pieces d tx t rank is same = rw (is, same) refl

pub refuse-pieces : (d : Decision) (tx t : ℕ) (walk steps : List Step) → d ≡ Refuse tx walk → t ≡ tx → steps ≡ walk
    → codes "{\"refuse\":" ++ (decimal t ++ (codes ",\"walk\":[" ++ (items_text false (items_data step_data steps) ++ codes "}"))) ≡ compact_text (decision_data d)
unfolding serde_json_on_literals
refuse-pieces d tx t walk steps is same all = rw (is, same, all) refl

pub withdraw-pieces : (d : Decision) (tx t : ℕ) → d ≡ Withdraw tx → t ≡ tx → codes "{\"withdraw\":" ++ (decimal t ++ codes "}") ≡ compact_text (decision_data d)
unfolding serde_json_on_literals
withdraw-pieces d tx t is same = rw (is, same) refl

pub certificate-text : (c : Certificate) → certificate_text c ≡ codes "{\"decisions\":[" ++ (items_text false (items_data decision_data c.decisions) ++ (codes ",\"sites\":" ++ (decimal c.sites ++ codes "}")))
unfolding serde_json_on_literals
certificate-text c = refl

pub certificate-pieces : (c : Certificate) (line start : List ℕ) (decisions : List Decision)
    → line ≡ start ++ (codes "{\"decisions\":[" ++ (items_text false (items_data decision_data decisions) ++ (codes ",\"sites\":" ++ (decimal c.sites ++ codes "}"))))
    → decisions ≡ c.decisions → line ≡ start ++ certificate_text c
certificate-pieces c line start decisions e all =
    e ∙ ap (λ (ds : List Decision). start ++ (codes "{\"decisions\":[" ++ (items_text false (items_data decision_data ds) ++ (codes ",\"sites\":" ++ (decimal c.sites ++ codes "}"))))) all
    ∙ ap (λ (text : List ℕ). start ++ text) (sym (certificate-text c))
