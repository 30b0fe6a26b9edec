-- The text of a certificate is read as that certificate alone.
use Rattle.std.proofs.Common.{◌≡◌, ℕ, ◌≤◌, List, [], ◌∷◌, ◌++◌, Some, refl, sym, ap, ap₂, ◌∙◌, arith, All, lit≤, get_or}
use Rattle.std.specs.Prelude.{option_map, option_and_then}
use Rattle.std.proofs.lemmas.Bool.{eqb-false}
use Rattle.std.proofs.lemmas.List.{append-nil}
use Rattle.std.proofs.lemmas.List.Elements.{All-head, All-tail}
use Rattle.std.proofs.lemmas.Option.{same_Some}
use Rattle.json.specs.Token.{Token}
use Rattle.json.specs.Lex.{tokens}
use Rattle.json.specs.Json as json
use Rattle.json.specs.Tree as tree
use Rattle.json.specs.Print.{ArePrintable}
use Rattle.json.proofs.Printed.Tokens.{tokens-print}
use Rattle.json.proofs.Printed.Trees.{value-json_tokens}
use Rattle.json.proofs.Printed.Decimals.{IsNumber-decimal}
use Rattle.serde_json.specs.Data.{Data, object, Items, item, Members, no_members, member}
use Rattle.serde_json.specs.Read.{read, of_json, of_items, max_depth}
use Rattle.serde_json.specs.Written.{outline, items_outline}
use Rattle.serde_json.proofs.Numbers.{number_of-decimal}
use Rattle.serde_json.proofs.Texts.{print-outline}
use Rattle.sgt_names.specs.Limits.{max_sites}
use Rattle.sgt_names.specs.declared.entry.Kind.{Kind}
use Rattle.sgt_names.specs.declared.entry.Kind.TheVariants.{Wr, Rw, Ww}
use Rattle.sgt_bundle.specs.Text.{kind_name, step_data, decision_data, certificate_data, certificate_text, IsStep, IsDecision, IsCertificate, items_data}
use Rattle.sgt_bundle.specs.declared.certificate.Step.{Step}
use Rattle.sgt_bundle.specs.declared.certificate.Decision.{Decision}
use Rattle.sgt_bundle.specs.declared.certificate.Decision.TheVariants.{Commit, Refuse, Withdraw}
use Rattle.sgt_bundle.specs.declared.certificate.Certificate.{Certificate}

printable-append : (ts us : List Token) → ArePrintable ts → ArePrintable us → ArePrintable (ts ++ us)
unfolding ArePrintable
printable-append [] us h g = g
printable-append (t ∷ ts) us h g = (h.0, printable-append ts us h.1 g)

-- what JSON has numbers alone is printable
mutual
  unfolding ArePrintable

  printable : (j : json.Json) → tree.HasNumbers j → ArePrintable (tree.json_tokens j)
  printable json.null h = (tt, tt)
  printable (json.boolean b) h = (tt, tt)
  printable (json.number s) h = (h, tt)
  printable (json.string s) h = (tt, tt)
  printable (json.array js) h = (tt, printable-items js h)
  printable (json.object ms) h = (tt, printable-members ms h)

  printable-items : (js : json.Items) → tree.ItemsHaveNumbers js → ArePrintable (tree.items_tokens js)
  printable-items json.no_items h = (tt, tt)
  printable-items (json.item j js) h = printable-append (tree.json_tokens j) (tree.items_tokens js) (printable j h.0)
      (printable-items js h.1)

  printable-members : (ms : json.Members) → tree.MembersHaveNumbers ms → ArePrintable (tree.members_tokens ms)
  printable-members json.no_members h = (tt, tt)
  printable-members (json.member k j ms) h =
      (tt, printable-append (tree.json_tokens j) (tree.members_tokens ms) (printable j h.0) (printable-members ms h.1))

-- the JSON of a value reads as the value
record ReadsBack (d : Data) : Type 0 where
  numbers : tree.HasNumbers (outline d)
  reads : of_json (outline d) ≡ Some d

record ItemsReadBack (n : ℕ) (ds : Items) : Type 0 where
  numbers : tree.ItemsHaveNumbers (items_outline ds)
  reads : of_items (items_outline ds) ≡ Some ds
  depth : tree.items_depth (items_outline ds) ≤ n

step-back : (sites : ℕ) (s : Step) → sites ≤ max_sites → IsStep sites s → ReadsBack (step_data s)
step-back sites s few h = record {
  numbers = (
    tt,
    (
      tt,
      (IsNumber-decimal s.label.site (omega (arith, h.1)), (IsNumber-decimal s.to (omega (arith, h.2.1)), tt)),
    ),
  );
  reads = rw (number_of-decimal s.label.site (omega (arith, h.1)), number_of-decimal s.to (omega (arith, h.2.1))) refl;
}

walk-back : (sites : ℕ) (walk : List Step) → sites ≤ max_sites → All (IsStep sites) walk
    → ItemsReadBack 1 (items_data step_data walk)
walk-back sites [] few h = record { numbers = tt; reads = refl; depth = omega arith }
walk-back sites (s ∷ walk) few h =
    let first = step-back sites s few (All-head (IsStep sites) s walk h) in
    let rest = walk-back sites walk few (All-tail (IsStep sites) s walk h) in
    record {
      numbers = (first.numbers, rest.numbers);
      reads = ap (option_and_then (λ d. option_map (item d) (of_items (items_outline (items_data step_data walk)))))
          first.reads ∙ ap (option_map (item (step_data s))) rest.reads;
      depth = omega (arith, rest.depth);
    }

decision-back : (sites : ℕ) (d : Decision) → sites ≤ max_sites → IsDecision sites d → ReadsBack (decision_data d)
decision-back sites (Commit tx rank) few h = record {
  numbers = (IsNumber-decimal tx (omega (arith, h.0.1)), (IsNumber-decimal rank (omega (arith, h.1)), tt));
  reads = rw (number_of-decimal tx (omega (arith, h.0.1)), number_of-decimal rank (omega (arith, h.1))) refl;
}
decision-back sites (Refuse tx walk) few h =
    let w = walk-back sites walk few h.1 in
    record {
      numbers = (IsNumber-decimal tx (omega (arith, h.0.1)), (w.numbers, tt));
      reads = rw (number_of-decimal tx (omega (arith, h.0.1)), w.reads) refl;
    }
decision-back sites (Withdraw tx) few h = record {
  numbers = (IsNumber-decimal tx (omega (arith, h.1)), tt);
  reads = rw (number_of-decimal tx (omega (arith, h.1))) refl;
}

decision-depth : (sites : ℕ) (d : Decision) → sites ≤ max_sites → IsDecision sites d
    → tree.depth (outline (decision_data d)) ≤ 3
decision-depth sites (Commit tx rank) few h = lit≤ tt
decision-depth sites (Refuse tx walk) few h = omega (arith, (walk-back sites walk few h.1).depth)
decision-depth sites (Withdraw tx) few h = lit≤ tt

decisions-back : (sites : ℕ) (ds : List Decision) → sites ≤ max_sites → All (IsDecision sites) ds
    → ItemsReadBack 3 (items_data decision_data ds)
decisions-back sites [] few h = record { numbers = tt; reads = refl; depth = omega arith }
decisions-back sites (d ∷ ds) few h =
    let first = decision-back sites d few (All-head (IsDecision sites) d ds h) in
    let rest = decisions-back sites ds few (All-tail (IsDecision sites) d ds h) in
    record {
      numbers = (first.numbers, rest.numbers);
      reads = ap (option_and_then (λ e. option_map (item e) (of_items (items_outline (items_data decision_data ds)))))
          first.reads ∙ ap (option_map (item (decision_data d))) rest.reads;
      depth = omega (arith, rest.depth, decision-depth sites d few (All-head (IsDecision sites) d ds h));
    }

-- the text of a certificate is read as that certificate's data
pub read-certificate_text : (c : Certificate) → IsCertificate c → read (certificate_text c) ≡ Some (certificate_data c)
read-certificate_text c h =
    let d = certificate_data c in
    let all = decisions-back c.sites c.decisions h.1 h.2 in
    let j = outline d in
    let numbers : tree.HasNumbers j = (all.numbers, (IsNumber-decimal c.sites (omega (arith, h.1)), tt)) in
    let reads : of_json j ≡ Some d = rw (all.reads, number_of-decimal c.sites (omega (arith, h.1))) refl in
    let told : tokens (certificate_text c) ≡ tree.json_tokens j = ap tokens (sym (print-outline d))
    ∙ tokens-print (tree.json_tokens j) (printable j numbers) in
    let parsed : json.value max_depth (tokens (certificate_text c)) ≡ Some (j, []) =
    ap (json.value max_depth) (told ∙ sym (append-nil (tree.json_tokens j)))
    ∙ value-json_tokens j max_depth [] (omega (arith, all.depth)) in
    ap (λ o. option_and_then of_json (option_and_then (λ p. json.if_last p.0 p.1) o)) parsed ∙ reads

-- ---- the data tells the certificate

kind-one : (k l : Kind) → kind_name k ≡ kind_name l → k ≡ l
kind-one Wr Wr e = refl
kind-one Wr Rw e = absurd (eqb-false 119 114 refl (ap (λ (bs : List ℕ). get_or bs 0 0) e))
kind-one Wr Ww e = absurd (eqb-false 114 119 refl (ap (λ (bs : List ℕ). get_or bs 1 0) e))
kind-one Rw Wr e = absurd (eqb-false 114 119 refl (ap (λ (bs : List ℕ). get_or bs 0 0) e))
kind-one Rw Rw e = refl
kind-one Rw Ww e = absurd (eqb-false 114 119 refl (ap (λ (bs : List ℕ). get_or bs 0 0) e))
kind-one Ww Wr e = absurd (eqb-false 119 114 refl (ap (λ (bs : List ℕ). get_or bs 1 0) e))
kind-one Ww Rw e = absurd (eqb-false 119 114 refl (ap (λ (bs : List ℕ). get_or bs 0 0) e))
kind-one Ww Ww e = refl

step-one : (s t : Step) → step_data s ≡ step_data t → s ≡ t
step-one s t e =
    let item-is : s.label.item ≡ t.label.item = cc in
    let kind-is = kind-one s.label.kind t.label.kind cc in
    let site-is : s.label.site ≡ t.label.site = cc in
    let to-is : s.to ≡ t.to = cc in
    λ i. record { label = record { site = site-is i; item = item-is i; kind = kind-is i }; to = to-is i }

walk-one : (v w : List Step) → items_data step_data v ≡ items_data step_data w → v ≡ w
walk-one [] [] e = refl
walk-one [] (t ∷ w) e = absurd cc
walk-one (s ∷ v) [] e = absurd cc
walk-one (s ∷ v) (t ∷ w) e =
    let first : step_data s ≡ step_data t = cc in
    let rest : items_data step_data v ≡ items_data step_data w = cc in
    ap₂ (λ x xs. x ∷ xs) (step-one s t first) (walk-one v w rest)

-- the name of the first member of an object
abbrev key_of : Members → List ℕ
key_of (member k d ms) = k
key_of no_members = []

abbrev first_key : Data → List ℕ
first_key (object ms) = key_of ms
first_key _ = []

decision-one : (c d : Decision) → decision_data c ≡ decision_data d → c ≡ d
decision-one (Commit i r) (Commit j s) e = let a : i ≡ j = cc in let b : r ≡ s = cc in ap₂ (λ x y. Commit x y) a b
decision-one (Refuse i v) (Refuse j w) e =
    let a : i ≡ j = cc in
    let b : items_data step_data v ≡ items_data step_data w = cc in
    ap₂ (λ x y. Refuse x y) a (walk-one v w b)
decision-one (Withdraw i) (Withdraw j) e = let a : i ≡ j = cc in ap Withdraw a
decision-one (Commit i r) (Refuse j w) e = absurd (eqb-false 99 114 refl (ap (λ d. get_or (first_key d) 0 0) e))
decision-one (Commit i r) (Withdraw j) e = absurd (eqb-false 99 119 refl (ap (λ d. get_or (first_key d) 0 0) e))
decision-one (Refuse i v) (Commit j s) e = absurd (eqb-false 114 99 refl (ap (λ d. get_or (first_key d) 0 0) e))
decision-one (Refuse i v) (Withdraw j) e = absurd (eqb-false 114 119 refl (ap (λ d. get_or (first_key d) 0 0) e))
decision-one (Withdraw i) (Commit j s) e = absurd (eqb-false 119 99 refl (ap (λ d. get_or (first_key d) 0 0) e))
decision-one (Withdraw i) (Refuse j w) e = absurd (eqb-false 119 114 refl (ap (λ d. get_or (first_key d) 0 0) e))

decisions-one : (cs ds : List Decision) → items_data decision_data cs ≡ items_data decision_data ds → cs ≡ ds
decisions-one [] [] e = refl
decisions-one [] (d ∷ ds) e = absurd cc
decisions-one (c ∷ cs) [] e = absurd cc
decisions-one (c ∷ cs) (d ∷ ds) e =
    let first : decision_data c ≡ decision_data d = cc in
    let rest : items_data decision_data cs ≡ items_data decision_data ds = cc in
    ap₂ (λ x xs. x ∷ xs) (decision-one c d first) (decisions-one cs ds rest)

-- no two certificates have one text
pub certificate-one : (c d : Certificate) → IsCertificate c → IsCertificate d
    → certificate_text c ≡ certificate_text d → c ≡ d
certificate-one c d h g e =
    let same = same_Some (certificate_data c) (certificate_data d) (sym (read-certificate_text c h) ∙ ap read e
    ∙ read-certificate_text d g) in
    let sites-is : c.sites ≡ d.sites = cc in
    let decisions-is : items_data decision_data c.decisions ≡ items_data decision_data d.decisions = cc in
    let ds = decisions-one c.decisions d.decisions decisions-is in
    λ i. record { sites = sites-is i; decisions = ds i }
