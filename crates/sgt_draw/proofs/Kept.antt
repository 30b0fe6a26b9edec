-- A picture that grows shows what it showed.
use Rattle.std.proofs.Common.{◌≡◌, ◌++◌, ◌∷◌, [], ◌∙◌, ℕ, Bool, true, false, List, get_or, sym, ap, subst, arith, append_assoc, append-nil}
use Rattle.std.specs.Prelude.{decimal}
use Rattle.sgt_markup.specs.Escaped.{escaped}
use Rattle.sgt_draw.specs.Node.{Shows, before, behind, node_text}
use Rattle.sgt_draw.specs.Parts.{parts_text}
use Rattle.sgt_draw.specs.Picture.{IsBegun, IsPictureOf, foot_of, head_of}
use Rattle.sgt_draw.specs.Sheet.{IsKept}
use Rattle.sgt_draw.specs.declared.node.Node.{Node}

regroup : (a b c d : List ℕ) → (a ++ (b ++ c)) ++ d ≡ a ++ (b ++ (c ++ d))
regroup a b c d = simp append_assoc

shows-more : (is_dot : Bool) (nodes : List Node) (text more : List ℕ) → Shows is_dot nodes text
    → Shows is_dot nodes (text ++ more)
shows-more is_dot [] text more shows = tt
shows-more is_dot (n ∷ nodes) text more (front, rest, is, shows) = (
  front,
  rest ++ more,
  ap (λ (t : List ℕ). t ++ more) is ∙ regroup front (node_text is_dot n) rest more,
  shows-more is_dot nodes rest more shows,
)

shows-node : (is_dot : Bool) (nodes : List Node) (n : Node) (text : List ℕ) → Shows is_dot nodes text
    → Shows is_dot (nodes ++ n ∷ []) (text ++ node_text is_dot n)
shows-node is_dot [] n text shows =
    (text, [], ap (λ (t : List ℕ). text ++ t) (sym (append-nil (node_text is_dot n))), tt)
shows-node is_dot (m ∷ nodes) n text (front, rest, is, shows) = (
  front,
  rest ++ node_text is_dot n,
  ap (λ (t : List ℕ). t ++ node_text is_dot n) is ∙ regroup front (node_text is_dot m) rest (node_text is_dot n),
  shows-node is_dot nodes n rest shows,
)

pub kept-more : (is_dot : Bool) (nodes : List Node) (text new more : List ℕ) → IsKept is_dot nodes text
    → new ≡ text ++ more → IsKept is_dot nodes new
kept-more is_dot nodes text new more kept is = record {
  rest = kept.rest ++ more;
  headed = is ∙ ap (λ (t : List ℕ). t ++ more) kept.headed ∙ append_assoc (head_of is_dot) kept.rest more;
  shows = subst (Shows is_dot nodes) (sym is) (shows-more is_dot nodes text more kept.shows);
}

pub kept-node : (is_dot : Bool) (nodes : List Node) (n : Node) (text new : List ℕ) → IsKept is_dot nodes text
    → new ≡ text ++ node_text is_dot n → IsKept is_dot (nodes ++ n ∷ []) new
kept-node is_dot nodes n text new kept is = record {
  rest = kept.rest ++ node_text is_dot n;
  headed = is ∙ ap (λ (t : List ℕ). t ++ node_text is_dot n) kept.headed
      ∙ append_assoc (head_of is_dot) kept.rest (node_text is_dot n);
  shows = subst (Shows is_dot (nodes ++ n ∷ [])) (sym is) (shows-node is_dot nodes n text kept.shows);
}

-- a node that is written and noted
pub kept-noted : (is_dot : Bool) (nodes ns : List Node) (n : Node) (text new more : List ℕ) → IsKept is_dot nodes text
    → new ≡ text ++ more → more ≡ node_text is_dot n → ns ≡ nodes ++ n ∷ [] → IsKept is_dot ns new
kept-noted is_dot nodes ns n text new more kept is node noted =
    subst (λ (ms : List Node). IsKept is_dot ms new) (sym noted)
    (kept-node is_dot nodes n text new kept (is ∙ ap (λ (t : List ℕ). text ++ t) node))

pub node-written : (is_dot : Bool) (n : Node) (b e : List ℕ) (k : ℕ) → b ≡ before is_dot n.fate
    → e ≡ behind is_dot n.fate → k ≡ n.tx → b ++ (escaped (decimal k) ++ (e ++ [])) ≡ node_text is_dot n
node-written is_dot n b e k first last number =
    ap (λ (t : List ℕ). t ++ (escaped (decimal k) ++ (e ++ []))) first
    ∙ ap (λ (i : ℕ). before is_dot n.fate ++ (escaped (decimal i) ++ (e ++ []))) number
    ∙ ap (λ (t : List ℕ). before is_dot n.fate ++ (escaped (decimal n.tx) ++ t)) (append-nil e ∙ last)

-- ---- the whole

same : (is_dot : Bool) (nodes : List Node) (text whole : List ℕ) → IsKept is_dot nodes text → IsBegun is_dot text
    → whole ≡ text ++ foot_of is_dot → IsPictureOf is_dot nodes whole
same is_dot nodes text whole kept begun is = record {
  parts = begun.0;
  whole = is ∙ ap (λ (t : List ℕ). t ++ foot_of is_dot) begun.1
      ∙ append_assoc (head_of is_dot) (parts_text begun.0) (foot_of is_dot);
  shows = subst (Shows is_dot nodes) (sym is) (shows-more is_dot nodes text (foot_of is_dot) kept.shows);
}

-- what begins as Graphviz text ends as such
pub pictured : (is_dot d : Bool) (nodes : List Node) (text whole : List ℕ) → IsKept is_dot nodes text → IsBegun d text
    → whole ≡ text ++ foot_of d → IsPictureOf is_dot nodes whole
pictured true true nodes text whole kept begun is = same true nodes text whole kept begun is
pictured false false nodes text whole kept begun is = same false nodes text whole kept begun is
pictured true false nodes text whole kept begun is =
    let here : get_or text 0 0 ≡ 100 = ap (λ (t : List ℕ). get_or t 0 0) kept.headed in
    let there : get_or text 0 0 ≡ 60 = ap (λ (t : List ℕ). get_or t 0 0) begun.1 in
    absurd (omega (arith, here, there))
pictured false true nodes text whole kept begun is =
    let here : get_or text 0 0 ≡ 60 = ap (λ (t : List ℕ). get_or t 0 0) kept.headed in
    let there : get_or text 0 0 ≡ 100 = ap (λ (t : List ℕ). get_or t 0 0) begun.1 in
    absurd (omega (arith, here, there))
