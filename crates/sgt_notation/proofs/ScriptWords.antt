-- The words of a script's line: what was read of them, and what the line spells.
use Rattle.std.proofs.Common.{◌≡◌, ◌≢◌, ℕ, ◌<◌, ◌≤◌, Bool, true, List, [], ◌∷◌, ◌++◌, length, map, All, Ok, Err, refl, sym, ap, ap₂, ◌∙◌, subst, arith, lit<}
use Rattle.std.specs.List.{AllByRecursion, join_with_byte}
use Rattle.std.proofs.lemmas.List.{append-nil}
use Rattle.std.proofs.lemmas.List.Elements.{All-from_recursion, recursion_from_All}
use Rattle.sgt_names.proofs.Lists.{heads, tails}
use Rattle.sgt_names.specs.Limits.{max_line}
use Rattle.sgt_notation.specs.PrivateEvents.{words}
use Rattle.sgt_notation.specs.PrivateScripts.{KeepsAll, KeepsScript}
use Rattle.sgt_notation.specs.Reading.{SpellsNone}
use Rattle.sgt_notation.specs.Scripts.{op_text, script_text, AreSourcesNamed, IsOp, IsScript, ReadsScript}
use Rattle.sgt_notation.specs.declared.script.Op.{Op}
use Rattle.sgt_notation.specs.declared.script.Script.{Script}
use Rattle.sgt_notation.specs.declared.fault.NotationFault.TheVariants.{Memory}
use Rattle.sgt_notation.proofs.OneSpelling.{HasNot}
use Rattle.sgt_notation.proofs.ScriptParts.{op-one, op-without}
use Rattle.sgt_notation.proofs.SiteWords.{join-words, words-join}

-- ---- operations as words

ops-plain : (ops : List Op) → AllByRecursion IsOp ops → AllByRecursion (HasNot 32) (map op_text ops)
ops-plain [] all = tt
ops-plain (op ∷ ops) all = (op-without 32 (lit< tt) refl op all.0, ops-plain ops all.1)

pub ops-one : (ops os : List Op) → AllByRecursion IsOp ops → AllByRecursion IsOp os → map op_text ops ≡ map op_text os
    → ops ≡ os
ops-one [] [] a b e = refl
ops-one [] (o ∷ os) a b e = absurd cc
ops-one (op ∷ ops) [] a b e = absurd cc
ops-one (op ∷ ops) (o ∷ os) a b e =
    ap₂ (λ x xs. x ∷ xs) (op-one op o a.0 b.0 (heads _ _ _ _ e)) (ops-one ops os a.1 b.1 (tails _ _ _ _ e))

pub words-of_script : (ops : List Op) → AllByRecursion IsOp ops → 1 ≤ length ops
    → words (join_with_byte 32 (map op_text ops)) ≡ map op_text ops
words-of_script [] all some = absurd (omega (arith, some))
words-of_script (op ∷ ops) all some =
    words-join (op_text op) (map op_text ops) (op-without 32 (lit< tt) refl op all.0) (ops-plain ops all.1)

-- ---- what was read of the words

-- some of the words are read, and spell operations
pub record IsPartly (all rest : List (List ℕ)) (items : List Op) (kept : Bool) : Type 0 where
  pub ops : List Op
  pub each : AllByRecursion IsOp ops
  pub spelled : all ≡ map op_text ops ++ rest
  pub whole : kept ≡ true → items ≡ ops

pub partly-none : (all : List (List ℕ)) (items : List Op) → items ≡ [] → IsPartly all all items true
partly-none all items empty = record { ops = []; each = tt; spelled = refl; whole = λ _. empty }

-- a word among those of operations spells one
word_among : (xs : List (List ℕ)) (w : List ℕ) (ws : List (List ℕ)) (os : List Op) → AllByRecursion IsOp os
    → xs ++ w ∷ ws ≡ map op_text os → SpellsNone IsOp op_text w → ⊥
word_among [] w ws [] all e none = absurd cc
word_among [] w ws (o ∷ os) all e none = none o all.0 (heads _ _ _ _ e)
word_among (x ∷ xs) w ws [] all e none = absurd cc
word_among (x ∷ xs) w ws (o ∷ os) all e none = word_among xs w ws os all.1 (tails _ _ _ _ e) none

each-push : (ops : List Op) (op : Op) → AllByRecursion IsOp ops → IsOp op → AllByRecursion IsOp (ops ++ op ∷ [])
each-push [] op all is = (is, tt)
each-push (o ∷ os) op all is = (all.0, each-push os op all.1 is)

map-push : (ops : List Op) (op : Op) (more : List (List ℕ))
    → map op_text ops ++ op_text op ∷ more ≡ map op_text (ops ++ op ∷ []) ++ more
map-push [] op more = refl
map-push (o ∷ os) op more = ap (λ ws. op_text o ∷ ws) (map-push os op more)

module _ {all rest : List (List ℕ)} {items : List Op} {kept : Bool} (p : IsPartly all rest items kept) where
  pub partly-all : rest ≡ [] → KeepsAll all items kept
  partly-all end = record {
    ops = p.ops;
    each = All-from_recursion IsOp p.ops p.each;
    spelled = p.spelled ∙ ap (λ ws. map op_text p.ops ++ ws) end ∙ append-nil (map op_text p.ops);
    whole = p.whole;
  }

  module _ (word : List ℕ) (more : List (List ℕ)) (left : rest ≡ word ∷ more) where
    pub partly-no_op : SpellsNone IsOp op_text word → (os : List Op) → All IsOp os → all ≢ map op_text os
    partly-no_op none os each e =
        let same = sym (p.spelled ∙ ap (λ ws. map op_text p.ops ++ ws) left) ∙ e in
        word_among (map op_text p.ops) word more os (recursion_from_All IsOp os each) same none

    pub partly-next : (op : Op) → IsOp op → word ≡ op_text op → (items' : List Op) (kept' : Bool)
        → (kept' ≡ true → (kept ≡ true) × (items' ≡ items ++ op ∷ [])) → IsPartly all more items' kept'
    partly-next op is spells items' kept' pushed = record {
      ops = p.ops ++ op ∷ [];
      each = each-push p.ops op p.each is;
      spelled = p.spelled ∙ ap (λ ws. map op_text p.ops ++ ws) (left ∙ ap (λ w. w ∷ more) spells)
          ∙ map-push p.ops op more;
      whole = λ k. let both = pushed k in both.1 ∙ ap (λ os. os ++ op ∷ []) (p.whole both.0);
    }

-- ---- what the line spells

pub too_long : (line : List ℕ) → max_line < length line → SpellsNone IsScript script_text line
too_long line long s is whole = let room = is.room in let same = ap length whole in
    absurd (omega (arith, long, room, same))

words_are : (line : List ℕ) (s : Script) → IsScript s → line ≡ script_text s → words line ≡ map op_text s.operations
words_are line s is whole = ap words whole
    ∙ words-of_script s.operations (recursion_from_All IsOp s.operations is.each) is.some

pub no_ops : (line : List ℕ) → ((os : List Op) → All IsOp os → words line ≢ map op_text os)
    → SpellsNone IsScript script_text line
no_ops line none s is whole = none s.operations is.each (words_are line s is whole)

pub unnamed : (line : List ℕ) (items : List Op) (kept : Bool) → KeepsAll (words line) items kept → kept ≡ true
    → (AreSourcesNamed items → ⊥) → SpellsNone IsScript script_text line
unnamed line items kept k all none s is whole =
    let each = recursion_from_All IsOp s.operations is.each in
    let same = ops-one s.operations k.ops each (recursion_from_All IsOp k.ops k.each) (sym (words_are line s is whole)
    ∙ k.spelled) in
    none (subst AreSourcesNamed (same ∙ sym (k.whole all)) is.named)

spells : (line : List ℕ) (ops : List Op) → words line ≡ map op_text ops
    → line ≡ script_text (record { operations = ops })
spells line ops e = join-words line (map op_text ops) e

some_op : (line : List ℕ) (ops : List Op) → words line ≡ map op_text ops → 1 ≤ length ops
some_op line [] e = absurd (let empty : line ≡ [] = join-words line [] e in let same : words [] ≡ [] =
    sym (ap words empty) ∙ e in cc)
some_op line (op ∷ ops) e = omega arith

pub wanting : (line : List ℕ) (items : List Op) (kept : Bool) → KeepsAll (words line) items kept
    → length line ≤ max_line
    → ReadsScript line (Err Memory)
wanting line items kept k short =
    (record { operations = k.ops }, k.each, some_op line k.ops k.spelled, spells line k.ops k.spelled, short)

pub script-kept : (line : List ℕ) (items : List Op) (kept : Bool) → KeepsAll (words line) items kept → kept ≡ true
    → AreSourcesNamed items → length line ≤ max_line → KeepsScript line items (Ok tt)
script-kept line items kept k all named short =
    let same = k.whole all in
    let words_is = k.spelled ∙ ap (map op_text) (sym same) in
    let whole = spells line items words_is in (
      record {
        each = subst (All IsOp) (sym same) k.each;
        some = some_op line items words_is;
        named = named;
        room = subst (λ t. length t ≤ max_line) whole short;
      },
      whole,
    )
