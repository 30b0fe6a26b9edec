-- The pieces of a page, one behind the other.
use Rattle.std.proofs.Common.{◌≡◌, ◌++◌, ℕ, List, [], append_assoc, refl}
use Rattle.sgt_page.specs.Page.{Fixed, Shown, page_text}
use Rattle.sgt_markup.specs.Written.{written}

pub joined : (f : Fixed) (s : Shown) (o a b c d : List ℕ) → o ≡ []
    → a ≡ o ++ (f.head ++ (written s.title ++ f.style))
    → b ≡ a ++ (f.heading ++ (written s.title ++ (f.verdict ++ (written s.verdict ++ (f.name ++ (written s.name
    ++ (f.meaning ++ written s.meaning)))))))
    → c ≡ b ++ (f.picture ++ (s.picture ++ (f.text ++ written s.text)))
    → d ≡ c ++ (f.script ++ f.foot)
    → d ≡ page_text f s
joined f s o a b c d eo ea eb ec ed = rw (ed, ec, eb, ea, eo) (simp append_assoc refl)
