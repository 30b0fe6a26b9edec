-- The text of a page: fixed markup, and between it what is shown, as text but for the picture.
use Rattle.std.specs.Prelude.{ℕ, List, ◌++◌}
use Rattle.sgt_markup.specs.Written.{written}
use Rattle.sgt_page.specs.declared.fixed.TheConstants.{FOOT, HEAD, HEADING, MEANING, NAME, PICTURE, SCRIPT, STYLE, TEXT, VERDICT}
use Rattle.sgt_page.specs.declared.page.Page.{Page}

-- what a page shows: its title, the verdict in a sentence, the name of what was found and what it means, the picture as
-- SVG, and the explanation
pub record Shown : Type 0 where
  pub title : List ℕ
  pub verdict : List ℕ
  pub name : List ℕ
  pub meaning : List ℕ
  pub picture : List ℕ
  pub text : List ℕ

abbrev pub shown_of : Page → Shown
shown_of page = record {
  title = page.title.now;
  verdict = page.verdict.now;
  name = page.name.now;
  meaning = page.meaning.now;
  picture = page.picture.now;
  text = page.text.now;
}

-- what stands in front of each of these, and at the end
pub record Fixed : Type 0 where
  pub head : List ℕ
  pub style : List ℕ
  pub heading : List ℕ
  pub verdict : List ℕ
  pub name : List ℕ
  pub meaning : List ℕ
  pub picture : List ℕ
  pub text : List ℕ
  pub script : List ℕ
  pub foot : List ℕ

-- that of all pages
abbrev pub fixed : Fixed
fixed = record {
  head = HEAD.now;
  style = STYLE.now;
  heading = HEADING.now;
  verdict = VERDICT.now;
  name = NAME.now;
  meaning = MEANING.now;
  picture = PICTURE.now;
  text = TEXT.now;
  script = SCRIPT.now;
  foot = FOOT.now;
}

-- each text is written by entities for what markup is made of; the picture as it is
abbrev pub page_text : Fixed → Shown → List ℕ
page_text f s = f.head ++ (written s.title ++ (f.style ++ (f.heading ++ (written s.title ++ (f.verdict ++ (written s.verdict
    ++ (f.name ++ (written s.name ++ (f.meaning ++ (written s.meaning ++ (f.picture ++ (s.picture
    ++ (f.text ++ (written s.text ++ (f.script ++ f.foot)))))))))))))))
