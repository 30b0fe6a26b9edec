-- A picture that grows by steps.
use Rattle.std.proofs.Common.{◌≡◌, ◌<◌, ◌≤◌, ℕ, zero, suc, ◌+◌, List, [], ◌∷◌, ◌++◌, get_or, length, take, map, codes, decimal, refl, sym, ap, ◌∙◌, subst, append_assoc, append-nil}
use Rattle.std.proofs.lemmas.List.{map_push, take_all}
use Rattle.std.proofs.lemmas.Option.{slice_get-get_or}
use Rattle.sgt_names.proofs.Lists.{take_next}
use Rattle.sgt_markup.specs.Escaped.{escaped}
use Rattle.sgt_history_picture.specs.Drawn.{AreDrawn, IsHeaded, IsMoreTold}
use Rattle.sgt_history_picture.specs.Label.{box_text, headline_text, more_text, name_text, title_text, words_text}
use Rattle.sgt_history_picture.specs.Private.{ArePut, Grows, IsPut, IsQuiet}
use Rattle.sgt_history_picture.specs.Told.{Step, step_of}
use Rattle.sgt_history_picture.specs.declared.told.Told.{Told}
use Rattle.sgt_history_picture.proofs.Quiet.{no-title, quiet-append, quiet-name}

pub grown : (old new rest : List ℕ) → new ≡ old ++ rest → IsQuiet rest → Grows old new
grown old new rest is quiet = (rest, is, quiet)

pub grows-on : (old between new : List ℕ) → Grows old between → Grows between new → Grows old new
grows-on old between new (a, is, quiet) (b, is', quiet') = (
  a ++ b,
  is' ∙ ap (λ (t : List ℕ). t ++ b) is
      ∙ append_assoc old a b,
  quiet-append a b quiet quiet',
)

-- a step, piece by piece
pub put : (s : Step) (old begun named framed boxed linked titled arrowed new : List ℕ) → Grows old begun
    → named ≡ begun ++ name_text s.from → Grows named framed → boxed ≡ framed ++ box_text s.from → Grows boxed linked
    → titled ≡ linked ++ title_text s → Grows titled arrowed → new ≡ arrowed ++ words_text s → IsPut s old new
put s old begun named framed boxed linked titled arrowed new (front, is0, q0) is1 (frame, is2, q2) is3 (link, is4, q4) is5 (arrow, is6, q6) is7 = record {
  front = front;
  frame = frame;
  link = link;
  arrow = arrow;
  is = is7 ∙ ap (λ (t : List ℕ). t ++ words_text s) (is6
      ∙ ap (λ (t : List ℕ). t ++ arrow) (is5 ∙ ap (λ (t : List ℕ). t ++ title_text s) (is4
      ∙ ap (λ (t : List ℕ). t ++ link) (is3 ∙ ap (λ (t : List ℕ). t ++ box_text s.from)
      (is2 ∙ ap (λ (t : List ℕ). t ++ frame) (is1 ∙ ap (λ (t : List ℕ). t ++ name_text s.from) is0))))))
      ∙ regroup old front (name_text s.from) frame (box_text s.from) link (title_text s) arrow (words_text s);
  quiet_front = q0;
  quiet_frame = q2;
  quiet_link = q4;
  quiet_arrow = q6;
}
  where
    regroup : (a b c d e f g h i : List ℕ)
        → (((((((a ++ b) ++ c) ++ d) ++ e) ++ f) ++ g) ++ h) ++ i
        ≡ a ++ (b ++ (c ++ (d ++ (e ++ (f ++ (g ++ (h ++ i)))))))
    regroup a b c d e f g h i = simp append_assoc

-- what stands behind the first piece of a step
abbrev piece_of : (s : Step) (frame link arrow : List ℕ) → List ℕ
piece_of s frame link arrow =
    name_text s.from ++ (frame ++ (box_text s.from ++ (link ++ (title_text s ++ (arrow ++ words_text s)))))

-- what is quiet may stand in front of a step
put-front : (s : Step) (old between new : List ℕ) → Grows old between → IsPut s between new → IsPut s old new
put-front s old between new (rest, is, quiet) p =
    let piece = piece_of s p.frame p.link p.arrow in record {
      front = rest ++ p.front;
      frame = p.frame;
      link = p.link;
      arrow = p.arrow;
      is = p.is ∙ ap (λ (t : List ℕ). t ++ (p.front ++ piece)) is ∙ append_assoc old rest (p.front ++ piece)
          ∙ ap (λ (t : List ℕ). old ++ t) (sym (append_assoc rest p.front piece));
      quiet_front = quiet-append rest p.front quiet p.quiet_front;
      quiet_frame = p.quiet_frame;
      quiet_link = p.quiet_link;
      quiet_arrow = p.quiet_arrow;
    }

pub none-put : (text : List ℕ) → ArePut [] text text
none-put text = ([], sym (append-nil text), refl)

-- behind the steps so far comes one more
put-push : (steps : List Step) (s : Step) (old between new : List ℕ) → ArePut steps old between → IsPut s between new
    → ArePut (steps ++ s ∷ []) old new
put-push [] s old between new grows p = (new, put-front s old between new grows p, none-put new)
put-push (t ∷ steps) s old between new (mid, here, more) p = (mid, here, put-push steps s mid between new more p)

-- what is put in front, and behind
pub put-behind : (steps : List Step) (old between new : List ℕ) → ArePut steps old between → Grows between new
    → ArePut steps old new
put-behind [] old between new first more = grows-on old between new first more
put-behind (s ∷ steps) old between new (mid, here, rest) more = (mid, here, put-behind steps mid between new rest more)

pub put-before : (steps : List Step) (old between new : List ℕ) → Grows old between → ArePut steps between new
    → ArePut steps old new
put-before [] old between new first more = grows-on old between new first more
put-before (s ∷ steps) old between new first (mid, here, more) = (mid, put-front s old between mid first here, more)

-- ---- a list of steps

-- one more step is put
pub put-next : (steps : List Told) (k : ℕ) (d : Told) (old between new : List ℕ) → k < length steps
    → ArePut (map step_of (take k steps)) old between → IsPut (step_of (get_or steps k d)) between new
    → ArePut (map step_of (take (k + 1) steps)) old new
put-next steps k d old between new within so_far one =
    let x = get_or steps k d in
    subst (λ (ss : List Step). ArePut ss old new)
    (sym (ap (λ (xs : List Told). map step_of xs) (take_next steps k x (slice_get-get_or steps k d within))
    ∙ map_push step_of (take k steps) x))
    (put-push (map step_of (take k steps)) (step_of x) old between new so_far one)

-- each is
pub put-all : (steps : List Told) (k : ℕ) (old new : List ℕ) → length steps ≤ k
    → ArePut (map step_of (take k steps)) old new
    → ArePut (map step_of steps) old new
put-all steps k old new all so_far =
    subst (λ (xs : List Told). ArePut (map step_of xs) old new) (take_all k steps all) so_far

-- ---- the whole

drawn-behind : (steps : List Step) (old new : List ℕ) → ArePut steps old new → (rest : List ℕ) × (new ≡ old ++ rest)
    × AreDrawn rest steps
drawn-behind [] old new (rest, is, quiet) = (rest, is, no-title rest quiet)
drawn-behind (s ∷ steps) old new (between, p, more) =
    let h = drawn-behind steps between new more in (
      (p.front ++ piece_of s p.frame p.link p.arrow) ++ h.0,
      h.1 ∙ ap (λ (t : List ℕ). t ++ h.0) p.is ∙ append_assoc old _ h.0,
      (
        p.front,
        p.frame,
        p.link,
        p.arrow,
        h.0,
        regroup p.front (name_text s.from) p.frame (box_text s.from) p.link (title_text s) p.arrow (words_text s) h.0,
        no-title p.front p.quiet_front,
        no-title p.frame p.quiet_frame,
        no-title p.link p.quiet_link,
        no-title p.arrow p.quiet_arrow,
        h.2,
      ),
    )
  where
    regroup : (a b c d e f g h i : List ℕ)
        → (a ++ (b ++ (c ++ (d ++ (e ++ (f ++ (g ++ h))))))) ++ i
        ≡ a ++ (b ++ (c ++ (d ++ (e ++ (f ++ (g ++ (h ++ i)))))))
    regroup a b c d e f g h i = simp append_assoc

pub drawn : (steps : List Step) (text : List ℕ) → ArePut steps [] text → AreDrawn text steps
drawn steps text are = let h = drawn-behind steps [] text are in subst (λ (t : List ℕ). AreDrawn t steps) (sym h.1) h.2

-- ---- the headline

pub headline-grows : (name old new : List ℕ) → new ≡ old ++ headline_text name → Grows old new
headline-grows name old new is = grown old new (headline_text name) is (quiet-name name (codes ": each stands before the next in every order</text>\n"))

pub headed : (steps : List Step) (name old titled told drawn_to text foot : List ℕ)
    → titled ≡ old ++ headline_text name → Grows titled told
    → ArePut steps told drawn_to → text ≡ drawn_to ++ foot → IsHeaded name text
headed steps name old titled told drawn_to text foot is (kinds, is', quiet) are whole =
    let h = drawn-behind steps told drawn_to are in (
      old,
      (kinds ++ (h.0 ++ foot)),
      whole ∙ ap (λ (t : List ℕ). t ++ foot) (h.1
          ∙ ap (λ (t : List ℕ). t ++ h.0) (is' ∙ ap (λ (t : List ℕ). t ++ kinds) is))
          ∙ regroup old (headline_text name) kinds h.0 foot,
    )
  where
    regroup : (a b c d e : List ℕ) → (((a ++ b) ++ c) ++ d) ++ e ≡ a ++ (b ++ (c ++ (d ++ e)))
    regroup a b c d e = simp append_assoc

-- ---- how many more

pub more-told : (more : ℕ) (front behind text : List ℕ) → text ≡ front ++ (more_text more ++ behind)
    → IsMoreTold more text
more-told zero front behind text is = tt
more-told (suc n) front behind text is = (front, behind, is)

-- behind a text's place and quotes the words stand
pub more-shown : (more : ℕ) (old new a n q : List ℕ)
    → new ≡ old ++ (a ++ (n ++ (q ++ (codes ">and " ++ (escaped (decimal more)
    ++ (codes " more, the last of them back to the first</text>\n" ++ []))))))
    → IsMoreTold more new
more-shown more old new a n q is =
    more-told more (old ++ (a ++ (n ++ q))) [] new (is ∙ regroup old a n q (codes ">and ") (escaped (decimal more))
    (codes " more, the last of them back to the first</text>\n"))
  where
    regroup : (o a n q g m t : List ℕ)
        → o ++ (a ++ (n ++ (q ++ (g ++ (m ++ (t ++ [])))))) ≡ (o ++ (a ++ (n ++ q))) ++ ((g ++ (m ++ t)) ++ [])
    regroup o a n q g m t = simp (append_assoc, append-nil)

pub more-behind : (more : ℕ) (old text foot : List ℕ) → IsMoreTold more old → text ≡ old ++ foot → IsMoreTold more text
more-behind zero old text foot told whole = tt
more-behind (suc n) old text foot (front, behind, is) whole = (
  front,
  behind ++ foot,
  whole ∙ ap (λ (t : List ℕ). t ++ foot) is ∙ append_assoc front (more_text (suc n) ++ behind) foot
      ∙ ap (λ (t : List ℕ). front ++ t) (append_assoc (more_text (suc n)) behind foot),
)

-- ---- a text of three pieces

pub joined : (old x y new a b c : List ℕ) → x ≡ old ++ a → y ≡ x ++ b → new ≡ y ++ c → new ≡ old ++ (a ++ (b ++ c))
joined old x y new a b c is0 is1 is2 =
    is2 ∙ ap (λ (t : List ℕ). t ++ c) (is1 ∙ ap (λ (t : List ℕ). t ++ b) is0) ∙ regroup old a b c
  where
    regroup : (a b c d : List ℕ) → ((a ++ b) ++ c) ++ d ≡ a ++ (b ++ (c ++ d))
    regroup a b c d = simp append_assoc

-- the first of them with a kind in it
pub joined-kind : (old x y new word kind b c : List ℕ) → word ≡ kind
    → x ≡ old ++ (codes ">" ++ (word ++ codes " ")) → y ≡ x ++ b → new ≡ y ++ c
    → new ≡ old ++ (codes ">" ++ (kind ++ (codes " " ++ (b ++ c))))
joined-kind old x y new word kind b c same is0 is1 is2 =
    joined old x y new (codes ">" ++ (word ++ codes " ")) b c is0 is1 is2
    ∙ ap (λ (t : List ℕ). old ++ (codes ">" ++ t)) (append_assoc word (codes " ") (b ++ c)
    ∙ ap (λ (t : List ℕ). t ++ (codes " " ++ (b ++ c))) same)
