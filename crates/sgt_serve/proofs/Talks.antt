-- A talk goes on: a line is taken, answers are written, more is read.
use Rattle.std.proofs.Common.{◌≡◌, ◌≢◌, ◌⊎◌, ◌<◌, ◌+◌, ℕ, List, [], ◌∷◌, ◌++◌, length, map, take, drop, refl, sym, ◌∙◌, ap, subst, inl, inr, arith, append_assoc, Result, Ok, Err}
use Rattle.std.proofs.lemmas.Grind.{common_steps}
use Rattle.std.proofs.Math.Seq.{take-append-add}
use Rattle.std.proofs.lemmas.List.{append-nil, map-append, take-append-le}
use Rattle.std.proofs.lemmas.List.Elements.{All-push}
use Rattle.sgt_notation.specs.Events.{site_text}
use Rattle.sgt_notation.specs.Spelling.{text_of_lines}
use Rattle.sgt_notation.specs.declared.event.SiteLine.{SiteLine}
use Rattle.sgt_core_model.specs.Core.{CoreState}
use Rattle.sgt_core_machine.specs.Machine.{Parts}
use Rattle.sgt_pipe.specs.Fronts.{IsLineOf, IsPart}
use Rattle.sgt_pipe.specs.declared.history.History.{History}
use Rattle.sgt_courses.specs.declared.answer.Answer.{Answer}
use Rattle.sgt_courses.specs.declared.answer.Answer.TheVariants.{Replies, Cut, Uncut, Unreadable}
use Rattle.sgt_serve.specs.declared.stop.Stop.{Stop}
use Rattle.sgt_serve.specs.declared.stop.Stop.TheVariants as stop
use Rattle.sgt_courses.specs.Course.{AsksNothing, MayTake, Numbered, Turn}
use Rattle.sgt_serve.specs.Talk.{AreAnswered, IsAnswered, IsTalk, Starts, Talk, answer_line, asked_text, handed_texts, told_text}
use Rattle.sgt_serve.specs.Ended.{MayClose, WroteAll}
use Rattle.sgt_serve.specs.Place.{Kept, PlaceSaid, PlaceSays}
use Rattle.sgt_pipe.specs.declared.handed.KeepFault.{KeepFault}
use Rattle.sgt_serve.specs.private.Turning.{Takes}
use Rattle.sgt_serve.specs.private.Opening.{Asks}
use Rattle.sgt_serve.specs.private.Talking.{Desk, Flushes, HasCome, HasOpened, HasStopped, HasTalk, SaysLast, SaysStop, TakesFront, desk, refused_at}
use Rattle.sgt_courses.proofs.Courses.{one_more}
use Rattle.sgt_notation.proofs.Texts.{text-append}

-- ---- one more turn

abbrev taken : Talk → List ℕ → Answer → List Numbered → CoreState → Talk
taken t line answer handed d = record {
  sites = t.sites;
  turns = t.turns ++ record { asked = line; answer = answer } ∷ [];
  bundles = t.bundles ++ handed;
  last = d;
}

starts_on : (turns : List Turn) (turn : Turn) → Starts turns → (turns ≢ []) ⊎ (turn.answer ≢ Unreadable)
    → Starts (turns ++ turn ∷ [])
starts_on [] turn s (inl some) = absurd (some refl)
starts_on [] turn s (inr asks) = asks
starts_on (u ∷ us) turn s either = s

is_taken : (t : Talk) (line : List ℕ) (answer : Answer) (handed : List Numbered) (d : CoreState) → IsTalk t
    → t.sites ≢ []
    → (t.turns ≢ []) ⊎ (answer ≢ Unreadable) → MayTake t.last line answer handed d
    → IsTalk (taken t line answer handed d)
is_taken t line answer handed d is some either may = record {
  sites = is.sites;
  some = λ none. absurd (some none);
  starts = starts_on t.turns (record { asked = line; answer = answer }) is.starts either;
  course = one_more _ t.last d t.turns t.bundles handed (record { asked = line; answer = answer }) is.course may;
}

one_text : (line : List ℕ) → text_of_lines (line ∷ []) ≡ line ++ 10 ∷ []
one_text line = append-nil (line ++ 10 ∷ [])

asked_more : (sites : List (List ℕ)) (turns : List Turn) (turn : Turn)
    → text_of_lines (sites ++ map (λ (u : Turn). u.asked) (turns ++ turn ∷ [])) ≡ text_of_lines
    (sites ++ map (λ (u : Turn). u.asked) turns) ++ (turn.asked ++ 10 ∷ [])
asked_more sites turns turn =
    ap (λ (ls : List (List ℕ)). text_of_lines (sites ++ ls)) (map-append (λ (u : Turn). u.asked) turns (turn ∷ []))
    ∙ (ap text_of_lines (sym (append_assoc sites (map (λ (u : Turn). u.asked) turns) (turn.asked ∷ [])))
    ∙ (text-append (sites ++ map (λ (u : Turn). u.asked) turns) (turn.asked ∷ [])
    ∙ ap (λ (ts : List ℕ). text_of_lines (sites ++ map (λ (u : Turn). u.asked) turns) ++ ts) (one_text turn.asked)))

told_more : (turns : List Turn) (turn : Turn)
    → text_of_lines (map (λ (u : Turn). answer_line u.asked u.answer) (turns ++ turn ∷ []))
    ≡ text_of_lines (map (λ (u : Turn). answer_line u.asked u.answer) turns) ++
    (answer_line turn.asked turn.answer ++ 10 ∷ [])
told_more turns turn =
    ap text_of_lines (map-append (λ (u : Turn). answer_line u.asked u.answer) turns (turn ∷ []))
    ∙ (text-append (map (λ (u : Turn). answer_line u.asked u.answer) turns) (answer_line turn.asked turn.answer ∷ [])
    ∙ ap (λ (ts : List ℕ). text_of_lines (map (λ (u : Turn). answer_line u.asked u.answer) turns) ++ ts)
    (one_text (answer_line turn.asked turn.answer)))

-- the place answered so over the turns, and then so; and so many growths were refused
said_more : (turns : List Turn) (turn : Turn) (said own : List (Result ℕ KeepFault)) (n k : ℕ)
    → PlaceSaid turns said n → PlaceSays turn.answer own k → PlaceSaid (turns ++ turn ∷ []) (said ++ own) (n + k)
said_more [] turn said own n k (none, zero) says = (
  own,
  [],
  k,
  0,
  ap (λ (xs : List (Result ℕ KeepFault)). xs ++ own) none
      ∙ sym (append-nil own),
  omega (arith, zero),
  says,
  (refl, refl),
)
said_more (u ∷ us) turn said own n k (first, more, i, m, is, sum, here, later) says = (
  first,
  more ++ own,
  i,
  m + k,
  ap (λ (xs : List (Result ℕ KeepFault)). xs ++ own) is ∙ append_assoc first more own,
  omega (arith, sum),
  here,
  said_more us turn more own m k later says,
)

-- so many more were refused in a turn, and none else
counted : (before now later n k e : ℕ) → now ≡ before + (n + e) → later ≡ now + k → later ≡ before + ((n + k) + e)
counted before now later n k e was more = omega (arith, was, more)

-- one more was refused else
counted_else : (before now later n e : ℕ) → now ≡ before + (n + e) → e ≡ 0 → later ≡ now + 1
    → later ≡ before + (n + 1)
counted_else before now later n e was none more = omega (arith, was, none, more)

pub handed_more : (xs ys : List Numbered) → handed_texts (xs ++ ys) ≡ handed_texts xs ++ handed_texts ys
handed_more xs ys = map-append _ xs ys

-- a line that asks for something isn't answered as one that asks for nothing
asks_some : (line : List ℕ) → Asks line → AsksNothing line → ⊥
asks_some line (inl cut) none = none.cut cut
asks_some line (inr event) none = none.event event.0 event.1 event.2

not_unreadable : (c : CoreState) (line : List ℕ) (answer : Answer) (handed : List Numbered) (d : CoreState)
    → Asks line → MayTake c line answer handed d → answer ≢ Unreadable
not_unreadable c line (Replies reply) handed d asks may = λ e. cc
not_unreadable c line (Cut number) handed d asks may = λ e. cc
not_unreadable c line (Uncut fault) handed d asks may = λ e. cc
not_unreadable c line Unreadable handed d asks may = λ e. asks_some line asks may.0

-- ---- a line is taken

moved : (asked line rest : List ℕ) → asked ++ (line ++ 10 ∷ rest) ≡ (asked ++ (line ++ 10 ∷ [])) ++ rest
moved asked line rest = grind (arith, common_steps)

joined : (a b c : List ℕ) → (a ++ b) ++ c ≡ a ++ (b ++ c)
joined a b c = append_assoc a b c

front_of : (written more : List ℕ) → written ≡ take (length written) (written ++ more)
front_of written more = grind (arith, common_steps)

less_some : (written gathered line : List ℕ) → length written < length (written ++ (gathered ++ (line ++ 10 ∷ [])))
less_some written gathered line = grind (arith, common_steps)

less_part : (written gathered tail : List ℕ) (m : ℕ) → m < length gathered
    → length written + m < length ((written ++ gathered) ++ tail)
less_part written gathered tail m lt = grind (arith, common_steps)

-- what a turn makes of a talk that has come so far
record IsOn (sites : List SiteLine) (before : Kept) (t : Talk) (beside : ℕ) (new : Desk) (line rest told : List ℕ)
    : Type 0 where
  talk : Talk
  has : HasTalk sites before talk new
  same_else : has.refused_else ≡ beside
  begun : talk.turns ≢ []
  asked : new.given ≡ asked_text talk ++ rest
  says : told_text talk ≡ told_text t ++ told

some_behind : {A : Type 0} (xs : List A) (x : A) → xs ++ x ∷ [] ≢ []
some_behind [] x = λ e. cc
some_behind (y ∷ ys) x = λ e. cc

turn_on : (sites : List SiteLine) (before : Kept) (t : Talk) (history : History) (n : ℕ) (answer : Answer)
    (kept kept' : Kept) (core core' : Parts)
    (gathered gathered' held held' : List ℕ) (has : HasTalk sites before t (desk kept core history gathered held))
    → history.given ≡ asked_text t ++ held → IsLineOf held n
    → ((c : CoreState) (handed : List Numbered) (d : CoreState) → MayTake c (take n held) answer handed d
    → (t.turns ≢ []) ⊎ (answer ≢ Unreadable))
    → Takes core (take n held) answer kept kept' core'
    → IsOn sites before t has.refused_else (desk kept' core' history gathered' held')
    (take n held) (drop (n + 1) held) (answer_line (take n held) answer ++ 10 ∷ [])
turn_on sites before t history n answer kept kept' core core' gathered gathered' held held' has asked line either
    takes =
    let (d, handed, may, more, stands) = takes.0 t.last has.stands in
    let (own, k, says, then, refused) = takes.1 in
    let turn : Turn = record { asked = take n held; answer = answer } in
    let some : t.sites ≢ [] = λ none. has.some (sym has.over ∙ none) in
    record {
      talk = taken t (take n held) answer handed d;
      has = record {
        is = is_taken t (take n held) answer handed d has.is some (either t.last handed d may) may;
        over = has.over;
        some = has.some;
        kept = more ∙ (ap (λ (ks : List (ℕ × List ℕ)). ks ++ handed_texts handed) has.kept
            ∙ (append_assoc before.items (handed_texts t.bundles) (handed_texts handed)
            ∙ ap (λ (ks : List (ℕ × List ℕ)). before.items ++ ks) (sym (handed_more t.bundles handed))));
        said = has.said ++ own;
        refused = has.refused + k;
        cuts = said_more t.turns turn has.said own has.refused k has.cuts says;
        answers = then ∙ (ap (λ (xs : List (Result ℕ KeepFault)). xs ++ own) has.answers
            ∙ append_assoc before.answers has.said own);
        refused_else = has.refused_else;
        refusals = counted before.refused kept.refused kept'.refused has.refused k has.refused_else has.refusals
            refused;
        stands = stands;
        answered = has.answered;
      };
      same_else = refl;
      begun = some_behind t.turns turn;
      asked = asked
          ∙ (ap (λ (ts : List ℕ). asked_text t ++ ts) line.text
          ∙ (moved (asked_text t) (take n held) (drop (n + 1) held)
          ∙ ap (λ (ts : List ℕ). ts ++ drop (n + 1) held) (sym (asked_more (map site_text t.sites) t.turns turn))));
      says = told_more t.turns turn;
    }

-- and then a growth is refused for the answer
one_refused : (sites : List SiteLine) (before : Kept) (t : Talk) (mid kept' : Kept) (core : Parts)
    (history : History) (gathered held : List ℕ)
    (has : HasTalk sites before t (desk mid core history gathered held)) → has.refused_else ≡ 0
    → kept' ≡ record mid { refused = mid.refused + 1 }
    → HasTalk sites before t (desk kept' core history gathered held)
one_refused sites before t mid kept' core history gathered held has none one = record {
  is = has.is;
  over = has.over;
  some = has.some;
  kept = ap (λ (k : Kept). k.items) one ∙ has.kept;
  said = has.said;
  refused = has.refused;
  cuts = has.cuts;
  answers = ap (λ (k : Kept). k.answers) one ∙ has.answers;
  refused_else = 1;
  refusals = counted_else before.refused mid.refused kept'.refused has.refused has.refused_else has.refusals none
      (ap (λ (k : Kept). k.refused) one);
  stands = has.stands;
  answered = has.answered;
}

-- the talk has come so far; or it has stopped for want of memory
abbrev pub TakesOr : {E : Type 0} → Result (Unit {0}) E → List SiteLine → Kept → Desk → Type 0
TakesOr (Ok u) sites before new = HasCome sites before new
TakesOr (Err e) sites before new = HasStopped stop.Memory sites before new

way : (t : Talk) (c : CoreState) (line : List ℕ) (handed : List Numbered) (d : CoreState) (answer : Answer)
    → MayTake c line answer handed d → (t.turns ≢ []) ⊎ Asks line → (t.turns ≢ []) ⊎ (answer ≢ Unreadable)
way t c line handed d answer may (inl some) = inl some
way t c line handed d answer may (inr asks) = inr (not_unreadable c line answer handed d asks may)

pub take_on : {E : Type 0} (r : Result (Unit {0}) E) (sites : List SiteLine) (before : Kept) (t : Talk)
    (history : History) (n : ℕ) (kept kept' : Kept) (core core' : Parts)
    (gathered gathered' held held' : List ℕ) (has : HasTalk sites before t (desk kept core history gathered held))
    → has.refused_else ≡ 0
    → history.given ≡ asked_text t ++ held → told_text t ≡ history.written ++ gathered
    → IsLineOf held n → (t.turns ≢ []) ⊎ Asks (take n held)
    → TakesFront r n kept kept' core core' gathered gathered' held held'
    → TakesOr r sites before (desk kept' core' history gathered' held')
unfolding one_refused
take_on (Ok u) sites before t history n kept kept' core core' gathered gathered' held held' has zero asked told line
    either
    (answer, takes, more, left) =
    let on = turn_on sites before t history n answer kept kept' core core' gathered gathered' held held' has asked
    line (λ c handed d may. way t c (take n held) handed d answer may either) takes in
    record {
      talk = on.talk;
      has = on.has;
      begun = on.begun;
      none_else = on.same_else ∙ zero;
      asked = on.asked ∙ ap (λ (ts : List ℕ). asked_text on.talk ++ ts) (sym left);
      told = on.says ∙ (ap (λ (ts : List ℕ). ts ++ (answer_line (take n held) answer ++ 10 ∷ [])) told
          ∙ (append_assoc history.written gathered (answer_line (take n held) answer ++ 10 ∷ [])
          ∙ ap (λ (ts : List ℕ). history.written ++ ts) (sym more)));
    }
take_on (Err e) sites before t history n kept kept' core core' gathered gathered' held held' has zero asked told line
    either (answer, mid, takes, one, same, left) =
    let on = turn_on sites before t history n answer kept mid core core' gathered gathered' held held' has asked
    line (λ c handed d may. way t c (take n held) handed d answer may either) takes in
    let all : told_text on.talk ≡ history.written ++ (gathered ++ (answer_line (take n held) answer ++ 10 ∷ [])) =
    on.says ∙ (ap (λ (ts : List ℕ). ts ++ (answer_line (take n held) answer ++ 10 ∷ [])) told
    ∙ append_assoc history.written gathered (answer_line (take n held) answer ++ 10 ∷ [])) in
    record {
      talk = on.talk;
      has = one_refused sites before on.talk mid kept' core' history gathered' held' on.has (on.same_else ∙ zero) one;
      one_else = refl;
      rest = drop (n + 1) held;
      asked = on.asked;
      says = (
        length history.written,
        subst (λ (ts : List ℕ). length history.written < length ts) (sym all)
            (less_some history.written gathered (answer_line (take n held) answer)),
        front_of history.written (gathered ++ (answer_line (take n held) answer ++ 10 ∷ []))
            ∙ ap (λ (ts : List ℕ). take (length history.written) ts) (sym all),
      );
    }

pub taken_come : {E : Type 0} (r : Result (Unit {0}) E) (n : ℕ) (kept kept' : Kept) (core core' : Parts)
    (history : History) (gathered gathered' held held' : List ℕ)
    → IsLineOf held n → TakesFront r n kept kept' core core' gathered gathered' held held'
    → (sites : List SiteLine) (before : Kept)
    → HasCome sites before (desk kept core history gathered held)
    → TakesOr r sites before (desk kept' core' history gathered' held')
taken_come r n kept kept' core core' history gathered gathered' held held' line takes sites before h =
    take_on r sites before h.talk history n kept kept' core core' gathered gathered' held held' h.has h.none_else
    h.asked h.told
    line (inl h.begun) takes

pub taken_first : {E : Type 0} (r : Result (Unit {0}) E) (n : ℕ) (kept kept' : Kept) (core core' : Parts)
    (history : History) (gathered gathered' held held' : List ℕ)
    → IsLineOf held n → TakesFront r n kept kept' core core' gathered gathered' held held'
    → (sites : List SiteLine) (before : Kept)
    → HasOpened sites before (desk kept core history gathered held) → Asks (take n held)
    → TakesOr r sites before (desk kept' core' history gathered' held')
taken_first r n kept kept' core core' history gathered gathered' held held' line takes sites before h asks =
    take_on r sites before h.talk history n kept kept' core core' gathered gathered' held held' h.has h.none_else
    h.asked h.told
    line (inr asks) takes

-- ---- answers are written

-- all that a talk has of the pipe, where that has moved on with nothing given
has_moved : (sites : List SiteLine) (before : Kept) (t : Talk) (kept : Kept) (core : Parts) (old new : History)
    (g g' held held' : List ℕ)
    → new.waits ≡ old.waits → HasTalk sites before t (desk kept core old g held)
    → HasTalk sites before t (desk kept core new g' held')
has_moved sites before t kept core old new g g' held held' same h = record {
  is = h.is;
  over = h.over;
  some = h.some;
  kept = h.kept;
  said = h.said;
  refused = h.refused;
  cuts = h.cuts;
  answers = h.answers;
  refused_else = h.refused_else;
  refusals = h.refusals;
  stands = h.stands;
  answered = subst AreAnswered (sym same) h.answered;
}

part_of : (written gathered tail : List ℕ) (m : ℕ) → m < length gathered
    → written ++ take m gathered ≡ take (length written + m) ((written ++ gathered) ++ tail)
part_of written gathered tail m lt =
    sym (ap (λ (ts : List ℕ). take (length written + m) ts) (append_assoc written gathered tail)
    ∙ (take-append-add written (gathered ++ tail) m
    ∙ ap (λ (ts : List ℕ). written ++ ts) (take-append-le m gathered tail (omega (arith, lt)))))

-- so, or a front of the answers was written
abbrev pub FlushesOr : {E : Type 0} → Result (Unit {0}) E → List SiteLine → Kept → Desk → Type 0
FlushesOr (Ok u) sites before new = HasCome sites before new
FlushesOr (Err e) sites before new = HasStopped stop.WriteFault sites before new

pub flushed_on : {E : Type 0} (r : Result (Unit {0}) E) (kept : Kept) (core : Parts) (old new : History)
    (g g' held : List ℕ) → Flushes r old g new g' → (sites : List SiteLine)
    (before : Kept) → HasCome sites before (desk kept core old g held)
    → FlushesOr r sites before (desk kept core new g' held)
unfolding has_moved
flushed_on (Ok u) kept core old new g g' held (wrote, given, waits) sites before h = record {
  talk = h.talk;
  has = has_moved sites before h.talk kept core old new g g' held held waits h.has;
  begun = h.begun;
  none_else = h.none_else;
  asked = given ∙ h.asked;
  told = h.told ∙ sym wrote;
}
flushed_on (Err e) kept core old new g g' held ((m, lt, wrote), given, waits) sites before h = record {
  talk = h.talk;
  has = has_moved sites before h.talk kept core old new g g' held held waits h.has;
  one_else = h.none_else;
  rest = held;
  asked = given ∙ h.asked;
  says = (
    [],
    inl refl,
    (
      length old.written + m,
      subst (λ (ts : List ℕ). length old.written + m < length (ts ++ [])) (sym h.told)
          (less_part old.written g [] m lt),
      wrote ∙ (part_of old.written g [] m lt
          ∙ ap (λ (ts : List ℕ). take (length old.written + m) (ts ++ [])) (sym h.told)),
    ),
  );
}

-- ---- the last line

whole_tail : (written tail : List ℕ) → written ++ tail ≡ (written ++ []) ++ tail
whole_tail written tail = grind (arith, common_steps)

part_tail : (written tail : List ℕ) (m : ℕ) → m < length tail
    → written ++ take m tail ≡ take (length written + m) ((written ++ []) ++ tail)
part_tail written tail m lt =
    sym (ap (λ (ts : List ℕ). take (length written + m) (ts ++ tail)) (append-nil written)
    ∙ take-append-add written tail m)

less_tail : (written tail : List ℕ) (m : ℕ) → m < length tail → length written + m < length ((written ++ []) ++ tail)
less_tail written tail m lt = grind (arith, common_steps)

pub said_last : (result stop' : Stop) (tail : List ℕ) (kept : Kept) (core : Parts) (old new : History)
    (held : List ℕ) → SaysLast result stop' tail old new
    → refused_at stop' ≡ 0 → ((t : Talk) → t.turns ≢ [] → MayClose t held tail)
    → ((t : Talk) → t.turns ≢ [] → (written : List ℕ) → WroteAll t tail written → SaysStop stop' t held written)
    → (sites : List SiteLine) (before : Kept) → HasCome sites before (desk kept core old [] held)
    → HasStopped result sites before (desk kept core new [] held)
unfolding has_moved
said_last result stop' tail kept core old new held (inl (same, wrote), given, waits) none behind so sites before h =
    subst (λ r. HasStopped r sites before (desk kept core new [] held)) (sym same) (record {
      talk = h.talk;
      has = has_moved sites before h.talk kept core old new [] [] held held waits h.has;
      one_else = h.none_else ∙ sym none;
      rest = held;
      asked = given ∙ h.asked;
      says = so h.talk h.begun new.written (wrote
          ∙ (whole_tail old.written tail ∙ ap (λ (ts : List ℕ). ts ++ tail) (sym h.told)));
    })
said_last result stop' tail kept core old new held (inr (same, m, lt, wrote), given, waits) none behind so sites
    before h =
    subst (λ r. HasStopped r sites before (desk kept core new [] held)) (sym same) (record {
      talk = h.talk;
      has = has_moved sites before h.talk kept core old new [] [] held held waits h.has;
      one_else = h.none_else;
      rest = held;
      asked = given ∙ h.asked;
      says = (
        tail,
        behind h.talk h.begun,
        (
          length old.written + m,
          subst (λ (ts : List ℕ). length old.written + m < length (ts ++ tail)) (sym h.told)
              (less_tail old.written tail m lt),
          wrote ∙ (part_tail old.written tail m lt
              ∙ ap (λ (ts : List ℕ). take (length old.written + m) (ts ++ tail)) (sym h.told)),
        ),
      );
    })

-- ---- more is read

-- all that was given is answered
pub is_answered : (kept : Kept) (core : Parts) (history : History) (held : List ℕ) (sites : List SiteLine)
    (before : Kept) → IsPart held
    → HasCome sites before (desk kept core history [] held) → IsAnswered history.given history.written
is_answered kept core history held sites before part h = record {
  talk = h.talk;
  is = h.has.is;
  rest = held;
  part = part.none;
  asked = h.asked;
  told = sym (append-nil history.written) ∙ sym h.told;
}

pub waited : (old new : History) → AreAnswered old.waits → IsAnswered old.given old.written
    → (new.waits ≡ old.waits) ⊎ (new.waits ≡ old.waits ++ (old.given, old.written) ∷ []) → AreAnswered new.waits
waited old new all one (inl same) = subst AreAnswered (sym same) all
waited old new all one (inr more) =
    subst AreAnswered (sym more) (All-push (λ (w : List ℕ × List ℕ). IsAnswered w.0 w.1) old.waits (
      old.given,
      old.written,
    ) all one)

has_waited : (sites : List SiteLine) (before : Kept) (t : Talk) (kept : Kept) (core : Parts) (old new : History)
    (held held' : List ℕ)
    → AreAnswered new.waits → HasTalk sites before t (desk kept core old [] held)
    → HasTalk sites before t (desk kept core new [] held')
has_waited sites before t kept core old new held held' all h = record {
  is = h.is;
  over = h.over;
  some = h.some;
  kept = h.kept;
  said = h.said;
  refused = h.refused;
  cuts = h.cuts;
  answers = h.answers;
  refused_else = h.refused_else;
  refusals = h.refusals;
  stands = h.stands;
  answered = all;
}

pub filled : (kept : Kept) (core : Parts) (old new : History) (held held' bytes : List ℕ) → IsPart held
    → held' ≡ held ++ bytes → new.given ≡ old.given ++ bytes → new.written ≡ old.written
    → (new.waits ≡ old.waits) ⊎ (new.waits ≡ old.waits ++ (old.given, old.written) ∷ [])
    → (sites : List SiteLine) (before : Kept)
    → HasCome sites before (desk kept core old [] held) → HasCome sites before (desk kept core new [] held')
unfolding has_waited
filled kept core old new held held' bytes part more given written waits sites before h = record {
  talk = h.talk;
  has = has_waited sites before h.talk kept core old new held held'
      (waited old new h.has.answered (is_answered kept core old held sites before part h) waits) h.has;
  begun = h.begun;
  none_else = h.none_else;
  asked = given
      ∙ (ap (λ (ts : List ℕ). ts ++ bytes) h.asked
      ∙ (append_assoc (asked_text h.talk) held bytes ∙ ap (λ (ts : List ℕ). asked_text h.talk ++ ts) (sym more)));
  told = h.told ∙ ap (λ (ts : List ℕ). ts ++ []) (sym written);
}

pub unread : (kept : Kept) (core : Parts) (old new : History) (held held' : List ℕ) → IsPart held
    → new.given ≡ old.given → new.written ≡ old.written
    → (new.waits ≡ old.waits) ⊎ (new.waits ≡ old.waits ++ (old.given, old.written) ∷ [])
    → (sites : List SiteLine) (before : Kept)
    → HasCome sites before (desk kept core old [] held)
    → HasStopped stop.ReadFault sites before (desk kept core new [] held')
unfolding has_waited
unread kept core old new held held' part given written waits sites before h = record {
  talk = h.talk;
  has = has_waited sites before h.talk kept core old new held held'
      (waited old new h.has.answered (is_answered kept core old held sites before part h) waits) h.has;
  one_else = h.none_else;
  rest = held;
  asked = given ∙ h.asked;
  says = (part, written ∙ (sym (append-nil old.written) ∙ (sym h.told ∙ sym (append-nil (told_text h.talk)))));
}

-- at the end of the input, where nothing is held
pub said_nothing : (kept : Kept) (core : Parts) (history : History) (held : List ℕ) → held ≡ []
    → (sites : List SiteLine) (before : Kept) → HasCome sites before (desk kept core history [] held)
    → HasStopped stop.Ended sites before (desk kept core history [] held)
said_nothing kept core history held none sites before h = record {
  talk = h.talk;
  has = h.has;
  one_else = h.none_else;
  rest = held;
  asked = h.asked;
  says = (
    [],
    inl (none, refl),
    sym (append-nil history.written) ∙ (sym h.told ∙ sym (append-nil (told_text h.talk))),
  );
}
