-- The text of a cycle that isn't of conflicts alone.
use Rattle.std.specs.Prelude.{ℕ, Bool, true, false, List, ◌++◌, ◌==◌, codes, count_by, decimal, if◌then◌else◌}
use Rattle.std.specs.List.{flat_map}
use Rattle.sgt_history_verdict.specs.Named.{is_read_write as is_rw}
use Rattle.sgt_check.specs.Text.{Spelling, number_text, step_text}
use Rattle.sgt_check_kept.specs.declared.link.Link.{Link}
use Rattle.sgt_check_kept.specs.declared.link.Link.TheVariants.{Conflict, Session, Time}

abbrev pub is_read_write : Link → Bool
is_read_write (Conflict s) = is_rw s.kind
is_read_write (Session from to session) = false
is_read_write (Time from to done begin) = false

abbrev pub is_time : Link → Bool
is_time (Conflict s) = false
is_time (Session from to session) = false
is_time (Time from to done begin) = true

-- how many of the steps are rw, and how many of real time
abbrev pub read_writes : List Link → ℕ
read_writes links = count_by is_read_write links

abbrev pub timed : List Link → ℕ
timed links = count_by is_time links

-- the name: by the rw, and by whether a step is of real time
abbrev pub class_text : ℕ → List ℕ
class_text rw = if rw == 0 then codes "no G1c" else (if rw == 1 then codes "no G-single" else codes "no G2-item")

abbrev pub kind_text : ℕ → List ℕ
kind_text rt = if rt == 0 then codes "-process\n" else codes "-realtime\n"

-- the ids of two lines, and a word between
abbrev pub ends_text : {I V : Type 0} → Spelling I V → List ℕ → (from to : ℕ) → List ℕ
ends_text s word from to = s.id from ++ (word ++ s.id to)

abbrev pub lines_text : (from to : ℕ) → List ℕ
lines_text from to = codes " lines " ++ (number_text from ++ (codes " " ++ (number_text to ++ codes "\n")))

abbrev pub session_text : {I V : Type 0} → Spelling I V → (ℕ → List ℕ) → (from to session : ℕ) → List ℕ
session_text s name from to session =
    ends_text s (codes " po ") from to ++ (codes " session " ++ (name session ++ lines_text from to))

abbrev pub times_text : (done begin : ℕ) → List ℕ
times_text done begin = codes " done " ++ (decimal done ++ (codes " begin " ++ decimal begin))

abbrev pub time_text : {I V : Type 0} → Spelling I V → (from to done begin : ℕ) → List ℕ
time_text s from to done begin = ends_text s (codes " rt ") from to ++ (times_text done begin ++ lines_text from to)

abbrev pub link_text : {V : Type 0} → Spelling ℕ V → (ℕ → List ℕ) → Link → List ℕ
link_text s name (Conflict step) = step_text s step
link_text s name (Session from to session) = session_text s name from to session
link_text s name (Time from to done begin) = time_text s from to done begin

abbrev pub kept_text : {V : Type 0} → Spelling ℕ V → (ℕ → List ℕ) → List Link → List ℕ
kept_text s name links =
    class_text (read_writes links) ++ (kind_text (timed links) ++ flat_map (link_text s name) links)
