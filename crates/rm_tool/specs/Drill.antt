-- The drill: a script of its own, and one line in the place of all replies.
use Rattle.std.specs.Prelude.{ℕ, ◌≡◌, ◌++◌, ◌∷◌, [], Option, Some, None, List, codes, filter, fold, if◌then◌else◌, length, nat_lt, sum_by}
use Rattle.std.specs.{Fmt.{decimal}, Borrow.{Bor}}
use Rattle.rm_report.specs.declared.line.{Line.{Line, TheVariants.{ThreadScn, Written}}, Reply.{Reply}}
use Rattle.rm_machine.specs.declared.state.State.{State}
use Rattle.rm_tool_opening.specs.Shown.{next_scn, objects_in}
use Rattle.rm_tool.specs.{Run.{replies_text}, declared.{drill.Summary.{Summary}, tally.Tally.{Tally}}}

-- a line tells of a write that took an SCN
abbrev pub writes_in : Line → ℕ
writes_in (Written scn) = 1
writes_in (ThreadScn thread scn) = 1
writes_in _ = 0

-- more than a number of 64 bits can say counts as its greatest
abbrev pub capped : ℕ → ℕ
capped n = if nat_lt 18446744073709551615 n then 18446744073709551615 else n

-- how many writes replies tell of; more than a number of 64 bits can say count as its greatest
abbrev pub writes_told : List Reply → ℕ
writes_told replies = capped (sum_by (λ r. sum_by writes_in r.lines) replies)

-- how many of them are refusals
abbrev pub refusals_told : List Reply → ℕ
refusals_told replies = length (filter (λ r. r.refused) replies)

-- they come to this
pub record IsTally (tally : Tally) (replies : List Reply) : Type 0 where
  pub refused : tally.refused ≡ capped (refusals_told replies)
  pub writes : tally.writes ≡ writes_told replies

-- texts, and a number behind each
abbrev pub with_part : List ℕ → Bor (List ℕ) × ℕ → List ℕ
with_part front part = front ++ part.0.now ++ decimal part.1

abbrev pub parts_text : List (Bor (List ℕ) × ℕ) → List ℕ
parts_text parts = fold with_part [] parts

-- the line of a drill, as text
unfoldable pub summary_text : Summary → List ℕ
summary_text s =
    codes "drill " ++ decimal s.number ++ codes ": " ++ decimal s.statements ++ codes " statements, " ++ decimal s.tally.refused ++ codes " refused, " ++ decimal s.tally.writes ++ codes " writes, next SCN "
    ++ decimal s.next_scn ++ codes ", " ++ decimal s.objects ++ codes " objects" ++ 10 ∷ []

-- what a drill comes to: its statements, the refusals among their replies, the writes, and what the database is at the end
abbrev pub summary_of : ℕ → List Reply → Option State → Summary
summary_of n replies o = record {
  number = n;
  statements = length replies;
  tally = record { refused = refusals_told replies; writes = writes_told replies };
  next_scn = next_scn o;
  objects = objects_in o;
}

-- the line of a drill that has these replies, and shows this database at the end
unfoldable pub drill_line : ℕ → List Reply → Option State → List ℕ
drill_line n replies o = summary_text (summary_of n replies o)

-- What a session writes that served all its statements with these replies, and shows this database at the end: the replies, or of a
-- drill its line.
abbrev pub output_of : Option ℕ → List Reply → Option State → List ℕ
output_of None replies o = replies_text replies
output_of (Some n) replies o = drill_line n replies o

-- and what it has written that has more to serve: the replies so far, or of a drill nothing
abbrev pub output_so_far : Option ℕ → List Reply → List ℕ
output_so_far None replies = replies_text replies
output_so_far (Some n) replies = []
