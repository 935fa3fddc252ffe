-- The database of a state as its channels and writers find it, and what their events leave of the state.
use Rattle.std.specs.{Prelude.{ℕ, ◌-◌, true, false, Ok, Err, List, [], ◌∷◌, ◌++◌, slice_set}, List.{filter_map}, Option.{option_map}}
use Rattle.rm_base.specs.declared.block.{Block.{Block}, Change.{Change}, Row.{Row}}
use Rattle.rm_blocks.specs.File.{File, put}
use Rattle.rm_live.specs.{Parts.{Parts}, declared.history.{Answer.{Answer, TheVariants.{Found, Mended, Wrote}}, Call.{Call}}}
use Rattle.rm_live.specs.declared.history.{Call.TheVariants.{Mend, Read, Write}, Event.{Event}}
use Rattle.rm_lang_statement.specs.declared.command.WriteForm.{WriteForm}
use Rattle.rm_machine.specs.{State.{current_of, now_of, placed}, Write.{change_of, with_write}, declared.state.State.{State}}

-- the datafiles that stand in place
abbrev pub standing_in : State → List File
standing_in s = filter_map (λ o. o) s.instance.place

-- what its channels and writers find
abbrev pub opening : State → Parts
opening s = record { inc = current_of s; now = now_of s; files = standing_in s; logs = s.instance.logs; tracker = s.instance.tracker }

-- a WRITE
abbrev pub write_form : ℕ → ℕ → ℕ → Block → WriteForm
write_form t f b content = record { thread = t; file = f; block = b; content = content }

-- the state with a row of datafile f in place of the one of its block
abbrev pub with_placed_row : State → ℕ → Row → State
with_placed_row s f row = record s { instance = record s.instance { place = slice_set s.instance.place (f - 1) (option_map (λ x. put x row) (placed s f)) } }

-- the state after an event: an accepted write is one WRITE more
abbrev pub after_event : State → Call → Answer → State
after_event s (Read f b) answer = s
after_event s (Write t f b content) (Found row) = s
after_event s (Write t f b content) (Wrote (Ok scn)) = with_write s (write_form t f b content)
after_event s (Write t f b content) (Wrote (Err fault)) = s
after_event s (Write t f b content) (Mended made) = s
after_event s (Mend f row) (Found found) = s
after_event s (Mend f row) (Wrote w) = s
after_event s (Mend f row) (Mended true) = with_placed_row s f row
after_event s (Mend f row) (Mended false) = s

-- the change that it makes
abbrev pub change_by : State → Call → Answer → List Change
change_by s (Read f b) answer = []
change_by s (Write t f b content) (Found row) = []
change_by s (Write t f b content) (Wrote (Ok scn)) = change_of s (write_form t f b content) ∷ []
change_by s (Write t f b content) (Wrote (Err fault)) = []
change_by s (Write t f b content) (Mended made) = []
change_by s (Mend f row) answer = []

-- the state after the events, and their changes
abbrev pub after_events : State → List Event → State
after_events s [] = s
after_events s (e ∷ es) = after_events (after_event s e.call e.answer) es

abbrev pub changes_of : State → List Event → List Change
changes_of s [] = []
changes_of s (e ∷ es) = change_by s e.call e.answer ++ changes_of (after_event s e.call e.answer) es
