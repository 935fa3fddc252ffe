-- RECOVER DATABASE [UNTIL ..]
use Rattle.std.specs.{Prelude.{ℕ, ◌≡◌, if◌then◌else◌, false, Option, Some, None, List, [], ◌∷◌, ◌++◌, length}, Option.{option_map}}
use Rattle.rm_base.specs.{Store.{Held}, declared.{block.Change.{Change}, refusal.Refusal.{Refusal, TheVariants.{Rm04, Rm09}}}}
use Rattle.rm_blocks.specs.File.{File}
use Rattle.rm_lang_statement.specs.declared.command.Until.{Until}
use Rattle.rm_apply.specs.declared.recovering.Recovered.{Recovered}
use Rattle.rm_report.specs.declared.line.Line.TheVariants.{Recovered as recovered_line}
use Rattle.rm_machine.specs.{Effect.{Outcome, done, no_effect}, Marks.{ids_refusal}, Mount.{first_lost}}
use Rattle.rm_machine.specs.Recovery.{AreMadeAt, IsRecoveryOutcome, put_over, range_refusal, skipped_lines, with_place}
use Rattle.rm_machine.specs.{Until.{or_else, target_of, until_refusal}, State.{ledger, tree, world, current_of}}
use Rattle.rm_machine.specs.declared.state.State.{State}

-- the SCN at which it stops
abbrev pub recover_target : State → Option Until → Option ℕ
recover_target s until = target_of s (current_of s) until

-- a datafile of the target is lost: the first one
abbrev pub lost_refusal : State → ℕ → Option Refusal
lost_refusal s at = option_map (λ f. Rm09 f) (first_lost (world s) (current_of s) at 1 (ledger s).files s.instance.place)

-- why the target is refused: it is out of range, or a datafile of it is lost, or no ids are left
abbrev pub target_refusal : State → ℕ → Option Refusal
target_refusal s at = or_else (range_refusal (tree s) (current_of s) at) (or_else (lost_refusal s at) (ids_refusal s))

-- why it is refused: the mode, the target, or, where its UNTIL leads to none, too few ids before that
abbrev pub recover_refusal : State → Option Until → Option Refusal
recover_refusal s until =
    if s.instance.is_open then Some (Rm04 false)
    else until_refusal s (current_of s) until (target_refusal s) (ids_refusal s)

-- the database with these datafiles in place, and the target as its point
abbrev pub recovered : State → ℕ → List File → State
recovered s at files = with_place s (Some at) files

-- what it comes to where each block is told
abbrev pub brings_back : State → ℕ → Recovered → Outcome
brings_back s at back =
    done (skipped_lines back.skipped ++ recovered_line at (current_of s) (length back.files) ∷ []) no_effect (recovered s at back.files)

abbrev pub RecoversTo : State → Held → Option ℕ → Outcome → Type 0
RecoversTo s held None o = ⊥
RecoversTo s held (Some at) o = IsRecoveryOutcome s held (current_of s) at (brings_back s at) o

-- each datafile of the target comes to stand in place as it is told, or the first gap is
abbrev pub IsRecoverOutcome : State → Held → Option Until → Outcome → Type 0
IsRecoverOutcome s held until o = RecoversTo s held (recover_target s until) o

abbrev pub BringsTo : List Change → State → Option ℕ → State → Type 0
BringsTo h s None t = ⊥
BringsTo h s (Some at) t = (files : List File) × AreMadeAt (world s) h (current_of s) at files × (t.instance.place ≡ put_over files s.instance.place)

-- what the history says of it: each datafile of the target came to stand in place as the history made it there
abbrev pub BringsTruly : List Change → State → Option Until → State → Type 0
BringsTruly h s until t = BringsTo h s (recover_target s until) t
