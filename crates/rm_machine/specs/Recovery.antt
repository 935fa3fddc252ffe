-- What a recovery and a restore rest on, and what they come to.
use Rattle.std.specs.Prelude.{ℕ, zero, suc, ◌≡◌, ◌+◌, ◌-◌, ◌⊎◌, if◌then◌else◌, Option, Some, List, [], ◌∷◌, ◌++◌, map, slice_set}
use Rattle.std.specs.{List.{filter_map}, Option.{option_map}}
use Rattle.rm_base.specs.{Store.{Held}, declared.{block.Change.{Change}, kinds.Bad.{Bad}, refusal.Refusal.{Refusal}}}
use Rattle.rm_base.specs.declared.refusal.Refusal.TheVariants.{Rm06, Rm08}
use Rattle.rm_blocks.specs.File.{File}
use Rattle.rm_evidence.specs.{Gathered.{IsGathered}, declared.evidence.{Evidence.{Evidence}, InPlace.{InPlace}}}
use Rattle.rm_history.specs.{State.{states}, World.{blocks_of}, declared.{tree.Incarnation.{Incarnation}, world.World.{World}}}
use Rattle.rm_plan.specs.{Plan.{IsFileTarget}, declared.plan.Gap.{Gap}}
use Rattle.rm_apply.specs.{Files.{AreExactly}, Recover.{FindsGap, TellsAll, outside}, declared.recovering.Recovered.{Recovered}}
use Rattle.rm_redo.specs.declared.log_file.LogFile.{LogFile}
use Rattle.rm_report.specs.declared.line.Line.{Line, TheVariants.{Skipped}}
use Rattle.rm_catalog_typed.specs.TypedCatalog.{records_of}
use Rattle.rm_machine.specs.{Damage.{undamaged}, Effect.{Outcome, refused}, State.{counted, online, is_online}}
use Rattle.rm_machine.specs.declared.state.State.{State}

-- why the target (i, at) is refused: it lies outside the incarnation
abbrev pub range_refusal : List Incarnation → ℕ → ℕ → Option Refusal
range_refusal ns i at = option_map (λ x. Rm06 at x.0 x.1) (outside ns i at)

-- the online logs of n threads from t on, where they are there and not lost
abbrev pub online_logs : State → ℕ → ℕ → List LogFile
online_logs s t zero = []
online_logs s t (suc n) = (if is_online s.instance.logs t then online s t ∷ [] else []) ++ online_logs s (t + 1) n

-- what is in place, and not lost; a datafile of which a block is damaged counts as lost
abbrev pub in_place : State → InPlace
in_place s = record { files = map (counted s) (filter_map (λ o. o) (undamaged s.instance.damaged 1 s.instance.place)); logs = online_logs s 1 4 }

-- The evidence is what is at hand: what the store has of the records that count as available, and what is in
-- place.
abbrev pub IsAtHand : State → Held → Evidence → Type 0
IsAtHand s held e = IsGathered held (records_of s.catalog) (in_place s) e

-- what is at hand leaves a gap, and the first one is told
pub record IsGapOutcome (s : State) (held : Held) (i at : ℕ) (o : Outcome) : Type 0 where
  pub gap : Gap
  pub first : FindsGap (Some held) (records_of s.catalog) (in_place s) i at gap
  pub is : o ≡ refused (Rm08 gap.file gap.block gap.scn gap.inc)

-- what is at hand tells each block, and the outcome is what `come` makes of that
pub record IsToldOutcome (s : State) (held : Held) (i at : ℕ) (come : Recovered → Outcome) (o : Outcome) : Type 0 where
  pub back : Recovered
  pub tells : TellsAll (Some held) (records_of s.catalog) (in_place s) i at back
  pub is : o ≡ come back

-- by what is at hand the one or the other
abbrev pub IsRecoveryOutcome : State → Held → ℕ → ℕ → (Recovered → Outcome) → Outcome → Type 0
IsRecoveryOutcome s held i at come o = IsGapOutcome s held i at o ⊎ IsToldOutcome s held i at come o

-- a line for each record that counts as available, but whose object is missing or damaged
abbrev pub skipped_lines : List (ℕ × Bad) → List Line
skipped_lines skipped = map (λ x. Skipped x.0 x.1) skipped

-- these datafiles, each at its place, over what stood there
abbrev pub put_over : List File → List (Option File) → List (Option File)
put_over [] place = place
put_over (x ∷ xs) place = put_over xs (slice_set place (x.file - 1) (Some x))

-- the database at this point, with these datafiles in place
abbrev pub with_place : State → Option ℕ → List File → State
with_place s point files = record s { instance = record s.instance { point = point; place = put_over files s.instance.place } }

-- datafile f as the history made it at (i, at): each row is the state of its block
abbrev pub file_at : World → List Change → ℕ → ℕ → ℕ → File
file_at w h i at f = record { file = f; inc = i; checkpoint = at; rows = states w h i at f (blocks_of w f) }

-- exactly the datafiles that exist at (i, at), ascending by number, each as the history made it there
pub record AreMadeAt (w : World) (h : List Change) (i at : ℕ) (files : List File) : Type 0 where
  pub numbers : List ℕ
  pub exact : AreExactly (IsFileTarget w i at) numbers
  pub are : files ≡ map (file_at w h i at) numbers
