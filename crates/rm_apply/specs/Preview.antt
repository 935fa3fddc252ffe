-- What a preview tells: the origins of a restore, and the first gap of a recovery.
use Rattle.std.specs.Prelude.{ℕ, ◌≡◌, Option, List}
use Rattle.rm_base.specs.{Store.{Held}, declared.kinds.Bad.{Bad}}
use Rattle.rm_blocks.specs.File.{File}
use Rattle.rm_catalog.specs.declared.record.Record.{Record}
use Rattle.rm_evidence.specs.{Known.{known_of}, Database.{world_of}, declared.evidence.{Evidence.{Evidence}, InPlace.{InPlace}}}
use Rattle.rm_history.specs.declared.world.World.{World}
use Rattle.rm_piece.specs.declared.piece.Piece.{Piece}
use Rattle.rm_plan.specs.{Plan.{IsFileTarget}, declared.plan.Gap.{Gap}}
use Rattle.rm_apply.specs.{Files.{AreExactly}, Recover.{IsEvidence}, Restore.{AreRestored}, Told.{IsGapOrNone}}
use Rattle.rm_apply.specs.declared.origin.Origin.{Origin}

-- the origins of the datafiles of these numbers, in order: those of a restore
abbrev pub AreOrigins : World → List (ℕ × Piece) → ℕ → ℕ → List ℕ → List Origin → Type 0
AreOrigins w bases i s ns origins = (files : List File) × AreRestored w bases i s ns files origins

-- by what is at hand: the origins of all datafiles that exist at (i, s), and the first gap of a recovery to there
pub record Previews (held : Option Held) (rs : List Record) (place : InPlace) (i s : ℕ) (origins : List Origin) (gap : Option Gap) (skipped : List (ℕ × Bad)) : Type 0 where
  pub evidence : Evidence
  pub is : IsEvidence held rs place evidence
  pub numbers : List ℕ
  pub targets : AreExactly (IsFileTarget (world_of rs) i s) numbers
  pub from : AreOrigins (world_of rs) evidence.bases i s numbers origins
  pub first : IsGapOrNone (world_of rs) (known_of evidence) i s gap
  pub not_available : skipped ≡ evidence.skipped
