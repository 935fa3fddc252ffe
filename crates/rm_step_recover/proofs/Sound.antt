-- The state stays sound, whatever the store tells.
use Rattle.std.proofs.Common.{◌≡◌, ℕ, List, Option, Some, None, false}
use Rattle.rm_apply.specs.{Recover.{TellsAll}, Restore.{Restores}, declared.{origin.Origin.{Origin}, recovering.Recovered.{Recovered}}}
use Rattle.rm_base.{specs.{Store.{Held}, declared.refusal.Refusal.TheVariants.{Rm04}}, proofs.Conditions.{unless}}
use Rattle.rm_catalog_typed.specs.TypedCatalog.{records_of}
use Rattle.rm_lang_statement.specs.declared.command.Until.{Until}
use Rattle.rm_machine.specs.{Marks.{ids_refusal}, Recover.{recover_refusal, recover_target, recovered}, Recovery.{in_place}}
use Rattle.rm_machine.specs.{Restore.{place_refusal, restore_refusal, restored}, Sound.{IsSound}, State.{current_of}, Until.{until_refusal}}
use Rattle.rm_machine.{specs.declared.state.State.{State}, proofs.{Recovering.{can-recover, sound-recovered}, Restoring.{sound-restored}}}
use Rattle.rm_machine.proofs.Told.{tells-files, tells-fits}

module _ (held : Option Held) (s : State) (sound : IsSound s) (until : Option Until) (at : ℕ) (back : Recovered) where
  pub recover-sound : recover_target s until ≡ Some at → recover_refusal s until ≡ None → TellsAll held (records_of s.catalog) (in_place s) (current_of s) at back → IsSound (recovered s at back.files)
  recover-sound target none tells =
      sound-recovered s tells.evidence at back.files sound (tells-fits s held (current_of s) at back tells) (can-recover s until at target none) (tells-files s held (current_of s) at back tells)

  pub restore-sound : (file : Option ℕ) (origins : List Origin) → restore_refusal s file until ≡ None → (only : Option ℕ) → Restores held (records_of s.catalog) (in_place s) (current_of s) at only back origins → IsSound (restored s back.files)
  restore-sound file origins none only restores =
      sound-restored s held (current_of s) at only back origins sound restores (unless s.instance.is_open (Rm04 false) (until_refusal s (current_of s) until (place_refusal s file) (ids_refusal s)) none).0
