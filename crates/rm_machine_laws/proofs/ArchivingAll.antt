-- ARCHIVE LOG CURRENT leads on.
use Rattle.std.proofs.Common.{◌≡◌, ◌∙◌, None, true, refl, arith}
use Rattle.rm_base.{specs.declared.refusal.Refusal.TheVariants.{Rm04}, proofs.Conditions.{only-where}}
use Rattle.rm_machine.specs.{Archive.{after_all, archive_all_refusal, archiving, archiving_refusal}, Sound.{IsSound}}
use Rattle.rm_machine.{specs.declared.state.State.{State}, proofs.Archives.{HasRoom, room-accepted, threads-sound}}
use Rattle.rm_lang_statement.specs.declared.command.Command.TheVariants.{ArchiveLogCurrent}
use Rattle.rm_machine_laws.proofs.{Archives.{threads-stand}, Leading.{LeadsOnBy, StaysBy}, Quiet.{same-stays, unchanged}}

pub room : (s : State) → IsSound s → archive_all_refusal s ≡ None → HasRoom s 1 4 0
room s sound none = room-accepted s 0 sound.catalog.ledger.few (only-where s.instance.is_open (archiving_refusal s 0) (Rm04 true) none).1

pub all-on : LeadsOnBy ArchiveLogCurrent
all-on s h objects made touched said e t after well stands tell none does effect =
    unchanged (after_all s) (archiving s) h objects made touched e t after refl (cc) (cc) effect (λ left.
    threads-stand 4 1 s h objects made touched after 0 (omega arith) (room s stands.state none) stands (λ name. left.removes name ∙ left.puts name))

pub all-stays : StaysBy ArchiveLogCurrent
all-stays s objects said e t well sound none accepted does =
    let after = threads-sound 4 1 s 0 sound (omega arith) (room s sound accepted) in
    same-stays (after_all s) t (cc) after.sound (after.beside.saved ∙ none)
