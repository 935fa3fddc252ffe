use Rattle.std.proofs.Common.{List, All, map, subst, sym}
use Rattle.rm_machine.specs.{MadeSets.{InSet}, State.{ledger}}
use Rattle.rm_piece.specs.Valid.{IsPiece}
use Rattle.rm_step_backup.{specs.{Making.{member_of}, declared.reading.FileRead.{FileRead}}, proofs.SetMembers.{set-members}}
use Rattle.rm_step_backup.proofs.sets.make_set.Goals as goal

pub members_of-requires : goal.members_of-requires
members_of-requires c =
    let f : FileRead → InSet = member_of (ledger c.args.state.now) c.args.form.now c.args.checkpoint in
    record {
      valid = subst (λ (files : List FileRead). All (λ (x : InSet). IsPiece x.member.piece) (map f files)) (sym c.into_vec-files.ensures)
          (set-members (ledger c.args.state.now) c.args.checkpoint (map f c.args.files) c.requires.valid);
    }
