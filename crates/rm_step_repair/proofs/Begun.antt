-- The database as those who mend and write find it, behind the mark that comes before the writes.
use Rattle.std.proofs.Common.{◌≡◌, ◌<◌, ◌∙◌, ℕ, List, [], Option, Some, None, cond, is_none, refl, sym, subst, arith, length, All}
use Rattle.rm_channel.specs.{Room.{AreThreads, CanWrite}, declared.jobs.WriteJob.{WriteJob}}
use Rattle.rm_lang_statement.specs.declared.command.{RepairForm.{RepairForm}, WriteForm.{WriteForm}}
use Rattle.rm_live.specs.{Parts.{Parts}, Ruled.{total}}
use Rattle.rm_machine.specs.{Asked.{FitsNumbers, asked, lists_from, writers_in}, BlockRecover.{repair_begun}, Events.{opening}}
use Rattle.rm_machine.specs.{Marks.{marks_before}, Running.{CanFollow}, Sound.{IsSound}, declared.state.State.{State}}
use Rattle.rm_machine.proofs.{BackupMarks.{marked-same, sound-marked, unmarked-mark, with_mark}, RepairAccepted.{CanRepair}}
use Rattle.rm_machine.proofs.{Repaired.{marking}, WritersRoom.{fits-numbers, no-writes, room-threads, room-writes}}

-- behind the mark no write needs one
unmarked : (s : State) (d : Option (List WriteForm)) (n : ℕ) → 0 < total length (lists_from 1 n (asked d)) → marks_before (cond (is_none d) s (with_mark s)) ≡ []
unmarked s None n some = let none = no-writes 1 n in absurd (omega (arith, some, none))
unmarked s (Some ws) n some = unmarked-mark s

module _ (s : State) (form : RepairForm) (sound : IsSound s) (can : CanRepair s form) where
  abbrev u : State
  u = repair_begun s form

  abbrev ws : List WriteForm
  ws = asked form.during

  abbrev writers : List (List WriteJob)
  writers = writers_in s form.during

  pub begun-sound : IsSound u
  begun-sound = sound-marked s (marking form) can.records sound

  -- it is the same running database
  pub begun-opening : opening u ≡ opening s
  begun-opening = marked-same opening s (marking form) refl

  pub begun-follow : CanFollow u writers
  begun-follow = record {
    opened = marked-same (λ (q : State). q.instance.is_open) s (marking form) refl ∙ can.opened;
    marked = unmarked s form.during 4;
  }

  pub begun-threads : AreThreads (opening u).logs 1 writers
  begun-threads = subst (λ (p : Parts). AreThreads p.logs 1 writers) (sym begun-opening) (room-threads s ws sound can.opened can.writes)

  pub begun-writes : CanWrite (opening u) writers
  begun-writes = subst (λ (p : Parts). CanWrite p writers) (sym begun-opening) (room-writes s ws sound can.opened can.writes can.logs can.scns)

  pub asked-fit : All FitsNumbers ws
  asked-fit = fits-numbers s ws sound can.writes
