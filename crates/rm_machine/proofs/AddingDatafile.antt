-- CREATE DATAFILE: there is room, and the new datafile fits.
use Rattle.std.proofs.Common.{◌≡◌, ◌<◌, ◌≤◌, ◌+◌, inl, inr, ℕ, List, None, arith, length, sum_by, rules}
use Rattle.rm_history.specs.{Tree.{IsThere, reset_of}, declared.{tree.Incarnation.{Incarnation}, world.Datafile.{Datafile}}}
use Rattle.rm_catalog_typed.specs.{Ledger.{ledger_records}, Fitting.{FitsFile, HasRoomFor}}
use Rattle.rm_machine.specs.{CreateDatafile.{datafile_refusal, new_datafile, with_datafile}, Marks.{marks_before, one_further}}
use Rattle.rm_machine.specs.{Sound.{IsSound}, State.{ledger, current_of, now_of}, declared.state.State.{State}}
use Rattle.rm_machine.proofs.Further.{GoesOn, count-further, further, keeps-further, now-further, roomy-either}

-- A CREATE DATAFILE that was not refused

pub record HasRoom (s : State) (blocks : ℕ) : Type 0 where
  pub on : GoesOn s
  pub few : length (ledger s).files < 64
  pub most : blocks ≤ 65536
  pub fit : sum_by (λ d. d.blocks) (ledger s).files + blocks ≤ 131072
  pub room : length (ledger_records (ledger s)) + (length (marks_before s) + 1) ≤ 65536

pub has-room : (s : State) (blocks : ℕ) → datafile_refusal s blocks ≡ None → HasRoom s blocks
has-room s blocks is =
    let n = length (marks_before s) + 1 in
    let roomy : length (ledger_records (ledger s)) + n ≤ 65536 = elim (roomy-either n (length (ledger_records (ledger s)) + n) (search rules)) [
      | inl none ↦ absurd (omega (arith, none))
      | inr some ↦ some
    ] in
    record {
      on = record { opened = search rules; room = omega (arith, roomy); below = search rules };
      few = search rules;
      most = search rules;
      fit = search rules;
      room = roomy;
    }

-- A new datafile

module _ (s : State) (blocks : ℕ) (sound : IsSound s) (a : HasRoom s blocks) (some : 1 ≤ blocks) where
  abbrev pub i : ℕ
  i = current_of s

  abbrev pub now : ℕ
  now = now_of s

  abbrev pub p : State
  p = further s

  abbrev pub q : State
  q = with_datafile s blocks

  abbrev pub tree : List Incarnation
  tree = q.catalog.ledger.tree

  abbrev pub d : Datafile
  d = new_datafile s blocks

  pub there : IsThere s.catalog.ledger.tree i
  there = sound.catalog.ledger.current

  pub end : now_of p ≡ now + 1
  end = now-further s sound a.on

  pub begun : (1 ≤ now) × (reset_of tree i ≤ now)
  begun =
      let range = sound.catalog.ledger.incarnations.ranges i there in
      (omega (arith, range.0, range.1), omega (arith, range.1, (keeps-further s sound a.on).reset i there))

  room-for : HasRoomFor (one_further s) 1
  room-for = omega (arith, count-further s sound a.on, a.room)

  pub datafile-fits : FitsFile (one_further s) d
  datafile-fits =
      record {
        created = record { there = (keeps-further s sound a.on).there i there; creation = (begun.1, omega (arith, end)); blocks = (some, a.most) };
        few = a.few;
        blocks = a.fit;
        room = room-for;
      }
