-- BACKUP leads on: the mark, the events, and then the pieces or sets.
use Rattle.std.specs.{Prelude.{IsSomeAnd}, List.{list_any}, Option.{option_map}}
use Rattle.std.proofs.Common.{◌≡◌, ◌⊎◌, ◌<◌, ◌≤◌, ◌+◌, ◌∙◌, ◌++◌, ◌==◌, inl, inr, ℕ, List, Option, Some, None, Ok, false, refl, sym, subst, arith, get_or, length, map, slice_get, All, Contains, IfSome}
use Rattle.std.proofs.lemmas.{List.Elements.{Contains-get_or}, Bool.{cases_Bool, eq-eqb, eqb-true}}
use Rattle.rm_base.specs.{Store.{Held}, declared.{block.{BlockId.{BlockId}, Change.{Change}}, refusal.Refusal.TheVariants.{Rm17}}}
use Rattle.rm_base.{specs.declared.block.Row.{Row}, proofs.Lists.{any_fails, any_to, find_none}}
use Rattle.rm_catalog.specs.Objects.{IsTag}
use Rattle.rm_channel.specs.{Jobs.{AreRows, deeds_of}, Made.{AreThese, deed}}
use Rattle.rm_evidence.specs.Objects.{IsAsCreated}
use Rattle.rm_history.specs.{Agrees.{IsBelow, IsRow}, World.{blocks_of}, declared.world.Datafile.{Datafile}}
use Rattle.rm_piece.specs.Level1s.{IsRead}
use Rattle.rm_track.specs.Told.{Tell}
use Rattle.rm_commit.specs.Names.{HasPuts}
use Rattle.rm_catalog_typed.specs.Ledger.{ledger_records}
use Rattle.rm_live.specs.{History.{IsLegal}, declared.history.Event.{Event}}
use Rattle.rm_lang_statement.specs.declared.command.{BackupForm.{BackupForm}, WriteForm.{WriteForm}, Command.TheVariants.{Backup}}
use Rattle.rm_machine.specs.{MadePieces.{Copied, piece_by}, MadeSets.{InSet, member_by}, Backup.{AreJobs, taken}}
use Rattle.rm_machine.specs.{Effect.{Effect, Made, a_piece}, Machine.{IsBorneOut, IsTrueArtefact}, Sound.{IsSound}}
use Rattle.rm_machine.specs.{State.{current_of, ledger, now_of, world}, Asked.{blocks_read, span_of, writers_of, writes_in}}
use Rattle.rm_machine.specs.Events.{changes_of, opening}
use Rattle.rm_machine.specs.MadeObjects.{CanRecord, Packed, after_objects, objects_made, objects_put, packed}
use Rattle.rm_machine.specs.BackupOutcome.{at_end, begun, effect_of}
use Rattle.rm_machine.specs.{BackupRefusal.{damage_refusal, damaged_taken, damaged_write, mark_count}, Damage.{has_block, has_file}}
use Rattle.rm_machine.{specs.declared.{job.Job.{Job}, state.State.{State}}, proofs.Tags.{tag-fits}}
use Rattle.rm_machine.proofs.{BackupAccepted.{CanBackUp, can-back_up, unless-some}, LosingFits.{no-block}}
use Rattle.rm_machine.proofs.Copies.{IsReady, all-copied, all-in_sets, all-packed, ready-member_true, ready-true}
use Rattle.rm_machine.proofs.{BackupMarks.{borne-marked, marked-same}, MembersRead.{creation-by}}
use Rattle.rm_machine.proofs.{PiecesRead.{AreOthers, IsCheckpoint, blocks-by}, Deeds.{WereRead, are-read}}
use Rattle.rm_machine.proofs.Walk.{AreAsked, CanGoOn, HasWalked, events-same}
use Rattle.rm_machine.proofs.BackingUp.{IsNoCandidate, IsReadyToRead, jobs-ready, of-each, per_set-some}
use Rattle.rm_machine.proofs.BackingUp as shared
use Rattle.rm_machine_laws.proofs.Recording.{IsTrueMember, IsTrueObject, objects-borne, objects-saved, objects-sound}
use Rattle.rm_machine_laws.proofs.{Walk.{below-events, borne-events, true-events}, Wanted.{below-begun, is-taken, tell-begun}}
use Rattle.rm_machine_laws.proofs.{Leading.{LeadsOnBy, StaysBy}, Quiet.{landed, same-stays}}

-- of a datafile that is backed up no block is damaged
pub taken-clean : (s : State) (b : BackupForm) → damage_refusal s b ≡ None → (f : ℕ) → Contains (taken s b) f → has_file s.instance.damaged f ≡ false
taken-clean s b is f has =
    any_fails (λ x. x.file == f) s.instance.damaged (λ x on same.
    let none = (unless-some (λ (y : BlockId). Rm17 y.file y.block) (damaged_taken s b) _ is).0 in
    find_none (λ y. list_any (λ g. g == y.file) (taken s b)) s.instance.damaged x none on (any_to (λ g. g == x.file) (taken s b) f has (eq-eqb f x.file (sym (eqb-true x.file f same)))))

-- and none that is written is
pub written-clean : (s : State) (b : BackupForm) → damage_refusal s b ≡ None → (w : WriteForm) → Contains (writes_in b) w → has_block s.instance.damaged w.file w.block ≡ false
written-clean s b is w has = elim (cases_Bool (has_block s.instance.damaged w.file w.block)) [
  | inr sound ↦ sound
  | inl bad ↦
      let rest = (unless-some (λ (y : BlockId). Rm17 y.file y.block) (damaged_taken s b) _ is).1 in
      absurd (find_none (λ v. has_block s.instance.damaged v.file v.block) (writes_in b) w (mapped-none (damaged_write s (writes_in b)) rest) has bad)
]
  where
    mapped-none : (o : Option WriteForm) → option_map (λ w. Rm17 w.file w.block) o ≡ None → o ≡ None
    mapped-none None none = refl
    mapped-none (Some v) none = absurd (cc)

-- a datafile that is backed up, and can be, and of which no block is damaged
record IsWanted (s : State) (b : BackupForm) (j : Job) : Type 0 where
  ready : IsReadyToRead s j
  asked : Contains (taken s b) j.file
  clean : has_file s.instance.damaged j.file ≡ false

-- The mark before its writes, and the bitmaps that end there

module _ (s : State) (b : BackupForm) (contents : All (λ (w : WriteForm). length w.content.0 ≡ 64) (writes_in b)) (sound : IsSound s) (can : CanBackUp s b) (tag : List ℕ) (tagged : IsTag tag) (jobs : List Job) (are : AreJobs s b jobs) (rows : List (List Row)) (whole : AreRows rows (map (span_of (begun s b)) jobs))
    (scns : List (List ℕ)) (events : List Event) (legal : IsLegal (opening (begun s b)) events) (these : AreThese (deeds_of (map (span_of (begun s b)) jobs) rows 1 (writers_of s b) (map (map Ok) scns)) (map deed events)) (some : IfSome b.files_per_set (λ n. 1 ≤ n)) where
  abbrev u : State
  u = shared.u s b contents sound can tag tagged jobs are rows whole scns events legal these

  abbrev t : State
  t = shared.t s b contents sound can tag tagged jobs are rows whole scns events legal these

  abbrev ws : List WriteForm
  ws = shared.ws s b contents sound can tag tagged jobs are rows whole scns events legal these

  abbrev xs : List Packed
  xs = shared.xs s b contents sound can tag tagged jobs are rows whole scns events legal these

  room : length (ledger_records (ledger s)) + mark_count s b ≤ 65536
  room = shared.room s b contents sound can tag tagged jobs are rows whole scns events legal these

  goes-on : CanGoOn u ws
  goes-on = shared.goes-on s b contents sound can tag tagged jobs are rows whole scns events legal these

  asked : AreAsked ws events
  asked = shared.asked s b contents sound can tag tagged jobs are rows whole scns events legal these

  walked : HasWalked u ws events t
  walked = shared.walked s b contents sound can tag tagged jobs are rows whole scns events legal these

  now-begun : now_of u ≡ now_of s
  now-begun = shared.now-begun s b contents sound can tag tagged jobs are rows whole scns events legal these

  at : IsCheckpoint t (now_of s)
  at = shared.at s b contents sound can tag tagged jobs are rows whole scns events legal these

  -- What was read of a datafile
  module _ (j : Job) (rs : List Row) (is : IsReadyToRead s j) (were : WereRead u (map deed events) j rs) where
    ready-one : IsReady t (now_of s) j rs
    ready-one = shared.ready-one s b contents sound can tag tagged jobs are rows whole scns events legal these j rs is were

    not-read : (k : ℕ) → k < blocks_of (world t) j.file → IsRead rs k ⊎ IsNoCandidate u j k
    not-read = shared.not-read s b contents sound can tag tagged jobs are rows whole scns events legal these j rs is were

  same : packed (ledger t) b (now_of s) jobs rows ≡ xs
  same = shared.same s b contents sound can tag tagged jobs are rows whole scns events legal these

  can-record : CanRecord t b tag xs
  can-record = shared.can-record s b contents sound can tag tagged jobs are rows whole scns events legal these some

  pub during-sound : IsSound (after_objects t b tag xs)
  during-sound = objects-sound b tag xs t walked.can.sound can-record

  pub during-unsaved : (after_objects t b tag xs).catalog.saved ≡ s.catalog.saved
  during-unsaved = objects-saved b tag xs t ∙ events-same (λ (q : State). q.catalog.saved) (λ q w. refl) (λ q f row. refl) events u ∙ marked-same (λ (q : State). q.catalog.saved) s b refl

  all-wanted : All (IsWanted s b) jobs
  all-wanted k d inside = record {
    ready = jobs-ready s b jobs sound are can.taken k d inside;
    asked = is-taken s b jobs are (get_or jobs k d) (Contains-get_or jobs k d inside);
    clean = taken-clean s b can.clean (get_or jobs k d).file (is-taken s b jobs are (get_or jobs k d) (Contains-get_or jobs k d inside));
  }

  module _ (h : List Change) (objects : Held) (made : List Made) (touched : List (List ℕ)) (stands : IsBorneOut s h objects made touched) where
    abbrev later : List Change
    later = h ++ changes_of u events

    borne-begun : IsBorneOut u h objects made touched
    borne-begun =
        let was = borne-marked s b room h objects made touched stands in
        record {
          state = goes-on.sound;
          keeps = record {
            history = was.keeps.history;
            below = was.keeps.below;
            online = was.keeps.online;
            place = was.keeps.place;
            tracker = coe 1 0 (i. Tell (marked-same current_of s b refl i) h (marked-same now_of s b refl i) u.instance.tracker) (tell-begun s b h sound stands.keeps);
            in_open = was.keeps.in_open;
            point = was.keeps.point;
          };
          artefacts = was.artefacts;
          records = record { logs = was.records.logs; pieces = was.records.pieces; sets = was.records.sets };
        }

    borne-end : IsBorneOut t later objects made touched
    borne-end = borne-events ws events u h objects made touched goes-on borne-begun legal asked

    -- a block of which no row was read stays below the checkpoint of the parent
    below-later : (j : Job) (k : ℕ) → IsWanted s b j → (it : IsNoCandidate u j k) → IsBelow (world t) later (current_of t) j.file (now_of s) it.from k
    below-later j k is it =
        below-events ws events u h objects made touched goes-on borne-begun legal asked j.file k (now_of s) it.from (omega (arith, now-begun))
        (coe 1 0 (i. IsBelow (marked-same world s b refl i) h (marked-same current_of s b refl i) j.file (now_of s) it.from k) (below-begun s b h sound stands.keeps j k is.asked it))

    others : (j : Job) (rs : List Row) → IsWanted s b j → WereRead u (map deed events) j rs → AreOthers t later j.file (now_of s) rs j.from
    others j rs is were from begins k inside = elim (not-read j rs is.ready were k inside) [
      | inl read ↦ inl read
      | inr it ↦
          let same : it.from ≡ from = (let e : Some it.from ≡ Some from = sym it.begins ∙ begins in cc) in
          inr (subst (λ n. IsBelow (world t) later (current_of t) j.file (now_of s) n k) same (below-later j k is it))
    ]

    module _ (j : Job) (rs : List Row) (is : IsWanted s b j) (were : WereRead u (map deed events) j rs) where
      abbrev read : IsReady t (now_of s) j rs
      read = ready-one j rs is.ready were

      rows-true : (k : ℕ) (r : Row) → slice_get rs k ≡ Some r → IsRow (world t) later (current_of t) j.file (now_of s) r
      rows-true k r got =
          true-events ws events u h objects made touched goes-on borne-begun legal asked j.file (get_or (blocks_read u j) k 0) (now_of s) r
          (no-block u.instance.damaged j.file (get_or (blocks_read u j) k 0) (marked-same (λ (q : State). has_file q.instance.damaged j.file) s b refl ∙ is.clean)) (omega (arith, now-begun)) (were.each k r got)

      true-piece : IsTrueArtefact (world t) later (a_piece (piece_by (ledger t) b (now_of s) j rs))
      true-piece = ready-true t b (now_of s) walked.can.sound at later j rs read rows-true (others j rs is were)

      -- as a member of a set, too, of its datafile as that was created
      true-member : IsTrueMember (world t) later (member_by (ledger t) b (now_of s) j rs)
      true-member =
          let d : Datafile = read.read.datafile in
          let history = borne-end.keeps.history in
          record {
            piece = ready-member_true t b (now_of s) walked.can.sound at later history j rs read rows-true (others j rs is were);
            created = subst (λ (o : Option Datafile). IsSomeAnd o (IsAsCreated (member_by (ledger t) b (now_of s) j rs))) (sym read.read.is)
                (record { creation = creation-by t j.file d read.read.some read.read.is; blocks = blocks-by t j.file d read.read.some read.read.is });
          }

    true-all : All (IsTrueObject (world t) later) xs
    true-all =
        let reads = are-read u (writers_of s b) jobs rows scns events whole these in
        let Pieces : Copied → Type 0 = λ x. IsTrueArtefact (world t) later (a_piece x.piece) in
        let Members : InSet → Type 0 = λ x. IsTrueMember (world t) later x.member in
        subst (All (IsTrueObject (world t) later)) same
        (all-packed Pieces Members (ledger t) b (now_of s) jobs rows some
        (all-copied Pieces t b (now_of s) jobs rows
        (of-each (IsWanted s b) (WereRead u (map deed events)) (λ j rs. IsTrueArtefact (world t) later (a_piece (piece_by (ledger t) b (now_of s) j rs))) true-piece jobs rows all-wanted reads))
        (all-in_sets Members (ledger t) b (now_of s) jobs rows
        (of-each (IsWanted s b) (WereRead u (map deed events)) (λ j rs. IsTrueMember (world t) later (member_by (ledger t) b (now_of s) j rs)) true-member jobs rows all-wanted reads)))

    pub during-borne : (after : Held) → HasPuts (objects_put t b tag xs) objects after → IsBorneOut (after_objects t b tag xs) later after (made ++ objects_made t b tag xs) touched
    during-borne after puts = objects-borne b tag later touched xs t objects made after can-record true-all borne-end puts

-- From a statement that was done

pub backup-on : (b : BackupForm) → LeadsOnBy (Backup b)
backup-on b s h objects made touched said e t after well stands tell none does effect =
    let can = can-back_up s b stands.state none in
    let tagged = tag-fits b (ledger s).base.moment does.tag well.0 does.tagged in
    let xs = packed (ledger s) b (now_of s) does.jobs does.rows in
    let by : Effect = effect_of s b does.tag does.events xs in
    let q : State = after_objects (at_end s b does.events) b does.tag xs in
    let is = does.is in
    landed q by h objects made touched e t after (cc) (cc) effect (λ left.
    during-borne s b well.1 stands.state can does.tag tagged does.jobs does.are does.rows does.whole does.scns does.events does.legal does.these (per_set-some b well.0) h objects made touched stands after (λ name. left.removes name ∙ left.puts name))

pub backup-stays : (b : BackupForm) → StaysBy (Backup b)
backup-stays b s objects said e t well sound unsaved none does =
    let can = can-back_up s b sound none in
    let tagged = tag-fits b (ledger s).base.moment does.tag well.0 does.tagged in
    let xs = packed (ledger s) b (now_of s) does.jobs does.rows in
    let is = does.is in
    same-stays (after_objects (at_end s b does.events) b does.tag xs) t (cc)
    (during-sound s b well.1 sound can does.tag tagged does.jobs does.are does.rows does.whole does.scns does.events does.legal does.these (per_set-some b well.0))
    (during-unsaved s b well.1 sound can does.tag tagged does.jobs does.are does.rows does.whole does.scns does.events does.legal does.these (per_set-some b well.0) ∙ unsaved)
