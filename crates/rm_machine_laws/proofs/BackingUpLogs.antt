-- BACKUP ARCHIVELOG ALL leads on: backups of logs are recorded, one after another.
use Rattle.std.specs.Option.{option_map_or}
use Rattle.std.proofs.Common.{◌≡◌, ◌∙◌, ◌++◌, ℕ, suc, List, [], ◌∷◌, Option, Some, None, refl, sym, subst, append_assoc, filter, length, map, All, Contains}
use Rattle.std.proofs.lemmas.List.{append-nil, Elements.{All-head, All-tail}}
use Rattle.rm_base.{specs.{Store.{Held}, declared.{block.Change.{Change}, refusal.Refusal.{Refusal}}}, proofs.Lists.{filter_from, map_from}}
use Rattle.rm_base.proofs.Standing.{each-in}
use Rattle.rm_catalog.specs.declared.record.{LogEntry.{LogEntry}, Record.TheVariants.{Log}}
use Rattle.rm_commit.specs.Names.{HasPuts}
use Rattle.rm_evidence.specs.{Available.{HasLogObject}, Gathered.{IsLogOf, Lists}}
use Rattle.rm_redo.specs.declared.log_file.LogFile.{LogFile}
use Rattle.rm_report.specs.declared.line.Line.{Line}
use Rattle.rm_catalog_typed.specs.{Changes.{with_new_log}, TypedCatalog.{TypedCatalog}}
use Rattle.rm_lang_statement.specs.declared.command.Command.TheVariants.{BackupLogs}
use Rattle.rm_machine.specs.BackupLogs.{archived_in, copies_of, copies_refusal, copy_entry, copy_made, copy_object, copying, with_copies}
use Rattle.rm_machine.specs.{Effect.{Effect, Made, a_log, done, refused}, Machine.{DigestsTellFor, IsBorneOut, IsTrueArtefact}}
use Rattle.rm_machine.{specs.{Sound.{IsSound}, State.{ledger, world}, declared.state.State.{State}}, proofs.Left.{HasRoom}}
use Rattle.rm_machine.proofs.{Kept.{stand-same}, Later.{borne-beside, fits-with}}
use Rattle.rm_machine.proofs.BackingUpLogs.{CanRecord, after_copies, can-next, can-record, room-for, room-next, with_copy}
use Rattle.rm_machine.proofs.BackingUpLogs as shared
use Rattle.rm_machine_laws.proofs.{Agreeing.{log-agrees}, Leading.{LeadsOnBy, StaysBy}, Quiet.{same-stays, unchanged}}
use Rattle.rm_machine_laws.proofs.NewObjects.{borne-logged, puts-rest, with_puts}

-- One log
module _ (s : State) (a : LogFile) (n : ℕ) (sound : IsSound s) (can : CanRecord s a) (room : HasRoom s (suc n)) where
  abbrev id : ℕ
  id = shared.id s a n sound can room

  abbrev q : State
  q = shared.q s a n sound can room

  copy-sound : IsSound q
  copy-sound = shared.copy-sound s a n sound can room

  -- the log agrees with the history, and its backup stands beside it
  copy-borne : (h : List Change) (objects : Held) (made : List Made) (touched : List (List ℕ)) → IsTrueArtefact (world s) h (a_log a) → IsBorneOut s h objects made touched
      → IsBorneOut q h (with_puts (copy_object (id, a) ∷ []) objects) (made ++ copy_made (id, a) ∷ []) touched
  copy-borne h objects made touched agrees stands =
      borne-logged s s.instance (copy_entry (id, a)) a h objects made touched copy-sound (fits-with s q.catalog copy-sound.catalog h stands.keeps) refl
      (record { inc = refl; thread = refl; sequence = refl; first = refl; next = refl }) (record { size = refl; sha = refl }) agrees stands

-- All of them

pub copies-sound : (logs : List LogFile) (s : State) → IsSound s → All (CanRecord s) logs → HasRoom s (length logs) → IsSound (after_copies s logs)
copies-sound [] s sound all room = sound
copies-sound (a ∷ logs) s sound all room =
    let can = All-head (CanRecord s) a logs all in
    copies-sound logs (with_copy s a) (copy-sound s a (length logs) sound can room) (can-next s a logs all) (room-next s a (length logs) room)

copies-borne : (logs : List LogFile) (s : State) (h : List Change) (objects : Held) (made : List Made) (touched : List (List ℕ)) (after : Held) → All (CanRecord s) logs → All (λ a. IsTrueArtefact (world s) h (a_log a)) logs → HasRoom s (length logs)
    → IsBorneOut s h objects made touched → HasPuts (map copy_object (copies_of s logs)) objects after → IsBorneOut (after_copies s logs) h after (made ++ map copy_made (copies_of s logs)) touched
copies-borne [] s h objects made touched after all true_all room stands puts =
    subst (λ k. IsBorneOut s h after k touched) (sym (append-nil made))
    (borne-beside s h objects after made touched touched stands (stand-same objects after touched (ledger s) (ledger s) puts))
copies-borne (a ∷ logs) s h objects made touched after all true_all room stands puts =
    let can = All-head (CanRecord s) a logs all in
    let agrees = All-head (λ (b : LogFile). IsTrueArtefact (world s) h (a_log b)) a logs true_all in
    let q : State = with_copy s a in
    let x : ℕ × LogFile = ((ledger s).base.next_id, a) in
    let new : Made = copy_made x in
    let one = copy-borne s a (length logs) stands.state can room h objects made touched agrees stands in
    let rest = copies-borne logs q h (with_puts (copy_object x ∷ []) objects) (made ++ new ∷ []) touched after (can-next s a logs all) (All-tail (λ (b : LogFile). IsTrueArtefact (world s) h (a_log b)) a logs true_all) (room-next s a (length logs) room) one
    (puts-rest (copy_object x ∷ []) (map copy_object (copies_of q logs)) objects after puts) in
    subst (λ k. IsBorneOut (after_copies q logs) h after k touched) (append_assoc made (new ∷ []) (map copy_made (copies_of q logs))) rest

-- a saved site that was not there is not there after it
saved-same : (xs : List (ℕ × LogFile)) (r : TypedCatalog) → (with_copies r xs).saved ≡ r.saved
saved-same [] r = refl
saved-same (x ∷ xs) r = saved-same xs (with_new_log r (copy_entry x))

-- Which logs they are

-- the log is that of a record that counts as available
pub of-record : (held : Held) (logs : List LogEntry) (id : ℕ) (a : LogFile) → IsLogOf held (archived_in logs) id a → (e : LogEntry) × Contains logs e × HasLogObject held e a
of-record held logs id a is =
    let row = map_from Log (filter (λ e. e.archived) logs) (Log is.0) is.1 in
    let same : row.item ≡ is.0 = (let one = row.is in cc) in
    (is.0, subst (Contains logs) same (filter_from (λ (e : LogEntry). e.archived) logs row.item row.held).0, is.3)

-- what is so of each log that is found
each-found : (P : LogFile → Type 0) (held : Held) (logs : List LogEntry) (found : List (ℕ × LogFile)) → Lists LogFile [] (IsLogOf held (archived_in logs)) found
    → ((e : LogEntry) (a : LogFile) → Contains logs e → HasLogObject held e a → P a) → All P (map (λ x. x.1) found)
each-found P held logs found lists each = each-in P (map (λ (x : ℕ × LogFile). x.1) found) (λ a has.
    let x = map_from (λ (y : ℕ × LogFile). y.1) found a has in
    let is = of-record held logs x.item.0 x.item.1 ((lists.exact x.item.0 x.item.1).0 (subst (λ (ys : List (ℕ × LogFile)). Contains ys x.item) lists.list x.held)) in
    subst P x.is (each is.0 x.item.1 is.1 is.2))

all-can : (s : State) (held : Held) (found : List (ℕ × LogFile)) → IsSound s → Lists LogFile [] (IsLogOf held (archived_in (ledger s).logs)) found → All (CanRecord s) (map (λ x. x.1) found)
all-can s held found sound lists = each-found (CanRecord s) held (ledger s).logs found lists (λ e a has there. can-record s e a sound has there.object.valid there.object.fields)

all-true : (s : State) (h : List Change) (objects : Held) (made : List Made) (touched : List (List ℕ)) (found : List (ℕ × LogFile)) → IsBorneOut s h objects made touched → DigestsTellFor objects made touched (ledger s)
    → Lists LogFile [] (IsLogOf objects (archived_in (ledger s).logs)) found → All (λ a. IsTrueArtefact (world s) h (a_log a)) (map (λ x. x.1) found)
all-true s h objects made touched found borne tell lists = each-found (λ a. IsTrueArtefact (world s) h (a_log a)) objects (ledger s).logs found lists (λ e a has there.
    let can = can-record s e a borne.state has there.object.valid there.object.fields in
    record { agrees = log-agrees s h objects made touched borne tell e a has there; valid = can.valid; within = (can.entry.there, can.entry.range.2); of = tt })

-- Why it was not refused

pub done-of : (o : Option Refusal) (lines said : List Line) (x e : Effect) (q t : State) → done said e t ≡ option_map_or refused o (done lines x q) → (o ≡ None) × (x ≡ e) × (q ≡ t)
done-of None lines said x e q t is = (refl, (let one : done said e t ≡ done lines x q = is in cc), (let one : done said e t ≡ done lines x q = is in cc))
done-of (Some r) lines said x e q t is = absurd (let clash : done said e t ≡ refused r = is in cc)

pub back_logs-on : LeadsOnBy BackupLogs
back_logs-on s h objects made touched said e t after well borne tell none does effect =
    let logs = map (λ (x : ℕ × LogFile). x.1) does.found in
    let by : Effect = copying (copies_of s logs) in
    let q : State = after_copies s logs in
    let is = done-of (copies_refusal s logs) _ said by e q t does.is in
    unchanged q by h objects made touched e t after refl is.1 is.2 effect (λ left.
    copies-borne logs s h objects made touched after (all-can s objects does.found borne.state does.finds) (all-true s h objects made touched does.found borne tell does.finds) (room-for s logs borne.state is.0) borne (λ name. left.removes name ∙ left.puts name))

pub back_logs-stays : StaysBy BackupLogs
back_logs-stays s objects said e t well sound none accepted does =
    let logs = map (λ (x : ℕ × LogFile). x.1) does.found in
    let q : State = after_copies s logs in
    let is = done-of (copies_refusal s logs) _ said (copying (copies_of s logs)) e q t does.is in
    same-stays q t is.2 (copies-sound logs s sound (all-can s objects does.found sound does.finds) (room-for s logs sound is.0)) (saved-same (copies_of s logs) s.catalog ∙ none)
