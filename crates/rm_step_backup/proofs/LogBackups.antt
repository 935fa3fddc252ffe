-- Backups of logs under way: some logs are backed up, and the rest lead on from there.
use Rattle.std.specs.{Option.{option_map_or}, Prelude.{IfSome}}
use Rattle.std.proofs.Common.{◌≡◌, ◌≤◌, ◌<◌, ◌+◌, ◌∙◌, ◌++◌, ◌==◌, cond, false, ℕ, suc, List, [], ◌∷◌, Option, None, Some, refl, ap, sym, subst, arith, append_assoc, drop-cons, drop, get_or, length, map, All}
use Rattle.std.proofs.lemmas.{Bool.{ne_eqb}, List.{append-nil, Elements.{All-append, All-cons, All-contains, All-head, All-nil}}}
use Rattle.std.proofs.lemmas.Option.{same_Some}
use Rattle.rm_base.{specs.{Store.{Held}, declared.{kinds.Bad.{Bad}, refusal.Refusal.{Refusal}}}, proofs.Lists.{map_from}}
use Rattle.rm_base.proofs.Standing.{each-in}
use Rattle.rm_catalog.specs.declared.record.Edit.{Edit}
use Rattle.rm_commit.specs.declared.commit.Object.{Object}
use Rattle.rm_redo.specs.{LogFormat.{IsLogFile}, declared.log_file.LogFile.{LogFile}}
use Rattle.rm_report.specs.{Reply.{IsPlain}, declared.line.Line.{Line, TheVariants.{NothingToBackUp}}}
use Rattle.rm_catalog_typed.{specs.{Changes.{EditsFollow}, Fitting.{FitsNewLog}}, proofs.Changed.{follows-then}}
use Rattle.rm_lang_statement.specs.declared.command.Command.TheVariants.{BackupLogs}
use Rattle.rm_machine.specs.Backup.{or_nothing}
use Rattle.rm_machine.specs.BackupLogs.{copies_of, copies_refusal, copy_entry, copy_line, copy_object, copying, makes_copies}
use Rattle.rm_machine.specs.{Effect.{Outcome, refused}, Hands.{Hands, Refuses}, Recovery.{skipped_lines}, Sound.{IsSound}, State.{ledger}}
use Rattle.rm_machine.specs.declared.{handed.Handed.{Handed}, state.State.{State}}
use Rattle.rm_machine.proofs.BackingUpLogs.{CanRecord, after_copies, can-next, can-record, copy-fits, copy-sound, room-for, room-next, with_copy}
use Rattle.rm_machine.proofs.{Handing.{hands-by}, Left.{HasRoom}}
use Rattle.rm_step_backup.specs.{Logs.{AreRecorded, IsAll, IsRecorded}, declared.looking.Looked.{Looked}}

-- the logs alone
abbrev pub logs_in : List (ℕ × LogFile) → List LogFile
logs_in xs = map (λ x. x.1) xs

-- those from place k on
pub rest-at : (xs : List (ℕ × LogFile)) (k : ℕ) (one : ℕ × LogFile) → k < length xs → one ≡ get_or xs k one → drop k xs ≡ one ∷ drop (k + 1) xs
rest-at xs k one inside is =
    let e : suc k ≡ k + 1 = omega arith in
    drop-cons xs k one inside ∙ ap (λ n. get_or xs k one ∷ drop n xs) e ∙ ap (λ (x : ℕ × LogFile). x ∷ drop (k + 1) xs) (sym is)

-- a log that is recorded is short
pub all-short : (s : State) (n : ℕ) (xs : List (ℕ × LogFile)) → AreRecorded (ledger s).logs n xs → All (λ x. length x.1.records ≤ 65536) xs
all-short s n xs are = each-in (λ (x : ℕ × LogFile). length x.1.records ≤ 65536) xs (λ x has. (All-contains (λ (y : ℕ × LogFile). IsRecorded (ledger s).logs y.1) xs x are.each has).2.few)

-- and can be recorded again
all-can : (s : State) (n : ℕ) (xs : List (ℕ × LogFile)) → IsSound s → AreRecorded (ledger s).logs n xs → All (CanRecord s) (logs_in xs)
all-can s n xs sound are = each-in (CanRecord s) (logs_in xs) (λ a has.
    let x = map_from (λ (y : ℕ × LogFile). y.1) xs a has in
    let is = All-contains (λ (y : ℕ × LogFile). IsRecorded (ledger s).logs y.1) xs x.item are.each x.held in
    subst (CanRecord s) x.is (can-record s is.0 x.item.1 sound is.1 is.2 is.3))

-- from the state s on, all of these logs but the rest are backed up: the state is t
pub record IsUnderWay (s : State) (logs rest : List (ℕ × LogFile)) (before after : List Edit) (first now : Handed) (t : State) : Type 0 where
  pub sound : IsSound t
  pub all : All (CanRecord t) (logs_in rest)
  pub room : HasRoom t (length (logs_in rest))
  pub state : after_copies t (logs_in rest) ≡ after_copies s (logs_in logs)
  pub edits : EditsFollow before after s.catalog t.catalog
  pub lines : now.lines ++ map copy_line (copies_of t (logs_in rest)) ≡ first.lines ++ map copy_line (copies_of s (logs_in logs))
  pub objects : now.objects ++ map copy_object (copies_of t (logs_in rest)) ≡ first.objects ++ map copy_object (copies_of s (logs_in logs))
  pub removes : now.removes ≡ first.removes

-- none is backed up at first
pub way-start : (s : State) (logs : List (ℕ × LogFile)) (n : ℕ) (edits : List Edit) (x : Handed) → IsSound s → AreRecorded (ledger s).logs n logs → copies_refusal s (logs_in logs) ≡ None → IsUnderWay s logs logs edits edits x x s
way-start s logs n edits x sound are accepted = record {
  sound = sound;
  all = all-can s n logs sound are;
  room = room-for s (logs_in logs) sound accepted;
  state = refl;
  edits = record { lead = λ rs from. from };
  lines = refl;
  objects = refl;
  removes = refl;
}

-- the one at place k is the next
module _ (s t : State) (logs : List (ℕ × LogFile)) (k : ℕ) (one : ℕ × LogFile) (inside : k < length logs) (is_one : one ≡ get_or logs k one) (before mid : List Edit) (first x : Handed) (way : IsUnderWay s logs (drop k logs) before mid first x t) where
  abbrev rest : List (ℕ × LogFile)
  rest = drop (k + 1) logs

  here : IsUnderWay s logs (one ∷ rest) before mid first x t
  here = subst (λ (ys : List (ℕ × LogFile)). IsUnderWay s logs ys before mid first x t) (rest-at logs k one inside is_one) way

  can : CanRecord t one.1
  can = All-head (CanRecord t) one.1 (logs_in rest) here.all

  -- it is valid, and its record fits
  pub next-valid : IsLogFile one.1
  next-valid = can.valid

  pub next-fits : FitsNewLog t.catalog (copy_entry ((ledger t).base.next_id, one.1))
  next-fits = copy-fits t one.1 (length (logs_in rest)) here.sound can here.room

  -- one log on
  pub way-on : (q : State) (after : List Edit) (y : Handed) → q ≡ with_copy t one.1 → EditsFollow mid after t.catalog q.catalog → y.lines ≡ x.lines ++ copy_line ((ledger t).base.next_id, one.1) ∷ []
      → y.objects ≡ x.objects ++ copy_object ((ledger t).base.next_id, one.1) ∷ [] → y.removes ≡ x.removes → IsUnderWay s logs rest before after first y q
  way-on q after y is follow lines objects removes =
      let p : State = with_copy t one.1 in
      let c : ℕ × LogFile = ((ledger t).base.next_id, one.1) in
      let more = copies_of p (logs_in rest) in
      coe 1 0 (i. IsUnderWay s logs rest before after first y (is i)) (record {
        sound = copy-sound t one.1 (length (logs_in rest)) here.sound can here.room;
        all = can-next t one.1 (logs_in rest) here.all;
        room = room-next t one.1 (length (logs_in rest)) here.room;
        state = here.state;
        edits = follows-then before mid after s.catalog t.catalog p.catalog here.edits (coe 0 1 (i. EditsFollow mid after t.catalog (is i).catalog) follow);
        lines = ap (λ (ls : List Line). ls ++ map copy_line more) lines ∙ append_assoc x.lines (copy_line c ∷ []) (map copy_line more) ∙ here.lines;
        objects = ap (λ (os : List Object). os ++ map copy_object more) objects ∙ append_assoc x.objects (copy_object c ∷ []) (map copy_object more) ∙ here.objects;
        removes = removes ∙ here.removes;
      })

-- The lines of the reply: that there is no log to back up is told behind the skipped ones
lines-of : (s : State) (skipped : List (ℕ × Bad)) (found : List (ℕ × LogFile)) → (skipped_lines skipped ++ cond (length found == 0) (NothingToBackUp ∷ []) []) ++ map copy_line (copies_of s (logs_in found)) ≡ skipped_lines skipped ++ or_nothing (map copy_line (copies_of s (logs_in found)))
lines-of s skipped [] = append-nil (skipped_lines skipped ++ NothingToBackUp ∷ [])
lines-of s skipped (x ∷ found) =
    let some : (length (x ∷ found) == 0) ≡ false = ne_eqb (length (x ∷ found)) 0 (λ e. absurd (omega (arith, e))) in
    ap (λ ls. ls ++ map copy_line (copies_of s (logs_in (x ∷ found)))) (ap (λ b. skipped_lines skipped ++ cond b (NothingToBackUp ∷ []) []) some ∙ append-nil (skipped_lines skipped))

-- no line of it tells a moment
copies-dated : (xs : List (ℕ × LogFile)) → All IsPlain (map copy_line xs)
copies-dated [] = All-nil IsPlain
copies-dated (x ∷ xs) = All-cons IsPlain (copy_line x) (map copy_line xs) tt (copies-dated xs)

pub all-dated : (xs : List (ℕ × LogFile)) (mid lines : List Line) → All IsPlain mid → lines ≡ mid ++ map copy_line xs → All IsPlain lines
all-dated xs mid lines dated is = subst (All IsPlain) (sym is) (All-append IsPlain mid (map copy_line xs) dated (copies-dated xs))

-- What it hands out

module _ (held : Option Held) (s : State) (all : Looked) (told : IfSome held (λ h. IsAll h (ledger s).logs all)) where
  looked : (o : Option Held) → IfSome o (λ h. IsAll h (ledger s).logs all) → (objects : Held) → o ≡ Some objects → IsAll objects (ledger s).logs all
  looked None is objects tells = absurd cc
  looked (Some h) is objects tells = subst (λ (k : Held). IsAll k (ledger s).logs all) (same_Some h objects tells) is

  abbrev logs : List LogFile
  logs = logs_in all.found

  abbrev comes_by : Option Refusal → Outcome
  comes_by o = option_map_or refused o (makes_copies s all.skipped (copies_of s logs))

  pub copies-hands : (x : Handed) (t : State) → copies_refusal s logs ≡ None → x.lines ≡ (skipped_lines all.skipped ++ cond (length all.found == 0) (NothingToBackUp ∷ []) []) ++ map copy_line (copies_of s logs) → x.objects ≡ map copy_object (copies_of s logs) → x.removes ≡ [] → t ≡ after_copies s logs → Hands held s BackupLogs x t
  copies-hands x t accepted lines objects removes is =
      hands-by held s BackupLogs x t (skipped_lines all.skipped ++ or_nothing (map copy_line (copies_of s logs))) (copying (copies_of s logs)) (after_copies s logs)
      (λ store tells. let are = looked held told store tells in record { skipped = all.skipped; misses = are.skipped; found = all.found; finds = are.found; is = sym (ap comes_by accepted) }) (lines ∙ lines-of s all.skipped all.found) objects removes is

  pub copies-refused : (r : Refusal) → copies_refusal s logs ≡ Some r → Refuses held s BackupLogs r
  copies-refused r is = λ store tells. let are = looked held told store tells in record { skipped = all.skipped; misses = are.skipped; found = all.found; finds = are.found; is = sym (ap comes_by is) }
