-- BACKUP INCREMENTAL FROM SCN: the set that is made of the datafiles in place is the increment, and what is done is its outcome.
use Rattle.std.proofs.Common.{◌≡◌, ◌<◌, ◌≤◌, ◌+◌, ◌∙◌, ℕ, List, [], ◌∷◌, Option, Some, None, All, ap, sym, subst, arith, false, length, map}
use Rattle.std.proofs.lemmas.{List.{map-id, Elements.{All-weaker}, Sums.{sum_by-le}}, Simd.{map-map}}
use Rattle.rm_base.specs.Store.{Held}
use Rattle.rm_catalog_typed.specs.Fitting.{FitsBase}
use Rattle.rm_lang_statement.specs.declared.command.{BackupForm.{BackupForm}, Command.TheVariants.{BackupFrom}}
use Rattle.rm_machine.specs.{Backup.{taken}, BackupOutcome.{begun}, BackupRefusal.{mark_count}, Effect.{done}, Hands.{Hands}}
use Rattle.rm_machine.specs.Marks.{lacks_room}
use Rattle.rm_machine.specs.Roll.{increment, line_of, object_of, of_all, roll_effect, roll_refusal, rolled_files, rows_listed, standing_member, standing_set, with_next_id}
use Rattle.rm_machine.specs.{Sound.{IsSound}, Upkeep.{with_catalog}, State.{ledger}, declared.{handed.Handed.{Handed}, job.Job.{Job}}}
use Rattle.rm_machine.{specs.declared.state.State.{State}, proofs.{BackingUp.{mapped-all}, Rolling.{can-roll, increment-valid, next-fits}}}
use Rattle.rm_piece.specs.{Sets.{IsMember, IsSet}, Valid.{IsPiece}, declared.set.{Set.{Set}, SetFile.{SetFile}}}
use Rattle.rm_piece.proofs.Fitting.{few_rows}
use Rattle.rm_step_backup.specs.Increments.{CanStand, jobs_of}

-- a valid set lists 65,536 rows of each member at most
pub rows-few : (a : Set) → IsSet a → rows_listed a ≤ 4194304
rows-few a is =
    let short = All-weaker (IsMember a) (λ m. length m.piece.rows ≤ 65536) (λ m one. few_rows m.piece one.piece) a.members is.members in
    omega (arith, sum_by-le (λ (m : SetFile). length m.piece.rows) 65536 a.members short, is.few)

-- the datafiles of these jobs
pub files-are : (from : ℕ) (files : List ℕ) → map (λ (j : Job). j.file) (jobs_of from files) ≡ files
files-are from files = map-map (λ (j : Job). j.file) (λ (f : ℕ). record { file = f; from = Some from }) files ∙ map-id files

module _ (s : State) (from : ℕ) (sound : IsSound s) (accepted : roll_refusal s from ≡ None) (b : BackupForm) (form : b ≡ of_all) (fs : List ℕ) (files : fs ≡ taken s b) where
  pub set-is : standing_set s b from fs ≡ increment s from
  set-is = let all : fs ≡ rolled_files s = files ∙ ap (taken s) form in λ i. standing_set s (form i) from (all i)

  pub set-valid : IsSet (standing_set s b from fs)
  set-valid = subst IsSet (sym set-is) (increment-valid s from sound accepted)

  pub can-stand : CanStand s b from fs
  can-stand =
      let a : Set = standing_set s b from fs in
      let each : All (λ f. IsMember a (standing_member s b from f)) fs = mapped-all (IsMember a) (standing_member s b from) fs set-valid.members in
      record {
        some = All-weaker (λ f. IsMember a (standing_member s b from f)) (λ f. 0 < f) (λ f one. omega (arith, one.piece.file.0)) fs each;
        valid = All-weaker (λ f. IsMember a (standing_member s b from f)) (λ f. IsPiece (standing_member s b from f).piece) (λ f one. one.piece) fs each;
      }

  -- no mark is written
  pub roomy : lacks_room s (mark_count s b) ≡ false
  roomy = ap (λ x. lacks_room s (mark_count s x)) form

  -- the database after its beginning, and after an id is drawn
  module _ (q : State) (begins : q ≡ begun s b) where
    begun-is : q ≡ begun s of_all
    begun-is = begins ∙ ap (begun s) form

    pub base-fits : FitsBase q.catalog (record (ledger q).base { next_id = (ledger q).base.next_id + 1 })
    base-fits =
        coe 1 0 (i. FitsBase (begun-is i).catalog (record (ledger (begun-is i)).base { next_id = (ledger (begun-is i)).base.next_id + 1 }))
        (next-fits s sound (omega (arith, (can-roll s from accepted).ids)))

    pub hands : (held : Option Held) (x : Handed) (t : State) → x.lines ≡ line_of s (standing_set s b from fs) from ∷ [] → x.objects ≡ object_of s (standing_set s b from fs) ∷ [] → x.removes ≡ []
        → t ≡ with_catalog q (with_next_id q.catalog) → Hands held s (BackupFrom from) x t
    hands held x t lines objects removes is =
        let told : x.lines ≡ line_of s (increment s from) from ∷ [] = lines ∙ ap (λ a. line_of s a from ∷ []) set-is in
        let after = is ∙ ap (λ (y : State). with_catalog y (with_next_id y.catalog)) begun-is in
        record {
          effect = roll_effect s from;
          comes = λ store same i. done (told i) (roll_effect s from) (after i);
          puts = objects ∙ ap (λ a. object_of s a ∷ []) set-is;
          removes = removes;
        }
