-- The copies that a BACKUP asks for, and the bitmaps that end at its beginning.
use Rattle.std.specs.Option.{option_map, option_map_or}
use Rattle.std.proofs.Common.{◌≡◌, ◌≤◌, ◌<◌, ◌+◌, ◌-◌, ◌∙◌, ◌==◌, inl, inr, ℕ, List, [], ◌∷◌, ◌++◌, Option, Some, None, IfSome, refl, ap, sym, subst, arith, find, get_or, length, map, slice_get, take}
use Rattle.std.proofs.lemmas.{List.{map_push, take_more, Elements.{All-push}}, Option.{slice_get_within}}
use Rattle.rm_base.proofs.Slots.{get-index}
use Rattle.rm_blocks.specs.File.{File}
use Rattle.rm_channel.specs.{Jobs.{whole}, Room.{IsThere}, declared.jobs.{CopyJob.{CopyJob}, Wanted.TheVariants.{All as AllBlocks, Blocks}}}
use Rattle.rm_history.specs.declared.world.Datafile.{Datafile}
use Rattle.rm_catalog_typed.proofs.Lookups.{item-at}
use Rattle.rm_live.specs.Ruled.{upto}
use Rattle.rm_machine.specs.{Asked.{candidates_in, span_of}, Backup.{rows_in}, Events.{opening, standing_in}, Sound.{IsSound}}
use Rattle.rm_machine.specs.{Tracked.{switch_all}, State.{ledger, now_of}, declared.{job.Job.{Job}, state.State.{State}}}
use Rattle.rm_machine.proofs.{PiecesRead.{blocks-by}, Tracked.{at-file}, WritersRoom.{file-found}, Counted.{counted-rows}}
use Rattle.rm_track.specs.{Bitmaps.{Tracked, switch_at, switched, tracked_at}, Bits.{IsBits, blocks_from, marks_of}}
use Rattle.rm_track.{specs.declared.bits.Bits.{Bits}, proofs.{ReadBlocks.{candidates-long, known-by}, Marks.{length-marks}}}
use Rattle.rm_step_backup.specs.Copying.{AreCopiesOf, IsCopyOf, StartBelow, Stands}

-- Copies

-- a datafile that stands in place has as many rows as the records say
record IsWhole (s : State) (f : ℕ) (rows : ℕ) : Type 0 where
  datafile : Datafile
  is : slice_get (ledger s).files (f - 1) ≡ Some datafile
  many : rows ≡ datafile.blocks

whole-file : (s : State) (f : ℕ) → IsSound s → (it : Stands s f) → IsWhole s f (length it.file.rows)
whole-file s f sound it =
    let at = get-index s.instance.place (f - 1) it.file it.is in
    let file = item-at (ledger s).files (f - 1) (omega (arith, slice_get_within s.instance.place (f - 1) (Some it.file) at, sound.place.many)) in
    record { datafile = file.0; is = file.1; many = sym (counted-rows s it.file) ∙ (sound.place.each (f - 1) file.0 it.file file.1 at).blocks }

-- it is there for a copy of as many blocks
size-is : (s : State) (f n : ℕ) → IsSound s → (it : Stands s f) → length it.file.rows ≡ n → option_map (λ (x : File). length x.rows) (find (λ (x : File). x.file == f) (standing_in s)) ≡ Some n
size-is s f n sound it same = ap (option_map (λ (x : File). length x.rows)) (file-found s f it.file sound it.some it.is) ∙ ap Some same

-- the copy of the candidates
pub copy-some : (s : State) (j : Job) (x : Bits) → IsSound s → Stands s j.file → IsBits x → Some (marks_of x) ≡ candidates_in s j → IsCopyOf s j (record { file = j.file; wanted = Blocks x })
copy-some s j x sound it bits is =
    let rows = whole-file s j.file sound it in
    let known = known-by s.instance.tracker j.file j.from (marks_of x) (sym is) in
    let tracked = sound.tracker.each j.file known.tracked known.found in
    let blocks = blocks-by s j.file rows.datafile it.some rows.is in
    let long = candidates-long known.from _ known.tracked (marks_of x) tracked.blocks tracked.ended known.are in
    record {
      span = λ i. record { file = j.file; blocks = option_map_or (blocks_from 0) (is i) (upto 0 (length (rows_in s j.file))) };
      there = record { size = size-is s j.file x.blocks sound it (rows.many ∙ sym blocks ∙ sym long ∙ length-marks x.bytes.items x.blocks); wanted = bits };
    }

-- the copy of all blocks
pub copy-all : (s : State) (j : Job) (n : ℕ) → IsSound s → Stands s j.file → None ≡ candidates_in s j → n ≡ length (rows_in s j.file) → IsCopyOf s j (record { file = j.file; wanted = AllBlocks n })
copy-all s j n sound it is many =
    let rows : rows_in s j.file ≡ it.file.rows = ap (λ o. option_map_or (λ (x : File). x.rows) o []) it.is in
    record {
      span = (λ i. record { file = j.file; blocks = upto 0 (many i) }) ∙ (λ i. record { file = j.file; blocks = option_map_or (blocks_from 0) (is i) (upto 0 (length (rows_in s j.file))) });
      there = record { size = size-is s j.file n sound it (ap (λ rs. length rs) (sym rows) ∙ sym many); wanted = tt };
    }

-- one more
pub copies-next : (s : State) (jobs : List Job) (k : ℕ) (d : Job) (old : List CopyJob) (c : CopyJob) (new : List CopyJob) → k < length jobs → AreCopiesOf s (take k jobs) old → IsCopyOf s (get_or jobs k d) c → new ≡ old ++ c ∷ [] → AreCopiesOf s (take (k + 1) jobs) new
copies-next s jobs k d old c new inside are one is =
    let j : Job = get_or jobs k d in
    let both : AreCopiesOf s (take k jobs ++ j ∷ []) (old ++ c ∷ []) = record {
      spans = map_push whole old c ∙ (λ i. are.spans i ++ one.span i ∷ []) ∙ sym (map_push (span_of s) (take k jobs) j);
      there = All-push (IsThere (opening s).files) old c are.there one.there;
    } in
    coe 1 0 (i. AreCopiesOf s (take_more jobs k d inside i) (is i)) both

-- Bitmaps

-- one datafile more
switch_all-more : (checkpoint : ℕ) (fs : List ℕ) (f : ℕ) (ts : List Tracked) → switch_all checkpoint (fs ++ f ∷ []) ts ≡ switch_at (switch_all checkpoint fs ts) f checkpoint
switch_all-more checkpoint [] f ts = refl
switch_all-more checkpoint (g ∷ fs) f ts = switch_all-more checkpoint fs f (switch_at ts g checkpoint)

pub switched-next : (checkpoint : ℕ) (jobs : List Job) (k : ℕ) (d : Job) (ts mid new : List Tracked) → k < length jobs → mid ≡ switch_all checkpoint (map (λ (j : Job). j.file) (take k jobs)) ts
    → new ≡ switch_at mid (get_or jobs k d).file checkpoint → new ≡ switch_all checkpoint (map (λ (j : Job). j.file) (take (k + 1) jobs)) ts
switched-next checkpoint jobs k d ts mid new inside was is =
    let f : ℕ = (get_or jobs k d).file in
    is ∙ ap (λ (xs : List Tracked). switch_at xs f checkpoint) was ∙ sym (switch_all-more checkpoint (map (λ (j : Job). j.file) (take k jobs)) f ts)
    ∙ ap (λ (fs : List ℕ). switch_all checkpoint fs ts) (sym (map_push (λ (j : Job). j.file) (take k jobs) (get_or jobs k d)) ∙ ap (map (λ (j : Job). j.file)) (sym (take_more jobs k d inside)))

below-one : (checkpoint : ℕ) (ts : List Tracked) (f : ℕ) → StartBelow checkpoint ts → StartBelow checkpoint (switch_at ts f checkpoint)
below-one checkpoint ts f below g t found =
    let was = at-file f (switched checkpoint) ts g t (λ u. refl) found in
    let low = below g was.0 was.1 in
    elim was.2 [
      | inl same ↦ subst (λ (x : Tracked). x.start ≤ checkpoint) (sym same) low
      | inr new ↦ subst (λ (x : Tracked). x.start ≤ checkpoint) (sym new) (omega arith)
    ]

pub below-all : (checkpoint : ℕ) (fs : List ℕ) (ts : List Tracked) → StartBelow checkpoint ts → StartBelow checkpoint (switch_all checkpoint fs ts)
below-all checkpoint [] ts below = below
below-all checkpoint (f ∷ fs) ts below = below-all checkpoint fs (switch_at ts f checkpoint) (below-one checkpoint ts f below)

pub below-here : (checkpoint : ℕ) (ts : List Tracked) (f : ℕ) → StartBelow checkpoint ts → IfSome (tracked_at ts f) (λ t. t.start ≤ checkpoint)
below-here checkpoint ts f below = by (tracked_at ts f) refl
  where
    by : (o : Option Tracked) → tracked_at ts f ≡ o → IfSome o (λ t. t.start ≤ checkpoint)
    by None found = tt
    by (Some t) found = below f t found

-- they start up to now
pub below-now : (s : State) → IsSound s → StartBelow (now_of s) s.instance.tracker
below-now s sound f t found = (sound.tracker.each f t found).begun
