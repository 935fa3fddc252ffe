-- What is known where WRITE was not refused.
use Rattle.std.specs.Prelude.{IfSome}
use Rattle.std.proofs.Common.{◌≡◌, ◌∙◌, ◌<◌, ◌≤◌, ◌-◌, ℕ, Option, Some, None, true, false, refl, sym, subst, arith, All, Contains, slice_get}
use Rattle.std.proofs.lemmas.{List.Elements.{All-contains_itself, All-weaker}, Option.{slice_get_within}}
use Rattle.rm_base.{specs.{Numbers.{last_scn}, declared.block.{Change.{Change}, Row.{Row}}}, proofs.Slots.{all-get, get-index}}
use Rattle.rm_blocks.specs.File.{File}
use Rattle.rm_lang_statement.specs.declared.command.WriteForm.{WriteForm}
use Rattle.rm_history.proofs.{Highs.{high-above}, Worlds.{file-there}}
use Rattle.rm_catalog_typed.{specs.LedgerFacts.{IsCreated}, proofs.Lookups.{item-at}}
use Rattle.rm_redo.specs.{LogFormat.{IsLogRecord}, Logs.{Logs}, Online.{IsLost, IsThread, first_of, thread_records}}
use Rattle.rm_machine.specs.{Sound.{IsPlaced, IsSound}, State.{now_of, placed, redo_end, tree, world}, Write.{change_of, write_refusal}}
use Rattle.rm_machine.{specs.declared.state.State.{State}, proofs.{Further.{redo-now}, Places.{counted-open}, Writes.{write-accepted}}}

-- its numbers are those of a thread, a datafile and a block that can be
pub record AreNumbers (w : WriteForm) : Type 0 where
  pub thread : (0 < w.thread) × (w.thread ≤ 4)
  pub file : (0 < w.file) × (w.file ≤ 64)
  pub block : w.block < 65536

pub write-numbers : (s : State) (w : WriteForm) → IsSound s → write_refusal s w ≡ None → AreNumbers w
write-numbers s w sound is =
    let a = write-accepted s w sound is in
    let there = file-there (world s) w.file a.datafile a.is in
    let inside = slice_get_within s.catalog.ledger.files (w.file - 1) a.datafile there.1 in
    let few = sound.catalog.ledger.datafiles.few in
    let created = all-get (IsCreated (tree s)) s.catalog.ledger.files (w.file - 1) a.datafile there.1 sound.catalog.ledger.datafiles.each in
    let block = a.block in
    let most = created.blocks.1 in
    let low = a.thread.1 in
    let four = sound.logs.four in
    record {
      thread = (a.thread.0, omega (arith, low, four));
      file = (there.0, omega (arith, inside, few));
      block = omega (arith, block, most);
    }

-- its change can go to the log of its thread
pub record CanAppend (logs : Logs) (c : Change) : Type 0 where
  pub thread : IsThread logs c.thread
  pub there : ¬ IsLost logs c.thread
  pub inc : c.inc ≡ logs.inc
  pub first : first_of logs c.thread ≤ c.scn
  pub last : c.scn < last_scn
  pub above : All (λ r. r.scn < c.scn) (thread_records logs c.thread)

appends : (s : State) (w : WriteForm) → IsSound s → write_refusal s w ≡ None → CanAppend s.instance.logs (change_of s w)
appends s w sound is =
    let a = write-accepted s w sound is in
    let opened = sound.in_open a.on.opened in
    let found = opened.found w.thread a.thread in
    let log = sound.logs.each w.thread a.thread found in
    let end = redo-now s sound a.on in
    record {
      thread = a.thread;
      there = λ lost. (let clash : true ≡ false = sym lost ∙ found in cc);
      inc = sym opened.inc;
      first = omega (arith, log.valid.range.1, end);
      last = a.on.below;
      above = All-weaker (IsLogRecord (first_of s.instance.logs w.thread) (redo_end s)) (λ r. r.scn < now_of s) (λ r from. let below = from.scn.1 in omega (arith, below, end)) (thread_records s.instance.logs w.thread) log.valid.records;
    }

-- also one SCN further
pub can-append : (s p : State) (w : WriteForm) (c : Change) → IsSound s → write_refusal s w ≡ None → c ≡ change_of s w → p.instance ≡ s.instance → CanAppend p.instance.logs c
can-append s p w c sound is made same = coe 1 0 (i. CanAppend (same i).logs (made i)) (appends s w sound is)

-- a version in place of an open database lies below `now`
below-by : (s : State) (f b : ℕ) (x : File) (r : Row) → IsSound s → s.instance.is_open ≡ true → placed s f ≡ Some x → slice_get x.rows b ≡ Some r → r.version < now_of s
below-by s f b x r sound opened is row =
    let held = get-index s.instance.place (f - 1) x is in
    let inside = slice_get_within s.instance.place (f - 1) (Some x) held in
    let many = sound.place.many in
    let d = item-at s.catalog.ledger.files (f - 1) (omega (arith, inside, many)) in
    let stands = subst (IsPlaced (tree s) (f - 1) d.0) (counted-open s x opened) (sound.place.each (f - 1) d.0 x d.1 held) in
    let high = stands.high in
    let above = high-above (now_of s) x.rows r (all-get (Contains x.rows) x.rows b r row (All-contains_itself x.rows)) in
    omega (arith, above, high)

pub rows-below : (s : State) (f b : ℕ) → IsSound s → s.instance.is_open ≡ true → IfSome (placed s f) (λ x. IfSome (slice_get x.rows b) (λ r. r.version < now_of s))
rows-below s f b sound opened = by-file (placed s f) refl
  where
    by-row : (x : File) (o : Option Row) → placed s f ≡ Some x → slice_get x.rows b ≡ o → IfSome o (λ r. r.version < now_of s)
    by-row x None is row = tt
    by-row x (Some r) is row = below-by s f b x r sound opened is row

    by-file : (o : Option File) → placed s f ≡ o → IfSome o (λ x. IfSome (slice_get x.rows b) (λ r. r.version < now_of s))
    by-file None is = tt
    by-file (Some x) is = by-row x (slice_get x.rows b) is refl
