-- How a task ends, of how the calls below it did.
use Rattle.std.{specs.Prelude.{IsErrOf}, proofs.Common.{◌≡◌, ◌≤◌, ◌∙◌, inl, inr, ℕ, List, Option, Some, None, Result, Err, ap, arith, subst, sym}}
use Rattle.rm_base.{specs.{Outside.{Appends, Rose}, Store.{Held}, declared.refusal.Refusal.{Refusal}}, proofs.Streams.{rose-within}}
use Rattle.rm_catalog.specs.declared.record.Record.{Record}
use Rattle.rm_commit.specs.declared.commit.Stop.{Stop}
use Rattle.rm_commit.specs.declared.commit.Stop.TheVariants as stop
use Rattle.rm_lang_words.specs.declared.standby.StandbyTask.{StandbyTask}
use Rattle.rm_machine_laws.specs.Holds.{View}
use Rattle.rm_piece.specs.declared.set.Set.{Set}
use Rattle.rm_tool_opening.specs.{Opening.{IsSource, TellsValid}, Opens.{Opens, Shows}}
use Rattle.rm_tool_ends.specs.{Causes.{of_stop}, Ended.{Counts, NoneFalls, RoseFor}, Writing.{WritesFront, WritesRefusal}}
use Rattle.rm_tool_ends.specs.declared.ended.Ended.{Ended}
use Rattle.rm_tool_ends.specs.declared.ended.Ended.TheVariants as ended
use Rattle.rm_tool_standby.specs.{Asked.{Sides, sides}, Done.{Comes, text_of}}
use Rattle.rm_tool_standby.specs.Ended.{EndsStopped, Finishes, Leaves, Takes, before_changes, in_changes, in_lines, in_refusal}
use Rattle.rm_tool_standby.specs.{Kept.{Stops}, Prepared.{IsFit, IsReady, StopsAt, changes}, Refused.{Refuses}}
use Rattle.rm_tool_standby.specs.declared.preparing.Ready.{Ready}

module _ (task : StandbyTask) (a b : Sides) (before now : Option (List ℕ)) where
  -- the line of a refusal was not written
  pub untold-refusal : (e : Ended) (refusal : Refusal) → b ≡ a → Refuses a task refusal → WritesRefusal refusal before now e → Leaves task a b before now e
  untold-refusal ended.Sink refusal same refuses front = in_refusal refusal same refuses front
  untold-refusal ended.NoMemory refusal same refuses silent = before_changes silent same
  untold-refusal ended.Refused refusal same refuses none = absurd none
  untold-refusal ended.BadRecord refusal same refuses none = absurd none
  untold-refusal ended.Store refusal same refuses none = absurd none
  untold-refusal ended.Keeper refusal same refuses none = absurd none

-- What is so behind each of its calls

-- the site was opened, and showed what was there
pub opened-source : {from from' : Option Held} {records : Option (List Record)} {v : View} → from' ≡ from → Opens from records v → Shows from records v → TellsValid records
    → IsSource from' records v
opened-source {records = records} {v = v} same opens shows valid = coe 1 0 (i. IsSource (same i) records v) (record { opens = opens; shows = shows; valid = valid })

pub leaves-opened : (task : StandbyTask) {from from' : Option Held} (last_from : Option Held) {records records' : Option (List Record)} (to last_to : Option Held) {before mid : Option (List ℕ)} (now : Option (List ℕ))
    (e : Ended) → from' ≡ from → records' ≡ records → mid ≡ before → Leaves task (sides from' records to) (sides last_from records last_to) mid now e
    → Leaves task (sides from records to) (sides last_from records' last_to) before now e
leaves-opened task last_from {records = records} to last_to now e from_same records_same silent left =
    coe 0 1 (i. Leaves task (sides (from_same i) records to) (sides last_from (sym records_same i) last_to) (silent i) now e) left

-- All was prepared over these sides, of which the standby's store held this; and nothing was written.
pub record Prepared (task : StandbyTask) (a : Sides) (held : Option Held) (before now : Option (List ℕ)) (ready : Ready) : Type 0 where
  pub is : IsReady a task ready
  pub to : held ≡ a.to
  pub silent : now ≡ before

pub prepared : {task : StandbyTask} {from from' to to' : Option Held} {records : Option (List Record)} {before mid now : Option (List ℕ)} {ready : Ready}
    → from' ≡ from → IsReady (sides from' records to) task ready → to' ≡ to → mid ≡ before → now ≡ mid → Prepared task (sides from records to) to' before now ready
prepared {task = task} {to = to} {records = records} {ready = ready} same is to_same silent still =
    record { is = coe 0 1 (i. IsReady (sides (same i) records to) task ready) is; to = to_same; silent = still ∙ silent }

-- It was carried out, or stopped

module _ {task : StandbyTask} {a : Sides} {held : Option Held} {before now : Option (List ℕ)} {ready : Ready} (p : Prepared task a held before now ready) (b : Sides) where
  -- it was stopped where the new standby takes the place of that of before
  stopped-late : StopsAt p.is.found p.is.new held b.to → EndsStopped task a b before now
  stopped-late stops = stopped-by p.is.new p.is.comes stops
    where
      stopped-by : (new : Option Set) → Comes a task p.is.found new p.is.lines → StopsAt p.is.found new held b.to → EndsStopped task a b before now
      stopped-by None comes stops = absurd stops
      stopped-by (Some x) comes stops = in_changes p.is.found x p.is.lines p.silent comes (subst (λ (h : Option Held). Stops p.is.found x h b.to) p.to stops)

  module _ {A : Type 0} {carried : Result A Stop} where
    pub halts : (e : Stop) → carried ≡ Err e → ¬ IsErrOf carried stop.KeeperFault
        → ((found : Option (ℕ × Set)) (new : Option Set) → IsFit found new → ready.change ≡ changes found new → StopsAt found new held b.to) → Leaves task a b before now (of_stop e)
    halts stop.StoreFault was not stops = (p.is.comes.source.valid, stopped-late (stops p.is.found p.is.new p.is.fit (ap (λ (r : Ready). r.change) p.is.is)))
    halts stop.KeeperFault was not stops = absurd (not was)
    halts stop.NoMemory was not stops = stopped-late (stops p.is.found p.is.new p.is.fit (ap (λ (r : Ready). r.change) p.is.is))

  module _ (takes : (found : Option (ℕ × Set)) (new : Option Set) → IsFit found new → ready.change ≡ changes found new → Takes found new held b.to) where
    all-taken : Takes p.is.found p.is.new a.to b.to
    all-taken = subst (λ (h : Option Held). Takes p.is.found p.is.new h b.to) p.to (takes p.is.found p.is.new p.is.fit (ap (λ (r : Ready). r.change) p.is.is))

    text : {bytes : List ℕ} → bytes ≡ ready.text → bytes ≡ text_of p.is.lines
    text told = told ∙ ap (λ (r : Ready). r.text) p.is.is

    module _ {bytes : List ℕ} (after : Option (List ℕ)) (told : bytes ≡ ready.text) where
      -- its lines were not written whole
      pub untold-lines : WritesFront now after bytes → Leaves task a b before after ended.Sink
      untold-lines front = in_lines p.is.found p.is.new p.is.lines p.is.comes all-taken (coe 0 1 (i. WritesFront (p.silent i) after (text told i)) front)

      -- and they were
      pub finishes : Appends now after bytes → Finishes task a b before after
      finishes written = record {
        found = p.is.found;
        new = p.is.new;
        lines = p.is.lines;
        comes = p.is.comes;
        takes = all-taken;
        written = coe 0 1 (i. Appends (p.silent i) after (text told i)) written;
      }

-- Whose count rose

-- no count fell where the site was opened
pub opened-falls : {sink sink' from from' to records records' : ℕ} → (sink ≤ sink') × (from ≤ from') × (records ≤ records')
    → NoneFalls (record { sink = sink; from = from; to = to; records = records }) (record { sink = sink'; from = from'; to = to; records = records' })
opened-falls falls = record { sink = falls.0; from = falls.1; to = omega arith; records = falls.2 }

-- counts that do not fall, from call to call
pub falls-then : (a b c : Counts) → NoneFalls a b → NoneFalls b c → NoneFalls a c
falls-then a b c one two = record {
  sink = let x = one.sink in let y = two.sink in omega (arith, x, y);
  from = let x = one.from in let y = two.from in omega (arith, x, y);
  to = let x = one.to in let y = two.to in omega (arith, x, y);
  records = let x = one.records in let y = two.records in omega (arith, x, y);
}

-- no count falls from itself
pub none-falls : (a : Counts) → NoneFalls a a
none-falls a = record { sink = omega arith; from = omega arith; to = omega arith; records = omega arith }

-- that of the standby's store, where what is put and what goes was stopped
pub rose-carried : (a b c : Counts) (e : Stop) {A : Type 0} {carried : Result A Stop} → NoneFalls a b → carried ≡ Err e → (IsErrOf carried stop.StoreFault → Rose b.to c.to)
    → ¬ IsErrOf carried stop.KeeperFault → RoseFor a c (of_stop e)
rose-carried a b c stop.StoreFault low was store not = let is = low.to in let rose = store was in inr (omega (arith, is, rose))
rose-carried a b c stop.KeeperFault low was store not = absurd (not was)
rose-carried a b c stop.NoMemory low was store not = tt

-- and between counts that do not fall
pub rose-between : (a b c d : Counts) (e : Ended) → NoneFalls a b → RoseFor b c e → NoneFalls c d → RoseFor a d e
rose-between a b c d ended.Sink low rose high = rose-within a.sink b.sink c.sink d.sink low.sink rose high.sink
rose-between a b c d ended.Store low (inl rose) high = inl (rose-within a.from b.from c.from d.from low.from rose high.from)
rose-between a b c d ended.Store low (inr rose) high = inr (rose-within a.to b.to c.to d.to low.to rose high.to)
rose-between a b c d ended.Keeper low rose high = rose-within a.records b.records c.records d.records low.records rose high.records
rose-between a b c d ended.Refused low rose high = tt
rose-between a b c d ended.BadRecord low rose high = tt
rose-between a b c d ended.NoMemory low rose high = tt
