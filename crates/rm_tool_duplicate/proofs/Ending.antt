-- How a duplicate ends, of how the calls below it did.
use Rattle.std.{specs.Prelude.{IfOk, OnErr, OnOk}, proofs.Common.{◌≡◌, ◌∙◌, ℕ, List, Option, Some, None, Result, Ok, Err, refl, subst, sym}}
use Rattle.rm_base.{specs.{Outside.{Appends}, Store.{Held}, declared.refusal.Refusal.{Refusal}}, proofs.Conditions.{on-err, on-ok}}
use Rattle.rm_commit.specs.{Carrying.{Carried, Halted}, declared.commit.Stop.{Stop}}
use Rattle.rm_commit.specs.declared.commit.Stop.TheVariants as stop
use Rattle.rm_dup.specs.declared.database.Duplicate.{Duplicate}
use Rattle.rm_lang_words.specs.Duplicate.{DuplicateSaid}
use Rattle.rm_machine.specs.declared.state.State.{State}
use Rattle.rm_machine_laws.specs.Holds.{View}
use Rattle.rm_shelf.{specs.Shelved.{AllStay, Shelved, under}, proofs.Staying.{under-stays}}
use Rattle.rm_tool_opening.specs.{Opening.{IsSource, TellsValid}, Opens.{Opens, Shows}, declared.opening.Unopened.{Unopened}}
use Rattle.rm_tool_opening.proofs.Source.{source-of}
use Rattle.rm_tool_duplicate.specs.{Asked.{Sides, sides}, Duplicated.{IsMade, IsMadeOf, Makes, commit_of, lines_text}}
use Rattle.rm_tool_duplicate.specs.{Ended.{Finishes, IsCarriedOut, IsReady, Leaves, before_changes, in_changes, in_lines, in_refusal}, Refused.{Refuses}}
use Rattle.rm_tool_duplicate.specs.declared.preparing.Ready.{Ready}
use Rattle.rm_tool_ends.specs.{Causes.{of_stop}, Writing.{WritesFront, WritesRefusal}, declared.ended.Ended.{Ended}}
use Rattle.rm_tool_ends.specs.declared.ended.Ended.TheVariants as ended

-- both sides stay where the stores and all numbers do
pub sides-stay : (x : DuplicateSaid) (from from' to to' : Option Held) (h h' : Option Shelved) → from' ≡ from → to' ≡ to → AllStay h h' → sides x from' to' h' ≡ sides x from to h
sides-stay x from from' to to' h h' same_from same_to stay = λ i. record {
  from = same_from i;
  source = under-stays x.from h h' stay i;
  to = same_to i;
  target = under-stays x.number h h' stay i;
}

-- the state of a source that is shown
pub shown-of : (x : DuplicateSaid) (a : Sides) (o : Option State) (d : Duplicate) → IsMadeOf x a o d → (s : State) × (o ≡ Some s) × IsMade x a s d
shown-of x a None d made = absurd made
shown-of x a (Some s) d made = (s, refl, made)

-- What is left where it ended early

module _ (x : DuplicateSaid) (a b : Sides) (before now : Option (List ℕ)) where
  -- stopped in what it changes
  pub stopped-late : (e : Stop) (d : Duplicate) → now ≡ before → TellsValid a.source → Makes x a d → Halted (commit_of d) a.to a.target b.to b.target → Leaves x a b before now (of_stop e)
  stopped-late stop.StoreFault d silent valid makes halted = (valid, in_changes d silent makes halted)
  stopped-late stop.KeeperFault d silent valid makes halted = in_changes d silent makes halted
  stopped-late stop.NoMemory d silent valid makes halted = in_changes d silent makes halted

  -- the line of a refusal was not written
  pub untold-refusal : (e : Ended) (refusal : Refusal) → b ≡ a → Refuses x a refusal → WritesRefusal refusal before now e → Leaves x a b before now e
  untold-refusal ended.Sink refusal same refuses front = in_refusal refusal same refuses front
  untold-refusal ended.NoMemory refusal same refuses silent = before_changes silent same
  untold-refusal ended.Refused refusal same refuses none = absurd none
  untold-refusal ended.BadRecord refusal same refuses none = absurd none
  untold-refusal ended.Store refusal same refuses none = absurd none
  untold-refusal ended.Keeper refusal same refuses none = absurd none

-- What is so behind each of its calls

-- The sides are as they were, and nothing was written.
pub record Stays (a b : Sides) (before now : Option (List ℕ)) : Type 0 where
  pub same : b ≡ a
  pub silent : now ≡ before

-- what is left of sides that stayed so far
pub leaves-from : (x : DuplicateSaid) {a a' : Sides} (b : Sides) {before before' : Option (List ℕ)} (now : Option (List ℕ)) (e : Ended) → Stays a a' before before'
    → Leaves x a' b before' now e → Leaves x a b before now e
leaves-from x b now e stays left = coe 0 1 (i. Leaves x (stays.same i) b (stays.silent i) now e) left

-- The source was opened

module _ (x : DuplicateSaid) {from from' : Option Held} (h h' : Option Shelved) {opened : Result View Unopened} {v : View} (is : opened ≡ Ok v) (same : from' ≡ from)
    (stay : AllStay h h') where
  pub opened-source : IfOk opened (Opens from (under x.from h)) → IfOk opened (Shows from (under x.from h)) → OnOk opened (TellsValid (under x.from h))
      → IsSource from' (under x.from h') v
  opened-source opens shows valid =
      coe 1 0 (i. IsSource (same i) (under-stays x.from h h' stay i) v) (source-of from (under x.from h) opened v is opens shows valid)

  pub opened-stays : (to : Option Held) {before before' : Option (List ℕ)} → OnOk opened (before' ≡ before)
      → Stays (sides x from to h) (sides x from' to h') before before'
  opened-stays to {before = before} {before' = before'} silent =
      record { same = sides-stay x from from' to to h h' same refl stay; silent = on-ok (before' ≡ before) opened v is silent }

-- All was prepared from sides that stayed so far.
pub record Prepared (x : DuplicateSaid) (a last : Sides) (before now : Option (List ℕ)) (ready : Ready) : Type 0 where
  pub stays : Stays a last before now
  pub is : IsReady x a ready

pub prepared-from : {x : DuplicateSaid} {a : Sides} {from from' to to' : Option Held} (h h' : Option Shelved) {before before' now : Option (List ℕ)} {ready : Ready}
    → Stays a (sides x from to h) before before'
    → IsReady x (sides x from to h) ready → from' ≡ from → to' ≡ to → AllStay h h' → now ≡ before' → Prepared x a (sides x from' to' h') before now ready
prepared-from {x = x} {from = from} {from' = from'} {to = to} {to' = to'} h h' {ready = ready} stays is same_from same_to stay silent = record {
  stays = record { same = sides-stay x from from' to to' h h' same_from same_to stay ∙ stays.same; silent = silent ∙ stays.silent };
  is = subst (λ y. IsReady x y ready) stays.same is;
}

-- It was carried out, or stopped

module _ {x : DuplicateSaid} {a last : Sides} {before now : Option (List ℕ)} {ready : Ready} (p : Prepared x a last before now ready) where
  text : {bytes : List ℕ} → bytes ≡ ready.text → bytes ≡ lines_text x p.is.duplicate
  text told = told ∙ p.is.text

  module _ (b : Sides) {A : Type 0} {carried : Result A Stop} where
    pub halts : {e : Stop} {ended : Ended} → carried ≡ Err e → OnErr carried (Halted ready.change last.to last.target b.to b.target) → ended ≡ of_stop e
        → Leaves x a b before now ended
    halts {e = e} is halted same =
        let left = on-err (Halted ready.change last.to last.target b.to b.target) carried e is halted in
        let here = coe 0 1 (i. Halted (p.is.change i) (p.stays.same i).to (p.stays.same i).target b.to b.target) left in
        subst (Leaves x a b before now) (sym same) (stopped-late x a b before now e p.is.duplicate p.stays.silent p.is.makes.source.valid p.is.makes here)

    module _ {y : A} (is : carried ≡ Ok y) (done : OnOk carried (Carried ready.change last.to last.target b.to b.target)) where
      carried-out : IsCarriedOut x a b p.is.duplicate
      carried-out = record {
        makes = p.is.makes;
        carried = coe 0 1 (i. Carried (p.is.change i) (p.stays.same i).to (p.stays.same i).target b.to b.target)
            (on-ok (Carried ready.change last.to last.target b.to b.target) carried y is done);
      }

      pub untold-lines : {bytes : List ℕ} {after : Option (List ℕ)} → bytes ≡ ready.text → WritesFront now after bytes → Leaves x a b before after ended.Sink
      untold-lines {after = after} told front =
          in_lines p.is.duplicate carried-out (coe 0 1 (i. WritesFront (p.stays.silent i) after (text told i)) front)

      pub finishes : {bytes : List ℕ} {after : Option (List ℕ)} → bytes ≡ ready.text → Appends now after bytes → Finishes x a b before after
      finishes {after = after} told written = record {
        duplicate = p.is.duplicate;
        is = carried-out;
        written = coe 0 1 (i. Appends (p.stays.silent i) after (text told i)) written;
      }
