-- How a duplicate ends, and what it leaves.
use Rattle.std.specs.Prelude.{ℕ, ◌≡◌, ◌⊎◌, Option, List}
use Rattle.rm_base.specs.{Outside.{Appends}, declared.refusal.Refusal.{Refusal}}
use Rattle.rm_commit.specs.Carrying.{Carried, Halted}
use Rattle.rm_dup.specs.declared.database.Duplicate.{Duplicate}
use Rattle.rm_lang_words.specs.Duplicate.{DuplicateSaid}
use Rattle.rm_tool_opening.specs.Opening.{BeginsBadRecord, TellsValid, WritesBadRecord}
use Rattle.rm_tool_duplicate.specs.{Asked.{Sides}, Duplicated.{Makes, commit_of, lines_text}, Refused.{Refuses}}
use Rattle.rm_tool_duplicate.specs.declared.preparing.Ready.{Ready}
use Rattle.rm_tool_ends.specs.{Writing.{WritesFront, refusal_line}, declared.ended.Ended.{Ended}}
use Rattle.rm_tool_ends.specs.declared.ended.Ended.TheVariants as ended

-- What is ready to be carried out and told: the change of a duplicate, and the text of its lines.
pub record IsReady (x : DuplicateSaid) (a : Sides) (ready : Ready) : Type 0 where
  pub duplicate : Duplicate
  pub makes : Makes x a duplicate
  pub change : ready.change ≡ commit_of duplicate
  pub text : ready.text ≡ lines_text x duplicate

-- It was made, and all of it carried out over the duplicate's store and number.
pub record IsCarriedOut (x : DuplicateSaid) (a b : Sides) (d : Duplicate) : Type 0 where
  pub makes : Makes x a d
  pub carried : Carried (commit_of d) a.to a.target b.to b.target

-- So it was, and exactly its lines were written.
pub record Finishes (x : DuplicateSaid) (a b : Sides) (before now : Option (List ℕ)) : Type 0 where
  pub duplicate : Duplicate
  pub is : IsCarriedOut x a b duplicate
  pub written : Appends before now (lines_text x duplicate)

-- It was refused, and the line of that was written.
pub record EndsRefused (x : DuplicateSaid) (a : Sides) (before now : Option (List ℕ)) : Type 0 where
  pub refusal : Refusal
  pub refuses : Refuses x a refusal
  pub written : Appends before now (refusal_line refusal)

-- The sink failed in a text, of which a front was written that is not all of it: in the line of a record or of a refusal, with nothing put
-- or recorded; or in its lines, after all was carried out.
pub data EndsInText (x : DuplicateSaid) (a b : Sides) (before now : Option (List ℕ)) : Type 0 where
  in_bad_record : b ≡ a → BeginsBadRecord a.source before now → EndsInText x a b before now
  in_refusal : (refusal : Refusal) → b ≡ a → Refuses x a refusal → WritesFront before now (refusal_line refusal) → EndsInText x a b before now
  in_lines : (d : Duplicate) → IsCarriedOut x a b d → WritesFront before now (lines_text x d) → EndsInText x a b before now

-- It was stopped, with nothing written: nothing was put or recorded, or this is left of what it changes.
pub data EndsStopped (x : DuplicateSaid) (a b : Sides) (before now : Option (List ℕ)) : Type 0 where
  before_changes : now ≡ before → b ≡ a → EndsStopped x a b before now
  in_changes : (d : Duplicate) → now ≡ before → Makes x a d → Halted (commit_of d) a.to a.target b.to b.target → EndsStopped x a b before now

-- Its number has the records that it had, or it was made and all of it carried out.
abbrev pub IsAllOrNone : DuplicateSaid → Sides → Sides → Type 0
IsAllOrNone x a b = (b.target ≡ a.target) ⊎ ((d : Duplicate) × IsCarriedOut x a b d)

-- what it leaves where it ends early; a store fails only where the source's records are valid
abbrev pub Leaves : DuplicateSaid → Sides → Sides → Option (List ℕ) → Option (List ℕ) → Ended → Type 0
Leaves x a b before now ended.Refused = (b ≡ a) × EndsRefused x a before now
Leaves x a b before now ended.BadRecord = (b ≡ a) × WritesBadRecord a.source before now
Leaves x a b before now ended.Sink = EndsInText x a b before now
Leaves x a b before now ended.Store = TellsValid a.source × EndsStopped x a b before now
Leaves x a b before now ended.Keeper = EndsStopped x a b before now
Leaves x a b before now ended.NoMemory = EndsStopped x a b before now
