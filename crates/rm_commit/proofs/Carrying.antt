-- What the calls of a change leave, one after another.
use Rattle.std.{specs.{Prelude.{OnErr}, Option.{option_map}}, proofs.Common.{◌≡◌, List, Option, Result, Ok, Err}}
use Rattle.rm_base.{specs.Store.{Held, Both}, proofs.Both.{both-then}}
use Rattle.rm_catalog.specs.{Edits.{after_edits}, declared.record.Record.{Record}}
use Rattle.rm_commit.specs.Names.{HasPuts, SameBeyondPuts, HasRemoves, SameBeyondRemoves}
use Rattle.rm_commit.specs.Carrying.{AreMoved, ArePut, Carried, Halted, PutsFront, before_the_edits, after_the_edits}
use Rattle.rm_commit.specs.declared.commit.Commit.{Commit}

pub on-err : {T E : Type 0} (P : Type 0) (r : Result T E) → P → OnErr r P
on-err P (Ok x) p = tt
on-err P (Err e) p = p

-- a put failed, or the edits did: the records are as they were
pub halts-before : (c : Commit) (h h' : Option Held) (k k' : Option (List Record)) → Both (SameBeyondPuts c.objects) h h' → Both (PutsFront c.objects) h h' → k' ≡ k → Halted c h k h' k'
halts-before c h h' k k' others front same = before_the_edits (record { objects = others; front = front; records = same })

module _ (c : Commit) (h m h' : Option Held) (k k' : Option (List Record)) where
  -- a remove failed: the edits were made
  pub halts-after : Both (HasPuts c.objects) h m → k' ≡ option_map (after_edits c.edits) k → Both (SameBeyondRemoves c.removes) m h' → Halted c h k h' k'
  halts-after puts es others = after_the_edits (record {
    objects = both-then (HasPuts c.objects) (SameBeyondRemoves c.removes) (ArePut c) (λ x y z put left. record { put = y; puts = put; removes = left }) h m h' puts others;
    records = es;
  })

  -- all was done
  pub carries : Both (HasPuts c.objects) h m → k' ≡ option_map (after_edits c.edits) k → Both (HasRemoves c.removes) m h' → Carried c h k h' k'
  carries puts es gone = record {
    objects = both-then (HasPuts c.objects) (HasRemoves c.removes) (AreMoved c) (λ x y z put left. record { put = y; puts = put; removes = left }) h m h' puts gone;
    records = es;
  }
