use Rattle.std.proofs.Common.{None, Option, Some, inl, inr, ap, refl}
use Rattle.rm_base.specs.Store.{Both, Held}
use Rattle.rm_commit.specs.{Carrying.{ArePut, AreMoved, after_the_edits, before_the_edits}}
use Rattle.rm_dup.specs.declared.database.Duplicate.{Duplicate}
use Rattle.rm_tool_duplicate.specs.{Asked.{Sides}, Duplicated.{commit_of}, Ended.{before_changes, in_bad_record, in_changes, in_lines, in_refusal}}
use Rattle.rm_tool_duplicate.proofs.laws.a_stop_leaves_all_or_none.Goals as goal

-- nothing was to go, so that what was put is what stands
all-put : (d : Duplicate) (before after : Option Held) → Both (ArePut (commit_of d)) before after → Both (AreMoved (commit_of d)) before after
all-put d None after none = none
all-put d (Some held) None none = none
all-put d (Some held) (Some left) are = record { put = are.put; puts = are.puts; removes = λ n. are.removes n refl }

pub returns-clause-stopped : goal.returns-clause-stopped
returns-clause-stopped c x a b before now (before_changes silent same) = inl (ap (λ (s : Sides). s.target) same)
returns-clause-stopped c x a b before now (in_changes d silent makes (before_the_edits halted)) = inl halted.records
returns-clause-stopped c x a b before now (in_changes d silent makes (after_the_edits halted)) =
    inr (d, record { makes = makes; carried = record { objects = all-put d a.to b.to halted.objects; records = halted.records } })

pub returns-clause-untold : goal.returns-clause-untold
returns-clause-untold c x a b before now (in_bad_record same begun) = inl (ap (λ (s : Sides). s.target) same)
returns-clause-untold c x a b before now (in_refusal refusal same refuses front) = inl (ap (λ (s : Sides). s.target) same)
returns-clause-untold c x a b before now (in_lines d is front) = inr (d, is)
