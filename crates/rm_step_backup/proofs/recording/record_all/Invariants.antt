use Rattle.std.specs.Vec.Iter.{into_iter_items}
use Rattle.rm_channel.specs.Jobs.{lists}
use Rattle.rm_machine.specs.{MadeObjects.{packed}, State.{ledger}}
use Rattle.rm_step_backup.proofs.NextMade.{AreLeft}
use Rattle.rm_step_backup.proofs.recording.record_all.Given as goal

abbrev pub invariant-loop-made : goal.invariant-loop-made
invariant-loop-made g l =
    AreLeft l.fn.state l.form l.tag (packed (ledger l.fn.state) l.form l.checkpoint l.jobs (lists l.fn.rows.items)) l.fn.edits.items l.fn.handed l.edits.items l.handed l.state (into_iter_items l.made-iterator)
