use Rattle.std.{specs.Vec.Iter.{into_iter_items}, proofs.{Common.{◌∙◌, arith, rules}, lemmas.List.{nil_from_length}}}
use Rattle.rm_channel.specs.Jobs.{lists}
use Rattle.rm_machine.specs.{MadeObjects.{packed}, State.{ledger}}
use Rattle.rm_step_backup.proofs.{FilesRead.{all-made, reads-can}, NextMade.{left-end, left-fits, left-on, left-start}}
use Rattle.rm_step_backup.proofs.recording.record_all.Goals as goal

pub make_all-requires : goal.make_all-requires
make_all-requires g c =
    (search rules, reads-can c.args.state.now c.args.form.now c.args.tag.now c.args.checkpoint c.args.jobs.now (lists c.args.rows.items) c.in_ok-reads.reads.items c.in_ok-reads.ensures c.requires.can)

pub loop-made-init : goal.loop-made-init
loop-made-init g c =
    let s = c.args.state.now in
    let b = c.args.form.now in
    let rows = lists c.args.rows.items in
    let all = into_iter_items c.into_iter-made-iterator.result in
    left-start s b c.args.tag.now (packed (ledger s) b c.args.checkpoint c.args.jobs.now rows) c.args.edits.now.items c.args.handed.now all
    (all-made s b c.args.tag.now c.args.checkpoint c.args.jobs.now rows c.in_ok-reads.reads.items c.in_ok-reads.ensures all (c.into_iter-made-iterator.ensures.into_iter_gives.0 ∙ c.in_ok-all.ensures))
    c.requires.sound c.requires.can

pub record_made-requires : goal.record_made-requires
record_made-requires g c =
    let s = c.args.state.now in
    let at = c.loop-made in
    record {
      fits = left-fits s c.args.form.now c.args.tag.now (packed (ledger s) c.args.form.now c.args.checkpoint c.args.jobs.now (lists c.args.rows.items)) c.args.edits.now.items c.args.handed.now
          at.state at.edits.items at.handed c.in-Some.made (into_iter_items c.next.new.self) (into_iter_items at.made-iterator) c.in-Some.ensures.steps.0 at.invariant;
    }

pub loop-made-preserved : goal.loop-made-preserved
loop-made-preserved g c =
    let s = c.args.state.now in
    let at = c.loop-made in
    let new = c.record_made.new in
    let done = c.in_ok-record_made.ensures in
    left-on s c.args.form.now c.args.tag.now (packed (ledger s) c.args.form.now c.args.checkpoint c.args.jobs.now (lists c.args.rows.items)) c.args.edits.now.items c.args.handed.now
    at.state at.edits.items at.handed new.state new.edits.items new.handed c.in-Some.made (into_iter_items c.next.new.self) (into_iter_items at.made-iterator) c.in-Some.ensures.steps.0 at.invariant
    done.after done.edits done.lines done.objects done.removes

pub returns : goal.returns
returns g c =
    let s = c.args.state.now in
    let at = c.loop-made in
    let none = c.in-None.ensures.steps.0 in
    let few = at.made-iterator.rest.ok.0 in
    left-end s c.args.form.now c.args.tag.now (packed (ledger s) c.args.form.now c.args.checkpoint c.args.jobs.now (lists c.args.rows.items)) c.args.edits.now.items c.args.handed.now
    at.state at.edits.items at.handed (into_iter_items at.made-iterator) (nil_from_length (into_iter_items at.made-iterator) (omega (arith, none, few))) at.invariant
