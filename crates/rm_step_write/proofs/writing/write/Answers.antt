use Rattle.std.specs.Prelude.{IfSome}
use Rattle.std.proofs.Common.{◌<◌, ◌-◌, ◌∙◌, List, [], ◌∷◌, Option, None, ap, refl, sym, subst, slice_get, slice_index_or}
use Rattle.rm_base.specs.declared.block.Change.{Change}
use Rattle.rm_blocks.specs.File.{File}
use Rattle.rm_lang_statement.specs.declared.command.Command.TheVariants.{Write}
use Rattle.rm_machine.specs.{Effect.{no_effect}, State.{now_of}, Write.{change_of, with_write}, declared.state.Instance.{Instance}}
use Rattle.rm_machine.{specs.declared.state.State.{State}, proofs.{Handing.{hands-by}, Writes.{write-accepted}}}
use Rattle.rm_report.specs.declared.line.Line.TheVariants.{Written}
use Rattle.rm_step_write.proofs.{Accepted.{can-append, rows-below, write-numbers}, Results.{after-write}}
use Rattle.rm_step_write.proofs.writing.write.Goals as goal

abbrev IsAbove : List (Option File) → Change → Type 0
IsAbove place c = IfSome (slice_index_or place (c.file - 1) None) (λ x. IfSome (slice_get x.rows c.block) (λ r. r.version < c.scn))

pub go_further-requires-clause-below : goal.go_further-requires-clause-below
go_further-requires-clause-below c = (write-accepted c.args.state.now c.args.form.now c.requires.sound c.requires.accepted).on.below

pub append-requires : goal.append-requires
append-requires c =
    let append = can-append c.args.state.now c.go_further.new.state c.args.form.now c.change_of-change.result c.requires.sound c.requires.accepted c.change_of-change.ensures c.in_ok-go_further.ensures.instance in
    record { thread = append.thread; there = append.there; inc = append.inc; first = append.first; last = append.last; above = append.above }

pub put_row-requires-clause-file : goal.put_row-requires-clause-file
put_row-requires-clause-file c =
    subst (λ (x : Change). 0 < x.file) (sym c.change_of-change.ensures) (write-numbers c.args.state.now c.args.form.now c.requires.sound c.requires.accepted).file.0

pub put_row-requires-clause-above : goal.put_row-requires-clause-above
put_row-requires-clause-above c =
    let s : State = c.args.state.now in
    let w = c.args.form.now in
    let a = write-accepted s w c.requires.sound c.requires.accepted in
    let place = c.into_vec-place.ensures ∙ c.replace.ensures.value ∙ ap (λ (x : Instance). x.place) c.in_ok-go_further.ensures.instance in
    subst (IsAbove c.into_vec-place.result.items) (sym c.change_of-change.ensures)
    (subst (λ p. IsAbove p (change_of s w)) (sym place) (rows-below s w.file w.block c.requires.sound a.on.opened))

pub returns-clause-hands : goal.returns-clause-hands
returns-clause-hands c held =
    let s : State = c.args.state.now in
    let w = c.args.form.now in
    let change = c.change_of-change.ensures in
    hands-by held s (Write w) _ _ (Written (now_of s) ∷ []) (record no_effect { changes = change_of s w ∷ [] }) (with_write s w)
    (λ objects tells. refl)
    (c.in_ok-handed.ensures.lines ∙ ap (λ (x : Change). Written x.scn ∷ []) change)
    c.in_ok-handed.ensures.objects
    c.in_ok-handed.ensures.removes
    (after-write s c.go_further.new.state w c.change_of-change.result c.append.new.self c.into_vec-place.result.items c.from_vec.result c.mark.new.self
    change c.in_ok-go_further.ensures.catalog c.in_ok-go_further.ensures.instance c.in-Ok.ensures.ok (c.into_vec-place.ensures ∙ c.replace.ensures.value) (c.from_vec.ensures ∙ c.put_row.ensures) c.mark.ensures)
