use Rattle.std.proofs.Common.{◌∙◌, ◌∷◌, [], Contains, ap, lit<, refl, sym, subst}
use Rattle.rm_lang_words.specs.{Duplicate.{DuplicateSaid, duplicate_said}, Reading.{duplicate_of as said_of}}
use Rattle.rm_shelf.specs.Shelved.{OthersStay, under}
use Rattle.rm_tool_duplicate.{specs.Asked.{sides}, proofs.Statuses.{leaves-at, of-bad, of-none, one-said}}
use Rattle.rm_tool_duplicate.proofs.run.run_duplicate.Goals as goal
use Rattle.rm_tool_ends.{specs.Ended.{Counts}, proofs.Statuses.{has-status, words-status}}
use Rattle.rm_tool_ends.specs.declared.ended.Ended.TheVariants as ended

pub returns-in-Err-Bad-clause-statuses : goal.returns-in-Err-Bad-clause-statuses
returns-in-Err-Bad-clause-statuses g c = words-status c.refuse_words.result c.refuse_words.ensures.statuses

pub returns-in-Err-NoMemory-clause-bad_only : goal.returns-in-Err-NoMemory-clause-bad_only
returns-in-Err-NoMemory-clause-bad_only g c x is rs kept bad = (3, lit< tt, refl)

pub returns-in-Err-NoMemory-clause-statuses : goal.returns-in-Err-NoMemory-clause-statuses
returns-in-Err-NoMemory-clause-statuses g c = (6, lit< tt, refl)

pub returns-in-Err-NoMemory-clause-complete : goal.returns-in-Err-NoMemory-clause-complete
returns-in-Err-NoMemory-clause-complete g c x is rs kept valid sink from to shelf = (2, lit< tt, refl)

pub returns-clause-refused : goal.returns-clause-refused
returns-clause-refused g c x is status =
    (leaves-at (said_of c.in-Ok.said) x (one-said _ _ x c.in-Ok.ensures.said is) _ _ _ _ _ _ _ _ c.served-ended.result.0 c.served-ended.ensures.ended c.status_of.result c.status_of.ensures 1 ended.Refused refl status).1

pub returns-clause-sink_written : goal.returns-clause-sink_written
returns-clause-sink_written g c x is status =
    leaves-at (said_of c.in-Ok.said) x (one-said _ _ x c.in-Ok.ensures.said is) _ _ _ _ _ _ _ _ c.served-ended.result.0 c.served-ended.ensures.ended c.status_of.result c.status_of.ensures 4 ended.Sink refl status

pub returns-clause-store_left : goal.returns-clause-store_left
returns-clause-store_left g c x is status =
    (leaves-at (said_of c.in-Ok.said) x (one-said _ _ x c.in-Ok.ensures.said is) _ _ _ _ _ _ _ _ c.served-ended.result.0 c.served-ended.ensures.ended c.status_of.result c.status_of.ensures 5 ended.Store refl status).1

pub returns-clause-shelf_left : goal.returns-clause-shelf_left
returns-clause-shelf_left g c x is status =
    leaves-at (said_of c.in-Ok.said) x (one-said _ _ x c.in-Ok.ensures.said is) _ _ _ _ _ _ _ _ c.served-ended.result.0 c.served-ended.ensures.ended c.status_of.result c.status_of.ensures 6 ended.Keeper refl status

pub returns-clause-memory_left : goal.returns-clause-memory_left
returns-clause-memory_left g c x is status =
    leaves-at (said_of c.in-Ok.said) x (one-said _ _ x c.in-Ok.ensures.said is) _ _ _ _ _ _ _ _ c.served-ended.result.0 c.served-ended.ensures.ended c.status_of.result c.status_of.ensures 7 ended.NoMemory refl status

pub returns-clause-bad : goal.returns-clause-bad
returns-clause-bad g c x is status =
    (leaves-at (said_of c.in-Ok.said) x (one-said _ _ x c.in-Ok.ensures.said is) _ _ _ _ _ _ _ _ c.served-ended.result.0 c.served-ended.ensures.ended c.status_of.result c.status_of.ensures 9 ended.BadRecord refl status).1

pub returns-clause-bad_only : goal.returns-clause-bad_only
returns-clause-bad_only g c x is rs kept bad =
    let from = g.D.Store.held in
    let to = g.E.Store.held in
    let shelved = g.H.Shelf.shelved in
    let told = g.K.Sink.contents in
    let was = c.served-ended in
    let y = said_of c.in-Ok.said in
    let same = one-said (duplicate_said c.args.words.now) y x c.in-Ok.ensures.said is in
    let here = ap (λ (z : DuplicateSaid). under z.from (shelved c.args.shelf)) same ∙ kept in
    subst (Contains (9 ∷ 4 ∷ 6 ∷ 7 ∷ [])) (sym c.status_of.ensures)
    (of-bad y (sides y (from c.args.from.now) (to c.args.to.now) (shelved c.args.shelf)) (sides y (from was.new.from) (to was.new.to) (shelved was.result.1)) (told c.args.sink.now) (told was.new.sink) rs here was.result.0 was.ensures.finishes was.ensures.ended bad)

pub returns-clause-others : goal.returns-clause-others
returns-clause-others g c x is =
    let shelved = g.H.Shelf.shelved in
    let was = c.served-ended in
    let same = one-said (duplicate_said c.args.words.now) (said_of c.in-Ok.said) x c.in-Ok.ensures.said is in
    subst (λ (z : DuplicateSaid). OthersStay z.number (shelved c.args.shelf) (shelved was.result.1)) same was.ensures.others

pub returns-clause-statuses : goal.returns-clause-statuses
returns-clause-statuses g c = subst (Contains (0 ∷ 1 ∷ 2 ∷ 4 ∷ 5 ∷ 6 ∷ 7 ∷ 9 ∷ [])) (sym c.status_of.ensures) (has-status c.served-ended.result.0)

pub returns-clause-complete : goal.returns-clause-complete
returns-clause-complete g c x is rs kept valid no_sink no_from no_to no_shelf =
    let from = g.D.Store.held in
    let to = g.E.Store.held in
    let shelved = g.H.Shelf.shelved in
    let told = g.K.Sink.contents in
    let was = c.served-ended in
    let y = said_of c.in-Ok.said in
    let same = one-said (duplicate_said c.args.words.now) y x c.in-Ok.ensures.said is in
    let here = ap (λ (z : DuplicateSaid). under z.from (shelved c.args.shelf)) same ∙ kept in
    let before : Counts = record { sink = g.K.Sink.faults c.args.sink.now; from = g.D.Store.faults c.args.from.now; to = g.E.Store.faults c.args.to.now; records = g.H.Shelf.faults c.args.shelf } in
    let now : Counts = record { sink = g.K.Sink.faults was.new.sink; from = g.D.Store.faults was.new.from; to = g.E.Store.faults was.new.to; records = g.H.Shelf.faults was.result.1 } in
    subst (Contains (0 ∷ 1 ∷ 7 ∷ [])) (sym c.status_of.ensures)
    (of-none y (sides y (from c.args.from.now) (to c.args.to.now) (shelved c.args.shelf)) (sides y (from was.new.from) (to was.new.to) (shelved was.result.1)) (told c.args.sink.now) (told was.new.sink) rs here was.result.0 before now was.ensures.ended was.ensures.rose valid no_sink no_from no_to no_shelf)
