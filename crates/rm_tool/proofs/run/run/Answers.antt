use Rattle.std.proofs.Common.{◌∷◌, [], Contains, refl, subst, sym}
use Rattle.rm_tool.specs.{Early.{RoseFor}, Run.{watch}, Session.{Finishes}}
use Rattle.rm_tool.proofs.Statuses.{done-at, done-on, ended-at, has-status, long-at, none-ran-at, of-bad, of-none}
use Rattle.rm_tool.specs.declared.early.Early.TheVariants as early
use Rattle.rm_tool.proofs.run.run.Goals as goal

-- 0 and 1

pub returns-clause-done : goal.returns-clause-done
returns-clause-done g c is = done-at (Finishes _ _ _ _ _ _ _ _ _ _ _) c.session.result c.status_of.result c.status_of.ensures is c.session.ensures.finishes

pub returns-clause-ended : goal.returns-clause-ended
returns-clause-ended g c is = done-on _ c.session.result c.status_of.result c.status_of.ensures is c.session.ensures.ended

pub returns-clause-read : goal.returns-clause-read
returns-clause-read g c is = let f = done-at (Finishes _ _ _ _ _ _ _ _ _ _ _) c.session.result c.status_of.result c.status_of.ensures is c.session.ensures.finishes in (f.serves.script, f.serves.read)

pub returns-clause-done_from : goal.returns-clause-done_from
returns-clause-done_from g c is = done-on _ c.session.result c.status_of.result c.status_of.ensures is c.session.ensures.valid

-- 2

pub returns-clause-words : goal.returns-clause-words
returns-clause-words g c status = let left = ended-at _ c.session.result c.status_of.result 2 early.Words c.status_of.ensures refl status c.session.ensures.left in left.0

pub returns-clause-words_line : goal.returns-clause-words_line
returns-clause-words_line g c status = let left = ended-at _ c.session.result c.status_of.result 2 early.Words c.status_of.ensures refl status c.session.ensures.left in left.1

pub returns-clause-words_only : goal.returns-clause-words_only
returns-clause-words_only g c refused = subst (Contains (2 ∷ 4 ∷ 7 ∷ [])) (sym c.status_of.ensures) (c.session.ensures.words_only refused)

-- 3 and 4

pub returns-clause-source : goal.returns-clause-source
returns-clause-source g c status = ended-at (RoseFor _ _) c.session.result c.status_of.result 3 early.Source c.status_of.ensures refl status c.session.ensures.rose

pub returns-clause-source_written : goal.returns-clause-source_written
returns-clause-source_written g c status = let left = ended-at _ c.session.result c.status_of.result 3 early.Source c.status_of.ensures refl status c.session.ensures.left in left.0

pub returns-clause-sink : goal.returns-clause-sink
returns-clause-sink g c status = ended-at (RoseFor _ _) c.session.result c.status_of.result 4 early.Sink c.status_of.ensures refl status c.session.ensures.rose

pub returns-clause-sink_written : goal.returns-clause-sink_written
returns-clause-sink_written g c status = ended-at _ c.session.result c.status_of.result 4 early.Sink c.status_of.ensures refl status c.session.ensures.left

-- 5 to 7

pub returns-clause-store : goal.returns-clause-store
returns-clause-store g c status = ended-at (RoseFor _ _) c.session.result c.status_of.result 5 early.Store c.status_of.ensures refl status c.session.ensures.rose

pub returns-clause-store_written : goal.returns-clause-store_written
returns-clause-store_written g c status = let left = ended-at _ c.session.result c.status_of.result 5 early.Store c.status_of.ensures refl status c.session.ensures.left in left.1

pub returns-clause-keeper : goal.returns-clause-keeper
returns-clause-keeper g c status = ended-at (RoseFor _ _) c.session.result c.status_of.result 6 early.Keeper c.status_of.ensures refl status c.session.ensures.rose

pub returns-clause-keeper_written : goal.returns-clause-keeper_written
returns-clause-keeper_written g c status = ended-at _ c.session.result c.status_of.result 6 early.Keeper c.status_of.ensures refl status c.session.ensures.left

pub returns-clause-memory_written : goal.returns-clause-memory_written
returns-clause-memory_written g c status = ended-at _ c.session.result c.status_of.result 7 early.NoMemory c.status_of.ensures refl status c.session.ensures.left

-- 8

pub returns-clause-long : goal.returns-clause-long
returns-clause-long g c status counted = c.session.ensures.long (long-at c.session.result c.status_of.result c.status_of.ensures status) counted

pub returns-clause-long_left : goal.returns-clause-long_left
returns-clause-long_left g c status = let left = ended-at _ c.session.result c.status_of.result 8 early.TooLong c.status_of.ensures refl status c.session.ensures.left in left.0

pub returns-clause-long_line : goal.returns-clause-long_line
returns-clause-long_line g c status = let left = ended-at _ c.session.result c.status_of.result 8 early.TooLong c.status_of.ensures refl status c.session.ensures.left in left.1

pub returns-clause-long_only : goal.returns-clause-long_only
returns-clause-long_only g c counted many = subst (Contains (8 ∷ 4 ∷ 7 ∷ [])) (sym c.status_of.ensures) (c.session.ensures.long_only counted many)

-- 9

pub returns-clause-bad : goal.returns-clause-bad
returns-clause-bad g c status = let left = ended-at _ c.session.result c.status_of.result 9 early.BadRecord c.status_of.ensures refl status c.session.ensures.left in left.1

pub returns-clause-bad_read : goal.returns-clause-bad_read
returns-clause-bad_read g c status = let left = ended-at _ c.session.result c.status_of.result 9 early.BadRecord c.status_of.ensures refl status c.session.ensures.left in left.0

pub returns-clause-bad_only : goal.returns-clause-bad_only
returns-clause-bad_only g c rs accepted counted few is bad =
    let left = g.S.Source.left c.args.source.now in
    let rest = g.S.Source.left c.session.new.source in
    let clock = watch (g.T.Clock.answers c.args.clock.now) (g.T.Clock.asked c.args.clock.now) in
    let later = watch (g.T.Clock.answers c.session.new.clock) (g.T.Clock.asked c.session.new.clock) in
    let before = g.K.Sink.contents c.args.sink.now in
    let now = g.K.Sink.contents c.session.new.sink in
    let held = g.D.Store.held c.args.store.now in
    let kept = g.C.Keeper.kept c.args.keeper.now in
    let held' = g.D.Store.held c.session.new.store in
    let kept' = g.C.Keeper.kept c.session.new.keeper in
    subst (Contains (9 ∷ 4 ∷ 3 ∷ 6 ∷ 7 ∷ [])) (sym c.status_of.ensures)
    (of-bad c.args.words.now left rest clock later before now held kept held' kept' rs is accepted c.session.result c.session.ensures.valid c.session.ensures.left (λ long. few (c.session.ensures.long long counted)) bad)

-- all

pub returns-clause-same : goal.returns-clause-same
returns-clause-same g c early =
    let left = g.S.Source.left c.args.source.now in
    let rest = g.S.Source.left c.session.new.source in
    let clock = watch (g.T.Clock.answers c.args.clock.now) (g.T.Clock.asked c.args.clock.now) in
    let later = watch (g.T.Clock.answers c.session.new.clock) (g.T.Clock.asked c.session.new.clock) in
    let before = g.K.Sink.contents c.args.sink.now in
    let now = g.K.Sink.contents c.session.new.sink in
    let held = g.D.Store.held c.args.store.now in
    let kept = g.C.Keeper.kept c.args.keeper.now in
    let held' = g.D.Store.held c.session.new.store in
    let kept' = g.C.Keeper.kept c.session.new.keeper in
    none-ran-at c.args.words.now left rest clock later before now held kept held' kept' c.session.result c.status_of.result c.status_of.ensures early c.session.ensures.left

pub returns-clause-statuses : goal.returns-clause-statuses
returns-clause-statuses g c = subst (Contains (0 ∷ 1 ∷ 2 ∷ 3 ∷ 4 ∷ 5 ∷ 6 ∷ 7 ∷ 8 ∷ 9 ∷ [])) (sym c.status_of.ensures) (has-status c.session.result)

pub returns-clause-complete : goal.returns-clause-complete
returns-clause-complete g c accepted counted few rs is valid source sink store keeper =
    let left = g.S.Source.left c.args.source.now in
    let rest = g.S.Source.left c.session.new.source in
    let clock = watch (g.T.Clock.answers c.args.clock.now) (g.T.Clock.asked c.args.clock.now) in
    let later = watch (g.T.Clock.answers c.session.new.clock) (g.T.Clock.asked c.session.new.clock) in
    let before = g.K.Sink.contents c.args.sink.now in
    let now = g.K.Sink.contents c.session.new.sink in
    let held = g.D.Store.held c.args.store.now in
    let kept = g.C.Keeper.kept c.args.keeper.now in
    let held' = g.D.Store.held c.session.new.store in
    let kept' = g.C.Keeper.kept c.session.new.keeper in
    subst (Contains (0 ∷ 1 ∷ 7 ∷ [])) (sym c.status_of.ensures)
    (of-none c.args.words.now left rest clock later before now held kept held' kept' rs is accepted c.session.result _ _ c.session.ensures.left c.session.ensures.rose (λ long. few (c.session.ensures.long long counted)) valid source sink store keeper)
