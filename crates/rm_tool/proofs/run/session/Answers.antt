use Rattle.std.proofs.Common.{◌∙◌, ◌∷◌, [], Err, ap, arith, refl}
use Rattle.rm_lang_token.{specs.Statements.{statements}, proofs.Reading.{feeds_within}}
use Rattle.rm_tool_opening.proofs.Source.{told-err}
use Rattle.rm_tool.specs.{Run.{watch}, Session.{before_statements}}
use Rattle.rm_tool.proofs.Calls.{finishes, has-script, in-session}
use Rattle.rm_tool.proofs.Leaving.{at-opening, at-script, at-words, err-is, falls-then, never-long-opening, never-long-session, never-long-words, opened-falls, rose-at-opening, rose-at-words, rose-in-session, rose-then, script-falls, status-err, words-falls, words-status}
use Rattle.rm_tool.specs.declared.early.Early.TheVariants as early
use Rattle.rm_tool.proofs.run.session.Goals as goal

pub statements-requires : goal.statements-requires
statements-requires g c =
    let lines = feeds_within c.in_ok-script.script.items in
    rw c.deref.ensures.value (omega (arith, lines, c.in_ok-script.ensures.within))

-- The words were not accepted

pub returns-in_err-asked-clause-left : goal.returns-in_err-asked-clause-left
returns-in_err-asked-clause-left g c =
    let left = g.S.Source.left c.args.source.now in
    let clock = watch (g.T.Clock.answers c.args.clock.now) (g.T.Clock.asked c.args.clock.now) in
    let before = g.K.Sink.contents c.args.sink.now in
    let held = g.D.Store.held c.args.store.now in
    let kept = g.C.Keeper.kept c.args.keeper.now in
    told-err _ _ _ c.from_residual.ensures.1
    (at-words c.args.words.now left left clock before (g.K.Sink.contents c.asked_in.new.sink) held kept _ (refl, (refl, refl)) c.in_err-asked.ensures.ended)

pub returns-in_err-asked-clause-rose : goal.returns-in_err-asked-clause-rose
returns-in_err-asked-clause-rose g c =
    told-err _ _ _ c.from_residual.ensures.1 (rose-at-words c.args.words.now (g.K.Sink.contents c.args.sink.now) (g.K.Sink.contents c.asked_in.new.sink) _ _ _ c.in_err-asked.ensures.ended c.in_err-asked.ensures.rose)

pub returns-in_err-asked-clause-words_only : goal.returns-in_err-asked-clause-words_only
returns-in_err-asked-clause-words_only g c refused =
    status-err (2 ∷ 4 ∷ 7 ∷ []) _ _ c.from_residual.ensures.1 (words-status c.args.words.now (g.K.Sink.contents c.args.sink.now) (g.K.Sink.contents c.asked_in.new.sink) _ c.in_err-asked.ensures.ended)

pub returns-in_err-asked-clause-long : goal.returns-in_err-asked-clause-long
returns-in_err-asked-clause-long g c long counted =
    absurd (never-long-words c.args.words.now (g.K.Sink.contents c.args.sink.now) (g.K.Sink.contents c.asked_in.new.sink) _ c.in_err-asked.ensures.ended (err-is _ _ early.TooLong c.from_residual.ensures.1 long))

pub returns-in_err-asked-clause-long_only : goal.returns-in_err-asked-clause-long_only
returns-in_err-asked-clause-long_only g c counted many = absurd (omega (arith, many))

-- No script was taken

pub returns-in_err-script-clause-left : goal.returns-in_err-script-clause-left
returns-in_err-script-clause-left g c =
    let left = g.S.Source.left c.args.source.now in
    let clock = watch (g.T.Clock.answers c.args.clock.now) (g.T.Clock.asked c.args.clock.now) in
    let before = g.K.Sink.contents c.args.sink.now in
    let held = g.D.Store.held c.args.store.now in
    let kept = g.C.Keeper.kept c.args.keeper.now in
    told-err _ _ _ c.from_residual-in_err-script.ensures.1
    (at-script c.args.words.now left (g.S.Source.left c.script_of.new.source) clock before (g.K.Sink.contents c.script_of.new.sink) held kept _ (refl, (refl, refl)) c.in_ok-asked.ensures.ok c.in_err-script.ensures.ended)

pub returns-in_err-script-clause-rose : goal.returns-in_err-script-clause-rose
returns-in_err-script-clause-rose g c =
    told-err _ _ _ c.from_residual-in_err-script.ensures.1 (rose-then _ _ _ _ (words-falls c.asked_in.ensures.never_falls) (c.in_err-script.ensures.rose _ _))

pub returns-in_err-script-clause-long : goal.returns-in_err-script-clause-long
returns-in_err-script-clause-long g c long counted =
    c.script_of.ensures.long (c.in_err-script.was ∙ ap Err (err-is _ _ early.TooLong c.from_residual-in_err-script.ensures.1 long)) counted

pub returns-in_err-script-clause-long_only : goal.returns-in_err-script-clause-long_only
returns-in_err-script-clause-long_only g c counted many = status-err (8 ∷ 4 ∷ 7 ∷ []) _ _ c.from_residual-in_err-script.ensures.1 (c.in_err-script.ensures.long_only counted many)

-- Memory was wanting for the statements

pub returns-in_err-found-clause-left : goal.returns-in_err-found-clause-left
returns-in_err-found-clause-left g c =
    told-err _ _ _ c.from_residual-in_err-found.ensures.1 (before_statements (c.in_ok-script.ensures.ok ∙ c.in_ok-asked.ensures.ok) (refl, (refl, refl)))

pub returns-in_err-found-clause-rose : goal.returns-in_err-found-clause-rose
returns-in_err-found-clause-rose g c = told-err _ _ _ c.from_residual-in_err-found.ensures.1 tt

pub returns-in_err-found-clause-long : goal.returns-in_err-found-clause-long
returns-in_err-found-clause-long g c long counted =
    let same = err-is _ early.NoMemory early.TooLong c.from_residual-in_err-found.ensures.1 long in
    absurd (cc)

-- The site could not be opened

pub returns-in_err-site-clause-left : goal.returns-in_err-site-clause-left
returns-in_err-site-clause-left g c =
    let silent = c.in_ok-script.ensures.ok ∙ c.in_ok-asked.ensures.ok in
    let has = has-script _ _ c.in_ok-asked.ensures.drill c.in_ok-script.script.items c.in_ok-script.ensures.script in
    let left = g.S.Source.left c.args.source.now in
    let clock = watch (g.T.Clock.answers c.args.clock.now) (g.T.Clock.asked c.args.clock.now) in
    let before = g.K.Sink.contents c.args.sink.now in
    let held = g.D.Store.held c.args.store.now in
    let kept = g.C.Keeper.kept c.args.keeper.now in
    let was = c.open_site.ensures in
    told-err _ _ _ c.from_residual-in_err-site.ensures.1
    (at-opening c.args.words.now left (g.S.Source.left c.script_of.new.source) clock before (g.K.Sink.contents c.open_site.new.sink) held kept _ has (refl, (was.held, was.kept)) silent c.in_err-site.ensures.written)

pub returns-in_err-site-clause-rose : goal.returns-in_err-site-clause-rose
returns-in_err-site-clause-rose g c =
    told-err _ _ _ c.from_residual-in_err-site.ensures.1
    (rose-then _ _ _ _ (falls-then _ _ _ (words-falls c.asked_in.ensures.never_falls) (script-falls c.script_of.ensures.none_falls)) (rose-at-opening _ _ _ c.in_err-site.ensures.rose))

pub returns-in_err-site-clause-long : goal.returns-in_err-site-clause-long
returns-in_err-site-clause-long g c long counted = absurd (never-long-opening _ (err-is _ _ early.TooLong c.from_residual-in_err-site.ensures.1 long))

-- The session

pub returns-in_err-refused-clause-left : goal.returns-in_err-refused-clause-left
returns-in_err-refused-clause-left g c =
    let was = c.open_site.ensures in
    let is = c.in_ok-site.ensures in
    let silent = is.ok ∙ c.in_ok-script.ensures.ok ∙ c.in_ok-asked.ensures.ok in
    let cut = c.as_slice.ensures ∙ c.in_ok-found.ensures ∙ ap statements c.deref.ensures.value in
    let so = c.serve_session.ensures in
    told-err _ _ _ c.from_residual-in_err-refused.ensures.1
    (in-session c.args.words.now _ _ _ c.in_ok-asked.ensures.drill _ _ c.in_ok-script.ensures.script cut silent was.held was.kept is.opened is.shows is.valid _ _ _ _ _ _ c.in_err-refused.was so.sink so.store so.keeper so.memory)

pub returns-in_err-refused-clause-rose : goal.returns-in_err-refused-clause-rose
returns-in_err-refused-clause-rose g c =
    let so = c.serve_session.ensures in
    told-err _ _ _ c.from_residual-in_err-refused.ensures.1
    (rose-then _ _ _ _
    (falls-then _ _ _ (falls-then _ _ _ (words-falls c.asked_in.ensures.never_falls) (script-falls c.script_of.ensures.none_falls)) (opened-falls c.open_site.ensures.none_falls))
    (rose-in-session _ _ _ c.in_err-refused.was so.sink_failed so.store_failed so.keeper_failed))

pub returns-in_err-refused-clause-long : goal.returns-in_err-refused-clause-long
returns-in_err-refused-clause-long g c long counted = absurd (never-long-session _ (err-is _ _ early.TooLong c.from_residual-in_err-refused.ensures.1 long))

pub returns-clause-finishes : goal.returns-clause-finishes
returns-clause-finishes g c =
    let was = c.open_site.ensures in
    let is = c.in_ok-site.ensures in
    let silent = is.ok ∙ c.in_ok-script.ensures.ok ∙ c.in_ok-asked.ensures.ok in
    let cut = c.as_slice.ensures ∙ c.in_ok-found.ensures ∙ ap statements c.deref.ensures.value in
    finishes _ c.in_ok-asked.ensures.drill _ _ c.in_ok-script.ensures.script cut silent was.held was.kept is.opened is.shows c.in_ok-refused.refused _ refl c.in_ok-refused.ensures.ok
