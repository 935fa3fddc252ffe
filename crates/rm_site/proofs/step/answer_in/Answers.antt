use Rattle.std.proofs.Common.{Some, ap, refl, subst, sym}
use Rattle.rm_machine_laws.proofs.Answering.{answered-in, back-again, begins-sound, begun, comes-refused, comes-told, handed-in, is-carried, on-err, is-halted, quiet-refused, quiet-told, refused-in, sound-again, told-in, valid-again}
use Rattle.rm_machine_laws.proofs.{Applying.{ids-before, refused-applies, told-applies}, PlainLines.{done-plain, told-plain}}
use Rattle.rm_site.proofs.{ComesOut.{out-done, out-refused, out-told}, Quiet.{done-more, done-not-quiet}}
use Rattle.rm_site.proofs.step.answer_in.Goals as goal
use Rattle.rm_report.{specs.Reply.{HasDates}, proofs.Plain.{plain-dated, refused-flagged, said-flagged}}

pub come_to-requires-clause-sound : goal.come_to-requires-clause-sound
come_to-requires-clause-sound g c κs within =
    let was = c.in_ok-earlier.ensures in
    let begins = begun c.args.state.now c.args.moment was.after was.moment was.saved in
    begins-sound begins c.requires.sound c.requires.moment

pub revert-requires : goal.revert-requires
revert-requires g c =
    let was = c.in_ok-earlier.ensures in
    let begins = begun c.args.state.now c.args.moment was.after was.moment was.saved in
    let same = quiet-refused begins (g.D.Store.held c.args.store.now) c.args.command.now c.in_ok-refusal.field-0 c.come_to.new.state c.in_ok-refusal.ensures.comes c.in-Refused.refusal c.in-Refused.is in
    valid-again begins c.come_to.new.state same c.requires.sound

pub returns-in_ok-refusal_reply-in-Refused-clause-sound : goal.returns-in_ok-refusal_reply-in-Refused-clause-sound
returns-in_ok-refusal_reply-in-Refused-clause-sound g c =
    let was = c.in_ok-earlier.ensures in
    let begins = begun c.args.state.now c.args.moment was.after was.moment was.saved in
    let same = quiet-refused begins (g.D.Store.held c.args.store.now) c.args.command.now c.in_ok-refusal.field-0 c.come_to.new.state c.in_ok-refusal.ensures.comes c.in-Refused.refusal c.in-Refused.is in
    sound-again begins c.come_to.new.state c.revert.new.self same c.revert.ensures c.requires.sound

pub returns-in_ok-refusal_reply-in-Refused-clause-step : goal.returns-in_ok-refusal_reply-in-Refused-clause-step
returns-in_ok-refusal_reply-in-Refused-clause-step g c =
    let was = c.in_ok-earlier.ensures in
    let begins = begun c.args.state.now c.args.moment was.after was.moment was.saved in
    refused-in begins (g.D.Store.held c.args.store.now) c.args.command.now c.in_ok-refusal.field-0 c.come_to.new.state c.in_ok-refusal.ensures.comes (g.C.Keeper.kept c.args.keeper.now)
    c.in-Refused.refusal c.revert.new.self _ _ c.in-Refused.is c.revert.ensures c.in_ok-refusal.ensures.held c.in_ok-refusal_reply-in-Refused.ensures

pub returns-in_ok-refusal_reply-in-Refused-clause-answered : goal.returns-in_ok-refusal_reply-in-Refused-clause-answered
returns-in_ok-refusal_reply-in-Refused-clause-answered g c =
    let was = c.in_ok-earlier.ensures in
    let begins = begun c.args.state.now c.args.moment was.after was.moment was.saved in
    answered-in begins (g.D.Store.held c.args.store.now) c.args.command.now c.in_ok-refusal.field-0 c.come_to.new.state c.in_ok-refusal.ensures.comes
    c.in-Refused.refusal c.revert.new.self _ c.in-Refused.is c.revert.ensures c.in_ok-refusal.ensures.refused c.in_ok-refusal_reply-in-Refused.ensures

pub returns-in-Told-clause-sound : goal.returns-in-Told-clause-sound
returns-in-Told-clause-sound g c =
    let was = c.in_ok-earlier.ensures in
    let begins = begun c.args.state.now c.args.moment was.after was.moment was.saved in
    let same = quiet-told begins (g.D.Store.held c.args.store.now) c.args.command.now c.in_ok-refusal.field-0 c.come_to.new.state c.in_ok-refusal.ensures.comes c.in-Told.lines c.in-Told.is in
    sound-again begins c.come_to.new.state c.revert-in-Told.new.self same c.revert-in-Told.ensures c.requires.sound

pub returns-in-Told-clause-step : goal.returns-in-Told-clause-step
returns-in-Told-clause-step g c =
    let was = c.in_ok-earlier.ensures in
    let begins = begun c.args.state.now c.args.moment was.after was.moment was.saved in
    told-in begins (g.D.Store.held c.args.store.now) c.args.command.now c.in_ok-refusal.field-0 c.come_to.new.state c.in_ok-refusal.ensures.comes (g.C.Keeper.kept c.args.keeper.now)
    c.in-Told.lines c.revert-in-Told.new.self _ _ c.in-Told.is c.revert-in-Told.ensures c.in_ok-refusal.ensures.held c.reply_of.ensures c.requires.command c.requires.moment

pub returns-in_ok-carry_out-in-Done-clause-step : goal.returns-in_ok-carry_out-in-Done-clause-step
returns-in_ok-carry_out-in-Done-clause-step g c =
    let was = c.in_ok-earlier.ensures in
    let begins = begun c.args.state.now c.args.moment was.after was.moment was.saved in
    let handed = handed-in begins (g.D.Store.held c.args.store.now) c.args.command.now c.in_ok-refusal.field-0 c.come_to.new.state c.in_ok-refusal.ensures.comes
    c.in-Done.handed _ _ _ _ _ c.in-Done.is c.new-edits.ensures.items was.edits c.in_ok-refusal.ensures.edits c.from_vec.ensures c.in_ok-and_saved-in-Done.ensures in
    is-carried (g.D.Store.held c.args.store.now) _ c.args.command.now c.args.moment _ _ c.in-Done.handed.lines _ c.come_to.new.state _ _ _
    c.in_ok-refusal.ensures.held c.reply_of-in-Done.ensures c.requires.command c.requires.moment handed c.in_ok-carry_out-in-Done.ensures.carried

pub returns-in_err-carry_out-in-Done-clause-stopped : goal.returns-in_err-carry_out-in-Done-clause-stopped
returns-in_err-carry_out-in-Done-clause-stopped g c =
    let was = c.in_ok-earlier.ensures in
    let begins = begun c.args.state.now c.args.moment was.after was.moment was.saved in
    let handed = handed-in begins (g.D.Store.held c.args.store.now) c.args.command.now c.in_ok-refusal.field-0 c.come_to.new.state c.in_ok-refusal.ensures.comes
    c.in-Done.handed _ _ _ _ _ c.in-Done.is c.new-edits.ensures.items was.edits c.in_ok-refusal.ensures.edits c.from_vec.ensures c.in_ok-and_saved-in-Done.ensures in
    is-halted (g.D.Store.held c.args.store.now) _ c.args.command.now c.args.moment _ _ _ c.in-Done.handed.lines _ c.come_to.new.state _ _
    c.in_ok-refusal.ensures.held c.requires.command c.requires.moment handed c.in_err-carry_out-in-Done.ensures.stopped

pub returns-in_ok-refusal_reply-in-Refused-clause-quiet : goal.returns-in_ok-refusal_reply-in-Refused-clause-quiet
returns-in_ok-refusal_reply-in-Refused-clause-quiet g c = λ quiet.
    let was = c.in_ok-earlier.ensures in
    let begins = begun c.args.state.now c.args.moment was.after was.moment was.saved in
    let same = quiet-refused begins (g.D.Store.held c.args.store.now) c.args.command.now c.in_ok-refusal.field-0 c.come_to.new.state c.in_ok-refusal.ensures.comes c.in-Refused.refusal c.in-Refused.is in
    ((c.in_ok-refusal.ensures.held, refl), ap Some (back-again begins c.come_to.new.state c.revert.new.self same c.revert.ensures))

pub returns-in-Told-clause-quiet : goal.returns-in-Told-clause-quiet
returns-in-Told-clause-quiet g c = λ quiet.
    let was = c.in_ok-earlier.ensures in
    let begins = begun c.args.state.now c.args.moment was.after was.moment was.saved in
    let same = quiet-told begins (g.D.Store.held c.args.store.now) c.args.command.now c.in_ok-refusal.field-0 c.come_to.new.state c.in_ok-refusal.ensures.comes c.in-Told.lines c.in-Told.is in
    ((c.in_ok-refusal.ensures.held, refl), ap Some (back-again begins c.come_to.new.state c.revert-in-Told.new.self same c.revert-in-Told.ensures))

pub returns-in_ok-carry_out-in-Done-clause-quiet : goal.returns-in_ok-carry_out-in-Done-clause-quiet
returns-in_ok-carry_out-in-Done-clause-quiet g c = λ quiet.
    absurd (done-not-quiet c.args.command.now c.in_ok-refusal.field-0 c.in-Done.handed _ c.in-Done.handed.lines c.in-Done.is c.in_ok-refusal.ensures.more c.reply_of-in-Done.ensures quiet)

pub returns-in_ok-refusal_reply-in-Refused-clause-comes : goal.returns-in_ok-refusal_reply-in-Refused-clause-comes
returns-in_ok-refusal_reply-in-Refused-clause-comes g c =
    let was = c.in_ok-earlier.ensures in
    let begins = begun c.args.state.now c.args.moment was.after was.moment was.saved in
    let same = quiet-refused begins (g.D.Store.held c.args.store.now) c.args.command.now c.in_ok-refusal.field-0 c.come_to.new.state c.in_ok-refusal.ensures.comes c.in-Refused.refusal c.in-Refused.is in
    out-refused (g.D.Store.held c.args.store.now) (g.C.Keeper.kept c.args.keeper.now) (Some c.args.state.now) c.args.command.now c.args.moment _ c.in-Refused.refusal _ _ (ap Some (back-again begins c.come_to.new.state c.revert.new.self same c.revert.ensures))
    c.in_ok-refusal.ensures.held c.in_ok-refusal_reply-in-Refused.ensures (comes-refused begins (g.D.Store.held c.args.store.now) c.args.command.now c.in_ok-refusal.field-0 c.come_to.new.state c.in_ok-refusal.ensures.comes c.in-Refused.refusal c.in-Refused.is)
    (λ alone objects. comes-refused begins (Some objects) c.args.command.now c.in_ok-refusal.field-0 c.come_to.new.state (c.in_ok-refusal.ensures.by_state alone (Some objects)) c.in-Refused.refusal c.in-Refused.is objects refl)

pub returns-in-Told-clause-comes : goal.returns-in-Told-clause-comes
returns-in-Told-clause-comes g c =
    let was = c.in_ok-earlier.ensures in
    let begins = begun c.args.state.now c.args.moment was.after was.moment was.saved in
    let same = quiet-told begins (g.D.Store.held c.args.store.now) c.args.command.now c.in_ok-refusal.field-0 c.come_to.new.state c.in_ok-refusal.ensures.comes c.in-Told.lines c.in-Told.is in
    out-told (g.D.Store.held c.args.store.now) (g.C.Keeper.kept c.args.keeper.now) (Some c.args.state.now) c.args.command.now c.args.moment _ c.in-Told.lines _ _ (ap Some (back-again begins c.come_to.new.state c.revert-in-Told.new.self same c.revert-in-Told.ensures))
    c.in_ok-refusal.ensures.held c.reply_of.ensures (comes-told begins (g.D.Store.held c.args.store.now) c.args.command.now c.in_ok-refusal.field-0 c.come_to.new.state c.in_ok-refusal.ensures.comes c.in-Told.lines c.in-Told.is)
    (λ alone objects. comes-told begins (Some objects) c.args.command.now c.in_ok-refusal.field-0 c.come_to.new.state (c.in_ok-refusal.ensures.by_state alone (Some objects)) c.in-Told.lines c.in-Told.is objects refl)

pub returns-in_ok-carry_out-in-Done-clause-comes : goal.returns-in_ok-carry_out-in-Done-clause-comes
returns-in_ok-carry_out-in-Done-clause-comes g c =
    let was = c.in_ok-earlier.ensures in
    let begins = begun c.args.state.now c.args.moment was.after was.moment was.saved in
    let handed = handed-in begins (g.D.Store.held c.args.store.now) c.args.command.now c.in_ok-refusal.field-0 c.come_to.new.state c.in_ok-refusal.ensures.comes
    c.in-Done.handed _ _ _ _ _ c.in-Done.is c.new-edits.ensures.items was.edits c.in_ok-refusal.ensures.edits c.from_vec.ensures c.in_ok-and_saved-in-Done.ensures in
    out-done (g.D.Store.held c.args.store.now) _ (Some c.args.state.now) c.args.command.now c.args.moment _ c.in-Done.handed.lines _ c.come_to.new.state _ _ _
    c.in_ok-refusal.ensures.held c.reply_of-in-Done.ensures handed
    (λ alone objects. handed-in begins (Some objects) c.args.command.now c.in_ok-refusal.field-0 c.come_to.new.state (c.in_ok-refusal.ensures.by_state alone (Some objects))
    c.in-Done.handed _ _ _ _ _ c.in-Done.is c.new-edits.ensures.items was.edits c.in_ok-refusal.ensures.edits c.from_vec.ensures c.in_ok-and_saved-in-Done.ensures)
    c.in_ok-carry_out-in-Done.ensures.carried

pub returns-in_ok-refusal_reply-in-Refused-clause-flagged : goal.returns-in_ok-refusal_reply-in-Refused-clause-flagged
returns-in_ok-refusal_reply-in-Refused-clause-flagged g c = refused-flagged _ c.in-Refused.refusal c.in_ok-refusal_reply-in-Refused.ensures

pub returns-in-Told-clause-dates : goal.returns-in-Told-clause-dates
returns-in-Told-clause-dates g c =
    subst HasDates (sym c.reply_of.ensures) (plain-dated c.in-Told.lines (told-plain c.in_ok-refusal.field-0 c.in-Told.lines c.in-Told.is c.in_ok-refusal.ensures.dates))

pub returns-in-Told-clause-flagged : goal.returns-in-Told-clause-flagged
returns-in-Told-clause-flagged g c = said-flagged _ c.in-Told.lines c.reply_of.ensures (told-plain c.in_ok-refusal.field-0 c.in-Told.lines c.in-Told.is c.in_ok-refusal.ensures.dates)

pub returns-in_ok-carry_out-in-Done-clause-dates : goal.returns-in_ok-carry_out-in-Done-clause-dates
returns-in_ok-carry_out-in-Done-clause-dates g c =
    subst HasDates (sym c.reply_of-in-Done.ensures) (plain-dated c.in-Done.handed.lines (done-plain c.in_ok-refusal.field-0 c.in-Done.handed c.in-Done.is c.in_ok-refusal.ensures.dates))

pub returns-in_ok-carry_out-in-Done-clause-flagged : goal.returns-in_ok-carry_out-in-Done-clause-flagged
returns-in_ok-carry_out-in-Done-clause-flagged g c =
    said-flagged _ c.in-Done.handed.lines c.reply_of-in-Done.ensures (done-plain c.in_ok-refusal.field-0 c.in-Done.handed c.in-Done.is c.in_ok-refusal.ensures.dates)

pub returns-in_err-carry_out-in-Done-clause-untouched : goal.returns-in_err-carry_out-in-Done-clause-untouched
returns-in_err-carry_out-in-Done-clause-untouched g c =
    on-err _ c.from_residual-in_err-carry_out-in-Done.result (λ only. absurd (done-more c.args.command.now c.in_ok-refusal.field-0 c.in-Done.handed c.in-Done.is c.in_ok-refusal.ensures.more only))

pub returns-in_ok-refusal_reply-in-Refused-clause-ids : goal.returns-in_ok-refusal_reply-in-Refused-clause-ids
returns-in_ok-refusal_reply-in-Refused-clause-ids g c = λ applied. absurd (refused-applies c.args.command.now c.in-Refused.refusal _ c.in_ok-refusal_reply-in-Refused.ensures applied)

pub returns-in-Told-clause-ids : goal.returns-in-Told-clause-ids
returns-in-Told-clause-ids g c = λ applied.
    absurd (told-applies c.args.command.now c.in_ok-refusal.field-0 c.in-Told.lines _ c.in-Told.is c.in_ok-refusal.ensures.more c.reply_of.ensures applied)

pub returns-in_ok-carry_out-in-Done-clause-ids : goal.returns-in_ok-carry_out-in-Done-clause-ids
returns-in_ok-carry_out-in-Done-clause-ids g c = λ applied.
    let was = c.in_ok-earlier.ensures in
    let begins = begun c.args.state.now c.args.moment was.after was.moment was.saved in
    ids-before begins c.in_ok-refusal.field-0 c.in-Done.handed c.in-Done.is c.in_ok-refusal.ensures.ids
