use Rattle.std.proofs.lemmas.Result.{IfOk-weaker}
use Rattle.rm_step_upkeep.proofs.Fits.{log-sound, piece-sound, set-sound}
use Rattle.rm_step_upkeep.proofs.amending.amend.Goals as goal

pub amend_piece-requires : goal.amend_piece-requires
amend_piece-requires c = record { sound = log-sound c.args.state.now c.amend_log.new.state c.args.by c.args.id c.requires.sound c.in_ok-amend_log.ensures.value }

pub amend_set-requires : goal.amend_set-requires
amend_set-requires c =
    let first = log-sound c.args.state.now c.amend_log.new.state c.args.by c.args.id c.requires.sound c.in_ok-amend_log.ensures.value in
    record { sound = piece-sound c.amend_log.new.state c.amend_piece.new.state c.args.by c.args.id first c.in_ok-amend_piece.ensures.value }

pub returns-clause-sound : goal.returns-clause-sound
returns-clause-sound c =
    let first = log-sound c.args.state.now c.amend_log.new.state c.args.by c.args.id c.requires.sound c.in_ok-amend_log.ensures.value in
    let between = piece-sound c.amend_log.new.state c.amend_piece.new.state c.args.by c.args.id first c.in_ok-amend_piece.ensures.value in
    IfOk-weaker c.amend_set.result _ _ (λ x is. set-sound c.amend_piece.new.state c.amend_set.new.state c.args.by c.args.id between is) c.amend_set.ensures.value
