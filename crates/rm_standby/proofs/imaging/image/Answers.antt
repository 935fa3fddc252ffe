use Rattle.std.proofs.{Common.{◌∙◌, subst}, lemmas.List.{take_all}}
use Rattle.rm_piece.specs.Sets.{IsSet}
use Rattle.rm_standby.{specs.Standby.{HoldsStates}, proofs.Imaged.{image-holds, image-is, image-valid}}
use Rattle.rm_standby.proofs.imaging.image.Goals as goal

pub returns-clause-valid : goal.returns-clause-valid
returns-clause-valid c =
    let w = c.requires.0 in
    let all = take_all c.loop-file.file-index c.args.files.now c.loop-file-test.false in
    let is = image-is w c.args.datafiles.now c.args.dbid c.args.inc c.args.checkpoint c.loop-file.file-index c.args.files.now c.from_vec.result c.requires.1 (c.from_vec.ensures ∙ c.loop-file.invariant) all in
    subst IsSet is (image-valid w c.args.dbid c.args.inc c.args.checkpoint c.args.files.now c.requires.2)

pub returns-clause-holds : goal.returns-clause-holds
returns-clause-holds c w h same history can states =
    let all = take_all c.loop-file.file-index c.args.files.now c.loop-file-test.false in
    let is = image-is w c.args.datafiles.now c.args.dbid c.args.inc c.args.checkpoint c.loop-file.file-index c.args.files.now c.from_vec.result same (c.from_vec.ensures ∙ c.loop-file.invariant) all in
    subst (HoldsStates w h) is (image-holds w h c.args.dbid c.args.inc c.args.checkpoint c.args.files.now history can states)
