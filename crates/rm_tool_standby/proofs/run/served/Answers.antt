use Rattle.std.proofs.Common.{arith}
use Rattle.rm_tool_opening.proofs.Source.{told-err}
use Rattle.rm_tool_standby.proofs.Ending.{falls-then, finishes, halts, leaves-opened, none-falls, opened-falls, opened-source, prepared, rose-between, rose-carried, untold-lines}
use Rattle.rm_tool_standby.proofs.run.served.Goals as goal

-- What is left

pub returns-in_err-ready-clause-ended : goal.returns-in_err-ready-clause-ended
returns-in_err-ready-clause-ended g c =
    let was = c.open_site.ensures in
    let is = c.in_ok-site.ensures in
    told-err _ _ _ c.from_residual-in_err-ready.ensures.1
    (leaves-opened _ _ _ _ _ _ was.held was.kept is.ok (c.in_err-ready.ensures.ended _ (opened-source was.held is.opened is.shows is.valid)))

pub returns-in_err-carry-clause-ended : goal.returns-in_err-carry-clause-ended
returns-in_err-carry-clause-ended g c =
    let was = c.open_site.ensures in
    let is = c.in_ok-site.ensures in
    let so = c.in_ok-ready.ensures in
    let p = prepared was.held (so.ready _ (opened-source was.held is.opened is.shows is.valid)) c.prepare.ensures.to is.ok so.silent in
    told-err _ _ _ c.from_residual-in_err-carry.ensures.1 (halts p _ _ c.in_err-carry.was c.carry.ensures.keeper c.in_err-carry.ensures.stopped)

pub returns-in_err-write_all-clause-ended : goal.returns-in_err-write_all-clause-ended
returns-in_err-write_all-clause-ended g c =
    let was = c.open_site.ensures in
    let is = c.in_ok-site.ensures in
    let so = c.in_ok-ready.ensures in
    let p = prepared was.held (so.ready _ (opened-source was.held is.opened is.shows is.valid)) c.prepare.ensures.to is.ok so.silent in
    told-err _ _ _ c.from_residual-in_err-write_all.ensures.1 (untold-lines p _ c.in_ok-carry.ensures.takes _ c.as_slice.ensures c.in_err-write_all.ensures.prefix)

pub returns-clause-finishes : goal.returns-clause-finishes
returns-clause-finishes g c =
    let was = c.open_site.ensures in
    let is = c.in_ok-site.ensures in
    let so = c.in_ok-ready.ensures in
    let p = prepared was.held (so.ready _ (opened-source was.held is.opened is.shows is.valid)) c.prepare.ensures.to is.ok so.silent in
    finishes p _ c.in_ok-carry.ensures.takes _ c.as_slice.ensures c.in_ok-write_all.ensures.ok

-- Whose count rose

pub returns-in_err-ready-clause-rose : goal.returns-in_err-ready-clause-rose
returns-in_err-ready-clause-rose g c =
    told-err _ _ _ c.from_residual-in_err-ready.ensures.1
    (rose-between _ _ _ _ _ (opened-falls c.open_site.ensures.none_falls) (c.in_err-ready.ensures.rose _) (none-falls _))

pub returns-in_err-carry-clause-rose : goal.returns-in_err-carry-clause-rose
returns-in_err-carry-clause-rose g c =
    told-err _ _ _ c.from_residual-in_err-carry.ensures.1
    (rose-carried _ _ _ _ (falls-then _ _ _ (opened-falls c.open_site.ensures.none_falls) (c.prepare.ensures.none_falls _)) c.in_err-carry.was c.carry.ensures.store c.carry.ensures.keeper)

pub returns-in_err-write_all-clause-rose : goal.returns-in_err-write_all-clause-rose
returns-in_err-write_all-clause-rose g c =
    let first = c.open_site.ensures.none_falls.0 in
    let then = (c.prepare.ensures.none_falls 0).sink in
    let rose = c.in_err-write_all.ensures.failed in
    told-err _ _ _ c.from_residual-in_err-write_all.ensures.1 (omega (arith, first, then, rose))
