use Rattle.std.proofs.{Common.{◌∙◌, [], ◌∷◌, ap, arith, length}, lemmas.List.{length-append}}
use Rattle.rm_session.{specs.Fit.{IsLogAt, LogFitsAt}, proofs.Places.{fits-more, told-more}}
use Rattle.rm_session.proofs.threads.load_logs.Goals as goal

pub loop-index-preserved : goal.loop-index-preserved
loop-index-preserved g c =
    let l = c.args.catalog.now.ledger in
    let site = c.args.site.now in
    let i = c.loop-index.index in
    let held = g.D.Store.held in
    let is = c.in_ok-push.ensures.ok in
    let many = c.loop-index.invariant.many in
    let x = c.in_ok-log.log in
    record {
      many = (let one = length-append c.loop-index.logs (x ∷ []) in ap length is ∙ omega (arith, one, many));
      told = told-more (λ h. IsLogAt h l site) (held c.args.store.now) (held c.loop-index.store) c.loop-index.logs c.push.new.self x i c.loop-index.invariant.same many is c.loop-index.invariant.told c.in_ok-log.ensures.told;
      fits = fits-more (LogFitsAt l site.head.opened) c.loop-index.logs c.push.new.self x i many is c.loop-index.invariant.fits c.in_ok-log.ensures.fits;
      same = c.good_log.ensures.same ∙ c.loop-index.invariant.same;
      never_falls = omega (arith, c.loop-index.invariant.never_falls, c.good_log.ensures.never_falls);
    }
