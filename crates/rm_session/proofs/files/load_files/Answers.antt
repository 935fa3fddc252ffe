use Rattle.std.proofs.{Common.{◌∙◌, [], ◌∷◌, ap, arith, length}, lemmas.{List.{length-append}, Option.{IfSome_then}}}
use Rattle.rm_session.{specs.Fit.{FitsAt, IsLoadedAt}, proofs.Places.{fits-at, fits-more, loaded-at, told-more}}
use Rattle.rm_session.proofs.files.load_files.Goals as goal

pub loop-index-preserved : goal.loop-index-preserved
loop-index-preserved g c =
    let l = c.args.catalog.now.ledger in
    let site = c.args.site.now in
    let i = c.loop-index.index in
    let held = g.D.Store.held in
    let is = c.in_ok-push.ensures.ok in
    let many = c.loop-index.invariant.many in
    let files = c.files-datafile-items.ensures in
    let x = c.in_ok-file.file in
    let ds = c.files-datafile-items.result.now in
    record {
      many = (let one = length-append c.loop-index.place (x ∷ []) in ap length is ∙ omega (arith, one, many));
      told = told-more (λ h. IsLoadedAt h l site) (held c.args.store.now) (held c.loop-index.store) c.loop-index.place c.push.new.self x i c.loop-index.invariant.same many is c.loop-index.invariant.told
          (IfSome_then (held c.loop-index.store) c.in_ok-file.ensures.told (λ h told. loaded-at h l site ds i _ x files told));
      fits = fits-more (FitsAt l site.head.opened) c.loop-index.place c.push.new.self x i many is c.loop-index.invariant.fits (fits-at l site.head.opened ds i _ x files c.in_ok-file.ensures.fits);
      same = c.load_file.ensures.same ∙ c.loop-index.invariant.same;
      never_falls = omega (arith, c.loop-index.invariant.never_falls, c.load_file.ensures.never_falls);
    }
