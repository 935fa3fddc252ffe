use Rattle.std.proofs.Common.{IfSome, Option, refl, subst}
use Rattle.rm_base.specs.Store.{Held}
use Rattle.rm_session.{specs.Fit.{AllAt, IsLogAt}, proofs.{Firsts.{fit-there, fit-valid}, Loads.{had-of}}}
use Rattle.rm_session.proofs.instances.load_instance.Goals as goal

pub online_of-requires-clause-valid : goal.online_of-requires-clause-valid
online_of-requires-clause-valid g c = fit-valid c.args.catalog.now.ledger c.args.site.now.head.opened c.in_ok-parts.parts c.in_ok-parts.ensures.fits

pub online_of-requires-clause-there : goal.online_of-requires-clause-there
online_of-requires-clause-there g c = fit-there c.args.catalog.now.ledger c.args.site.now.head.opened c.in_ok-parts.parts c.requires.ledger.current c.in_ok-parts.ensures.fits

pub returns-clause-told : goal.returns-clause-told
returns-clause-told g c =
    let l = c.args.catalog.now.ledger in
    let site = c.args.site.now in
    let logs = subst (λ (o : Option Held). IfSome o (λ h. AllAt (IsLogAt h l site) c.in_ok-parts.parts)) c.in_ok-place.ensures.same c.in_ok-parts.ensures.told in
    had-of (g.D.Store.held c.args.store.now) l site _ c.in_ok-parts.parts c.in_ok-place.ensures.many c.in_ok-place.ensures.told c.in_ok-parts.ensures.many logs c.in_ok-logs.ensures c.stays_open-is_open.ensures c.new.ensures c.in_ok-tracker.ensures

pub returns-clause-fits : goal.returns-clause-fits
returns-clause-fits g c = record {
  many = c.in_ok-place.ensures.many;
  place = c.in_ok-place.ensures.fits;
  logs = record { parts = c.in_ok-parts.parts; many = c.in_ok-parts.ensures.many; fit = c.in_ok-parts.ensures.fits; are = c.in_ok-logs.ensures };
  is_open = c.stays_open-is_open.ensures;
  point = refl;
  damaged = c.new.ensures;
  tracker = c.in_ok-tracker.ensures;
}
