use Rattle.std.proofs.Common.{◌≡◌, ◌∙◌, Option, Some, IfSome, true, ap, sym, subst}
use Rattle.rm_catalog.specs.declared.record.HeadEntry.{HeadEntry}
use Rattle.rm_machine.specs.{Sound.{IsSound}, declared.state.State.{State}}
use Rattle.rm_catalog_typed.specs.TypedCatalog.{Saved}
use Rattle.rm_session.{specs.Fit.{StandNow, with_point}, proofs.Standing.{sound-mounted, sound-without}}
use Rattle.rm_session.proofs.point.point_of.Goals as goal

stand-by : (s : State) (o : Option Saved) (site : Saved) → Some site ≡ o → IfSome o (λ site. site.head.opened ≡ true → StandNow s) → site.head.opened ≡ true → StandNow s
stand-by s o site is stand = subst (λ o. IfSome o (λ site. site.head.opened ≡ true → StandNow s)) (sym is) stand

pub returns-then-head-clause-sound : goal.returns-then-head-clause-sound
returns-then-head-clause-sound c =
    let site = c.in_ok-saved.field-0.now in
    let is : Some site ≡ c.args.state.now.catalog.saved = c.in_ok-saved.ensures in
    let opened : site.head.opened ≡ true = ap (λ (h : HeadEntry). h.opened) (sym c.head-head.ensures) ∙ c.if-head.true in
    let now : StandNow c.args.state.now = stand-by c.args.state.now c.args.state.now.catalog.saved site is c.requires.stand opened in
    subst (λ p. IsSound (with_point c.args.state.now p)) (sym c.mount_point.ensures) (sound-mounted c.args.state.now c.requires.sound c.if-state.false now)

pub returns-in_err-saved-clause-sound : goal.returns-in_err-saved-clause-sound
returns-in_err-saved-clause-sound c = subst (λ p. IsSound (with_point c.args.state.now p)) (sym c.from_residual.ensures) (sound-without c.args.state.now c.requires.sound)
