use Rattle.std.{specs.Prelude.{IfSome}, proofs.Common.{List, ℕ, subst, sym}}
use Rattle.rm_base.specs.Store.{AreTheNames}
use Rattle.rm_evidence.proofs.Seen.{seen-then}
use Rattle.rm_verify.{specs.Crosscheck.{is_among, stands_in}, proofs.{Among.{names-seen}, Checked.{lists-alike}}}
use Rattle.rm_verify.proofs.crosschecking.crosscheck.Goals as goal

pub returns-clause-checked : goal.returns-clause-checked
returns-clause-checked g c =
    let names = c.as_slice.result.now in
    let held = g.D.Store.held c.args.store.now in
    seen-then held (names-seen held names (subst (λ (ns : List (List ℕ)). IfSome held (AreTheNames ns)) (sym c.as_slice.ensures) c.in_ok-names.ensures.exact))
    (λ h same. lists-alike (is_among names) (stands_in h) c.args.catalog.now c.args.class _ same c.in_ok-statuses.ensures)
