use Rattle.std.{specs.Prelude.{IfSome}, proofs.Common.{◌≡◌, List, ℕ, subst}}
use Rattle.rm_step_upkeep.{specs.Catalogued.{ReadsAs}, proofs.Read.{read-there}}
use Rattle.rm_step_upkeep.proofs.finding.find.Goals as goal

pub returns-clause-finds : goal.returns-clause-finds
returns-clause-finds g c =
    let held = g.D.Store.held c.args.store.now in
    let s = c.args.state.now in
    let n = c.args.named in
    let o = c.in_ok-entry_in.field-0 in
    let there = coe 0 1 (i. IfSome held (λ h. h (c.as_str.ensures i) ≡ c.in-Some.is i)) c.in_ok-bytes.ensures.found in
    read-there held s c.args.name.now n c.in-Some.bytes o c.requires.named there
    (subst (λ (bytes : List ℕ). ReadsAs s n bytes o) c.as_slice.ensures c.in_ok-entry_in.ensures)
