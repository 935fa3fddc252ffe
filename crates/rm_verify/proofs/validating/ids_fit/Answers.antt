use Rattle.std.proofs.{Common.{◌≡◌, ◌∙◌, ℕ, All, ap, arith, take}, Math.Seq.{take-length}, lemmas.List.Elements.{All-more}}
use Rattle.rm_evidence.specs.Taking.{HasId}
use Rattle.rm_verify.proofs.validating.ids_fit.Goals as goal

pub loop-row-preserved : goal.loop-row-preserved
loop-row-preserved c =
    All-more (λ x. HasId x.1.now) c.args.rows.now c.loop-row.row-index c.row-item.result c.loop-row-test.true c.loop-row.invariant (coe 0 1 (i. HasId (c.row-item.is i).1.now) c.id_fits.ensures)

pub returns : goal.returns
returns c =
    let rows = c.args.rows.now in
    let all : take c.loop-row.row-index rows ≡ rows = ap (λ (n : ℕ). take n rows) (omega (arith, c.loop-row.auto.row-index-end, c.loop-row-test.false)) ∙ take-length rows in
    coe 0 1 (i. All (λ x. HasId x.1.now) (all i)) c.loop-row.invariant
