use Rattle.std.proofs.Common.{◌∙◌, ◌++◌, ◌∷◌, [], ℕ, List, Vec, Global, take, take_all, sym, subst, ap}
use Rattle.rm_base.proofs.Lists.{take_more}
use Rattle.rm_catalog.specs.declared.record.Record.{Record}
use Rattle.rm_backup.{specs.Level1s.{StartAbove}, proofs.Kept.{above_none, above_more, above_passed}}
use Rattle.rm_backup.proofs.level1s.start_above.Goals.{in-Some+in_ok-push, in_default}
use Rattle.rm_backup.proofs.level1s.start_above.Goals as goal

pub loop-row-init : goal.loop-row-init
loop-row-init c = subst (StartAbove [] c.args.file c.args.tag.now c.args.checkpoint) (sym c.new-found.ensures.items) (above_none c.args.file c.args.tag.now c.args.checkpoint)

pub loop-row-preserved : goal.loop-row-preserved
loop-row-preserved c =
    let f = c.args.file in
    let tag = c.args.tag.now in
    let k = c.args.checkpoint in
    let xs = c.records-records.result.now in
    let i = c.loop-row.row-index in
    let x = c.row-item.result in
    let more = sym (take_more xs i x c.loop-row-test.true c.row-item.is) in
    subst (λ (rs : List Record). StartAbove rs f tag k c.match-above.found.items) more (elim c.match-above.branch [
      | in-Some+in_ok-push w ↦
          above_more f tag k (take i xs) x w.in-Some.piece.now c.loop-row.found.items c.match-above.found.items c.loop-row.invariant w.in-Some.ensures
          (ap (λ (v : Vec (ℕ × ℕ) Global). v.items) w.found-is ∙ w.in_ok-push.ensures.items)
      | in_default w ↦
          subst (StartAbove (take i xs ++ x ∷ []) f tag k) (sym (ap (λ (v : Vec (ℕ × ℕ) Global). v.items) w.found-is))
          (above_passed f tag k (take i xs) x c.loop-row.found.items c.loop-row.invariant w.in_default.ensures)
    ])

pub returns : goal.returns
returns c =
    let xs = c.records-records.result.now in
    subst (StartAbove c.args.catalog.now c.args.file c.args.tag.now c.args.checkpoint) (sym c.from_vec.ensures)
    (subst (λ (rs : List Record). StartAbove rs c.args.file c.args.tag.now c.args.checkpoint c.loop-row.found.items) (take_all c.loop-row.row-index xs c.loop-row-test.false ∙ c.records-records.ensures.records) c.loop-row.invariant)
