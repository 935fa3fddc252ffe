use Rattle.std.proofs.Common.{rules, ◌≡◌, ◌+◌, ◌++◌, ◌∷◌, [], ◌∙◌, ℕ, List, Option, ap, sym, arith, ◌<◌, None, zero-add}
use Rattle.std.proofs.lemmas.List.{get_or_default}
use Rattle.rm_base.specs.declared.block.{Change.{Change}, Row.{Row}}
use Rattle.rm_history.{specs.State.{concerns, latest, row_of, state}, proofs.BlockRows.{rows_from-push}}
use Rattle.rm_history.proofs.world.World.states.Goals as goal

pub loop-block-preserved : goal.loop-block-preserved
loop-block-preserved c =
    let n = c.loop-block.block in
    let made : ℕ → Row = state c.args.self.now c.args.history.now c.args.i c.args.s c.args.file in
    let inside : n < c.args.blocks = search rules in
    let none : Option Change = None in
    let last : c.index.result.now ≡ latest (concerns c.args.self.now c.args.i c.args.s c.args.file n) c.args.history.now =
    c.index.ensures ∙ get_or_default c.in_ok-last.last.items n _ none (omega (arith, inside, c.in_ok-last.ensures.len)) ∙ c.in_ok-last.ensures.each n inside in
    let next : c.row.result ≡ made n = c.row.ensures ∙ ap (row_of c.args.self.now c.args.file n) last in
    let pushed : c.push.new.self.items ≡ c.loop-block.rows.items ++ c.row.result ∷ [] = search rules in
    pushed
    ∙ ap (λ (x : Row). c.loop-block.rows.items ++ x ∷ []) (next ∙ ap made (sym (zero-add n)))
    ∙ ap (λ (xs : List Row). xs ++ made (0 + n) ∷ []) c.loop-block.invariant
    ∙ rows_from-push made 0 n
