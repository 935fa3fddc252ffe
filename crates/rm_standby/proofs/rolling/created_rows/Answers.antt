use Rattle.std.proofs.Common.{rules, ◌≡◌, ◌∙◌, ◌+◌, ◌++◌, ◌∷◌, [], List, ap, sym, zero-add}
use Rattle.rm_base.specs.{Created.{created_row}, declared.block.Row.{Row}}
use Rattle.rm_history.proofs.BlockRows.{rows_from-push}
use Rattle.rm_standby.proofs.rolling.created_rows.Goals as goal

pub loop-block-preserved : goal.loop-block-preserved
loop-block-preserved c =
    let n = c.loop-block.block in
    let pushed : c.push.new.self.items ≡ c.loop-block.rows.items ++ c.created_row.result ∷ [] = search rules in
    pushed
    ∙ ap (λ (x : Row). c.loop-block.rows.items ++ x ∷ []) (c.created_row.ensures ∙ ap (created_row c.args.creation) (sym (zero-add n)))
    ∙ ap (λ (xs : List Row). xs ++ created_row c.args.creation (0 + n) ∷ []) c.loop-block.invariant
    ∙ rows_from-push (created_row c.args.creation) 0 n
