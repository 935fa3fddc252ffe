use Rattle.std.proofs.{Common.{◌∙◌, ◌++◌, ap, List, ℕ, drop, length, replicate}, lemmas.List.{drop-replicate}}
use Rattle.rm_base.specs.declared.block.Block.{Block}
use Rattle.rm_base.proofs.block.Block.padded.Goals as goal

pub returns : goal.returns
returns c =
    let text : List ℕ = c.args.text.now in
    let block : List ℕ → Block = λ bytes. record { 0 = bytes } in
    ap block (ap (λ xs. xs ++ drop (length text) (replicate 64 0)) c.copy_from_slice.ensures.after ∙ ap (λ xs. text ++ xs) (drop-replicate (length text) 64 0))
