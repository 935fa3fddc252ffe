use Rattle.std.proofs.{Common.{◌∙◌, ◌∷◌, [], List, ap, sym, get_or, take}, lemmas.List.{take_more}}
use Rattle.rm_base.specs.declared.block.Part.{Part}
use Rattle.rm_channel.{specs.Applied.{with_parts}, proofs.Puts.{no_part, no_parts, parts-then}}
use Rattle.rm_channel.proofs.applying.put_all.Goals as goal

pub loop-part-init : goal.loop-part-init
loop-part-init c = sym (no_parts c.args.first c.args.rows.now)

pub loop-part-preserved : goal.loop-part-preserved
loop-part-preserved c =
    let part : Part = get_or c.args.parts.now c.loop-part.part-index no_part in
    c.put.ensures
    ∙ ap (with_parts (part ∷ []) c.args.first) c.loop-part.invariant
    ∙ sym (parts-then (take c.loop-part.part-index c.args.parts.now) (part ∷ []) c.args.first c.args.rows.now)
    ∙ ap (λ (ps : List Part). with_parts ps c.args.first c.args.rows.now) (sym (take_more c.args.parts.now c.loop-part.part-index no_part c.loop-part-test.true))
