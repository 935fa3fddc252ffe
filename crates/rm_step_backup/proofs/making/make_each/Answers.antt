use Rattle.std.{specs.Vec.Iter.{into_iter_items}, proofs.{Common.{◌≡◌, ◌∷◌, map, ap}, lemmas.List.Elements.{All-rest}}}
use Rattle.rm_step_backup.specs.{Making.{CanMake, made_by}, declared.{making.Made.{Made}, reading.Read.{Read}}}
use Rattle.rm_step_backup.proofs.making.make_each.Goals as goal
use Rattle.rm_base.proofs.Filled.{filled-on}

pub loop-read-preserved : goal.loop-read-preserved
loop-read-preserved c =
    let at = c.loop-read in
    let x = c.in-Some.read in
    let left = into_iter_items at.read-iterator in
    let rest = into_iter_items c.next.new.self in
    let steps : left ≡ x ∷ rest = c.in-Some.ensures.steps.0 in
    let f : Read → Made = made_by c.args.state.now c.args.form.now c.args.tag.now c.args.checkpoint in
    record {
      made = filled-on at.all.items c.push.new.self.items _ (map f left) (map f rest) (f x) _ (ap (map f) steps) c.in_ok-make.ensures at.invariant.made c.in_ok-push.ensures.items;
      valid = All-rest (CanMake c.args.state.now c.args.form.now c.args.checkpoint) x rest left steps at.invariant.valid;
    }
