use Rattle.std.{specs.Option.{option_map_or}, proofs.Common.{◌∙◌, sym, ap, Option}}
use Rattle.rm_history.specs.declared.tree.Incarnation.{Incarnation}
use Rattle.rm_plan.proofs.Agreeing.{way_is}
use Rattle.rm_plan.proofs.ways.way.Goals as goal

pub returns : goal.returns
returns c =
    let begun = ap (λ (o : Option Incarnation). option_map_or (λ n. n.reset) o 0) (sym c.in-Some-Some.is-0 ∙ c.get.ensures.value) in
    way_is c.args.tree.now c.requires.tree.parents c.args.i c.args.s c.args.j c.in-Some-Some.shared c.in-Some-Some.incarnation.reset c.min.result c.in-Some-Some.ensures'.value begun c.min.ensures
