use Rattle.std.proofs.Common.{rules, sym, arith, ◌≡◌, ◌∷◌, [], List, subst, Some}
use Rattle.atomic_table.specs.Table.{opening}
use Rattle.rm_live.specs.{Parts.{IsSound, parts_of}, Ruled.{Ruled, resting, upto}, declared.database.Database.{Database}}
use Rattle.rm_live.proofs.Edges.{begins}
use Rattle.rm_live.proofs.live.Live.open.Goals as goal

pub new-requires : goal.new-requires
new-requires c =
    let has : c.push.new.self.items ≡ c.of.result.value ∷ [] = search rules in
    let sound = subst (λ (d : Database). IsSound (parts_of d)) (sym c.of.ensures) c.requires.sound in
    subst (λ (x : List Database). Ruled (opening (0 ∷ 0 ∷ []) x (resting (Some c.of.result) c.args.passes (upto 0 c.args.passes) []))) (sym has)
    (begins c.of.result c.args.passes (omega arith) sound)
