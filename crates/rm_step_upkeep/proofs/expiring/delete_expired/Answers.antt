use Rattle.std.proofs.Common.{◌≤◌, ◌<◌, ◌^◌, ◌∙◌, ◌++◌, ◌∷◌, [], ℕ, List, All, ap, length, map, subst, sym}
use Rattle.rm_report.specs.declared.line.Line.TheVariants.{Deleted, DeletedCount}
use Rattle.rm_machine.specs.{Upkeep.{with_catalog, without_all}, declared.state.State.{State}}
use Rattle.rm_catalog_typed.proofs.Ids.{few-ids, some-ids}
use Rattle.rm_step_upkeep.proofs.Listed.{expired-hands, in-range}
use Rattle.rm_step_upkeep.proofs.expiring.delete_expired.Goals as goal

pub drop_records-requires : goal.drop_records-requires
drop_records-requires c =
    let are = c.in_ok-ids.ensures in
    let each = in-range c.args.state.now c.requires.sound c.args.class c.in_ok-records.records c.in_ok-records.ensures.records c.in_ok-ids.ids.items are in
    let slice = sym c.deref.ensures.value in
    record {
      some = subst (λ (ns : List ℕ). All (λ n. 1 ≤ n) ns) slice (some-ids c.in_ok-ids.ids.items each);
      few = subst (λ (ns : List ℕ). length ns < 2 ^ 32) slice (few-ids (λ (n : ℕ). n) c.in_ok-ids.ids.items each are.ascends);
    }

pub returns-clause-hands : goal.returns-clause-hands
returns-clause-hands c held =
    let s : State = c.args.state.now in
    let slice = c.deref.ensures.value in
    expired-hands s c.requires.sound c.args.class c.in_ok-records.records c.in_ok-records.ensures.records c.in_ok-ids.ids.items c.in_ok-ids.ensures held
    (record { lines = c.in_ok-drop_records.field-0; objects = c.new.result; removes = c.new-2.result }) c.drop_records.new.state
    (c.in_ok-drop_records.ensures.lines ∙ ap (λ (ns : List ℕ). map Deleted ns ++ DeletedCount (length ns) ∷ []) slice)
    c.new.ensures c.new-2.ensures (c.in_ok-drop_records.ensures.value ∙ ap (λ (ns : List ℕ). with_catalog s (without_all ns s.catalog)) slice)
