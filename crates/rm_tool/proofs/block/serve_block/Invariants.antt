use Rattle.std.{specs.{List.{list_all}, Vec.Iter.{into_iter_items, into_iter_len}}, proofs.Common.{◌≡◌, ◌≤◌, All, IsTrue, true, length}}
use Rattle.rm_report.specs.Reply.{IsPlain}
use Rattle.rm_lang_statement.specs.IsCommand.{is_inner}
use Rattle.rm_tool_opening.specs.Untouched.{IsUntouched}
use Rattle.rm_tool.{specs.{Block.{AreSet}, Built.{is_built_inner}, Quiet.{only_tells_inner}, Comes.{at_hand}}, proofs.Blocks.{InsideEach}}
use Rattle.rm_tool.proofs.Coming.{Comes}
use Rattle.rm_tool.proofs.block.serve_block.Given as goal

abbrev pub invariant-loop-inner : goal.invariant-loop-inner
invariant-loop-inner g l =
    let held = g.D.Store.held in
    let kept = g.C.Keeper.kept in
    record {
      inside : InsideEach (held l.fn.store) (kept l.fn.keeper) l.fn.site (held l.store) (kept l.keeper) l.site l.settings l.fn.block (into_iter_items l.inner-iterator) l.fn.clock l.lines;
      comes : Comes l.fn.site l.site l.settings l.fn.block (into_iter_items l.inner-iterator) l.fn.clock l.lines (at_hand (held l.fn.store) (kept l.fn.keeper) l.fn.site) (at_hand (held l.store) (kept l.keeper) l.site);
      quiet : list_all only_tells_inner l.fn.block ≡ true → (list_all only_tells_inner (into_iter_items l.inner-iterator) ≡ true) × IsUntouched (held l.fn.store) (kept l.fn.keeper) l.fn.site (held l.store) (kept l.keeper) l.site;
      live : l.site.live ≡ true;
      set : AreSet l.settings;
      grammar : IsTrue (list_all is_inner (into_iter_items l.inner-iterator));
      built : IsTrue (list_all is_built_inner (into_iter_items l.inner-iterator));
      count : into_iter_len l.inner-iterator ≡ length (into_iter_items l.inner-iterator);
      plain : All IsPlain l.lines;
      store : g.D.Store.faults l.fn.store ≤ g.D.Store.faults l.store;
      keeper : g.C.Keeper.faults l.fn.keeper ≤ g.C.Keeper.faults l.keeper;
    }
