-- A copy that lies below the SCN where it stands has the states there.
use Rattle.std.proofs.Common.{◌≡◌, ◌<◌, ◌∙◌, ℕ, List, sym, subst, arith, Contains, get_or}
use Rattle.std.proofs.lemmas.List.Elements.{Contains-get_or}
use Rattle.rm_base.specs.declared.block.{Change.{Change}, Row.{Row}}
use Rattle.rm_blocks.specs.File.{File, base_of}
use Rattle.rm_history.specs.{Agrees.{BaseAgrees}, History.{IsHistory}, State.{state}, declared.world.World.{World}}
use Rattle.rm_history.proofs.KnownStates.{settled}
use Rattle.rm_machine.specs.Machine.{RowsAre}

module _ (w : World) (h : List Change) (history : IsHistory w h) (i at : ℕ) (x : File) (agrees : BaseAgrees w h (base_of x)) (inc : x.inc ≡ i) (checkpoint : x.checkpoint ≡ at) where
  row-is : (r : Row) → Contains x.rows r → r.version < at → r ≡ state w h i at x.file r.block
  row-is r has low =
      let is = agrees r has in
      let after = is.after in
      let under = subst (λ (y : Row). y.version < at) (sym is.is) low in
      let here = settled w h x.inc at is.position x.file r.block history (omega (arith, after, checkpoint)) under in
      subst (λ j. r ≡ state w h j at x.file r.block) inc (sym (here ∙ is.is))

  pub rows-are : ((r : Row) → Contains x.rows r → r.version < at) → RowsAre w h i at x
  rows-are low k d inside =
      let r : Row = get_or x.rows k d in
      let has = Contains-get_or x.rows k d inside in
      row-is r has (low r has)
