use Rattle.std.proofs.{Common.{◌≡◌, List, sym}, lemmas.Result.{IfOk-weaker}}
use Rattle.rm_base.specs.declared.block.Change.{Change}
use Rattle.rm_history.specs.{History.{IsHistory}, declared.world.World.{World}}
use Rattle.rm_machine.specs.{Recovery.{AreMadeAt}, State.{current_of, ledger, world}}
use Rattle.rm_standby.specs.{Image.{AreStates, CanImage, imaged}, Standby.{HoldsStates}}
use Rattle.rm_tool_standby.proofs.Imaging.{image-can, image-holds, image-is}
use Rattle.rm_tool_standby.proofs.making.image_of.Goals as goal

pub image-requires : goal.image-requires
image-requires c =
    let s = c.args.state.now in
    let r = c.requires in (
      world s,
      sym c.files.ensures,
      image-can s r.sound c.args.dbid c.args.inc c.args.until c.args.back.now c.as_slice.result.now c.as_slice.ensures r.dbid r.inc r.inside r.told r.few c.ranges.inc.fits,
    )

pub returns-clause-imaged : goal.returns-clause-imaged
returns-clause-imaged c =
    let s = c.args.state.now in
    let r = c.requires in
    let dbid = c.args.dbid in
    let inc = c.args.inc in
    let until = c.args.until in
    IfOk-weaker c.image.result (λ new. (w : World) → w.files ≡ c.files.result.now → new ≡ imaged w dbid inc until c.as_slice.result.now)
    (λ new. new ≡ imaged (world s) (ledger s).base.dbid (current_of s) until c.args.back.now.files)
    (λ new is. image-is s r.sound dbid inc until c.args.back.now c.as_slice.result.now c.as_slice.ensures r.dbid r.inc r.inside r.told r.few c.ranges.inc.fits new (is (world s) (sym c.files.ensures)))
    c.image.ensures.imaged

pub returns-clause-holds : goal.returns-clause-holds
returns-clause-holds c =
    let s = c.args.state.now in
    let r = c.requires in
    let dbid = c.args.dbid in
    let inc = c.args.inc in
    let until = c.args.until in
    let files = c.as_slice.result.now in
    IfOk-weaker c.image.result
    (λ new. (w : World) (h : List Change) → w.files ≡ c.files.result.now → IsHistory w h → CanImage w dbid inc until files → AreStates w h inc until files → HoldsStates w h new)
    (λ new. (h : List Change) → IsHistory (world s) h → AreMadeAt (world s) h (current_of s) until c.args.back.now.files → HoldsStates (world s) h new)
    (λ new holds. image-holds s r.sound dbid inc until c.args.back.now files c.as_slice.ensures r.dbid r.inc r.inside r.told r.few c.ranges.inc.fits new (λ h. holds (world s) h (sym c.files.ensures)))
    c.image.ensures.holds
