use Rattle.std.proofs.Common.{◌≡◌, ◌<◌, ◌+◌, ◌∙◌, ◌&&◌, List, Option, None, suc, false, subst, sym, ap, arith, is_none, length, get_or, drop}
use Rattle.rm_blocks.specs.File.{File}
use Rattle.rm_history.specs.{World.{exists}, declared.world.Datafile.{Datafile}}
use Rattle.rm_machine.{specs.{Mount.{first_lost}, State.{ledger, world}}, proofs.Losses.{held-by, lost-next}}
use Rattle.rm_machine.proofs.facts.first_lost.Goals.{else-exists-via-then-exists+else-is_none, else-exists-via-else-exists}
use Rattle.rm_machine.proofs.facts.first_lost.Goals as goal

abbrev any : Datafile
any = record { inc = 0; creation = 0; blocks = 0 }

pub loop-index-preserved : goal.loop-index-preserved
loop-index-preserved c =
    let w = world c.args.state.now in
    let i = c.args.i in
    let s = c.args.s in
    let ds = (ledger c.args.state.now).files in
    let xs = c.args.state.now.instance.place in
    let k = c.loop-index.index in
    let inside : k < length ds = subst (λ (ds : List Datafile). k < length ds) c.files-datafile-items.ensures c.loop-index-test.true in
    let is : c.exists.result ≡ exists w i s (get_or ds k any) = c.exists.ensures ∙ ap (λ (ds : List Datafile). exists w i s (get_or ds k any)) c.files-datafile-items.ensures in
    let many : length xs ≡ length ds = c.requires.sound.place.many in
    let e : suc k ≡ k + 1 = omega arith in
    let on : (x : Option File) → (exists w i s (get_or ds k any) && is_none (get_or xs k x)) ≡ false → first_lost w i s (k + 1) (drop k ds) (drop k xs) ≡ first_lost w i s (k + 1 + 1) (drop (k + 1) ds) (drop (k + 1) xs) = λ x found.
    subst (λ n. first_lost w i s (k + 1) (drop k ds) (drop k xs) ≡ first_lost w i s (k + 1 + 1) (drop n ds) (drop n xs)) e (lost-next w i s (k + 1) ds xs k any x inside many found) in
    let step : first_lost w i s (k + 1) (drop k ds) (drop k xs) ≡ first_lost w i s (k + 1 + 1) (drop (k + 1) ds) (drop (k + 1) xs) = elim c.else-exists.branch [
      | else-exists-via-then-exists+else-is_none w1 ↦
          let x = w1.index-place-index.result in
          let placed : x ≡ get_or xs k x = w1.index-place-index.is ∙ ap (λ (ys : List (Option File)). get_or ys k x) c.as_slice-place.ensures in
          on x (ap (λ (o : Option File). exists w i s (get_or ds k any) && is_none o) (sym placed) ∙ held-by (exists w i s (get_or ds k any)) x w1.is_none.result w1.is_none.ensures w1.if-is_none.false)
      | else-exists-via-else-exists w1 ↦ on None (ap (λ b. b && is_none (get_or xs k None)) (sym is ∙ w1.if-exists.false))
    ] in
    sym step ∙ c.loop-index.invariant
