use Rattle.std.proofs.Common.{◌≡◌, ◌<◌, ◌+◌, ◌∙◌, ◌++◌, List, Option, None, suc, false, subst, sym, ap, arith, length, get_or, take, drop}
use Rattle.std.proofs.Math.ListN.{set, length-set}
use Rattle.rm_blocks.specs.File.{File}
use Rattle.rm_history.specs.{World.{exists}, declared.world.{Datafile.{Datafile}, World.{World}}}
use Rattle.rm_machine.specs.{Open.{kept_in_place}, State.{world}}
use Rattle.rm_step_open.proofs.Places.{kept-stays, kept-goes}
use Rattle.rm_step_open.proofs.place.keep_in_place.Goals.{then-not-exists+in-Some-1, then-not-exists+in-None-1, else-not-exists}
use Rattle.rm_step_open.proofs.place.keep_in_place.Goals as goal

abbrev any : Datafile
any = record { inc = 0; creation = 0; blocks = 0 }

pub loop-index-preserved : goal.loop-index-preserved
loop-index-preserved c =
    let w : World = world c.args.state.now in
    let i = c.args.i in
    let s = c.args.s in
    let xs = c.loop-index.place.items in
    let new = c.if-not-exists.place.items in
    let k = c.loop-index.index in
    let many : length xs ≡ length w.files = c.loop-index.invariant.many in
    let inside : k < length w.files = subst (λ (ds : List Datafile). k < length ds) c.files-datafile-items.ensures c.loop-index-test.true in
    let is : c.exists.result ≡ exists w i s (get_or w.files k any) = c.exists.ensures ∙ ap (λ (ds : List Datafile). exists w i s (get_or ds k any)) c.files-datafile-items.ensures in
    let e : suc k ≡ k + 1 = omega arith in
    let gone : (ys : List (Option File)) → ys ≡ set xs k None → c.exists.result ≡ false → take (k + 1) ys ++ kept_in_place w i s (drop (k + 1) w.files) (drop (k + 1) ys) ≡ kept_in_place w i s w.files c.args.place.now.items = λ ys same none.
    subst (λ (zs : List (Option File)). take (k + 1) zs ++ kept_in_place w i s (drop (k + 1) w.files) (drop (k + 1) zs) ≡ kept_in_place w i s w.files c.args.place.now.items) (sym same)
    (subst (λ n. take n (set xs k None) ++ kept_in_place w i s (drop n w.files) (drop n (set xs k None)) ≡ kept_in_place w i s w.files c.args.place.now.items) e
    (kept-goes w i s w.files xs k any inside many (sym is ∙ none) ∙ c.loop-index.invariant.done)) in
    elim c.if-not-exists.branch [
      | then-not-exists+in-Some-1 w1 ↦
          let is_new : new ≡ set xs k None = ap (λ v. v.items) w1.place-is in
          record { many = ap length is_new ∙ length-set xs k None ∙ many; done = gone new is_new w1.if-not-exists.true }
      | then-not-exists+in-None-1 w1 ↦
          let is_new : new ≡ set xs k None = ap (λ v. v.items) w1.place-is in
          record { many = ap length is_new ∙ length-set xs k None ∙ many; done = gone new is_new w1.if-not-exists.true }
      | else-not-exists w1 ↦
          let is_new : new ≡ xs = ap (λ v. v.items) w1.place-is in
          record {
            many = ap length is_new ∙ many;
            done = subst (λ (ys : List (Option File)). take (k + 1) ys ++ kept_in_place w i s (drop (k + 1) w.files) (drop (k + 1) ys) ≡ kept_in_place w i s w.files c.args.place.now.items) (sym is_new)
                (subst (λ n. take n xs ++ kept_in_place w i s (drop n w.files) (drop n xs) ≡ kept_in_place w i s w.files c.args.place.now.items) e
                (kept-stays w i s w.files xs k any inside many (sym is ∙ w1.if-not-exists.false) ∙ c.loop-index.invariant.done));
          }
    ]
