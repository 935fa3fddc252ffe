use Rattle.std.specs.Prelude.{IsTrue}
use Rattle.std.proofs.Common.{◌≡◌, ◌<◌, ◌∙◌, ℕ, List, Option, Some, refl, sym, ap, arith, length, get_or, slice_get}
use Rattle.std.proofs.lemmas.{Bool.{false≢true}, Option.{slice_get-get_or, slice_get_read, slice_get_within}}
use Rattle.rm_blocks.specs.File.{File}
use Rattle.rm_history.specs.declared.world.Datafile.{Datafile}
use Rattle.rm_machine.specs.State.{ledger}
use Rattle.rm_session.proofs.Standing.{stand-more, standing, stands}
use Rattle.rm_session.proofs.point.all_stand.Goals.{else-exists-via-then-exists+else-not-stands_at, else-exists-via-else-exists}
use Rattle.rm_session.proofs.point.all_stand.Goals as goal

abbrev any : Datafile
any = record { inc = 0; creation = 0; blocks = 0 }

known : (ds items : List Datafile) (k : ℕ) → items ≡ ds → k < length items → slice_get ds k ≡ Some (get_or items k any)
known ds items k same inside = ap (λ xs. slice_get xs k) (sym same) ∙ slice_get-get_or items k any inside

-- what is read at a place stands there
read : (place items : List (Option File)) (n k : ℕ) (x : Option File) → items ≡ place → length place ≡ n → k < n → x ≡ get_or items k x → slice_get place k ≡ Some x
read place items n k x same many inside is = slice_get_read place n k x (sym many) inside (is ∙ ap (λ ys. get_or ys k x) same)

pub returns-then-not-stands_at : goal.returns-then-not-stands_at
returns-then-not-stands_at c =
    let s = c.args.state.now in
    let items = c.files-datafile-items in
    let k = c.loop-index.index in
    let x = c.index-place-index.result in
    let inside : k < length (ledger s).files = omega (arith, c.loop-index-test.true, ap length items.ensures) in
    let at = read s.instance.place c.as_slice-place.result.now (length (ledger s).files) k x c.as_slice-place.ensures c.requires.sound.place.many inside c.index-place-index.is in
    let file = known (ledger s).files items.result.now k items.ensures c.loop-index-test.true in (
      λ no. absurd (false≢true no),
      λ all.
          let yes : IsTrue c.stands_at.result = c.stands_at.ensures.1 (standing s.instance.place c.args.i c.args.s k x at (all k _ file (sym c.exists.ensures ∙ c.if-exists.true))) in
          let no = c.if-not-stands_at.true in
          absurd cc,
    )

pub loop-index-preserved : goal.loop-index-preserved
loop-index-preserved c =
    let s = c.args.state.now in
    let items = c.files-datafile-items in
    let k = c.loop-index.index in
    let inside : k < length (ledger s).files = omega (arith, c.loop-index-test.true, ap length items.ensures) in
    stand-more s c.args.i c.args.s k _ (known (ledger s).files items.result.now k items.ensures c.loop-index-test.true) (λ there. elim c.else-exists.branch [
      | else-exists-via-then-exists+else-not-stands_at w ↦
          let x = w.index-place-index.result in
          let at = read s.instance.place c.as_slice-place.result.now (length (ledger s).files) k x c.as_slice-place.ensures c.requires.sound.place.many inside w.index-place-index.is in
          stands s.instance.place c.args.i c.args.s k x at (w.stands_at.ensures.0 w.if-not-stands_at.false)
      | else-exists-via-else-exists w ↦ absurd (false≢true (sym w.if-exists.false ∙ c.exists.ensures ∙ there))
    ]) c.loop-index.invariant

pub returns : goal.returns
returns c =
    let ds = (ledger c.args.state.now).files in
    (λ yes k d is there. c.loop-index.invariant k d (omega (arith, slice_get_within ds k d is, ap length c.files-datafile-items.ensures, c.loop-index-test.false)) is there, λ all. refl)
