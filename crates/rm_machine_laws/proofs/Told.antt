-- The datafiles that what is at hand tells are those of the history.
use Rattle.std.proofs.Common.{◌≡◌, ◌∙◌, ℕ, List, [], ◌∷◌, refl, ap, sym, subst, All, map}
use Rattle.std.proofs.lemmas.List.Elements.{All-contains, All-head, All-tail}
use Rattle.rm_base.{specs.declared.block.{Change.{Change}, Row.{Row}}, proofs.{Lists.{map_to}, Standing.{each-get, each-in}}}
use Rattle.rm_blocks.specs.File.{File}
use Rattle.rm_apply.{specs.Told.{AreFilesAt, IsTold}, proofs.States.{row-is, rows-are-states}}
use Rattle.rm_history.specs.{History.{IsHistory}, State.{state, states}, World.{blocks_of}, Evidence.{Agrees, Evidence}}
use Rattle.rm_history.specs.declared.world.World.{World}
use Rattle.rm_plan.specs.Plan.{IsFileTarget}
use Rattle.rm_machine.{specs.{Machine.{RowsAre}, Recovery.{AreMadeAt, file_at}}, proofs.Placing.{number}}

-- a datafile of the same fields
same-file : (x : File) (i at : ℕ) (rows : List Row) → x.inc ≡ i → x.checkpoint ≡ at → x.rows ≡ rows → x ≡ record { file = x.file; inc = i; checkpoint = at; rows = rows }
same-file x i at rows inc checkpoint all =
    ap (λ n. record x { inc = n }) inc
    ∙ ap (λ n. record x { inc = i; checkpoint = n }) checkpoint
    ∙ ap (λ rs. record x { inc = i; checkpoint = at; rows = rs }) all

module _ (w : World) (e : Evidence) (i at : ℕ) (h : List Change) (history : IsHistory w h) (agrees : Agrees w h e) where
  -- each row of a datafile that is told is the state of its block
  pub told-states : (f : ℕ) (x : File) → IsFileTarget w i at f → IsTold w e i at f x → RowsAre w h i at x
  told-states f x target told = each-get (λ r. r ≡ state w h i at x.file r.block) x.rows (λ b r row.
      let block = (told.rows b r row).0 in
      sym (subst (λ g. state w h i at g r.block ≡ r) (sym told.file) (subst (λ n. state w h i at f n ≡ r) (sym block) (row-is w e i at f h x history agrees target told b r row))))

  -- it is that of the history
  told-made : (x : File) → IsFileTarget w i at x.file → IsTold w e i at x.file x → x ≡ file_at w h i at x.file
  told-made x target told = same-file x i at (states w h i at x.file (blocks_of w x.file)) told.inc told.checkpoint (rows-are-states w e i at x.file h x history agrees target told)

  all-made : (xs : List File) → All (λ x. x ≡ file_at w h i at x.file) xs → xs ≡ map (file_at w h i at) (map number xs)
  all-made [] each = refl
  all-made (x ∷ xs) each =
      let first = All-head (λ (y : File). y ≡ file_at w h i at y.file) x xs each in
      let rest = all-made xs (All-tail (λ (y : File). y ≡ file_at w h i at y.file) x xs each) in
      ap (λ (y : File). y ∷ xs) first ∙ ap (λ (ys : List File). file_at w h i at x.file ∷ ys) rest

  -- and so are all
  pub files-made : (xs : List File) → AreFilesAt w e i at xs → AreMadeAt w h i at xs
  files-made xs told = record {
    numbers = map number xs;
    exact = told.numbers;
    are = all-made xs (each-in (λ (x : File). x ≡ file_at w h i at x.file) xs (λ x has.
        told-made x ((told.numbers.exact x.file).0 (map_to number xs x has)) (All-contains (λ (y : File). IsTold w e i at y.file y) xs x told.each has)));
  }
