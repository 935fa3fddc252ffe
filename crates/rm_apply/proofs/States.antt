-- The rows that come back, as the states of a history.
use Rattle.std.specs.Option.{option_map_or}
use Rattle.std.proofs.Common.{◌≡◌, ◌<◌, ◌+◌, ◌∙◌, ℕ, zero, suc, List, [], ◌∷◌, Option, Some, length, slice_get, refl, sym, ap, subst, arith}
use Rattle.std.proofs.lemmas.Option.{slice_get_within}
use Rattle.rm_base.specs.declared.block.{Change.{Change}, Row.{Row}}
use Rattle.rm_blocks.specs.File.{File}
use Rattle.rm_history.specs.{History.{IsHistory}, State.{rows_from, state, states}, World.{blocks_of}, Evidence.{Agrees, Evidence}}
use Rattle.rm_history.{specs.{FirstGap.{IsTarget}, declared.world.{Datafile.{Datafile}, World.{World}}}, proofs.Facts.{told-is-true}}
use Rattle.rm_plan.specs.Plan.{IsFileTarget}
use Rattle.rm_apply.specs.Told.{IsTold}

-- a list whose item k has the row of block b + k
pub rows-are : (row : ℕ → Row) (b n : ℕ) (rows : List Row) → length rows ≡ n → ((k : ℕ) (r : Row) → slice_get rows k ≡ Some r → row (b + k) ≡ r) → rows ≡ rows_from row b n
rows-are row b zero [] many each = refl
rows-are row b zero (x ∷ xs) many each = absurd (omega (arith, many))
rows-are row b (suc n) [] many each = absurd (omega (arith, many))
rows-are row b (suc n) (x ∷ xs) many each =
    let start : b + 0 ≡ b = omega arith in
    let first : row b ≡ x = subst (λ m. row m ≡ x) start (each 0 x refl) in
    let rest : xs ≡ rows_from row (b + 1) n = rows-are row (b + 1) n xs (omega (arith, many)) (λ k r is.
    let next : b + suc k ≡ b + 1 + k = omega arith in subst (λ m. row m ≡ r) next (each (suc k) r is)) in
    ap (λ (y : Row). y ∷ xs) (sym first) ∙ ap (λ ys. row b ∷ ys) rest

module _ (w : World) (e : Evidence) (i s f : ℕ) (h : List Change) (x : File) (history : IsHistory w h) (agrees : Agrees w h e) (target : IsFileTarget w i s f) (told : IsTold w e i s f x) where
  -- each row of a datafile that is told is the state of its block
  pub row-is : (k : ℕ) (r : Row) → slice_get x.rows k ≡ Some r → state w h i s f k ≡ r
  row-is k r is =
      let size : blocks_of w f ≡ target.datafile.blocks = ap (λ (o : Option Datafile). option_map_or (λ d. d.blocks) o 0) target.is in
      let within : k < length x.rows = slice_get_within x.rows k r is in
      let long = told.blocks in
      let block : IsTarget w i s f k = record { there = target.there; datafile = target.datafile; is = target.is; exists = target.exists; block = omega (arith, within, long, size) } in
      let row : ℕ → Row = λ b. record { block = b; version = r.version; content = r.content } in
      told-is-true w e i s f k r.version r.content block (told.rows k r is).1 h history agrees ∙ ap row (sym (told.rows k r is).0)

  pub rows-are-states : x.rows ≡ states w h i s f (blocks_of w f)
  rows-are-states = rows-are (state w h i s f) 0 (blocks_of w f) x.rows told.blocks (λ k r is. let here : k ≡ 0 + k = omega arith in subst (λ m. state w h i s f m ≡ r) here (row-is k r is))
