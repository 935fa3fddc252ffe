-- Datafiles that come to stand in place, one after the other.
use Rattle.std.proofs.{Common.{◌≡◌, ◌-◌, ◌∙◌, ℕ, List, ◌∷◌, Option, Some, ap, sym, subst, length, slice_set, All}, lemmas.List.{length-set}}
use Rattle.std.proofs.lemmas.List.Elements.{All-rest}
use Rattle.rm_blocks.specs.File.{File}
use Rattle.rm_machine.specs.Recovery.{put_over}
use Rattle.rm_step_recover.specs.Placing.{HasPlace}

module _ (x : File) (rest xs : List File) (steps : xs ≡ x ∷ rest) (n : ℕ) (number : n ≡ x.file) (place : List (Option File)) where
  -- the next one is put
  pub over-next : (all : List (Option File)) → put_over xs place ≡ all → put_over rest (slice_set place (n - 1) (Some x)) ≡ all
  over-next all left = ap (λ m. put_over rest (slice_set place (m - 1) (Some x))) number ∙ ap (λ (ys : List File). put_over ys place) (sym steps) ∙ left

  -- and each place stays
  pub places-next : All (HasPlace (length place)) xs → All (HasPlace (length (slice_set place (n - 1) (Some x)))) rest
  places-next each = subst (λ m. All (HasPlace m) rest) (sym (length-set place (n - 1) (Some x))) (All-rest (HasPlace (length place)) x rest xs steps each)
