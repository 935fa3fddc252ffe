-- What a datafile as it was created says of a history.
use Rattle.std.specs.Option.{option_map_or}
use Rattle.std.proofs.Common.{◌≡◌, ◌+◌, ℕ, zero, suc, List, Some, inr, refl, ap, subst, arith, true, All, Contains}
use Rattle.std.proofs.lemmas.List.Elements.{All-nil, All-push, All-contains}
use Rattle.rm_base.specs.{Created.{created_row}, declared.block.{Change.{Change}, Row.{Row}}}
use Rattle.rm_history.specs.{Agrees.{BaseAgrees, IsRow}, History.{IsHistory}, State.{IsState, concerns}, World.{file_of, creation_of}}
use Rattle.rm_history.{specs.declared.world.{Datafile.{Datafile}, World.{World}}, proofs.States.{concerns-parts, concerns-risen, state-one}}
use Rattle.rm_blocks.specs.File.{base_of, created, created_rows}

-- what is true of each row of a created datafile is true of all
pub created-all : (P : Row → Type 0) (creation blocks : ℕ) → ((b : ℕ) → P (created_row creation b)) → All P (created_rows creation blocks)
created-all P creation zero each = All-nil P
created-all P creation (suc b) each = All-push P (created_rows creation b) (created_row creation b) (created-all P creation b each) (each b)

-- no change of a datafile lies at or below its creation
untouched : (w : World) (h : List Change) (i f b : ℕ) (c : Change) → IsHistory w h → Contains h c → ¬ (concerns w i (creation_of w f + 1) f b c ≡ true)
untouched w h i f b c is held concerned =
    let above = concerns-risen w h i (creation_of w f + 1) f b c is held concerned in
    let below = (concerns-parts w i (creation_of w f + 1) f b c concerned).below in
    omega (arith, above, below)

created-state : (w : World) (h : List Change) (i f b : ℕ) → IsHistory w h → IsState w h i (creation_of w f + 1) f (created_row (creation_of w f) b)
created-state w h i f b is = record {
  top = λ c held concerned. absurd (untouched w h i f b c is held concerned);
  held = inr (record { none = λ c held. untouched w h i f b c is held; version = refl; content = refl });
}

created-row : (w : World) (h : List Change) (inc f b : ℕ) → IsHistory w h → IsRow w h inc f (creation_of w f + 1) (created_row (creation_of w f) b)
created-row w h inc f b is = record {
  position = creation_of w f + 1;
  after = omega arith;
  is = state-one w h inc (creation_of w f + 1) f (created_row (creation_of w f) b) is (created-state w h inc f b is);
}

-- each of its rows is the state just above its creation
pub created-agrees : (w : World) (h : List Change) (inc f : ℕ) (d : Datafile) → IsHistory w h → file_of w f ≡ Some d → BaseAgrees w h (base_of (created f inc d.creation d.blocks))
created-agrees w h inc f d is there r held =
    let at : creation_of w f ≡ d.creation = ap (λ o. option_map_or (λ (x : Datafile). x.creation) o 0) there in
    let IsHere : ℕ → Type 0 = λ creation. (b : ℕ) → IsRow w h inc f (creation + 1) (created_row creation b) in
    let each : IsHere d.creation = subst IsHere at (λ b. created-row w h inc f b is) in
    All-contains (IsRow w h inc f (d.creation + 1)) (created_rows d.creation d.blocks) r (created-all (IsRow w h inc f (d.creation + 1)) d.creation d.blocks each) held
