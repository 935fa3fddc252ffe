-- The datafiles of a database, by their numbers.
use Rattle.std.specs.Option.{option_map_or}
use Rattle.std.proofs.Common.{◌≡◌, ◌<◌, ◌≤◌, ◌+◌, ◌-◌, ◌∙◌, ◌==◌, inl, inr, ℕ, Option, Some, None, true, false, cond, eq-eqb, ap, sym, arith, slice_get}
use Rattle.std.proofs.lemmas.{Bool.{cases_Bool, ne_eqb}, Option.{slice_get_within}}
use Rattle.rm_base.proofs.Slots.{all-get}
use Rattle.rm_history.{specs.{World.{blocks_of, file_of}, declared.world.{Datafile.{Datafile}, World.{World}}}, proofs.Worlds.{file-there}}
use Rattle.rm_catalog_typed.specs.LedgerFacts.{IsCreated}
use Rattle.rm_machine.specs.{Sound.{IsSound}, State.{ledger, tree, world}, declared.state.State.{State}}

-- the datafile at a place of the list has the next number
pub file-at : (w : World) (k : ℕ) (d : Datafile) → slice_get w.files k ≡ Some d → file_of w (1 + k) ≡ Some d
file-at w k d is =
    let ne : (1 + k == 0) ≡ false = ne_eqb (1 + k) 0 (λ e. omega (arith, e)) in
    let back : 1 + k - 1 ≡ k = omega arith in
    ap (λ b. cond b None (slice_get w.files (1 + k - 1))) ne ∙ ap (λ n. slice_get w.files n) back ∙ is

-- and its blocks
pub blocks-at : (w : World) (k : ℕ) (d : Datafile) → slice_get w.files k ≡ Some d → blocks_of w (1 + k) ≡ d.blocks
blocks-at w k d is = ap (λ (o : Option Datafile). option_map_or (λ d. d.blocks) o 0) (file-at w k d is)

-- a datafile of a number stands at the place before it
pub record IsAt (w : World) (f : ℕ) (d : Datafile) : Type 0 where
  pub place : ℕ
  pub is : slice_get w.files place ≡ Some d
  pub number : 1 + place ≡ f

pub file-place : (w : World) (f : ℕ) (d : Datafile) → file_of w f ≡ Some d → IsAt w f d
file-place w f d is = elim (cases_Bool (f == 0)) [
  | inl zeroth ↦ absurd (let clash : None ≡ Some d = sym (ap (λ b. cond b None (slice_get w.files (f - 1))) zeroth) ∙ is in cc)
  | inr above ↦
      let some : ¬ (f ≡ 0) = λ e. let clash : true ≡ false = sym (eq-eqb f 0 e) ∙ above in absurd (cc) in
      record { place = f - 1; is = sym (ap (λ b. cond b None (slice_get w.files (f - 1))) above) ∙ is; number = omega (arith, some) }
]

-- the number of a datafile is at most 64, and its blocks are 65,536 at most
pub record IsNumbered (s : State) (f : ℕ) (d : Datafile) : Type 0 where
  pub some : 0 < f
  pub is : slice_get (ledger s).files (f - 1) ≡ Some d
  pub most : f ≤ 64
  pub blocks : d.blocks ≤ 65536

pub numbered : (s : State) (f : ℕ) (d : Datafile) → IsSound s → file_of (world s) f ≡ Some d → IsNumbered s f d
numbered s f d sound is =
    let there = file-there (world s) f d is in
    let inside = slice_get_within (ledger s).files (f - 1) d there.1 in
    let made = all-get (IsCreated (tree s)) (ledger s).files (f - 1) d there.1 sound.catalog.ledger.datafiles.each in
    record { some = there.0; is = there.1; most = omega (arith, inside, sound.catalog.ledger.datafiles.few); blocks = made.blocks.1 }
