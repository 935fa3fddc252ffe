-- OPEN RESETLOGS: what was found before it stays so while logs are archived.
use Rattle.std.{specs.Option.{option_map_or}, proofs.Common.{◌≡◌, ◌<◌, ◌∙◌, ℕ, Option, Some, None, false, refl, sym, subst, arith, length}}
use Rattle.std.proofs.lemmas.Bool.{leb-false}
use Rattle.rm_base.specs.declared.refusal.{Refusal.{Refusal, TheVariants.{Rm04, Rm10, Rm11}}, Limit.TheVariants.{Incarnations}}
use Rattle.rm_base.proofs.Conditions.{unless}
use Rattle.rm_machine.specs.{Archive.{after_all, archiving_refusal}, OpenResetlogs.{branch_refusal, resetlogs_refusal}, Sound.{IsSound}}
use Rattle.rm_machine.{specs.declared.state.State.{State}, proofs.Archives.{AfterAll, HasRoom, room-accepted, threads-sound}}
use Rattle.rm_machine.proofs.BranchesSound.{CanBranchAt}

-- Why it was not refused

pub record CanReset (s : State) : Type 0 where
  pub shut : s.instance.is_open ≡ false
  pub at : ℕ
  pub here : s.instance.point ≡ Some at
  pub few : length s.catalog.ledger.tree < 256
  pub archiving : archiving_refusal s 2 ≡ None
  pub room : HasRoom s 1 4 2

point-of : {X : Type 0} (r : Option Refusal) (x : Refusal) (o : Option X) → option_map_or (λ (y : X). r) o (Some x) ≡ None → (y : X) × (o ≡ Some y) × (r ≡ None)
point-of r x None is = absurd (let e : Some x ≡ None = is in cc)
point-of r x (Some y) is = (y, refl, is)

pub can-reset : (s : State) → IsSound s → resetlogs_refusal s ≡ None → CanReset s
can-reset s sound is =
    let mode = unless s.instance.is_open (Rm04 false) (option_map_or (λ (n : ℕ). branch_refusal s) s.instance.point (Some Rm10)) is in
    let point = point-of (branch_refusal s) Rm10 s.instance.point mode.1 in
    let few = unless _ (Rm11 Incarnations) (archiving_refusal s 2) point.2 in
    record { shut = mode.0; at = point.0; here = point.1; few = leb-false 256 (length s.catalog.ledger.tree) few.0; archiving = few.1; room = room-accepted s 2 sound.catalog.ledger.few few.1 }

pub after-archiving : (s : State) → IsSound s → CanReset s → AfterAll s (after_all s) 2
after-archiving s sound can = threads-sound 4 1 s 2 sound (omega arith) can.room

-- once the logs are archived, it can branch off
pub can-after : (s : State) (can : CanReset s) → AfterAll s (after_all s) 2 → CanBranchAt (after_all s) can.at
can-after s can is = record {
  shut = is.beside.mode ∙ can.shut;
  here = is.beside.point ∙ can.here;
  few = subst (λ tree. length tree < 256) (sym is.beside.tree) can.few;
  room = is.room;
}
