-- How a session ends: the machine rests as it is, or its site is saved.
use Rattle.std.proofs.Common.{◌≡◌, ◌⊎◌, ◌&&◌, inl, inr, Option, Some, None, is_none, Bool, refl}
use Rattle.std.proofs.lemmas.Bool.{MatchBool-at_false, MatchBool-at_true, cases_Bool}
use Rattle.rm_machine.specs.{Damage.{without_damaged}, Machine.{Machine}, Marks.{lacks_ids}, Rest.{Rest, at_rest}, Saving.{IsSavedAs, IsSavedBy}}
use Rattle.rm_machine.specs.declared.state.State.{State}
use Rattle.rm_machine_laws.specs.{Holds.{saved_in}, Saves.{IsEnded}}

-- the site of its state is saved
pub record IsSaved (m : Machine) (r : Rest) : Type 0 where
  pub state : State
  pub is : m.state ≡ Some state
  pub saved : IsSavedAs m (without_damaged state) r

saved-by : (o : Option State) (m : Machine) (r : Rest) → m.state ≡ o → IsSavedBy o m r → (r ≡ at_rest m) ⊎ IsSaved m r
saved-by None m r is rest = inl rest
saved-by (Some s) m r is by = elim (cases_Bool (lacks_ids s 0)) [
  | inl lacks ↦ inl (MatchBool-at_true (r ≡ at_rest m) (IsSavedAs m (without_damaged s) r) lacks by)
  | inr has ↦ inr (record { state = s; is = is; saved = MatchBool-at_false (r ≡ at_rest m) (IsSavedAs m (without_damaged s) r) has by })
]

pub ended-either : (m : Machine) (r : Rest) (applied : Bool) → IsEnded applied m r → (r ≡ at_rest m) ⊎ IsSaved m r
ended-either m r applied ended = elim (cases_Bool (applied && is_none (saved_in m.state))) [
  | inl saves ↦ saved-by m.state m r refl (MatchBool-at_true (IsSavedBy m.state m r) (r ≡ at_rest m) saves ended)
  | inr rests ↦ inl (MatchBool-at_false (IsSavedBy m.state m r) (r ≡ at_rest m) rests ended)
]
