-- What the end of a resync tells of its status.
use Rattle.std.{specs.Prelude.{IfErr}, proofs.Common.{ℕ, zero, suc, arith, [], ◌∷◌, Result, Ok, Err, Contains, lit<, refl, inl, inr}}
use Rattle.rm_base.specs.Outside.{Rose}
use Rattle.rm_tool_ends.specs.{Ended.{status_of}, declared.ended.Ended.{Ended}}
use Rattle.rm_tool_ends.specs.declared.ended.Ended.TheVariants as ended
use Rattle.rm_tool_resync.specs.Resynced.{RoseInResync}

-- the status of words that are refused, or of the sink's fault
pub words-status : (k : ℕ) → Contains (2 ∷ 4 ∷ []) k → Contains (0 ∷ 2 ∷ 4 ∷ 6 ∷ 7 ∷ []) k
words-status k (zero, inside, is) = (1, lit< tt, is)
words-status k (suc zero, inside, is) = (2, lit< tt, is)
words-status k (suc (suc j), inside, is) = absurd (omega (arith, inside))

module _ {A : Type 0} (k k' n n' f f' : ℕ) where
  pub has-status : (r : Result A Ended) → IfErr r (RoseInResync k k' n n' f f') → Contains (0 ∷ 2 ∷ 4 ∷ 6 ∷ 7 ∷ []) (status_of r)
  has-status (Ok x) rose = (0, lit< tt, refl)
  has-status (Err ended.Sink) rose = (2, lit< tt, refl)
  has-status (Err ended.Keeper) rose = (3, lit< tt, refl)
  has-status (Err ended.NoMemory) rose = (4, lit< tt, refl)
  has-status (Err ended.Refused) none = absurd none
  has-status (Err ended.BadRecord) none = absurd none
  has-status (Err ended.Store) none = absurd none

  -- no count rose
  pub without-fault : (r : Result A Ended) → IfErr r (RoseInResync k k' n n' f f') → ¬ Rose k k' → ¬ Rose n n' → ¬ Rose f f' → Contains (0 ∷ 7 ∷ []) (status_of r)
  without-fault (Ok x) rose sink near far = (0, lit< tt, refl)
  without-fault (Err ended.Sink) rose sink near far = absurd (sink rose)
  without-fault (Err ended.Keeper) (inl rose) sink near far = absurd (near rose)
  without-fault (Err ended.Keeper) (inr rose) sink near far = absurd (far rose)
  without-fault (Err ended.NoMemory) rose sink near far = (1, lit< tt, refl)
  without-fault (Err ended.Refused) none sink near far = absurd none
  without-fault (Err ended.BadRecord) none sink near far = absurd none
  without-fault (Err ended.Store) none sink near far = absurd none
