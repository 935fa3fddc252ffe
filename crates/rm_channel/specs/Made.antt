-- What calls of several workers leave in the history.
use Rattle.std.specs.Prelude.{◌≡◌, ◌==◌, ◌≤◌, ℕ, Bool, false, Option, IfSome, List, [], ◌∷◌, ◌++◌, filter, length, map, nat_lt, if◌then◌else◌}
use Rattle.rm_live.specs.{History.{IsLegal, fold_of, times}, Passes.{Standing}, Ruled.{Below, total}, declared.history.Call.{Call}}
use Rattle.rm_live.specs.declared.history.{Call.TheVariants.{Mend, Read, Write}, Event.{Event}}
use Rattle.rm_channel.specs.Jobs.{Deed}

abbrev pub deed : Event → Deed
deed e = (e.call, e.answer)

abbrev pub call : Deed → Call
call d = d.0

-- what the events did that bear one of these numbers, in order
abbrev pub mine : List ℕ → List Event → List Deed
mine numbers [] = []
mine numbers (e ∷ es) = if nat_lt 0 (times e.by numbers) then deed e ∷ mine numbers es else mine numbers es

-- a write by thread t
abbrev pub is_by : ℕ → Call → Bool
is_by t (Read f b) = false
is_by t (Write u f b content) = t == u
is_by t (Mend f row) = false

abbrev pub did_by : ℕ → Deed → Bool
did_by t d = is_by t d.0

-- The second list has what the first has, each as often: whatever is counted, it comes to the same.
-- The writes of each thread stand in the order of the first.
pub record AreThese (xs ys : List Deed) : Type 0 where
  pub each_once : (h : Deed → ℕ) → total h ys ≡ total h xs
  pub in_order : (t : ℕ) → filter (did_by t) ys ≡ filter (did_by t) xs

-- No call was made more often than it stands in the list. Of each thread's the first were made, in order.
pub record AreBegun (calls : List Call) (ds : List Deed) : Type 0 where
  pub none_twice : (g : Call → ℕ) → total (λ d. g d.0) ds ≤ total g calls
  pub in_order : (t : ℕ) → (left : List Call) × (filter (is_by t) calls ≡ map call (filter (did_by t) ds) ++ left)

-- What stands past the old list. It is legal there. The events with the pass's numbers are some of
-- these calls, and at the end all of them, with these answers.
pub record Ran (p : Standing) (seen : List Event) (calls : List Call) (deeds : Option (List Deed)) : Type 0 where
  pub rest : List Event
  pub is : seen ≡ p.seen ++ rest
  pub legal : IsLegal (fold_of p.opening p.seen) rest
  pub below : Below p.passes rest
  pub begun : AreBegun calls (mine p.numbers rest)
  pub told : IfSome deeds (λ ds. AreThese ds (mine p.numbers rest))

-- what one worker did: past the old list the events with the pass's numbers are these
pub record Did (p : Standing) (seen : List Event) (deeds : List Deed) : Type 0 where
  pub rest : List Event
  pub is : seen ≡ p.seen ++ rest
  pub legal : IsLegal (fold_of p.opening p.seen) rest
  pub below : Below p.passes rest
  pub mine_is : mine p.numbers rest ≡ deeds

-- So many answers came behind those that there were, and past the old list the events with the pass's
-- numbers are those that were so answered.
pub record DidMore {A : Type 0} (p : Standing) (seen : List Event) (deeds : List A → List Deed) (n : ℕ) (old new : List A) : Type 0 where
  pub more : List A
  pub count : length more ≡ n
  pub is : new ≡ old ++ more
  pub did : Did p seen (deeds more)

-- it began with the first of the calls, and at the end made all of them, with these answers
abbrev pub Worked : Standing → List Event → List Call → Option (List Deed) → Type 0
Worked p seen calls deeds =
    (done : List Deed) × Did p seen done × ((left : List Call) × (calls ≡ map call done ++ left)) × IfSome deeds (λ ds. ds ≡ done)
